-- Why a problem that a text spells is well sorted: where no name is used wrongly, each has the sorts that its place knows.
use Rattle.std.specs.Prelude.{ℕ, zero, suc, ◌≡◌, ◌+◌, ◌⊎◌, ◌&&◌, Bool, true, false, not, cond, eqb, List, [], ◌∷◌, ◌++◌, length, Option, Some, None, get_or, set, refl}
use Rattle.std.proofs.Common.{sym, ◌∙◌, ap, arith, length-append, true≢false, subst, inl, inr}
use Rattle.std.proofs.lemmas.Bool.{eq-eqb, eqb-true}
use Rattle.std.proofs.lemmas.List.{get_or-set_other}
use Rattle.std.proofs.lemmas.Option.{none-some}
use Rattle.std.specs.Option.{option_or, unwrap_or}
use Rattle.soqe_syntax.specs.declared.piece.Span.{Span}
use Rattle.soqe_syntax.specs.declared.piece.Quantifier.{Quantifier}
use Rattle.soqe_syntax.specs.declared.piece.Quantifier.TheVariants as quantifier
use Rattle.soqe_syntax.specs.declared.piece.Operator.{Operator}
use Rattle.soqe_syntax.specs.declared.piece.Operator.TheVariants as operator
use Rattle.soqe_syntax.specs.Grammar as syntax
use Rattle.soqe_syntax.specs.Pieces.{text_at}
use Rattle.soqe_term.specs.Boxes.{boxes as term_boxes}
use Rattle.soqe_term.specs.declared.term.Var.{Var}
use Rattle.soqe_signature.specs.declared.skolems.SkolemSig.{SkolemSig}
use Rattle.soqe_term.specs.declared.term.Sym.{Sym}
use Rattle.soqe_term.specs.declared.term.Sym.TheVariants.{Fun, Skolem}
use Rattle.soqe_term.specs.declared.term.Term.{Term, App}
use Rattle.soqe_term.specs.declared.term.Terms.{Terms, Nil, Cons}
use Rattle.soqe_signature.specs.declared.kinds.Kind.{Kind}
use Rattle.soqe_signature.specs.declared.kinds.Kind.TheVariants as kind
use Rattle.soqe_number.specs.Updates.{changed}
use Rattle.soqe_signature.specs.declared.kinds.NameKind.TheVariants as numbering
use Rattle.soqe_signature.specs.Declarations.{Declaration, Found, count_of, free_sort_of, sorting_of}
use Rattle.soqe_term.specs.Sorting.{Sorting, over_var, over_bound, with_sorts, with_fun, sym_sort, is_sort, own_sort, sorted_term, sorted_terms}
use Rattle.soqe_form.specs.Boxes.{boxes as form_boxes}
use Rattle.soqe_form.specs.declared.form.PVar.{PVar}
use Rattle.soqe_form.specs.declared.form.Form.{Form, Equal, Atom, Not}
use Rattle.soqe_form.specs.Sorted.{sorted}
use Rattle.soqe_text.specs.declared.problem.Problem.{Problem}
use Rattle.soqe_form.specs.Constants.{constant}
use Rattle.soqe_signature.specs.Scope.{sort_among, sorts_among, sorting_for}
use Rattle.soqe_text.specs.Meanings.{Names, problem_names, form_names}
use Rattle.soqe_text.specs.Naming.{sort_numbers_by}
use Rattle.soqe_text.specs.Uses.{head, num_of_by, sort_found, no_arguments, arguments_found, predicate_found, sort_of_term_by, fits, behind_fitting, then_behind, behind_by, is_none_left, has_arguments_by, is_used_right_by, wrong_in_by, wrong_in_all_by, wrong_in_atom_by, differ, binder_sort_by, wrong_by, all_below, free_sorts, no_sorts}
use Rattle.soqe_text.specs.Numbering.{sort_or_obj, variable_of, applied_by, predicate, negated, over_elements, quantified_over, joined_by, numbered_term_by, numbered_terms_by, numbered_atom_by, numbered_by}
use Rattle.soqe_text.specs.Spelled.{Spells}
use Rattle.soqe_text.specs.SpelledForm.{SpelledFormIsSorted}
use Rattle.soqe_text.specs.Sorted.{IsSorted}
use Rattle.soqe_text.proofs.Entries.{fun_found, pred_found}
use Rattle.soqe_text.proofs.TaggedNames.{function_found, predicate_there}

some_is : {A : Type 0} (a b : A) → Some a ≡ Some b → a ≡ b
some_is a b h = ap (λ o. unwrap_or o a) h

cond_some : {A : Type 0} (b : Bool) (x y : A) → cond b (Some x) None ≡ Some y → (b ≡ true) × (x ≡ y)
cond_some true x y h = (refl, some_is x y h)
cond_some false x y h = absurd (none-some y h)

-- where neither of two is there
neither : {A : Type 0} (a b : Option A) → option_or a b ≡ None → (a ≡ None) × (b ≡ None)
neither None b h = (refl, h)
neither (Some a) b h = absurd (none-some a (sym h))

unrefused : (b : Bool) (at : ℕ) → cond b None (Some at) ≡ None → b ≡ true
unrefused true at h = refl
unrefused false at h = absurd (none-some at (sym h))

unless : (b : Bool) (at : ℕ) → cond b (Some at) None ≡ None → b ≡ false
unless true at h = absurd (none-some at (sym h))
unless false at h = refl

none_left : (o : Option (List ℕ)) → is_none_left o ≡ true → o ≡ Some []
none_left None h = absurd (true≢false (sym h))
none_left (Some []) h = refl
none_left (Some (s ∷ sorts)) h = absurd (true≢false (sym h))

then_behind_some : (o : Option (List ℕ)) (k : List ℕ → Option (List ℕ)) (rest : List ℕ) → then_behind o k ≡ Some rest
    → (sorts : List ℕ) × (o ≡ Some sorts) × (k sorts ≡ Some rest)
then_behind_some None k rest h = absurd (none-some rest h)
then_behind_some (Some sorts) k rest h = (sorts, refl, h)

module _ {X : Type 0} where
  -- what was written at a place is read there, if anything is
  read_back : (xs : List (Option X)) (n : ℕ) (x r : X) → get_or (set xs n (Some x)) n None ≡ Some r → x ≡ r
  read_back [] zero x r h = absurd (none-some r h)
  read_back [] (suc n) x r h = absurd (none-some r h)
  read_back (y ∷ xs) zero x r h = some_is x r h
  read_back (y ∷ xs) (suc n) x r h = read_back xs n x r h

  -- a function that knows what a list knows does so after both are changed at one place
  knows_changed : (xs : List (Option X)) (f : ℕ → Option X) (n : ℕ) (x : X) → ((m : ℕ) (r : X) → get_or xs m None ≡ Some r → f m ≡ Some r)
      → (m : ℕ) (r : X) → get_or (set xs n (Some x)) m None ≡ Some r → changed f n (Some x) m ≡ Some r
  knows_changed xs f n x knows m r h = by (eqb m n) refl
    where
      by : (b : Bool) → eqb m n ≡ b → cond b (Some x) (f m) ≡ Some r
      by true e = ap Some (read_back xs n x r (ap (λ k. get_or (set xs n (Some x)) k None) (sym (eqb-true m n e)) ∙ h))
      by false e = knows m r (sym (get_or-set_other xs n m (Some x) None (λ same. true≢false (sym (eq-eqb m n same) ∙ e))) ∙ h)

  nothing : (n : ℕ) (x : X) → get_or [] n None ≡ Some x → ⊥
  nothing zero x h = none-some x h
  nothing (suc n) x h = none-some x h

  last_or : (xs : List (Option X)) (y : Option X) (n : ℕ) (x : X) → get_or (xs ++ y ∷ []) n None ≡ Some x
      → (get_or xs n None ≡ Some x) ⊎ ((n ≡ length xs) × (y ≡ Some x))
  last_or [] y zero x h = inr (refl, h)
  last_or [] y (suc n) x h = absurd (nothing n x h)
  last_or (z ∷ xs) y zero x h = inl h
  last_or (z ∷ xs) y (suc n) x h = elim (last_or xs y n x h) [ inl there ↦ inl there | inr last ↦ inr (ap suc last.0, last.1) ]

  length_below : (n : ℕ) (f : ℕ → Option X) → length (all_below n f) ≡ n
  length_below zero f = refl
  length_below (suc n) f = length-append (all_below n f) (f n ∷ []) ∙ one_more ∙ ap suc (length_below n f)
    where
      one_more : length (all_below n f) + 1 ≡ suc (length (all_below n f))
      one_more = omega arith

  -- what is listed of the numbers below one
  listed : (count : ℕ) (f : ℕ → Option X) (n : ℕ) (x : X) → get_or (all_below count f) n None ≡ Some x → f n ≡ Some x
  listed zero f n x h = absurd (nothing n x h)
  listed (suc count) f n x h = elim (last_or (all_below count f) (f count) n x h) [
    | inl there ↦ listed count f n x there
    | inr last ↦ ap f (last.0 ∙ length_below count f) ∙ last.1
  ]

module _ {X : Type 0} where
  -- a function that knows what another knows does so after both are changed at one number
  knows_front : (g f : ℕ → Option X) (n : ℕ) (x : X) → ((m : ℕ) (r : X) → g m ≡ Some r → f m ≡ Some r)
      → (m : ℕ) (r : X) → changed g n (Some x) m ≡ Some r → changed f n (Some x) m ≡ Some r
  knows_front g f n x knows m r h = by (eqb m n) h
    where
      by : (b : Bool) → cond b (Some x) (g m) ≡ Some r → cond b (Some x) (f m) ≡ Some r
      by true h = h
      by false h = knows m r h

-- A sorting knows what names stand for, and what a place says of its variables and bound predicates.
record Agrees (V P : Type 0) (names : Names V P) (vs : V) (ps : P) (e : Sorting) : Type 0 where
  function : (name : List ℕ) (args : List ℕ) (result num : ℕ) → names.find name ≡ Some (record { kind = kind.Fun args result; num = num })
      → sym_sort e (names.symbol name num) ≡ Some (record { args = args; result = result })
  declared : (name : List ℕ) (args : List ℕ) (num : ℕ) → names.find name ≡ Some (record { kind = kind.Pred args; num = num }) → e.declared num ≡ Some args
  variable : (n s : ℕ) → names.sort_at vs n ≡ Some s → e.variable n ≡ Some s
  bound : (n : ℕ) (sorts : List ℕ) → names.sorts_at ps n ≡ Some sorts → e.bound n ≡ Some sorts

-- What is known at a place is known below a binder.
record Binds (V P : Type 0) (names : Names V P) : Type 0 where
  sort : (vs : V) (f : ℕ → Option ℕ) (n s : ℕ) → ((m r : ℕ) → names.sort_at vs m ≡ Some r → f m ≡ Some r)
      → (m r : ℕ) → names.sort_at (names.with_sort vs n s) m ≡ Some r → changed f n (Some s) m ≡ Some r
  sorts : (ps : P) (f : ℕ → Option (List ℕ)) (n : ℕ) (ss : List ℕ) → ((m : ℕ) (r : List ℕ) → names.sorts_at ps m ≡ Some r → f m ≡ Some r)
      → (m : ℕ) (r : List ℕ) → names.sorts_at (names.with_sorts ps n ss) m ≡ Some r → changed f n (Some ss) m ≡ Some r

-- outside all binders of a problem
agrees_outside : (ds : List Declaration) → Agrees (List (Option ℕ)) (List (Option (List ℕ))) (problem_names ds) (free_sorts ds) (no_sorts ds) (sorting_of ds)
agrees_outside ds = record {
  function = λ name args result num h. fun_found ds name args result num h;
  declared = λ name args num h. pred_found ds name args num h;
  variable = listed (count_of numbering.Variable ds) (free_sort_of ds);
  bound = listed (count_of numbering.BoundPred ds) (λ n. None);
}

-- below a binder of a problem
binds_problem : (ds : List Declaration) → Binds (List (Option ℕ)) (List (Option (List ℕ))) (problem_names ds)
binds_problem ds = record { sort = λ vs f n s. knows_changed vs f n s; sorts = λ ps f n ss. knows_changed ps f n ss }

-- A term is well sorted, and its own sort is the one that is known.
record IsFine (e : Sorting) (known : Option ℕ) (u : Term) : Type 0 where
  well_sorted : sorted_term e u ≡ true
  own : known ≡ Some (own_sort u)

module _ (V P : Type 0) (bytes : List ℕ) (names : Names V P) where
  module _ (vs : V) (ps : P) (e : Sorting) (agrees : Agrees V P names vs ps e) where
    variable_fine : (t : syntax.Term Span) (num : ℕ) (known : Option ℕ) → names.sort_at vs num ≡ known → is_used_right_by bytes names vs t (no_arguments known) ≡ true
        → IsFine e (names.sort_at vs num) (variable_of num (names.sort_at vs num))
    variable_fine t num None at h = absurd (true≢false (sym h))
    variable_fine t num (Some s) at h = record {
      well_sorted = (λ i. is_sort (sort_or_obj (at i)) (agrees.variable num s at i)) ∙ eq-eqb s s refl;
      own = at ∙ ap (λ r. Some (sort_or_obj r)) (sym at);
    }

    function_fine : (f : Sym) (us : Terms) (args : List ℕ) (result num : ℕ) → sym_sort e f ≡ Some (record { args = args; result = result })
        → sorted_terms e us args ≡ true → IsFine e (Some result) (App f result us)
    unfolding term_boxes
    function_fine f us args result num at h = record {
      well_sorted = ap (with_fun (λ sorts. sorted_terms e us sorts) result) at ∙ (λ i. eq-eqb result result refl i && h i);
      own = refl;
    }

    -- a term by what its head stands for
    head_fine : (t : syntax.Term Span) (us : Terms) → ((sorts : List ℕ) → has_arguments_by bytes names vs t sorts ≡ true → sorted_terms e us sorts ≡ true)
        → is_used_right_by bytes names vs t (arguments_found (names.sort_at vs) (names.find (text_at bytes (head t)))) ≡ true
        → IsFine e (sort_of_term_by bytes names vs t) (applied_by (names.symbol (text_at bytes (head t))) (names.sort_at vs) (names.find (text_at bytes (head t))) us)
    head_fine t us arguments h = by (names.find (text_at bytes (head t))) refl h
      where
        by_kind : (k : Kind) (num : ℕ) → names.find (text_at bytes (head t)) ≡ Some (record { kind = k; num = num })
            → is_used_right_by bytes names vs t (arguments_found (names.sort_at vs) (Some (record { kind = k; num = num }))) ≡ true
            → IsFine e (sort_found (names.sort_at vs) (Some (record { kind = k; num = num }))) (applied_by (names.symbol (text_at bytes (head t))) (names.sort_at vs) (Some (record { kind = k; num = num })) us)
        by_kind (kind.Fun args result) num at h =
            function_fine (names.symbol (text_at bytes (head t)) num) us args result num (agrees.function (text_at bytes (head t)) args result num at) (arguments args h)
        by_kind kind.VarName num at h = variable_fine t num (names.sort_at vs num) refl h
        by_kind (kind.Free sort) num at h = variable_fine t num (names.sort_at vs num) refl h
        by_kind kind.Sort num at h = absurd (true≢false (sym h))
        by_kind (kind.Pred args) num at h = absurd (true≢false (sym h))
        by_kind kind.Rel num at h = absurd (true≢false (sym h))
        by_kind kind.Prop num at h = absurd (true≢false (sym h))
        by_kind kind.PredName num at h = absurd (true≢false (sym h))

        by : (found : Option Found) → names.find (text_at bytes (head t)) ≡ found → is_used_right_by bytes names vs t (arguments_found (names.sort_at vs) found) ≡ true
            → IsFine e (sort_found (names.sort_at vs) found) (applied_by (names.symbol (text_at bytes (head t))) (names.sort_at vs) found us)
        by None at h = absurd (true≢false (sym h))
        by (Some f) at h = by_kind f.kind f.num at h

    -- no arguments
    nil_sorted : (sorts : List ℕ) → is_none_left (Some sorts) ≡ true → sorted_terms e Nil sorts ≡ true
    nil_sorted [] h = refl
    nil_sorted (s ∷ sorts) h = absurd (true≢false (sym h))

    -- a term that fits its sort, in front of others
    cons_sorted : (known : Option ℕ) (u : Term) (after : Terms) (sorts rest : List ℕ) → IsFine e known u → behind_fitting known sorts ≡ Some rest
        → sorted_terms e after rest ≡ true → sorted_terms e (Cons u after) sorts ≡ true
    unfolding term_boxes
    cons_sorted known u after [] rest fine fits h = absurd (none-some rest fits)
    cons_sorted known u after (s ∷ sorts) rest fine fitting h =
        let c = cond_some (fits known s) sorts rest fitting in
        let own : eqb (own_sort u) s ≡ true = ap (λ k. fits k s) (sym fine.own) ∙ c.0 in
        let behind_it : sorted_terms e after sorts ≡ true = ap (sorted_terms e after) c.1 ∙ h in
        (λ i. fine.well_sorted i && (own i && behind_it i))

    mutual
      term_fine : (t : syntax.Term Span) → wrong_in_by bytes names vs t ≡ None → IsFine e (sort_of_term_by bytes names vs t) (numbered_term_by bytes names vs t)
      term_fine (syntax.Plain x) h = head_fine (syntax.Plain x) Nil nil_sorted (unrefused _ _ h)
      term_fine (syntax.Applied x ts) h =
          let r = neither _ _ h in
          head_fine (syntax.Applied x ts) (numbered_terms_by bytes names vs ts Nil)
          (λ sorts all. terms_sorted ts Nil sorts [] r.1 (none_left _ all) refl) (unrefused _ _ r.0)

      terms_sorted : (ts : syntax.Terms Span) (after : Terms) (sorts rest : List ℕ) → wrong_in_all_by bytes names vs ts ≡ None → behind_by bytes names vs ts sorts ≡ Some rest
          → sorted_terms e after rest ≡ true → sorted_terms e (numbered_terms_by bytes names vs ts after) sorts ≡ true
      terms_sorted (syntax.One t) after sorts rest h fitting done = cons_sorted _ _ after sorts rest (term_fine t h) fitting done
      terms_sorted (syntax.More ts t) after sorts rest h fitting done =
          let r = neither _ _ h in
          let m = then_behind_some (behind_by bytes names vs ts sorts) (λ sorts. behind_fitting (sort_of_term_by bytes names vs t) sorts) rest fitting in
          terms_sorted ts (Cons (numbered_term_by bytes names vs t) after) sorts m.0 r.0 m.1
          (cons_sorted _ _ after m.0 rest (term_fine t r.1) m.2 done)

    -- an atom by what its head stands for
    atom_by : (t : syntax.Term Span) (us : Terms) → ((sorts : List ℕ) → has_arguments_by bytes names vs t sorts ≡ true → sorted_terms e us sorts ≡ true)
        → is_used_right_by bytes names vs t (predicate_found (names.sorts_at ps) (names.find (text_at bytes (head t)))) ≡ true
        → sorted e (Atom (predicate (names.find (text_at bytes (head t)))) us) ≡ true
    atom_by t us arguments h = by (names.find (text_at bytes (head t))) refl h
      where
        bound_by : (num : ℕ) (sorts : Option (List ℕ)) → names.sorts_at ps num ≡ sorts → is_used_right_by bytes names vs t sorts ≡ true
            → with_sorts (λ sorts. sorted_terms e us sorts) (e.bound num) ≡ true
        bound_by num None at h = absurd (true≢false (sym h))
        bound_by num (Some sorts) at h = ap (with_sorts (λ sorts. sorted_terms e us sorts)) (agrees.bound num sorts at) ∙ arguments sorts h

        by_kind : (k : Kind) (num : ℕ) → names.find (text_at bytes (head t)) ≡ Some (record { kind = k; num = num })
            → is_used_right_by bytes names vs t (predicate_found (names.sorts_at ps) (Some (record { kind = k; num = num }))) ≡ true
            → sorted e (Atom (predicate (Some (record { kind = k; num = num }))) us) ≡ true
        by_kind (kind.Pred args) num at h =
            ap (with_sorts (λ sorts. sorted_terms e us sorts)) (agrees.declared (text_at bytes (head t)) args num at) ∙ arguments args h
        by_kind kind.PredName num at h = bound_by num (names.sorts_at ps num) refl h
        by_kind kind.Sort num at h = absurd (true≢false (sym h))
        by_kind (kind.Fun args result) num at h = absurd (true≢false (sym h))
        by_kind (kind.Free sort) num at h = absurd (true≢false (sym h))
        by_kind kind.Rel num at h = absurd (true≢false (sym h))
        by_kind kind.Prop num at h = absurd (true≢false (sym h))
        by_kind kind.VarName num at h = absurd (true≢false (sym h))

        by : (found : Option Found) → names.find (text_at bytes (head t)) ≡ found → is_used_right_by bytes names vs t (predicate_found (names.sorts_at ps) found) ≡ true
            → sorted e (Atom (predicate found) us) ≡ true
        by None at h = absurd (true≢false (sym h))
        by (Some f) at h = by_kind f.kind f.num at h

    atom_sorted : (t : syntax.Term Span) → wrong_in_atom_by bytes names vs ps t ≡ None → sorted e (numbered_atom_by bytes names vs t) ≡ true
    atom_sorted (syntax.Plain x) h = atom_by (syntax.Plain x) Nil nil_sorted (unrefused _ _ (neither _ _ h).0)
    atom_sorted (syntax.Applied x ts) h =
        let r = neither _ _ h in
        atom_by (syntax.Applied x ts) (numbered_terms_by bytes names vs ts Nil) (λ sorts all. terms_sorted ts Nil sorts [] r.1 (none_left _ all) refl) (unrefused _ _ r.0)

    not_sorted : (f : Form) → sorted e f ≡ true → sorted e (Not f) ≡ true
    unfolding form_boxes
    not_sorted f h = h

    negated_sorted : (b : Bool) (f : Form) → sorted e f ≡ true → sorted e (negated b f) ≡ true
    negated_sorted false f h = h
    negated_sorted true f h = not_sorted f h

    -- known sorts that do not differ are one
    alike : (left right : Option ℕ) (s t : ℕ) → left ≡ Some s → right ≡ Some t → differ left right ≡ false → eqb s t ≡ true
    alike left right s t a b h = by (eqb s t) ((λ i. differ (sym a i) (sym b i)) ∙ h)
      where
        by : (c : Bool) → not c ≡ false → c ≡ true
        by true h = refl
        by false h = absurd (true≢false h)

    equation_sorted : (b : Bool) (at : Span) (l r : syntax.Term Span) → wrong_by bytes names vs ps (syntax.Equation b at l r) ≡ None
        → sorted e (numbered_by bytes names vs (syntax.Equation b at l r)) ≡ true
    equation_sorted b at l r h =
        let left = neither _ _ h in
        let right = neither _ _ left.1 in
        let s = term_fine l left.0 in
        let t = term_fine r right.1 in
        let one = alike _ _ _ _ s.own t.own (unless _ _ right.0) in
        negated_sorted b (Equal (numbered_term_by bytes names vs l) (numbered_term_by bytes names vs r)) (λ i. s.well_sorted i && (t.well_sorted i && one i))

    constant_sorted : (b : Bool) → sorted e (constant b) ≡ true
    constant_sorted true = refl
    constant_sorted false = refl

    joined_sorted : (op : Operator) (f g : Form) → sorted e f ≡ true → sorted e g ≡ true → sorted e (joined_by op f g) ≡ true
    unfolding form_boxes
    joined_sorted operator.And f g a b = (λ i. a i && b i)
    joined_sorted operator.Or f g a b = (λ i. a i && b i)
    joined_sorted operator.Imp f g a b = (λ i. a i && b i)
    joined_sorted operator.Iff f g a b = (λ i. a i && b i)

    elements_sorted : (q : Quantifier) (x : Var) (f : Form) → sorted (over_var e x.num x.sort) f ≡ true → sorted e (over_elements q x f) ≡ true
    unfolding form_boxes
    elements_sorted quantifier.All x f h = h
    elements_sorted quantifier.Ex x f h = h

    tables_sorted : (q : Quantifier) (p : PVar) (f : Form) → sorted (over_bound e p.num p.args) f ≡ true → sorted e (quantified_over q p f) ≡ true
    unfolding form_boxes
    tables_sorted quantifier.All p f h = h
    tables_sorted quantifier.Ex p f h = h

    -- under a binder of a variable
    agrees_over_var : Binds V P names → (n s : ℕ) → Agrees V P names (names.with_sort vs n s) ps (over_var e n s)
    agrees_over_var binds n s = record {
      function = λ name args result num h. same_sym (names.symbol name num) ∙ agrees.function name args result num h;
      declared = agrees.declared;
      variable = binds.sort vs e.variable n s agrees.variable;
      bound = agrees.bound;
    }
      where
        same_sym : (f : Sym) → sym_sort (over_var e n s) f ≡ sym_sort e f
        same_sym (Fun k) = refl
        same_sym (Skolem k) = refl

    -- under a binder of a predicate
    agrees_over_bound : Binds V P names → (n : ℕ) (sorts : List ℕ) → Agrees V P names vs (names.with_sorts ps n sorts) (over_bound e n sorts)
    agrees_over_bound binds n sorts = record {
      function = λ name args result num h. same_sym (names.symbol name num) ∙ agrees.function name args result num h;
      declared = agrees.declared;
      variable = agrees.variable;
      bound = binds.sorts ps e.bound n sorts agrees.bound;
    }
      where
        same_sym : (f : Sym) → sym_sort (over_bound e n sorts) f ≡ sym_sort e f
        same_sym (Fun k) = refl
        same_sym (Skolem k) = refl

  -- a formula without a wrong use is well sorted at its place
  form_sorted : (binds : Binds V P names) (t : syntax.Tree Span) (vs : V) (ps : P) (e : Sorting) → Agrees V P names vs ps e → wrong_by bytes names vs ps t ≡ None
      → sorted e (numbered_by bytes names vs t) ≡ true
  form_sorted binds (syntax.Constant b) vs ps e agrees h = constant_sorted vs ps e agrees b
  form_sorted binds (syntax.Atom t) vs ps e agrees h = atom_sorted vs ps e agrees t h
  form_sorted binds (syntax.Equation b at l r) vs ps e agrees h = equation_sorted vs ps e agrees b at l r h
  form_sorted binds (syntax.Not a) vs ps e agrees h = not_sorted vs ps e agrees _ (form_sorted binds a vs ps e agrees h)
  form_sorted binds (syntax.Bind q x s a) vs ps e agrees h =
      let n = num_of_by names (text_at bytes x) in
      let sort = binder_sort_by bytes names s in
      elements_sorted vs ps e agrees q (record { num = n; sort = sort }) _
      (form_sorted binds a (names.with_sort vs n sort) ps (over_var e n sort) (agrees_over_var vs ps e agrees binds n sort) (neither _ _ h).1)
  form_sorted binds (syntax.Bind2 q p ss a) vs ps e agrees h =
      let n = num_of_by names (text_at bytes p) in
      let sorts = sort_numbers_by bytes names.find ss in
      tables_sorted vs ps e agrees q (record { num = n; args = sorts }) _
      (form_sorted binds a vs (names.with_sorts ps n sorts) (over_bound e n sorts) (agrees_over_bound vs ps e agrees binds n sorts) (neither _ _ h).1)
  form_sorted binds (syntax.Binary op l r) vs ps e agrees h =
      let both = neither _ _ h in
      joined_sorted vs ps e agrees op _ _ (form_sorted binds l vs ps e agrees both.0) (form_sorted binds r vs ps e agrees both.1)
  form_sorted binds (syntax.Paren a) vs ps e agrees h = form_sorted binds a vs ps e agrees h

-- a problem that a text spells is well sorted
pub spelled_sorted : (bytes : List ℕ) (p : Problem) → Spells bytes p → IsSorted p
spelled_sorted bytes p spells =
    let ds = spells.declared in
    subst IsSorted (sym spells.numbered)
    (form_sorted (List (Option ℕ)) (List (Option (List ℕ))) bytes (problem_names ds) (binds_problem ds) spells.tree.goal (free_sorts ds) (no_sorts ds) (sorting_of ds) (agrees_outside ds) (neither _ _ spells.well_sorted).1)

-- ---- formulas by themselves

-- what is known outside a formula
agrees_form : (ds : List Declaration) (ks : List SkolemSig) (xs : List Var) (ps : List PVar) → Agrees (List Var) (List PVar) (form_names ds ks) xs ps (sorting_for ds ks xs ps)
agrees_form ds ks xs ps = record {
  function = λ name args result num h. function_found ds ks xs ps name args result num h;
  declared = λ name args num h. predicate_there ds ks name args num h;
  variable = λ n s h. h;
  bound = λ n ss h. h;
}

-- below a binder of a formula
binds_form : (ds : List Declaration) (ks : List SkolemSig) → Binds (List Var) (List PVar) (form_names ds ks)
binds_form ds ks = record { sort = λ vs f n s. knows_front (sort_among vs) f n s; sorts = λ ps f n ss. knows_front (sorts_among ps) f n ss }

-- a formula that a text spells by itself is well sorted
pub spelled_form_sorted : SpelledFormIsSorted
spelled_form_sorted ds ks xs ps bytes f spells =
    subst (λ f. sorted (sorting_for ds ks xs ps) f ≡ true) (sym spells.numbered)
    (form_sorted (List Var) (List PVar) bytes (form_names ds ks) (binds_form ds ks) spells.tree xs ps (sorting_for ds ks xs ps) (agrees_form ds ks xs ps) spells.well_sorted)
