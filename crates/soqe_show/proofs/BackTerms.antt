-- A well-sorted term is read back from its printed tree: its names are words that are known and used rightly, and its
-- numbers are those of the term.
use Rattle.std.proofs.Common.{◌≡◌, ℕ, Bool, true, false, ◌&&◌, eqb, List, [], ◌∷◌, Option, Some, None, refl, ◌∙◌, ap, sym, subst, true≢false, eqb-true, ◌⊎◌, inl, inr}
use Rattle.std.specs.List.{list_any}
use Rattle.std.proofs.lemmas.Bool.{and_from, cond-true}
use Rattle.soqe_syntax.specs.Grammar as tree
use Rattle.soqe_term.specs.Boxes.{boxes as term_boxes}
use Rattle.soqe_signature.specs.declared.kinds.Kind.{Kind}
use Rattle.soqe_signature.specs.declared.kinds.Kind.TheVariants as kind
use Rattle.soqe_signature.specs.declared.skolems.SkolemSig.{SkolemSig}
use Rattle.soqe_term.specs.declared.term.Sym.{Sym}
use Rattle.soqe_term.specs.declared.term.Sym.TheVariants.{Fun, Skolem}
use Rattle.soqe_term.specs.declared.term.Var.{Var}
use Rattle.soqe_term.specs.declared.term.Term.{Term, Var as var, App}
use Rattle.soqe_term.specs.declared.term.Terms.{Terms, Nil, Cons, Cons', end_of-Term as end-t, more_of-Term as one-t, end_of-Terms as ends-t, more_of-Terms as ones-t}
use Rattle.soqe_term.specs.Sorting.{FunSort, sym_sort, is_sort, with_sorts, with_fun, own_sort, sorted_term, sorted_terms}
use Rattle.soqe_signature.specs.Declarations.{Declaration, Found}
use Rattle.soqe_number.proofs.Choices.{and_first, and_second}
use Rattle.soqe_form.specs.declared.form.Pred.{Pred}
use Rattle.soqe_form.specs.declared.form.Pred.TheVariants.{Decl, Bound}
use Rattle.soqe_form.specs.declared.form.PVar.{PVar}
use Rattle.soqe_form.specs.declared.form.Form.{Form, Atom}
use Rattle.soqe_signature.specs.Scope.{sort_among, sorts_among, sorting_for}
use Rattle.soqe_form.specs.Sorted.{pred_sorts}
use Rattle.soqe_text.specs.Meanings.{found_in, symbol_in, form_names}
use Rattle.soqe_text.specs.Naming.{is_usable}
use Rattle.soqe_text.specs.Uses.{sort_found, no_arguments, arguments_found, predicate_found, behind_fitting, then_behind, is_none_left}
use Rattle.soqe_text.specs.Numbering.{variable_of, applied_by, predicate}
use Rattle.soqe_show.specs.Printed.{Text}
use Rattle.soqe_show.specs.Dress.{var_name, sym_name, pred_name, applied, dress_term, dress_terms_onto}
use Rattle.soqe_show.specs.Placed.{AreWords_term, AreWords_terms}
use Rattle.soqe_show.specs.FormBack.{AreReadable}
use Rattle.soqe_show.proofs.BackKnown.{known_in_by, known_in_all_by}
use Rattle.soqe_show.proofs.BackUses.{sort_of_by, behind_terms_by, is_right_by, right_in_by, right_in_all_by, right_atom_by}
use Rattle.soqe_show.proofs.BackNumbers.{term_of_by, terms_of_by, atom_of_by}
use Rattle.soqe_show.proofs.BackAmong.{numbers, pred_numbers, variable_member, variable_small, predicate_member, predicate_small, skolem_small}
use Rattle.soqe_show.proofs.BackFound.{Means, is_variable, variable_means, function_means, skolem_means, predicate_means, bound_means}

-- A tree of texts is read as this term.
pub record ReadsTerm (ds : List Declaration) (ks : List SkolemSig) (xs : List Var) (ps : List PVar) (t : tree.Term Text) (u : Term) : Type 0 where
  pub known : known_in_by (found_in ds ks) (numbers xs) (pred_numbers ps) t ≡ true
  pub right : right_in_by (form_names ds ks) xs t ≡ true
  pub words : AreWords_term t
  pub is : term_of_by (form_names ds ks) xs t ≡ u
  pub own : sort_of_by (form_names ds ks) xs t ≡ Some (own_sort u)

-- Trees of texts are read as terms that fit the first of these sorts, and leave the others.
pub record ReadsTerms (ds : List Declaration) (ks : List SkolemSig) (xs : List Var) (ps : List PVar) (ts : tree.Terms Text) (sorts left : List ℕ) : Type 0 where
  pub known : known_in_all_by (found_in ds ks) (numbers xs) (pred_numbers ps) ts ≡ true
  pub right : right_in_all_by (form_names ds ks) xs ts ≡ true
  pub words : AreWords_terms ts
  pub fits : behind_terms_by (form_names ds ks) xs ts sorts ≡ Some left

-- The tree of an atom is read as this formula.
pub record ReadsAtom (ds : List Declaration) (ks : List SkolemSig) (xs : List Var) (ps : List PVar) (t : tree.Term Text) (f : Form) : Type 0 where
  pub known : known_in_by (found_in ds ks) (numbers xs) (pred_numbers ps) t ≡ true
  pub right : right_atom_by (form_names ds ks) xs ps t ≡ true
  pub words : AreWords_term t
  pub is : atom_of_by (form_names ds ks) xs t ≡ f

is_sort_known : (s : ℕ) (o : Option ℕ) → is_sort s o ≡ true → o ≡ Some s
is_sort_known s None h = absurd (true≢false (sym h))
is_sort_known s (Some r) h = ap Some (sym (eqb-true s r h))

with_known : {A : Type 0} (p : A → Bool) (test : Option A → Bool) (o : Option A) → (test None ≡ false) → ((a : A) → test (Some a) ≡ p a) → test o ≡ true → (a : A) × (o ≡ Some a) × (p a ≡ true)
with_known p test None none some h = absurd (true≢false (sym h ∙ none))
with_known p test (Some a) none some h = (a, refl, sym (some a) ∙ h)

variable_usable : (vs qs : List ℕ) (n : ℕ) (c : Kind) → is_variable c ≡ true → list_any (λ m. eqb m n) vs ≡ true → is_usable vs qs (Some (record { kind = c; num = n })) ≡ true
variable_usable vs qs n kind.VarName h k = k
variable_usable vs qs n (kind.Free s) h k = refl
variable_usable vs qs n kind.Sort h k = absurd (true≢false (sym h))
variable_usable vs qs n (kind.Fun args result) h k = absurd (true≢false (sym h))
variable_usable vs qs n (kind.Pred args) h k = absurd (true≢false (sym h))
variable_usable vs qs n kind.Rel h k = absurd (true≢false (sym h))
variable_usable vs qs n kind.Prop h k = absurd (true≢false (sym h))
variable_usable vs qs n kind.PredName h k = absurd (true≢false (sym h))

-- What the place knows of a variable that is found, however it was declared.
record KnowsVariable (symbol : ℕ → Sym) (sort_at : ℕ → Option ℕ) (n : ℕ) (found : Option Found) : Type 0 where
  arguments : arguments_found sort_at found ≡ no_arguments (sort_at n)
  sort : sort_found sort_at found ≡ sort_at n
  is : applied_by symbol sort_at found Nil ≡ variable_of n (sort_at n)

variable_known : (symbol : ℕ → Sym) (sort_at : ℕ → Option ℕ) (n : ℕ) (c : Kind) → is_variable c ≡ true → KnowsVariable symbol sort_at n (Some (record { kind = c; num = n }))
variable_known symbol sort_at n kind.VarName h = record { arguments = refl; sort = refl; is = refl }
variable_known symbol sort_at n (kind.Free s) h = record { arguments = refl; sort = refl; is = refl }
variable_known symbol sort_at n kind.Sort h = absurd (true≢false (sym h))
variable_known symbol sort_at n (kind.Fun args result) h = absurd (true≢false (sym h))
variable_known symbol sort_at n (kind.Pred args) h = absurd (true≢false (sym h))
variable_known symbol sort_at n kind.Rel h = absurd (true≢false (sym h))
variable_known symbol sort_at n kind.Prop h = absurd (true≢false (sym h))
variable_known symbol sort_at n kind.PredName h = absurd (true≢false (sym h))

module _ (ds : List Declaration) (ks : List SkolemSig) (xs : List Var) (ps : List PVar) (r : AreReadable ds ks xs ps) where
  -- no arguments, where there are no sorts, or the arguments as they are printed
  abbrev Arguments : Terms → List ℕ → Type 0
  Arguments us sorts =
      ((dress_terms_onto ds None us ≡ None) × (sorts ≡ []) × (us ≡ Nil))
      ⊎ ((ts : tree.Terms Text) × (dress_terms_onto ds None us ≡ Some ts) × ReadsTerms ds ks xs ps ts sorts [] × (terms_of_by (form_names ds ks) xs ts Nil ≡ us))

  variable_reads : (x : Var) → is_sort x.sort (sort_among xs x.num) ≡ true → ReadsTerm ds ks xs ps (tree.Plain (var_name ds x.num)) (var x)
  variable_reads x h =
      let at = is_sort_known x.sort (sort_among xs x.num) h in
      let name = var_name ds x.num in
      let v = variable_means ds ks r.distinct r.ordinary x.num (variable_small xs x.num x.sort at r.free) in
      let m = v.2 in
      let k = variable_known (symbol_in ds name) (sort_among xs) x.num v.0 v.1 in
      record {
        known = ap (is_usable (numbers xs) (pred_numbers ps)) m.found ∙ variable_usable (numbers xs) (pred_numbers ps) x.num v.0 v.1 (variable_member xs x.num x.sort at);
        right = ap (λ o. is_right_by (form_names ds ks) xs (tree.Plain name) (arguments_found (sort_among xs) o)) m.found
            ∙ ap (is_right_by (form_names ds ks) xs (tree.Plain name)) (k.arguments ∙ ap no_arguments at);
        words = m.word;
        is = ap (λ o. applied_by (symbol_in ds name) (sort_among xs) o Nil) m.found ∙ k.is ∙ ap (variable_of x.num) at;
        own = ap (sort_found (sort_among xs)) m.found ∙ k.sort ∙ at;
      }

  -- the printed name of a symbol
  symbol_means : (f : Sym) (k : FunSort) → sym_sort (sorting_for ds ks xs ps) f ≡ Some k
      → (n : ℕ) × Means ds ks (sym_name ds f) (kind.Fun k.args k.result) n × (symbol_in ds (sym_name ds f) n ≡ f)
  symbol_means (Fun n) k h = let m = function_means ds ks r.distinct r.ordinary n k h in (n, m.0, m.1)
  symbol_means (Skolem n) k h = let m = skolem_means ds ks r.distinct r.ordinary n k h (skolem_small ks n k h r.skolems) in (n, m.0, m.1)

  function_reads : (f : Sym) (k : FunSort) (us : Terms) → sym_sort (sorting_for ds ks xs ps) f ≡ Some k → Arguments us k.args
      → ReadsTerm ds ks xs ps (applied (sym_name ds f) (dress_terms_onto ds None us)) (App f k.result us)
  unfolding term_boxes
  function_reads f k us h arguments =
      let name = sym_name ds f in
      let s = symbol_means f k h in
      let m = s.1 in
      let usable : is_usable (numbers xs) (pred_numbers ps) (found_in ds ks name) ≡ true = ap (is_usable (numbers xs) (pred_numbers ps)) m.found in
      let head : (t : tree.Term Text) → is_right_by (form_names ds ks) xs t (arguments_found (sort_among xs) (found_in ds ks name)) ≡ is_right_by (form_names ds ks) xs t (Some k.args) =
      λ t. ap (λ o. is_right_by (form_names ds ks) xs t (arguments_found (sort_among xs) o)) m.found in
      let term : (us : Terms) → applied_by (symbol_in ds name) (sort_among xs) (found_in ds ks name) us ≡ App f k.result us =
      λ us. ap (λ o. applied_by (symbol_in ds name) (sort_among xs) o us) m.found ∙ ap (λ f. App f k.result us) s.2 in
      let own : sort_found (sort_among xs) (found_in ds ks name) ≡ Some k.result = ap (sort_found (sort_among xs)) m.found in
      elim arguments [
        | inl none ↦ subst (λ o. ReadsTerm ds ks xs ps (applied name o) (App f k.result us)) (sym none.0) (record {
          known = usable;
          right = head (tree.Plain name) ∙ ap (λ l. is_none_left (Some l)) none.1;
          words = m.word;
          is = term Nil ∙ ap (App f k.result) (sym none.2);
          own = own;
        })
        | inr some ↦ subst (λ o. ReadsTerm ds ks xs ps (applied name o) (App f k.result us)) (sym some.1) (record {
          known = and_from _ _ usable some.2.known;
          right = and_from _ _ (head (tree.Applied name some.0) ∙ ap is_none_left some.2.fits) some.2.right;
          words = (m.word, some.2.words);
          is = term (terms_of_by (form_names ds ks) xs some.0 Nil) ∙ ap (App f k.result) some.3;
          own = own;
        })
      ]

  mutual
    unfolding term_boxes

    pub term_reads : (u : Term) → sorted_term (sorting_for ds ks xs ps) u ≡ true → ReadsTerm ds ks xs ps (dress_term ds u) u
    term_reads (var x) h = variable_reads x h
    term_reads (App f s us) h =
        let k = with_known (λ k. eqb s k.result && sorted_terms (sorting_for ds ks xs ps) us k.args) (with_fun (λ sorts. sorted_terms (sorting_for ds ks xs ps) us sorts) s)
        (sym_sort (sorting_for ds ks xs ps) f) refl (λ k. refl) h in
        let same : k.0.result ≡ s = sym (eqb-true s k.0.result (and_first (eqb s k.0.result) _ k.2)) in
        subst (λ s. ReadsTerm ds ks xs ps (applied (sym_name ds f) (dress_terms_onto ds None us)) (App f s us)) same
        (function_reads f k.0 us k.1 (arguments_read us k.0.args (and_second (eqb s k.0.result) _ k.2)))

    pub arguments_read : (us : Terms) (sorts : List ℕ) → sorted_terms (sorting_for ds ks xs ps) us sorts ≡ true → Arguments us sorts
    arguments_read Nil [] h = inl (refl, refl, refl)
    arguments_read Nil (s ∷ sorts) h = absurd (true≢false (sym h))
    arguments_read (Cons' _ (one-t t end-t) _ (ones-t ts ends-t)) [] h = absurd (true≢false (sym h))
    arguments_read (Cons' _ (one-t t end-t) _ (ones-t ts ends-t)) (s ∷ sorts) h =
        let rest = and_second (sorted_term (sorting_for ds ks xs ps) t) _ h in
        let first = term_reads t (and_first (sorted_term (sorting_for ds ks xs ps) t) _ h) in
        let all = further (tree.One (dress_term ds t)) (s ∷ sorts) sorts ts
        (record {
          known = first.known;
          right = first.right;
          words = first.words;
          fits = ap (λ o. behind_fitting o (s ∷ sorts)) first.own ∙ cond-true _ _ _ (and_first (eqb (own_sort t) s) _ rest);
        })
        (and_second (eqb (own_sort t) s) _ rest) in
        inr (all.0, all.1, all.2, all.3 ∙ ap (λ u. Cons u ts) first.is)

    further : (before : tree.Terms Text) (sorts left : List ℕ) (us : Terms) → ReadsTerms ds ks xs ps before sorts left → sorted_terms (sorting_for ds ks xs ps) us left ≡ true
        → (all : tree.Terms Text) × (dress_terms_onto ds (Some before) us ≡ Some all) × ReadsTerms ds ks xs ps all sorts []
        × (terms_of_by (form_names ds ks) xs all Nil ≡ terms_of_by (form_names ds ks) xs before us)
    further before sorts [] Nil h k = (before, refl, h, refl)
    further before sorts (s ∷ left) Nil h k = absurd (true≢false (sym k))
    further before sorts [] (Cons' _ (one-t t end-t) _ (ones-t ts ends-t)) h k = absurd (true≢false (sym k))
    further before sorts (s ∷ left) (Cons' _ (one-t t end-t) _ (ones-t ts ends-t)) h k =
        let rest = and_second (sorted_term (sorting_for ds ks xs ps) t) _ k in
        let next = term_reads t (and_first (sorted_term (sorting_for ds ks xs ps) t) _ k) in
        let all = further (tree.More before (dress_term ds t)) sorts left ts
        (record {
          known = and_from _ _ h.known next.known;
          right = and_from _ _ h.right next.right;
          words = (h.words, next.words);
          fits = ap (λ o. then_behind o (λ sorts. behind_fitting (sort_of_by (form_names ds ks) xs (dress_term ds t)) sorts)) h.fits
              ∙ ap (λ o. behind_fitting o (s ∷ left)) next.own ∙ cond-true _ _ _ (and_first (eqb (own_sort t) s) _ rest);
        })
        (and_second (eqb (own_sort t) s) _ rest) in
        (all.0, all.1, all.2, all.3 ∙ ap (λ u. terms_of_by (form_names ds ks) xs before (Cons u ts)) next.is)

  -- What is found for the printed name of a predicate.
  record ReadsPred (p : Pred) (sorts : List ℕ) : Type 0 where
    what : Kind
    number : ℕ
    means : Means ds ks (pred_name ds p) what number
    usable : is_usable (numbers xs) (pred_numbers ps) (Some (record { kind = what; num = number })) ≡ true
    arguments : predicate_found (sorts_among ps) (Some (record { kind = what; num = number })) ≡ Some sorts
    is : predicate (Some (record { kind = what; num = number })) ≡ p

  pred_reads : (p : Pred) (sorts : List ℕ) → pred_sorts (sorting_for ds ks xs ps) p ≡ Some sorts → ReadsPred p sorts
  pred_reads (Decl n) sorts h =
      record { what = kind.Pred sorts; number = n; means = predicate_means ds ks r.distinct r.ordinary n sorts h; usable = refl; arguments = refl; is = refl }
  pred_reads (Bound n) sorts h = record {
    what = kind.PredName;
    number = n;
    means = bound_means ds ks r.distinct r.ordinary n (predicate_small ps n sorts h r.preds);
    usable = predicate_member ps n sorts h;
    arguments = h;
    is = refl;
  }

  pub atom_reads : (p : Pred) (us : Terms) → with_sorts (λ sorts. sorted_terms (sorting_for ds ks xs ps) us sorts) (pred_sorts (sorting_for ds ks xs ps) p) ≡ true
      → ReadsAtom ds ks xs ps (applied (pred_name ds p) (dress_terms_onto ds None us)) (Atom p us)
  unfolding term_boxes
  atom_reads p us h =
      let k = with_known (λ sorts. sorted_terms (sorting_for ds ks xs ps) us sorts) (with_sorts (λ sorts. sorted_terms (sorting_for ds ks xs ps) us sorts))
      (pred_sorts (sorting_for ds ks xs ps) p) refl (λ sorts. refl) h in
      let name = pred_name ds p in
      let q = pred_reads p k.0 k.1 in
      let usable : is_usable (numbers xs) (pred_numbers ps) (found_in ds ks name) ≡ true = ap (is_usable (numbers xs) (pred_numbers ps)) q.means.found ∙ q.usable in
      let head : (t : tree.Term Text) → is_right_by (form_names ds ks) xs t (predicate_found (sorts_among ps) (found_in ds ks name)) ≡ is_right_by (form_names ds ks) xs t (Some k.0) =
      λ t. ap (is_right_by (form_names ds ks) xs t) (ap (predicate_found (sorts_among ps)) q.means.found ∙ q.arguments) in
      let atom : (us : Terms) → Atom (predicate (found_in ds ks name)) us ≡ Atom p us = λ us. ap (λ p. Atom p us) (ap predicate q.means.found ∙ q.is) in
      elim (arguments_read us k.0 k.2) [
        | inl none ↦ subst (λ o. ReadsAtom ds ks xs ps (applied name o) (Atom p us)) (sym none.0) (record {
          known = usable;
          right = and_from _ _ (head (tree.Plain name) ∙ ap (λ l. is_none_left (Some l)) none.1) refl;
          words = q.means.word;
          is = atom Nil ∙ ap (Atom p) (sym none.2);
        })
        | inr some ↦ subst (λ o. ReadsAtom ds ks xs ps (applied name o) (Atom p us)) (sym some.1) (record {
          known = and_from _ _ usable some.2.known;
          right = and_from _ _ (head (tree.Applied name some.0) ∙ ap is_none_left some.2.fits) some.2.right;
          words = (q.means.word, some.2.words);
          is = atom (terms_of_by (form_names ds ks) xs some.0 Nil) ∙ ap (Atom p) some.3;
        })
      ]
