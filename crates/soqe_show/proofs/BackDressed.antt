-- The tree that is printed is that which was read, in the spelling that is printed: each number leads back to the name
-- that it was given to.
use Rattle.std.proofs.Common.{◌≡◌, ℕ, Bool, true, false, cond, not, eqb, List, [], ◌∷◌, map, Option, Some, None, get_or, set, codes, refl, ◌∙◌, ap, sym, true≢false}
use Rattle.std.specs.List.{list_all}
use Rattle.soqe_syntax.specs.declared.piece.Quantifier.{Quantifier}
use Rattle.soqe_syntax.specs.declared.piece.Quantifier.TheVariants as quantifier
use Rattle.soqe_syntax.specs.declared.piece.Operator.{Operator}
use Rattle.soqe_syntax.specs.declared.piece.Operator.TheVariants as operator
use Rattle.soqe_syntax.specs.Grammar.{Term, Plain, Applied, Terms, One, More, Tree, Constant, Atom, Equation, Not, Bind, Bind2, Binary, Paren, left, right}
use Rattle.soqe_term.specs.Boxes.{boxes as term_boxes}
use Rattle.soqe_term.specs.declared.term.Var.{Var}
use Rattle.soqe_term.specs.declared.term.Term as term
use Rattle.soqe_term.specs.declared.term.Terms as terms
use Rattle.soqe_signature.specs.declared.kinds.Kind.{Kind}
use Rattle.soqe_signature.specs.declared.kinds.Kind.TheVariants as kind
use Rattle.soqe_signature.specs.declared.kinds.NameKind.{NameKind}
use Rattle.soqe_signature.specs.declared.kinds.NameKind.TheVariants as numbering
use Rattle.soqe_signature.specs.Declarations.{Declaration, Found, numbering_of, lookup, name_of}
use Rattle.soqe_number.proofs.Choices.{and_first, and_second}
use Rattle.soqe_signature.proofs.Declared.{name_of-lookup}
use Rattle.soqe_form.specs.Boxes.{boxes as form_boxes}
use Rattle.soqe_form.specs.declared.form.PVar.{PVar}
use Rattle.soqe_form.specs.declared.form.Pred.TheVariants.{Bound}
use Rattle.soqe_form.specs.declared.form.Form as form
use Rattle.soqe_text.specs.NewNames.{Entered}
use Rattle.soqe_form.specs.Constants.{constant}
use Rattle.soqe_text.specs.Naming.{sort_of_found}
use Rattle.soqe_text.specs.Uses.{num_of, num_of_found, is_no_sort, no_arguments, arguments_by, predicate_by, is_none_left, behind_fitting, then_behind}
use Rattle.soqe_text.specs.Numbering.{applied, predicate, negated, over_elements, joined_by, quantified_over}
use Rattle.soqe_show.specs.Printed.{Text}
use Rattle.soqe_show.specs.Placed.{equation_sign}
use Rattle.soqe_show.specs.Dress as dress
use Rattle.soqe_show.specs.Dress.{guard, onto, name_or, sort_name, var_name, pred_name, dress_term, dress_terms_onto, written_sort}
use Rattle.soqe_show.proofs.BackKnown.{number_of}
use Rattle.soqe_show.proofs.BackNames.{Named}
use Rattle.soqe_show.proofs.BackUses.{sort_of, behind_terms, is_right, right_term, right_in, right_in_all, right_atom, is_sort, right_sort, sort_of_binder, IsRight}
use Rattle.soqe_show.proofs.BackNumbers.{term_of, terms_of, atom_of, form_of}
use Rattle.soqe_show.proofs.BackNormal.{kept_sort, normal}
use Rattle.soqe_show.proofs.BackLookups.{Grows, variable_enters, predicate_enters, Enters, named_grows}

-- a known name is found again by its number
name_back : (ds : List Declaration) (name tag : Text) (f : Found) (k : NameKind) → lookup ds name ≡ Some f → numbering_of f.kind ≡ k → name_or (name_of ds k f.num) tag f.num ≡ name
name_back ds name tag f k known is =
    ap (λ k. name_or (name_of ds k f.num) tag f.num) (sym is) ∙ ap (λ o. name_or o tag f.num) (name_of-lookup ds name f known)

-- the number of a sort leads to its name
sort_back : (ds : List Declaration) (s : Text) (found : Option Found) → lookup ds s ≡ found → not (is_no_sort found) ≡ true → sort_name ds (sort_of_found found) ≡ s
sort_back ds s None known h = absurd (true≢false (sym h))
sort_back ds s (Some f) known h = by f.kind f.num known h
  where
    by : (k : Kind) (n : ℕ) → lookup ds s ≡ Some (record { kind = k; num = n }) → not (is_no_sort (Some (record { kind = k; num = n }))) ≡ true
        → sort_name ds (sort_of_found (Some (record { kind = k; num = n }))) ≡ s
    by kind.Sort n known h = name_back ds s [] (record { kind = kind.Sort; num = n }) numbering.Sort known refl
    by (kind.Fun args result) n known h = absurd (true≢false (sym h))
    by (kind.Pred args) n known h = absurd (true≢false (sym h))
    by (kind.Free sort) n known h = absurd (true≢false (sym h))
    by kind.Rel n known h = absurd (true≢false (sym h))
    by kind.Prop n known h = absurd (true≢false (sym h))
    by kind.VarName n known h = absurd (true≢false (sym h))
    by kind.PredName n known h = absurd (true≢false (sym h))

pub sort_named : (ds : List Declaration) (s : Text) → is_sort ds s ≡ true → sort_name ds (number_of ds s) ≡ s
sort_named ds s h = sort_back ds s (lookup ds s) refl h

pub sorts_named : (ds : List Declaration) (ss : List Text) → list_all (is_sort ds) ss ≡ true → map (sort_name ds) (map (number_of ds) ss) ≡ ss
sorts_named ds [] h = refl
sorts_named ds (s ∷ ss) h =
    let first = sort_named ds s (and_first (is_sort ds s) (list_all (is_sort ds) ss) h) in
    let rest = sorts_named ds ss (and_second (is_sort ds s) (list_all (is_sort ds) ss) h) in
    (λ i. first i ∷ rest i)

sort_written : (ds : List Declaration) (s : Option Text) → right_sort ds s ≡ true → written_sort ds (sort_of_binder ds s) ≡ kept_sort ds s
sort_written ds None h = refl
sort_written ds (Some s) h = ap (λ name. cond (eqb (number_of ds s) 0) None (Some name)) (sort_named ds s h)

-- no terms fit no sorts
behind_nothing : (ds : List Declaration) (vs : List (Option ℕ)) (ts : Terms Text) → behind_terms ds vs ts [] ≡ None
behind_nothing ds vs (One t) = refl
behind_nothing ds vs (More ts t) = ap (λ o. then_behind o (λ sorts. behind_fitting (sort_of ds vs t) sorts)) (behind_nothing ds vs ts)

-- a name that is used rightly, without arguments
plain_back : (ds : List Declaration) (vs : List (Option ℕ)) (x : Text) → right_term ds vs (Plain x) ≡ true → dress_term ds (applied vs (lookup ds x) terms.Nil) ≡ Plain x
plain_back ds vs x h = by (lookup ds x) refl h
  where
    by_kind : (k : Kind) (n : ℕ) → lookup ds x ≡ Some (record { kind = k; num = n }) → is_right ds vs (Plain x) (arguments_by vs (Some (record { kind = k; num = n }))) ≡ true
        → dress_term ds (applied vs (Some (record { kind = k; num = n })) terms.Nil) ≡ Plain x
    by_kind (kind.Fun args result) n known h = ap Plain (name_back ds x [] (record { kind = kind.Fun args result; num = n }) numbering.Fun known refl)
    by_kind (kind.Free sort) n known h = ap Plain (name_back ds x (codes "_") (record { kind = kind.Free sort; num = n }) numbering.Variable known refl)
    by_kind kind.VarName n known h = ap Plain (name_back ds x (codes "_") (record { kind = kind.VarName; num = n }) numbering.Variable known refl)
    by_kind kind.Sort n known h = absurd (true≢false (sym h))
    by_kind (kind.Pred args) n known h = absurd (true≢false (sym h))
    by_kind kind.Rel n known h = absurd (true≢false (sym h))
    by_kind kind.Prop n known h = absurd (true≢false (sym h))
    by_kind kind.PredName n known h = absurd (true≢false (sym h))

    by : (found : Option Found) → lookup ds x ≡ found → is_right ds vs (Plain x) (arguments_by vs found) ≡ true → dress_term ds (applied vs found terms.Nil) ≡ Plain x
    by None known h = absurd (true≢false (sym h))
    by (Some f) known h = by_kind f.kind f.num known h

-- a name that is used rightly with arguments is that of a function
applied_back : (ds : List Declaration) (vs : List (Option ℕ)) (x : Text) (ts : Terms Text) (args : terms.Terms) → right_term ds vs (Applied x ts) ≡ true
    → dress_terms_onto ds None args ≡ Some ts → dress_term ds (applied vs (lookup ds x) args) ≡ Applied x ts
applied_back ds vs x ts args h dressed = by (lookup ds x) refl h
  where
    no_arguments-right : (sort : Option ℕ) → is_right ds vs (Applied x ts) (no_arguments sort) ≡ true → ⊥
    no_arguments-right None h = true≢false (sym h)
    no_arguments-right (Some s) h = true≢false (sym (sym (ap is_none_left (behind_nothing ds vs ts)) ∙ h))

    by_kind : (k : Kind) (n : ℕ) → lookup ds x ≡ Some (record { kind = k; num = n }) → is_right ds vs (Applied x ts) (arguments_by vs (Some (record { kind = k; num = n }))) ≡ true
        → dress_term ds (applied vs (Some (record { kind = k; num = n })) args) ≡ Applied x ts
    by_kind (kind.Fun sorts result) n known h =
        let name = name_back ds x [] (record { kind = kind.Fun sorts result; num = n }) numbering.Fun known refl in
        (λ i. dress.applied (name i) (dressed i))
    by_kind (kind.Free sort) n known h = absurd (no_arguments-right (get_or vs n None) h)
    by_kind kind.VarName n known h = absurd (no_arguments-right (get_or vs n None) h)
    by_kind kind.Sort n known h = absurd (true≢false (sym h))
    by_kind (kind.Pred sorts) n known h = absurd (true≢false (sym h))
    by_kind kind.Rel n known h = absurd (true≢false (sym h))
    by_kind kind.Prop n known h = absurd (true≢false (sym h))
    by_kind kind.PredName n known h = absurd (true≢false (sym h))

    by : (found : Option Found) → lookup ds x ≡ found → is_right ds vs (Applied x ts) (arguments_by vs found) ≡ true → dress_term ds (applied vs found args) ≡ Applied x ts
    by None known h = absurd (true≢false (sym h))
    by (Some f) known h = by_kind f.kind f.num known h

-- terms behind those that stand already
abbrev all_onto : Option (Terms Text) → Terms Text → Option (Terms Text)
all_onto before (One t) = onto before t
all_onto before (More ts t) = onto (all_onto before ts) t

all_onto-none : (ts : Terms Text) → all_onto None ts ≡ Some ts
all_onto-none (One t) = refl
all_onto-none (More ts t) = ap (λ o. onto o t) (all_onto-none ts)

dress_cons : (ds : List Declaration) (before : Option (Terms Text)) (t : term.Term) (after : terms.Terms)
    → dress_terms_onto ds before (terms.Cons t after) ≡ dress_terms_onto ds (onto before (dress_term ds t)) after
unfolding term_boxes
dress_cons ds before t after = refl

mutual
  -- a term that is used rightly is printed as it was read
  term_back : (ds : List Declaration) (vs : List (Option ℕ)) (t : Term Text) → right_in ds vs t ≡ true → dress_term ds (term_of ds vs t) ≡ t
  term_back ds vs (Plain x) h = plain_back ds vs x h
  term_back ds vs (Applied x ts) h =
      applied_back ds vs x ts (terms_of ds vs ts terms.Nil) (and_first (right_term ds vs (Applied x ts)) (right_in_all ds vs ts) h)
      (terms_back ds vs ts None terms.Nil (and_second (right_term ds vs (Applied x ts)) (right_in_all ds vs ts) h) ∙ all_onto-none ts)

  -- and so are terms
  terms_back : (ds : List Declaration) (vs : List (Option ℕ)) (ts : Terms Text) (before : Option (Terms Text)) (after : terms.Terms) → right_in_all ds vs ts ≡ true
      → dress_terms_onto ds before (terms_of ds vs ts after) ≡ dress_terms_onto ds (all_onto before ts) after
  terms_back ds vs (One t) before after h =
      dress_cons ds before (term_of ds vs t) after ∙ ap (λ t. dress_terms_onto ds (onto before t) after) (term_back ds vs t h)
  terms_back ds vs (More ts t) before after h =
      terms_back ds vs ts before (terms.Cons (term_of ds vs t) after) (and_first (right_in_all ds vs ts) (right_in ds vs t) h)
      ∙ dress_cons ds (all_onto before ts) (term_of ds vs t) after
      ∙ ap (λ t. dress_terms_onto ds (onto (all_onto before ts) t) after) (term_back ds vs t (and_second (right_in_all ds vs ts) (right_in ds vs t) h))

-- the name of a predicate that is used rightly
predicate_back : (ds : List Declaration) (vs : List (Option ℕ)) (ps : List (Option (List ℕ))) (t : Term Text) (x : Text) → is_right ds vs t (predicate_by ps (lookup ds x)) ≡ true
    → pred_name ds (predicate (lookup ds x)) ≡ x
predicate_back ds vs ps t x h = by (lookup ds x) refl h
  where
    by_kind : (k : Kind) (n : ℕ) → lookup ds x ≡ Some (record { kind = k; num = n }) → is_right ds vs t (predicate_by ps (Some (record { kind = k; num = n }))) ≡ true
        → pred_name ds (predicate (Some (record { kind = k; num = n }))) ≡ x
    by_kind (kind.Pred args) n known h = name_back ds x [] (record { kind = kind.Pred args; num = n }) numbering.Pred known refl
    by_kind kind.PredName n known h = name_back ds x (codes "_p") (record { kind = kind.PredName; num = n }) numbering.BoundPred known refl
    by_kind (kind.Fun args result) n known h = absurd (true≢false (sym h))
    by_kind (kind.Free sort) n known h = absurd (true≢false (sym h))
    by_kind kind.VarName n known h = absurd (true≢false (sym h))
    by_kind kind.Sort n known h = absurd (true≢false (sym h))
    by_kind kind.Rel n known h = absurd (true≢false (sym h))
    by_kind kind.Prop n known h = absurd (true≢false (sym h))

    by : (found : Option Found) → lookup ds x ≡ found → is_right ds vs t (predicate_by ps found) ≡ true → pred_name ds (predicate found) ≡ x
    by None known h = absurd (true≢false (sym h))
    by (Some f) known h = by_kind f.kind f.num known h

atom_back : (ds : List Declaration) (vs : List (Option ℕ)) (ps : List (Option (List ℕ))) (t : Term Text) → right_atom ds vs ps t ≡ true → dress.dress ds (atom_of ds vs t) ≡ Atom t
atom_back ds vs ps (Plain p) h =
    ap (λ p. Atom (Plain p)) (predicate_back ds vs ps (Plain p) p (and_first (is_right ds vs (Plain p) (predicate_by ps (lookup ds p))) true h))
atom_back ds vs ps (Applied p ts) h =
    let head = is_right ds vs (Applied p ts) (predicate_by ps (lookup ds p)) in
    let name = predicate_back ds vs ps (Applied p ts) p (and_first head (right_in_all ds vs ts) h) in
    let arguments = terms_back ds vs ts None terms.Nil (and_second head (right_in_all ds vs ts) h) ∙ all_onto-none ts in
    (λ i. Atom (dress.applied (name i) (arguments i)))

equation_back : (ds : List Declaration) (vs : List (Option ℕ)) (b : Bool) (l r : Term Text) → dress_term ds (term_of ds vs l) ≡ l → dress_term ds (term_of ds vs r) ≡ r
    → dress.dress ds (negated b (form.Equal (term_of ds vs l) (term_of ds vs r))) ≡ Equation b (equation_sign b) l r
unfolding form_boxes
equation_back ds vs false l r h k = (λ i. Equation false (codes "=") (h i) (k i))
equation_back ds vs true l r h k = (λ i. Equation true (codes "!=") (h i) (k i))

module _ (ds : List Declaration) where
  dress_constant : (b : Bool) → dress.dress ds (constant b) ≡ Constant b
  dress_constant true = refl
  dress_constant false = refl

  dress_not : (f : form.Form) → dress.dress ds (form.Not f) ≡ dress.negated (dress.dress ds f)
  unfolding form_boxes
  dress_not f = refl

  dress_over : (q : Quantifier) (x : Var) (f : form.Form) → dress.dress ds (over_elements q x f) ≡ Bind q (var_name ds x.num) (written_sort ds x.sort) (guard 4 (dress.dress ds f))
  unfolding form_boxes
  dress_over quantifier.All x f = refl
  dress_over quantifier.Ex x f = refl

  dress_over2 : (q : Quantifier) (p : PVar) (f : form.Form) → dress.dress ds (quantified_over q p f) ≡ Bind2 q (pred_name ds (Bound p.num)) (map (sort_name ds) p.args) (guard 4 (dress.dress ds f))
  unfolding form_boxes
  dress_over2 quantifier.All p f = refl
  dress_over2 quantifier.Ex p f = refl

  dress_joined : (op : Operator) (f g : form.Form) → dress.dress ds (joined_by op f g) ≡ Binary op (guard (left op) (dress.dress ds f)) (guard (right op) (dress.dress ds g))
  unfolding form_boxes
  dress_joined operator.And f g = refl
  dress_joined operator.Or f g = refl
  dress_joined operator.Imp f g = refl
  dress_joined operator.Iff f g = refl

-- a bound name is found again by its number
entered_back : (fs ds : List Declaration) (x tag : Text) (k : NameKind) (e : Entered) → Enters ds x k e → Grows e.declared fs → name_or (name_of fs k (num_of fs x)) tag (num_of fs x) ≡ x
entered_back fs ds x tag k e h grows =
    let known = grows x h.found h.known in
    ap (λ found. name_or (name_of fs k (num_of_found found)) tag (num_of_found found)) known ∙ name_back fs x tag h.found k known h.numbering

-- a tree whose names are known and used rightly is printed as it was read, in the spelling that is printed
pub tree_back : (fs ds : List Declaration) (vs ps : List ℕ) (t : Tree Text) (new : List Declaration) → Named ds vs ps t new → Grows new fs
    → (sorts : List (Option ℕ)) (args : List (Option (List ℕ))) → IsRight fs sorts args t → dress.dress fs (form_of fs sorts t) ≡ normal fs t
tree_back fs ds vs ps (Constant b) new named grows sorts args h = dress_constant fs b
tree_back fs ds vs ps (Atom t) new named grows sorts args h = atom_back fs sorts args t h
tree_back fs ds vs ps (Equation b sign l r) new named grows sorts args h =
    let rest = and_second (right_in fs sorts l) _ h in
    equation_back fs sorts b l r (term_back fs sorts l (and_first (right_in fs sorts l) _ h)) (term_back fs sorts r (and_second _ (right_in fs sorts r) rest))
tree_back fs ds vs ps (Not a) new named grows sorts args h =
    dress_not fs (form_of fs sorts a) ∙ ap dress.negated (tree_back fs ds vs ps a new named grows sorts args h)
tree_back fs ds vs ps (Bind q x s a) new named grows sorts args h =
    let e = named.0 in
    let number = num_of fs x in
    let sort = sort_of_binder fs s in
    let name = entered_back fs ds x (codes "_") numbering.Variable e (variable_enters ds x e named.1)
    (λ n f k. grows n f (named_grows e.declared (e.num ∷ vs) ps a new named.3 n f k)) in
    let body = tree_back fs e.declared (e.num ∷ vs) ps a new named.3 grows (set sorts number (Some sort)) args h.1 in
    dress_over fs q (record { num = number; sort = sort }) (form_of fs (set sorts number (Some sort)) a)
    ∙ (λ i. Bind q (name i) (sort_written fs s h.0 i) (guard 4 (body i)))
tree_back fs ds vs ps (Bind2 q p ss a) new named grows sorts args h =
    let e = named.0 in
    let number = num_of fs p in
    let name = entered_back fs ds p (codes "_p") numbering.BoundPred e (predicate_enters ds p e named.1)
    (λ n f k. grows n f (named_grows e.declared vs (e.num ∷ ps) a new named.3 n f k)) in
    let body = tree_back fs e.declared vs (e.num ∷ ps) a new named.3 grows sorts (set args number (Some (map (number_of fs) ss))) h.1 in
    dress_over2 fs q (record { num = number; args = map (number_of fs) ss }) (form_of fs sorts a)
    ∙ (λ i. Bind2 q (name i) (sorts_named fs ss h.0 i) (guard 4 (body i)))
tree_back fs ds vs ps (Binary op l r) new named grows sorts args h =
    let first = tree_back fs ds vs ps l named.0 named.1 (λ n f k. grows n f (named_grows named.0 vs ps r new named.2 n f k)) sorts args h.0 in
    let second = tree_back fs named.0 vs ps r new named.2 grows sorts args h.1 in
    dress_joined fs op (form_of fs sorts l) (form_of fs sorts r)
    ∙ (λ i. Binary op (guard (left op) (first i)) (guard (right op) (second i)))
tree_back fs ds vs ps (Paren a) new named grows sorts args h = tree_back fs ds vs ps a new named grows sorts args h
