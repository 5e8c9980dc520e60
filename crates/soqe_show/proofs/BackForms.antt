-- A well-sorted formula whose binders are known is read back from its printed tree: by its terms and atoms (BackTerms), its
-- binders (BackBinders), and its parts. Parentheses and the sign of a negated equation change nothing.
use Rattle.std.proofs.Common.{◌≡◌, ℕ, Bool, true, false, cond, not, ◌&&◌, ◌^◌, nat_lt, eqb, List, ◌∷◌, map, Option, Some, refl, ◌∙◌, ap, sym, subst}
use Rattle.std.specs.List.{list_all}
use Rattle.std.proofs.lemmas.Bool.{and_from, ltb-true}
use Rattle.soqe_syntax.specs.declared.piece.Quantifier.{Quantifier}
use Rattle.soqe_syntax.specs.declared.piece.Quantifier.TheVariants as quantifier
use Rattle.soqe_syntax.specs.declared.piece.Operator.{Operator}
use Rattle.soqe_syntax.specs.declared.piece.Operator.TheVariants as operator
use Rattle.soqe_syntax.specs.Grammar as tree
use Rattle.soqe_syntax.specs.Grammar.{Tree, level, left, right}
use Rattle.soqe_signature.specs.declared.skolems.SkolemSig.{SkolemSig}
use Rattle.soqe_term.specs.declared.term.Var.{Var}
use Rattle.soqe_term.specs.declared.term.Term.{Term}
use Rattle.soqe_term.specs.Sorting.{own_sort, sorted_term}
use Rattle.soqe_signature.specs.Declarations.{Declaration}
use Rattle.soqe_number.proofs.Choices.{and_first, and_second}
use Rattle.soqe_form.specs.Boxes.{boxes as form_boxes}
use Rattle.soqe_form.specs.declared.form.Pred.TheVariants.{Bound}
use Rattle.soqe_form.specs.declared.form.PVar.{PVar}
use Rattle.soqe_form.specs.declared.form.Form as form
use Rattle.soqe_form.specs.declared.form.Form.{Form, True, False, Equal, Atom, Not', And', Or', Imp', Iff', All', Ex', All2', Ex2', end_of-Form as end, more_of-Form as one}
use Rattle.soqe_signature.specs.Scope.{sorting_for}
use Rattle.soqe_form.specs.Sorted.{sorted}
use Rattle.soqe_text.specs.Meanings.{found_in, form_names}
use Rattle.soqe_text.specs.Uses.{num_of_found, num_of_by, differ}
use Rattle.soqe_text.specs.Numbering.{over_elements, quantified_over, joined_by}
use Rattle.soqe_show.specs.Printed.{Text}
use Rattle.soqe_show.specs.Dress.{var_name, pred_name, sort_name, written_sort, guard, negated, dress}
use Rattle.soqe_show.specs.Placed.{AreWords}
use Rattle.soqe_show.specs.FormBack.{is_small, is_declared, has_known_binders, AreReadable}
use Rattle.soqe_show.proofs.BackRefused.{AllKnown}
use Rattle.soqe_show.proofs.BackKnown.{number_of_by}
use Rattle.soqe_show.proofs.BackUses.{sort_of_binder_by, IsRight_by}
use Rattle.soqe_show.proofs.BackNumbers.{form_of_by}
use Rattle.soqe_show.proofs.BackAmong.{numbers, pred_numbers}
use Rattle.soqe_show.proofs.BackFound.{variable_means, bound_means}
use Rattle.soqe_show.proofs.BackTerms.{term_reads, atom_reads}
use Rattle.soqe_show.proofs.BackBinders.{sort_reads, sorts_read}

-- A tree of texts is read as this formula.
pub record ReadsTree (ds : List Declaration) (ks : List SkolemSig) (xs : List Var) (ps : List PVar) (t : Tree Text) (f : Form) : Type 0 where
  pub known : AllKnown (found_in ds ks) (numbers xs) (pred_numbers ps) t
  pub right : IsRight_by (form_names ds ks) xs ps t
  pub words : AreWords t
  pub is : form_of_by (form_names ds ks) xs t ≡ f

module _ (ds : List Declaration) (ks : List SkolemSig) (xs : List Var) (ps : List PVar) where
  guard_reads : (k : ℕ) (t : Tree Text) (f : Form) → ReadsTree ds ks xs ps t f → ReadsTree ds ks xs ps (guard k t) f
  guard_reads k t f h = by (nat_lt (level t) k)
    where
      by : (b : Bool) → ReadsTree ds ks xs ps (cond b (tree.Paren t) t) f
      by true = record { known = h.known; right = h.right; words = h.words; is = h.is }
      by false = h

  not_reads : (t : Tree Text) (f : Form) → ReadsTree ds ks xs ps t f → ReadsTree ds ks xs ps (tree.Not (guard 4 t)) (form.Not f)
  not_reads t f h = let g = guard_reads 4 t f h in record { known = g.known; right = g.right; words = g.words; is = ap form.Not g.is }

  negated_reads : (t : Tree Text) (f : Form) → ReadsTree ds ks xs ps t f → ReadsTree ds ks xs ps (negated t) (form.Not f)
  negated_reads (tree.Equation false sign l r) f h = record { known = h.known; right = h.right; words = (refl, h.words.1, h.words.2); is = ap form.Not h.is }
  negated_reads (tree.Equation true sign l r) f h = not_reads (tree.Equation true sign l r) f h
  negated_reads (tree.Constant b) f h = not_reads (tree.Constant b) f h
  negated_reads (tree.Atom t) f h = not_reads (tree.Atom t) f h
  negated_reads (tree.Not t) f h = not_reads (tree.Not t) f h
  negated_reads (tree.Bind q x s t) f h = not_reads (tree.Bind q x s t) f h
  negated_reads (tree.Bind2 q x ss t) f h = not_reads (tree.Bind2 q x ss t) f h
  negated_reads (tree.Binary op l r) f h = not_reads (tree.Binary op l r) f h
  negated_reads (tree.Paren t) f h = not_reads (tree.Paren t) f h

  joined_reads : (op : Operator) (l r : Tree Text) (f g : Form) → ReadsTree ds ks xs ps l f → ReadsTree ds ks xs ps r g
      → ReadsTree ds ks xs ps (tree.Binary op (guard (left op) l) (guard (right op) r)) (joined_by op f g)
  joined_reads op l r f g h k =
      let a = guard_reads (left op) l f h in
      let b = guard_reads (right op) r g k in
      record { known = (a.known, b.known); right = (a.right, b.right); words = (a.words, b.words); is = (λ i. joined_by op (a.is i) (b.is i)) }

  -- sorts that do not differ
  alike : (l r : Option ℕ) (s t : ℕ) → l ≡ Some s → r ≡ Some t → eqb s t ≡ true → not (differ l r) ≡ true
  alike l r s t a b e = (λ i. not (differ (a i) (b i))) ∙ ap (λ b. not (not b)) e

  equation_reads : (r : AreReadable ds ks xs ps) (s t : Term)
      → (sorted_term (sorting_for ds ks xs ps) s && (sorted_term (sorting_for ds ks xs ps) t && eqb (own_sort s) (own_sort t))) ≡ true
      → ReadsTree ds ks xs ps (dress ds (Equal s t)) (Equal s t)
  equation_reads r s t h =
      let rest = and_second (sorted_term (sorting_for ds ks xs ps) s) _ h in
      let a = term_reads ds ks xs ps r s (and_first (sorted_term (sorting_for ds ks xs ps) s) _ h) in
      let b = term_reads ds ks xs ps r t (and_first (sorted_term (sorting_for ds ks xs ps) t) _ rest) in
      record {
        known = and_from _ _ a.known b.known;
        right = and_from _ _ a.right (and_from _ _ (alike _ _ (own_sort s) (own_sort t) a.own b.own (and_second (sorted_term (sorting_for ds ks xs ps) t) _ rest)) b.right);
        words = (refl, a.words, b.words);
        is = (λ i. Equal (a.is i) (b.is i));
      }

  -- under a binder of a variable
  over_var_readable : AreReadable ds ks xs ps → (x : Var) → is_small x.num ≡ true → AreReadable ds ks (x ∷ xs) ps
  over_var_readable r x h = record { distinct = r.distinct; ordinary = r.ordinary; skolems = r.skolems; free = and_from _ _ h r.free; preds = r.preds }

  elements_read : (r : AreReadable ds ks xs ps) (q : Quantifier) (x : Var) (t : Tree Text) (f : Form) → is_small x.num ≡ true → is_declared ds x.sort ≡ true
      → ReadsTree ds ks (x ∷ xs) ps t f → ReadsTree ds ks xs ps (tree.Bind q (var_name ds x.num) (written_sort ds x.sort) t) (over_elements q x f)
  elements_read r q x t f small declared h =
      let v = variable_means ds ks r.distinct r.ordinary x.num (ltb-true x.num (2 ^ 64) small) in
      let s = sort_reads ds ks r.distinct r.ordinary (numbers xs) (pred_numbers ps) x.sort declared in
      let number : num_of_by (form_names ds ks) (var_name ds x.num) ≡ x.num = ap num_of_found v.2.found in
      let read : Var = record { num = num_of_by (form_names ds ks) (var_name ds x.num); sort = sort_of_binder_by (form_names ds ks) (written_sort ds x.sort) } in
      let same : read ≡ x = (λ i. record { num = number i; sort = s.is i }) in
      record {
        known = (x.num, record { what = v.0; variable = v.1; found = v.2.found }, s.known, h.known);
        right = (s.right, subst (λ y. IsRight_by (form_names ds ks) (y ∷ xs) ps t) (sym same) h.right);
        words = (v.2.word, s.words, h.words);
        is = (λ i. over_elements q (same i) (form_of_by (form_names ds ks) (same i ∷ xs) t)) ∙ ap (over_elements q x) h.is;
      }

  -- under a binder of a predicate
  over_pred_readable : AreReadable ds ks xs ps → (p : PVar) → is_small p.num ≡ true → AreReadable ds ks xs (p ∷ ps)
  over_pred_readable r p h = record { distinct = r.distinct; ordinary = r.ordinary; skolems = r.skolems; free = r.free; preds = and_from _ _ h r.preds }

  tables_read : (r : AreReadable ds ks xs ps) (q : Quantifier) (p : PVar) (t : Tree Text) (f : Form) → is_small p.num ≡ true → list_all (is_declared ds) p.args ≡ true
      → ReadsTree ds ks xs (p ∷ ps) t f → ReadsTree ds ks xs ps (tree.Bind2 q (pred_name ds (Bound p.num)) (map (sort_name ds) p.args) t) (quantified_over q p f)
  tables_read r q p t f small declared h =
      let m = bound_means ds ks r.distinct r.ordinary p.num (ltb-true p.num (2 ^ 64) small) in
      let s = sorts_read ds ks r.distinct r.ordinary (numbers xs) (pred_numbers ps) p.args declared in
      let number : num_of_by (form_names ds ks) (pred_name ds (Bound p.num)) ≡ p.num = ap num_of_found m.found in
      let read : PVar = record { num = num_of_by (form_names ds ks) (pred_name ds (Bound p.num)); args = map (number_of_by (found_in ds ks)) (map (sort_name ds) p.args) } in
      let same : read ≡ p = (λ i. record { num = number i; args = s.is i }) in
      record {
        known = (p.num, m.found, s.known, h.known);
        right = (s.right, subst (λ y. IsRight_by (form_names ds ks) xs (y ∷ ps) t) (sym same) h.right);
        words = (m.word, s.words, h.words);
        is = (λ i. quantified_over q (same i) (h.is i));
      }

-- a formula is read back from its tree
pub form_reads : (ds : List Declaration) (ks : List SkolemSig) (xs : List Var) (ps : List PVar) → AreReadable ds ks xs ps → (f : Form)
    → has_known_binders ds f ≡ true → sorted (sorting_for ds ks xs ps) f ≡ true → ReadsTree ds ks xs ps (dress ds f) f
unfolding form_boxes
form_reads ds ks xs ps r True b h = record { known = tt; right = tt; words = tt; is = refl }
form_reads ds ks xs ps r False b h = record { known = tt; right = tt; words = tt; is = refl }
form_reads ds ks xs ps r (Equal s t) b h = equation_reads ds ks xs ps r s t h
form_reads ds ks xs ps r (Atom p us) b h =
    let a = atom_reads ds ks xs ps r p us h in
    record { known = a.known; right = a.right; words = a.words; is = a.is }
form_reads ds ks xs ps r (Not' _ (one f end)) b h = negated_reads ds ks xs ps (dress ds f) f (form_reads ds ks xs ps r f b h)
form_reads ds ks xs ps r (And' _ (one f end) _ (one g end)) b h =
    joined_reads ds ks xs ps operator.And (dress ds f) (dress ds g) f g
    (form_reads ds ks xs ps r f (and_first (has_known_binders ds f) _ b) (and_first (sorted (sorting_for ds ks xs ps) f) _ h))
    (form_reads ds ks xs ps r g (and_second (has_known_binders ds f) _ b) (and_second (sorted (sorting_for ds ks xs ps) f) _ h))
form_reads ds ks xs ps r (Or' _ (one f end) _ (one g end)) b h =
    joined_reads ds ks xs ps operator.Or (dress ds f) (dress ds g) f g
    (form_reads ds ks xs ps r f (and_first (has_known_binders ds f) _ b) (and_first (sorted (sorting_for ds ks xs ps) f) _ h))
    (form_reads ds ks xs ps r g (and_second (has_known_binders ds f) _ b) (and_second (sorted (sorting_for ds ks xs ps) f) _ h))
form_reads ds ks xs ps r (Imp' _ (one f end) _ (one g end)) b h =
    joined_reads ds ks xs ps operator.Imp (dress ds f) (dress ds g) f g
    (form_reads ds ks xs ps r f (and_first (has_known_binders ds f) _ b) (and_first (sorted (sorting_for ds ks xs ps) f) _ h))
    (form_reads ds ks xs ps r g (and_second (has_known_binders ds f) _ b) (and_second (sorted (sorting_for ds ks xs ps) f) _ h))
form_reads ds ks xs ps r (Iff' _ (one f end) _ (one g end)) b h =
    joined_reads ds ks xs ps operator.Iff (dress ds f) (dress ds g) f g
    (form_reads ds ks xs ps r f (and_first (has_known_binders ds f) _ b) (and_first (sorted (sorting_for ds ks xs ps) f) _ h))
    (form_reads ds ks xs ps r g (and_second (has_known_binders ds f) _ b) (and_second (sorted (sorting_for ds ks xs ps) f) _ h))
form_reads ds ks xs ps r (All' x _ (one f end)) b h =
    let small = and_first (is_small x.num) _ b in
    let rest = and_second (is_small x.num) _ b in
    let body = form_reads ds ks (x ∷ xs) ps (over_var_readable ds ks xs ps r x small) f (and_second (is_declared ds x.sort) _ rest) h in
    elements_read ds ks xs ps r quantifier.All x (guard 4 (dress ds f)) f small (and_first (is_declared ds x.sort) _ rest) (guard_reads ds ks (x ∷ xs) ps 4 (dress ds f) f body)
form_reads ds ks xs ps r (Ex' x _ (one f end)) b h =
    let small = and_first (is_small x.num) _ b in
    let rest = and_second (is_small x.num) _ b in
    let body = form_reads ds ks (x ∷ xs) ps (over_var_readable ds ks xs ps r x small) f (and_second (is_declared ds x.sort) _ rest) h in
    elements_read ds ks xs ps r quantifier.Ex x (guard 4 (dress ds f)) f small (and_first (is_declared ds x.sort) _ rest) (guard_reads ds ks (x ∷ xs) ps 4 (dress ds f) f body)
form_reads ds ks xs ps r (All2' p _ (one f end)) b h =
    let small = and_first (is_small p.num) _ b in
    let rest = and_second (is_small p.num) _ b in
    let body = form_reads ds ks xs (p ∷ ps) (over_pred_readable ds ks xs ps r p small) f (and_second (list_all (is_declared ds) p.args) _ rest) h in
    tables_read ds ks xs ps r quantifier.All p (guard 4 (dress ds f)) f small (and_first (list_all (is_declared ds) p.args) _ rest) (guard_reads ds ks xs (p ∷ ps) 4 (dress ds f) f body)
form_reads ds ks xs ps r (Ex2' p _ (one f end)) b h =
    let small = and_first (is_small p.num) _ b in
    let rest = and_second (is_small p.num) _ b in
    let body = form_reads ds ks xs (p ∷ ps) (over_pred_readable ds ks xs ps r p small) f (and_second (list_all (is_declared ds) p.args) _ rest) h in
    tables_read ds ks xs ps r quantifier.Ex p (guard 4 (dress ds f)) f small (and_first (list_all (is_declared ds) p.args) _ rest) (guard_reads ds ks xs (p ∷ ps) 4 (dress ds f) f body)
