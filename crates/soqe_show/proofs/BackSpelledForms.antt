-- A formula that some text spells by itself can be read, and so its printed text spells it.
use Rattle.std.proofs.Common.{◌≡◌, ℕ, ◌<◌, ◌^◌, Bool, true, false, cond, List, [], ◌∷◌, length, find, Option, Some, None, refl, ◌∙◌, ap, sym}
use Rattle.std.specs.List.{list_all}
use Rattle.std.specs.Option.{option_or}
use Rattle.std.proofs.lemmas.Bool.{and_from}
use Rattle.std.proofs.lemmas.Option.{none-some}
use Rattle.soqe_syntax.specs.declared.piece.Span.{Span}
use Rattle.soqe_syntax.specs.declared.piece.Quantifier.{Quantifier}
use Rattle.soqe_syntax.specs.declared.piece.Quantifier.TheVariants as quantifier
use Rattle.soqe_syntax.specs.declared.piece.Operator.{Operator}
use Rattle.soqe_syntax.specs.declared.piece.Operator.TheVariants as operator
use Rattle.soqe_syntax.specs.Grammar.{Tree, Plain, Applied, Constant, Atom, Equation, Not, Bind, Bind2, Binary, Paren}
use Rattle.soqe_syntax.specs.Pieces.{text_at}
use Rattle.soqe_signature.specs.declared.skolems.SkolemSig.{SkolemSig}
use Rattle.soqe_term.specs.declared.term.Var.{Var}
use Rattle.soqe_term.specs.declared.term.Term as term
use Rattle.soqe_signature.specs.Declarations.{Declaration}
use Rattle.soqe_form.specs.Boxes.{boxes as form_boxes}
use Rattle.soqe_form.specs.Constants.{constant}
use Rattle.soqe_form.specs.declared.form.PVar.{PVar}
use Rattle.soqe_form.specs.declared.form.Form as form
use Rattle.soqe_text.specs.Meanings.{found_in, form_names}
use Rattle.soqe_text.specs.Naming.{start_of, unknown_sort_by, unknown_of_by, sort_numbers_by}
use Rattle.soqe_text.specs.Uses.{is_no_sort, no_sort_in_by, num_of_by, binder_sort_by, wrong_sort_by, wrong_by}
use Rattle.soqe_text.specs.Numbering.{negated, over_elements, quantified_over, joined_by, numbered_by}
use Rattle.soqe_text.specs.SpelledForm.{refused, SpelledFormIsSorted}
use Rattle.soqe_show.specs.FormBack.{is_declared, is_small, has_known_binders, FormSpelledIsReadable, FormReadsBackWhereSome}
use Rattle.soqe_show.proofs.BackUses.{neither}
use Rattle.soqe_show.proofs.BackAmong.{numbers, pred_numbers}
use Rattle.soqe_show.proofs.FormBack.{form_reads_back}
use Rattle.soqe_show.proofs.BackSpelled.{sort_there, variable_there, predicate_there}

module _ (ds : List Declaration) where
  pub constant_known : (b : Bool) → has_known_binders ds (constant b) ≡ true
  constant_known true = refl
  constant_known false = refl

  pub not_known : (f : form.Form) → has_known_binders ds f ≡ true → has_known_binders ds (form.Not f) ≡ true
  unfolding form_boxes
  not_known f h = h

  pub equation_known : (b : Bool) (s t : term.Term) → has_known_binders ds (negated b (form.Equal s t)) ≡ true
  equation_known false s t = refl
  equation_known true s t = not_known (form.Equal s t) refl

  pub joined_known : (op : Operator) (f g : form.Form) → has_known_binders ds f ≡ true → has_known_binders ds g ≡ true → has_known_binders ds (joined_by op f g) ≡ true
  unfolding form_boxes
  joined_known operator.And f g h k = and_from _ _ h k
  joined_known operator.Or f g h k = and_from _ _ h k
  joined_known operator.Imp f g h k = and_from _ _ h k
  joined_known operator.Iff f g h k = and_from _ _ h k

  pub elements_known : (q : Quantifier) (x : Var) (f : form.Form) → is_small x.num ≡ true → is_declared ds x.sort ≡ true → has_known_binders ds f ≡ true
      → has_known_binders ds (over_elements q x f) ≡ true
  unfolding form_boxes
  elements_known quantifier.All x f a b h = and_from _ _ a (and_from _ _ b h)
  elements_known quantifier.Ex x f a b h = and_from _ _ a (and_from _ _ b h)

  pub tables_known : (q : Quantifier) (p : PVar) (f : form.Form) → is_small p.num ≡ true → list_all (is_declared ds) p.args ≡ true → has_known_binders ds f ≡ true
      → has_known_binders ds (quantified_over q p f) ≡ true
  unfolding form_boxes
  tables_known quantifier.All p f a b h = and_from _ _ a (and_from _ _ b h)
  tables_known quantifier.Ex p f a b h = and_from _ _ a (and_from _ _ b h)

unrefused : (b : Bool) (at : ℕ) → cond b (Some at) None ≡ None → b ≡ false
unrefused true at h = absurd (none-some at (sym h))
unrefused false at h = refl

module _ (ds : List Declaration) (ks : List SkolemSig) (few : length ds < 2 ^ 64) (obj : is_declared ds 0 ≡ true) (bytes : List ℕ) where
  binder_sort_known : (s : Option Span) → wrong_sort_by bytes (form_names ds ks) s ≡ None → is_declared ds (binder_sort_by bytes (form_names ds ks) s) ≡ true
  binder_sort_known None h = obj
  binder_sort_known (Some s) h = sort_there ds ks few (text_at bytes s) (unrefused _ s.start h)

  sorts_known : (ss : List Span) → no_sort_in_by bytes (form_names ds ks) ss ≡ None → list_all (is_declared ds) (sort_numbers_by bytes (found_in ds ks) ss) ≡ true
  sorts_known [] h = refl
  sorts_known (s ∷ ss) h = by (is_no_sort (found_in ds ks (text_at bytes s))) refl h (sorts_known ss)
    where
      by : (b : Bool) → is_no_sort (found_in ds ks (text_at bytes s)) ≡ b
          → start_of (cond b (Some s) (find (λ s. is_no_sort (found_in ds ks (text_at bytes s))) ss)) ≡ None
          → (no_sort_in_by bytes (form_names ds ks) ss ≡ None → list_all (is_declared ds) (sort_numbers_by bytes (found_in ds ks) ss) ≡ true)
          → list_all (is_declared ds) (sort_numbers_by bytes (found_in ds ks) (s ∷ ss)) ≡ true
      by true e h rest = absurd (none-some s.start (sym h))
      by false e h rest = and_from _ _ (sort_there ds ks few (text_at bytes s) e) (rest h)

  -- a tree without a refused name and a wrong use has known binders
  binders_known : (t : Tree Span) (vs qs : List ℕ) (xs : List Var) (ps : List PVar) → refused bytes (found_in ds ks) vs qs t ≡ None → wrong_by bytes (form_names ds ks) xs ps t ≡ None
      → has_known_binders ds (numbered_by bytes (form_names ds ks) xs t) ≡ true
  binders_known (Constant b) vs qs xs ps h k = constant_known ds b
  binders_known (Atom (Plain p)) vs qs xs ps h k = refl
  binders_known (Atom (Applied p ts)) vs qs xs ps h k = refl
  binders_known (Equation b at l r) vs qs xs ps h k = equation_known ds b _ _
  binders_known (Not a) vs qs xs ps h k = not_known ds _ (binders_known a vs qs xs ps h k)
  binders_known (Bind q x s a) vs qs xs ps h k =
      let names = form_names ds ks in
      let v = variable_there ds ks few (text_at bytes x) x.start (λ n. option_or (unknown_sort_by bytes (found_in ds ks) vs qs s) (refused bytes (found_in ds ks) (n ∷ vs) qs a)) h in
      let below = neither (unknown_sort_by bytes (found_in ds ks) vs qs s) _ v.1 in
      let y : Var = record { num = num_of_by names (text_at bytes x); sort = binder_sort_by bytes names s } in
      let uses = neither (wrong_sort_by bytes names s) _ k in
      elements_known ds q y _ v.0 (binder_sort_known s uses.0) (binders_known a (y.num ∷ vs) qs (y ∷ xs) ps below.1 uses.1)
  binders_known (Bind2 q p ss a) vs qs xs ps h k =
      let names = form_names ds ks in
      let v = predicate_there ds ks few (text_at bytes p) p.start (λ n. option_or (unknown_of_by bytes (found_in ds ks) vs qs ss) (refused bytes (found_in ds ks) vs (n ∷ qs) a)) h in
      let below = neither (unknown_of_by bytes (found_in ds ks) vs qs ss) _ v.1 in
      let y : PVar = record { num = num_of_by names (text_at bytes p); args = sort_numbers_by bytes (found_in ds ks) ss } in
      let uses = neither (no_sort_in_by bytes names ss) _ k in
      tables_known ds q y _ v.0 (sorts_known ss uses.0) (binders_known a vs (y.num ∷ qs) xs (y ∷ ps) below.1 uses.1)
  binders_known (Binary op l r) vs qs xs ps h k =
      let a = neither (refused bytes (found_in ds ks) vs qs l) _ h in
      let b = neither (wrong_by bytes (form_names ds ks) xs ps l) _ k in
      joined_known ds op _ _ (binders_known l vs qs xs ps a.0 b.0) (binders_known r vs qs xs ps a.1 b.1)
  binders_known (Paren a) vs qs xs ps h k = binders_known a vs qs xs ps h k

-- a formula that some text spells can be read
pub spelled_readable : SpelledFormIsSorted → FormSpelledIsReadable
spelled_readable law ds ks xs ps bytes f usual h = record {
  names = usual.names;
  binders = ap (has_known_binders ds) h.numbered ∙ binders_known ds ks usual.few usual.obj bytes h.tree (numbers xs) (pred_numbers ps) xs ps h.well_named.named h.well_sorted;
  well_sorted = law ds ks xs ps bytes f h;
}

-- so its printed text spells it
pub reads_back_where_some : SpelledFormIsSorted → FormReadsBackWhereSome
reads_back_where_some law ds ks xs ps bytes f usual h = form_reads_back ds ks xs ps f (spelled_readable law ds ks xs ps bytes f usual h)
