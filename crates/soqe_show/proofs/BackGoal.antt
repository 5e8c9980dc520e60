-- The goal of a problem that some text spells has known binders.
use Rattle.std.proofs.Common.{◌≡◌, ℕ, ◌<◌, ◌^◌, Bool, true, false, not, List, [], ◌∷◌, length, map, set, Option, Some, None, refl, ◌∙◌, ap, sym, true≢false}
use Rattle.std.specs.List.{list_all}
use Rattle.std.specs.Option.{option_or}
use Rattle.std.proofs.lemmas.Bool.{and_from}
use Rattle.soqe_syntax.specs.Grammar.{Tree, Constant, Atom, Equation, Not, Bind, Bind2, Binary, Paren, Plain, Applied}
use Rattle.soqe_term.specs.declared.term.Var.{Var}
use Rattle.soqe_signature.specs.Declarations.{Declaration, Found, lookup}
use Rattle.soqe_number.proofs.Choices.{and_first, and_second}
use Rattle.soqe_form.specs.declared.form.PVar.{PVar}
use Rattle.soqe_text.specs.Meanings.{found_by_tag, found_in}
use Rattle.soqe_text.specs.Naming.{sort_of_found}
use Rattle.soqe_text.specs.Uses.{num_of, num_of_found, is_no_sort}
use Rattle.soqe_show.specs.Printed.{Text}
use Rattle.soqe_show.specs.FormBack.{is_declared, is_small, has_known_binders}
use Rattle.soqe_show.proofs.BackKnown.{number_of}
use Rattle.soqe_show.proofs.BackNames.{Named}
use Rattle.soqe_show.proofs.BackUses.{is_sort, right_sort, sort_of_binder, IsRight}
use Rattle.soqe_show.proofs.BackNumbers.{form_of}
use Rattle.soqe_show.proofs.BackLookups.{Grows, variable_enters, predicate_enters, named_grows}
use Rattle.soqe_show.proofs.BackSpelled.{found_small, sort_there}
use Rattle.soqe_show.proofs.BackSpelledForms.{constant_known, not_known, equation_known, joined_known, elements_known, tables_known}

module _ (fs : List Declaration) (few : length fs < 2 ^ 64) (obj : is_declared fs 0 ≡ true) where
  -- a declared name is found among all names
  also_found : (x : Text) (f : Found) → lookup fs x ≡ Some f → found_in fs [] x ≡ Some f
  also_found x f known = ap (λ o. option_or o (found_by_tag fs [] x)) known

  number_known : (x : Text) (f : Found) → lookup fs x ≡ Some f → is_small (num_of fs x) ≡ true
  number_known x f known = ap (λ o. is_small (num_of_found o)) known ∙ found_small fs [] few x f (also_found x f known)

  sort_known : (s : Text) → is_sort fs s ≡ true → is_declared fs (number_of fs s) ≡ true
  sort_known s h = by (lookup fs s) refl h
    where
      no_sort : (b : Bool) → not b ≡ true → b ≡ false
      no_sort false h = refl
      no_sort true h = absurd (true≢false (sym h))

      by : (o : Option Found) → lookup fs s ≡ o → not (is_no_sort o) ≡ true → is_declared fs (sort_of_found o) ≡ true
      by None e h = absurd (true≢false (sym h))
      by (Some f) e h =
          ap (λ o. is_declared fs (sort_of_found o)) (sym (also_found s f e))
          ∙ sort_there fs [] few s (ap is_no_sort (also_found s f e) ∙ no_sort (is_no_sort (Some f)) h)

  binder_known : (s : Option Text) → right_sort fs s ≡ true → is_declared fs (sort_of_binder fs s) ≡ true
  binder_known None h = obj
  binder_known (Some s) h = sort_known s h

  sorts_known : (ss : List Text) → list_all (is_sort fs) ss ≡ true → list_all (is_declared fs) (map (number_of fs) ss) ≡ true
  sorts_known [] h = refl
  sorts_known (s ∷ ss) h = and_from _ _ (sort_known s (and_first (is_sort fs s) _ h)) (sorts_known ss (and_second (is_sort fs s) _ h))

  pub tree_known : (ds : List Declaration) (vs ps : List ℕ) (t : Tree Text) (new : List Declaration) → Named ds vs ps t new → Grows new fs
      → (sorts : List (Option ℕ)) (args : List (Option (List ℕ))) → IsRight fs sorts args t → has_known_binders fs (form_of fs sorts t) ≡ true
  tree_known ds vs ps (Constant b) new named grows sorts args h = constant_known fs b
  tree_known ds vs ps (Atom (Plain x)) new named grows sorts args h = refl
  tree_known ds vs ps (Atom (Applied x ts)) new named grows sorts args h = refl
  tree_known ds vs ps (Equation b sign l r) new named grows sorts args h = equation_known fs b _ _
  tree_known ds vs ps (Not a) new named grows sorts args h = not_known fs _ (tree_known ds vs ps a new named grows sorts args h)
  tree_known ds vs ps (Bind q x s a) new named grows sorts args h =
      let e = named.0 in
      let entered = variable_enters ds x e named.1 in
      let known = grows x entered.found (named_grows e.declared (e.num ∷ vs) ps a new named.3 x entered.found entered.known) in
      let y : Var = record { num = num_of fs x; sort = sort_of_binder fs s } in
      elements_known fs q y _ (number_known x entered.found known) (binder_known s h.0)
      (tree_known e.declared (e.num ∷ vs) ps a new named.3 grows (set sorts y.num (Some y.sort)) args h.1)
  tree_known ds vs ps (Bind2 q p ss a) new named grows sorts args h =
      let e = named.0 in
      let entered = predicate_enters ds p e named.1 in
      let known = grows p entered.found (named_grows e.declared vs (e.num ∷ ps) a new named.3 p entered.found entered.known) in
      let y : PVar = record { num = num_of fs p; args = map (number_of fs) ss } in
      tables_known fs q y _ (number_known p entered.found known) (sorts_known ss h.0)
      (tree_known e.declared vs (e.num ∷ ps) a new named.3 grows sorts (set args y.num (Some y.args)) h.1)
  tree_known ds vs ps (Binary op l r) new named grows sorts args h =
      joined_known fs op _ _
      (tree_known ds vs ps l named.0 named.1 (λ n f k. grows n f (named_grows named.0 vs ps r new named.2 n f k)) sorts args h.0)
      (tree_known named.0 vs ps r new named.2 grows sorts args h.1)
  tree_known ds vs ps (Paren a) new named grows sorts args h = tree_known ds vs ps a new named grows sorts args h
