-- The sorts at the binders of a printed formula are read back.
use Rattle.std.proofs.Common.{◌≡◌, ℕ, Bool, true, false, cond, not, eqb, List, [], ◌∷◌, map, Option, Some, None, refl, ap, sym, eqb-true}
use Rattle.std.specs.List.{list_all}
use Rattle.std.proofs.lemmas.Bool.{and_from}
use Rattle.soqe_signature.specs.declared.skolems.SkolemSig.{SkolemSig}
use Rattle.soqe_signature.specs.Declarations.{Declaration, HasDistinctNames}
use Rattle.soqe_number.proofs.Choices.{and_first, and_second}
use Rattle.soqe_text.specs.Meanings.{found_in, form_names}
use Rattle.soqe_text.specs.Naming.{is_usable, sort_of_found}
use Rattle.soqe_text.specs.Uses.{is_no_sort}
use Rattle.soqe_show.specs.Printed.{Text}
use Rattle.soqe_show.specs.Dress.{sort_name, written_sort}
use Rattle.soqe_show.specs.Placed.{AreWords_sort, AreWords_sorts}
use Rattle.soqe_show.specs.FormBack.{is_declared}
use Rattle.soqe_show.proofs.BackLookups.{are_ordinary}
use Rattle.soqe_show.proofs.BackKnown.{is_known_by, sort_known_by, number_of_by}
use Rattle.soqe_show.proofs.BackUses.{is_sort_by, right_sort_by, sort_of_binder_by}
use Rattle.soqe_show.proofs.BackFound.{sort_means}

-- The sort that is written at a binder is read as this one.
pub record ReadsSort (ds : List Declaration) (ks : List SkolemSig) (vs qs : List ℕ) (written : Option Text) (s : ℕ) : Type 0 where
  pub known : sort_known_by (found_in ds ks) vs qs written ≡ true
  pub right : right_sort_by (form_names ds ks) written ≡ true
  pub words : AreWords_sort written
  pub is : sort_of_binder_by (form_names ds ks) written ≡ s

-- The argument sorts that are written at a binder are read as these.
pub record ReadsSorts (ds : List Declaration) (ks : List SkolemSig) (vs qs : List ℕ) (written : List Text) (ss : List ℕ) : Type 0 where
  pub known : list_all (is_known_by (found_in ds ks) vs qs) written ≡ true
  pub right : list_all (is_sort_by (form_names ds ks)) written ≡ true
  pub words : AreWords_sorts written
  pub is : map (number_of_by (found_in ds ks)) written ≡ ss

module _ (ds : List Declaration) (ks : List SkolemSig) (distinct : HasDistinctNames ds) (ordinary : are_ordinary ds ≡ true) (vs qs : List ℕ) where
  pub sort_reads : (s : ℕ) → is_declared ds s ≡ true → ReadsSort ds ks vs qs (written_sort ds s) s
  sort_reads s h = by (eqb s 0) refl
    where
      by : (b : Bool) → eqb s 0 ≡ b → ReadsSort ds ks vs qs (cond b None (Some (sort_name ds s))) s
      by true e = record { known = refl; right = refl; words = tt; is = sym (eqb-true s 0 e) }
      by false e =
          let m = sort_means ds ks distinct ordinary s h in
          record { known = ap (is_usable vs qs) m.found; right = ap (λ o. not (is_no_sort o)) m.found; words = m.word; is = ap sort_of_found m.found }

  pub sorts_read : (ss : List ℕ) → list_all (is_declared ds) ss ≡ true → ReadsSorts ds ks vs qs (map (sort_name ds) ss) ss
  sorts_read [] h = record { known = refl; right = refl; words = tt; is = refl }
  sorts_read (s ∷ ss) h =
      let m = sort_means ds ks distinct ordinary s (and_first (is_declared ds s) _ h) in
      let rest = sorts_read ss (and_second (is_declared ds s) _ h) in
      record {
        known = and_from _ _ (ap (is_usable vs qs) m.found) rest.known;
        right = and_from _ _ (ap (λ o. not (is_no_sort o)) m.found) rest.right;
        words = (m.word, rest.words);
        is = (λ i. sort_of_found (m.found i) ∷ rest.is i);
      }
