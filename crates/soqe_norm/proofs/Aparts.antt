-- The chosen numbers are distinct, not to be kept out and not those of free variables; what follows for the formula.
use Rattle.std.proofs.Common.{◌≡◌, ◌≢◌, ℕ, zero, suc, ◌+◌, ◌<◌, ◌≤◌, Bool, true, false, eqb, not, ◌||◌, List, [], ◌∷◌, length, refl, sym, ◌∙◌, ap, subst, arith, ⊎_elim}
use Rattle.std.specs.Prelude.{slice_index, All, AllPairs}
use Rattle.std.specs.Bool.{MatchBool}
use Rattle.std.proofs.lemmas.Bool.{eqb-true, or_cases, eqb-false, not-true, both_ways}
use Rattle.std.proofs.lemmas.List.{get_or_default}
use Rattle.std.proofs.lemmas.List.Elements.{All-from_get_or, All-head, All-tail}
use Rattle.std.proofs.lemmas.List.Folds.{list_any_none}
use Rattle.soqe_term.specs.World.{World}
use Rattle.soqe_term.specs.Sorting.{Sorting}
use Rattle.soqe_number.specs.Unused.{member}
use Rattle.soqe_number.proofs.Choices.{or_none_first, or_none_second}
use Rattle.soqe_term.proofs.Worlds.{eqb-self}
use Rattle.soqe_form.specs.declared.form.Form.{Form}
use Rattle.soqe_form.specs.Truth.{truth}
use Rattle.soqe_form.specs.Free.{free, free_pred}
use Rattle.soqe_form.specs.Sorted.{sorted}
use Rattle.soqe_form.specs.Places.{has_blocks}
use Rattle.soqe_form.specs.Same.{same}
use Rattle.soqe_form.proofs.SameTruth.{truth-same}
use Rattle.soqe_form.proofs.SameSorted.{sorted-same}
use Rattle.soqe_form.proofs.SameNames.{free-same, free_pred-same}
use Rattle.soqe_form.proofs.SamePures.{blocks-same}
use Rattle.soqe_norm.specs.Nnf.{is_nnf}
use Rattle.soqe_norm.specs.Apart.{binders, IsLeast, IsChoice, AreChoices, taken_first, IsApart}
use Rattle.soqe_form.proofs.Numbers.{eqb-swap}
use Rattle.soqe_norm.proofs.Renumbered.{Distinct, Clear, span, same-renumbered, binders-renumbered, is_nnf-renumbered}

choice-free : (taken standing : ℕ → Bool) (b n : ℕ) → IsChoice taken standing b n → taken n ≡ false
choice-free taken standing b n c = choose (taken b) refl c
  where
    choose : (t : Bool) → taken b ≡ t → MatchBool t (IsLeast (λ m. not (taken m || standing m)) n) (n ≡ b) → taken n ≡ false
    choose true e c = or_none_first (taken n) (standing n) (not-true (taken n || standing n) c.passes)
    choose false e c = ap taken c ∙ e

pub choices-free : (taken standing : ℕ → Bool) (bs ns : List ℕ) → AreChoices taken standing bs ns → (k : ℕ) → k < length ns → taken (slice_index ns k) ≡ false
choices-free taken standing [] [] c k l = absurd (omega arith)
choices-free taken standing [] (n ∷ ns) c k l = absurd c
choices-free taken standing (b ∷ bs) [] c k l = absurd c
choices-free taken standing (b ∷ bs) (n ∷ ns) c zero l = choice-free taken standing b n c.0
choices-free taken standing (b ∷ bs) (n ∷ ns) c (suc k) l =
    or_none_second (eqb (slice_index ns k) n) (taken (slice_index ns k)) (choices-free (λ m. eqb m n || taken m) standing bs ns c.1 k (omega (arith, l)))

pub choices-distinct : (taken standing : ℕ → Bool) (bs ns : List ℕ) → AreChoices taken standing bs ns → Distinct ns
choices-distinct taken standing [] [] c i j l u = absurd (omega arith)
choices-distinct taken standing [] (n ∷ ns) c i j l u = absurd c
choices-distinct taken standing (b ∷ bs) [] c i j l u = absurd c
choices-distinct taken standing (b ∷ bs) (n ∷ ns) c zero zero l u = absurd (omega arith)
choices-distinct taken standing (b ∷ bs) (n ∷ ns) c (suc i) zero l u = absurd (omega arith)
choices-distinct taken standing (b ∷ bs) (n ∷ ns) c zero (suc j) l u =
    λ e. eqb-false (slice_index ns j) n (or_none_first (eqb (slice_index ns j) n) (taken (slice_index ns j)) (choices-free (λ m. eqb m n || taken m) standing bs ns c.1 j (omega (arith, u)))) (sym e)
choices-distinct taken standing (b ∷ bs) (n ∷ ns) c (suc i) (suc j) l u = choices-distinct (λ m. eqb m n || taken m) standing bs ns c.1 i j (omega (arith, l)) (omega (arith, u))

pub choices-length : (taken standing : ℕ → Bool) (bs ns : List ℕ) → AreChoices taken standing bs ns → length ns ≡ length bs
choices-length taken standing [] [] c = refl
choices-length taken standing [] (n ∷ ns) c = absurd c
choices-length taken standing (b ∷ bs) [] c = absurd c
choices-length taken standing (b ∷ bs) (n ∷ ns) c = ap suc (choices-length (λ m. eqb m n || taken m) standing bs ns c.1)

-- no number stands twice
abbrev pub Unlike : List ℕ → Type 0
Unlike [] = Unit {0}
Unlike (n ∷ ns) = (member n ns ≡ false) × Unlike ns

choices-unlike : (taken standing : ℕ → Bool) (bs ns : List ℕ) → AreChoices taken standing bs ns → Unlike ns
choices-unlike taken standing [] [] c = tt
choices-unlike taken standing [] (n ∷ ns) c = absurd c
choices-unlike taken standing (b ∷ bs) [] c = absurd c
choices-unlike taken standing (b ∷ bs) (n ∷ ns) c = (
  list_any_none (λ m. eqb n m) ns (All-from_get_or (λ m. eqb n m ≡ false) ns 0
      (λ k l. eqb-swap (slice_index ns k) n (or_none_first (eqb (slice_index ns k) n) (taken (slice_index ns k)) (choices-free (λ m. eqb m n || taken m) standing bs ns c.1 k l)))),
  choices-unlike (λ m. eqb m n || taken m) standing bs ns c.1,
)

-- what holds of each number of a list holds of each member
member-each : (P : ℕ → Type 0) (n : ℕ) (ns : List ℕ) → All P ns → member n ns ≡ true → P n
member-each P n [] h m = let m : false ≡ true = m in cc
member-each P n (k ∷ ns) h m = ⊎_elim (λ e. subst P (sym (eqb-true n k e)) (All-head P k ns h)) (λ e. member-each P n ns (All-tail P k ns h) e) (or_cases (eqb n k) (member n ns) m)

span-tail : (n : ℕ) (ns : List ℕ) (at count : ℕ) → span (n ∷ ns) (suc at) count ≡ span ns at count
span-tail n ns at zero = refl
span-tail n ns at (suc count) = ap (λ l. slice_index ns at ∷ l) (span-tail n ns (suc at) count)

span-whole : (ns : List ℕ) → span ns 0 (length ns) ≡ ns
span-whole [] = refl
span-whole (n ∷ ns) = ap (λ l. n ∷ l) (span-tail n ns 0 (length ns) ∙ span-whole ns)

module _ (keep : List ℕ) (f made : Form) (c : IsApart keep f made) where
  abbrev stays : ℕ → ℕ
  stays n = n

  sizes : length c.numbers ≡ length (binders f)
  sizes = choices-length (taken_first keep f) (λ n. member n (binders f)) (binders f) c.numbers c.chosen

  distinct : Distinct c.numbers
  distinct = choices-distinct (taken_first keep f) (λ n. member n (binders f)) (binders f) c.numbers c.chosen

  not_taken : (k : ℕ) → k < length c.numbers → taken_first keep f (slice_index c.numbers k) ≡ false
  not_taken k l = choices-free (taken_first keep f) (λ n. member n (binders f)) (binders f) c.numbers c.chosen k l

  not_kept : (k : ℕ) → k < length c.numbers → member (slice_index c.numbers k) keep ≡ false
  not_kept k l = or_none_first (member (slice_index c.numbers k) keep) (free (slice_index c.numbers k) f) (not_taken k l)

  not_free : (k : ℕ) → k < length c.numbers → free (slice_index c.numbers k) f ≡ false
  not_free k l = or_none_second (member (slice_index c.numbers k) keep) (free (slice_index c.numbers k) f) (not_taken k l)

  room : 0 + length (binders f) ≤ length c.numbers
  room = let e : length c.numbers ≡ length (binders f) = sizes in omega (arith, e)

  clear : Clear c.numbers stays 0 (length (binders f)) (λ m. free m f)
  clear m k h l u =
      let e : length c.numbers ≡ length (binders f) = sizes in
      λ q. both_ways (free m f) (ap (λ n. free n f) q ∙ not_free k (omega (arith, e, u))) h

  pub same-apart : same made f ≡ true
  same-apart = ap (λ g. same g f) c.is ∙ same-renumbered c.numbers [] [] stays 0 f distinct room clear (λ m h. eqb-self m) eqb-self

  pub truth-apart : (w : World) → truth w made ≡ truth w f
  truth-apart w = truth-same made f same-apart w

  pub sorted-apart : (e : Sorting) → sorted e made ≡ sorted e f
  sorted-apart e = sorted-same made f same-apart e

  pub free-apart : (n : ℕ) → free n made ≡ free n f
  free-apart n = free-same made f same-apart n

  pub free_pred-apart : (n : ℕ) → free_pred n made ≡ free_pred n f
  free_pred-apart n = free_pred-same made f same-apart n

  pub is_nnf-apart : is_nnf made ≡ is_nnf f
  is_nnf-apart = ap is_nnf c.is ∙ is_nnf-renumbered c.numbers stays 0 f

  pub has_blocks-apart : has_blocks made ≡ has_blocks f
  has_blocks-apart = blocks-same made f same-apart

  pub binders-apart : binders made ≡ c.numbers
  binders-apart = ap binders c.is ∙ binders-renumbered c.numbers stays 0 f ∙ ap (span c.numbers 0) (sym sizes) ∙ span-whole c.numbers

  -- what holds of each number in the list holds of each binder
  each : (P : ℕ → Type 0) → ((k : ℕ) → k < length c.numbers → P (slice_index c.numbers k)) → All P (binders made)
  each P h = subst (All P) (sym binders-apart) (λ k d l. subst P (get_or_default c.numbers k 0 d l) (h k l))

  pub distinct-apart : AllPairs (λ m n. m ≢ n) (binders made)
  distinct-apart = subst (AllPairs (λ m n. m ≢ n)) (sym binders-apart) pairs
    where
      pairs : AllPairs (λ m n. m ≢ n) c.numbers
      pairs i j d l u = λ e. distinct i j l u (get_or_default c.numbers i 0 d (omega (arith, l, u)) ∙ e ∙ get_or_default c.numbers j d 0 u)

  pub kept-apart : All (λ n. member n keep ≡ false) (binders made)
  kept-apart = each (λ n. member n keep ≡ false) not_kept

  pub bound-apart : All (λ n. free n made ≡ false) (binders made)
  bound-apart = each (λ n. free n made ≡ false) (λ k l. free-apart (slice_index c.numbers k) ∙ not_free k l)

  pub unlike-apart : Unlike (binders made)
  unlike-apart = subst Unlike (sym binders-apart) (choices-unlike (taken_first keep f) (λ n. member n (binders f)) (binders f) c.numbers c.chosen)

  pub bound-free-apart : (n : ℕ) → member n (binders made) ≡ true → free n made ≡ false
  bound-free-apart n m = member-each (λ k. free k made ≡ false) n (binders made) bound-apart m
