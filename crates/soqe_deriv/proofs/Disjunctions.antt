-- Disjunctions of a list of formulas: one of them is replaced, or a quantifier of a predicate is drawn in.
use Rattle.std.proofs.Common.{◌≡◌, ℕ, zero, suc, Bool, true, false, ◌||◌, ◌&&◌, map, List, [], ◌∷◌, ◌++◌, refl, sym, ◌∙◌, ap}
use Rattle.std.proofs.lemmas.Bool.{and_parts, and_from}
use Rattle.soqe_term.specs.World.{World, with_bound}
use Rattle.soqe_number.specs.Finite.{some_list, product, entry}
use Rattle.soqe_term.specs.Sorting.{Sorting, over_bound}
use Rattle.soqe_number.proofs.Enumerations.{some_list-same}
use Rattle.soqe_term.proofs.Values.{fits-bound}
use Rattle.soqe_form.specs.declared.form.PVar.{PVar}
use Rattle.soqe_form.specs.declared.form.Form.{Form, Ex2}
use Rattle.soqe_form.specs.Boxes.{boxes}
use Rattle.soqe_form.specs.Sorted.{sorted}
use Rattle.soqe_form.specs.Truth.{truth}
use Rattle.soqe_norm.specs.Folds.{any_of}
use Rattle.soqe_norm.proofs.Folded.{any_passes, all_pass, truth-any, sorted-any}
use Rattle.soqe_norm.proofs.CaseNames.{any_passes-append, all_pass-append}
use Rattle.soqe_deriv.proofs.Meanings.{Means}

or_exchanged : (a b c d : Bool) → ((a || b) || (c || d)) ≡ ((a || c) || (b || d))
or_exchanged true b c d = refl
or_exchanged false true true d = refl
or_exchanged false true false d = refl
or_exchanged false false c d = refl

-- ---- tests of a list of formulas

any-map : (h : Form → Bool) (k : Form → Form) (fs : List Form) → any_passes h (map k fs) ≡ any_passes (λ f. h (k f)) fs
any-map h k [] = refl
any-map h k (f ∷ fs) = ap (λ b. h (k f) || b) (any-map h k fs)

all-map : (h : Form → Bool) (k : Form → Form) (fs : List Form) → all_pass h (map k fs) ≡ all_pass (λ f. h (k f)) fs
all-map h k [] = refl
all-map h k (f ∷ fs) = ap (λ b. h (k f) && b) (all-map h k fs)

-- ---- one formula of a disjunction is replaced

truth-part : (w : World) (fs gs : List Form) (f : Form) → truth w (any_of (fs ++ f ∷ gs)) ≡ (any_passes (truth w) fs || (truth w f || any_passes (truth w) gs))
truth-part w fs gs f = truth-any w (fs ++ f ∷ gs) ∙ any_passes-append (truth w) fs (f ∷ gs)

sorted-part : (e : Sorting) (fs gs : List Form) (f : Form) → sorted e (any_of (fs ++ f ∷ gs)) ≡ (all_pass (sorted e) fs && (sorted e f && all_pass (sorted e) gs))
sorted-part e fs gs f = sorted-any e (fs ++ f ∷ gs) ∙ all_pass-append (sorted e) fs (f ∷ gs)

-- g takes the place of f in a disjunction, where it has the truth of f
pub means-part : (e : Sorting) (fs gs : List Form) (f g h : Form) → (sorted e f ≡ true → Means e g f) → Means e (any_of (fs ++ f ∷ gs)) h → Means e (any_of (fs ++ g ∷ gs)) h
means-part e fs gs f g h k m =
    let parts = and_parts (all_pass (sorted e) fs) (sorted e f && all_pass (sorted e) gs) (sym (sorted-part e fs gs f) ∙ m.well) in
    let behind = and_parts (sorted e f) (all_pass (sorted e) gs) parts.1 in
    let by = k behind.0 in
    record {
      well = sorted-part e fs gs g
          ∙ and_from (all_pass (sorted e) fs) (sorted e g && all_pass (sorted e) gs) parts.0 (and_from (sorted e g) (all_pass (sorted e) gs) by.well behind.1);
      alike = λ w fit. truth-part w fs gs g ∙ ap (λ b. any_passes (truth w) fs || (b || any_passes (truth w) gs)) (by.alike w fit)
          ∙ sym (truth-part w fs gs f) ∙ m.alike w fit;
    }

-- ---- a quantifier of a predicate is drawn in

some_list-none : (n : ℕ) → some_list n (λ t. false) ≡ false
some_list-none zero = refl
some_list-none (suc n) = λ i. some_list-none n i || some_list-none n i

some_list-or : (n : ℕ) (p q : List Bool → Bool) → some_list n (λ t. p t || q t) ≡ (some_list n p || some_list n q)
some_list-or zero p q = refl
some_list-or (suc n) p q =
    (λ i. some_list-or n (λ t. p (true ∷ t)) (λ t. q (true ∷ t)) i || some_list-or n (λ t. p (false ∷ t)) (λ t. q (false ∷ t)) i)
    ∙ or_exchanged (some_list n (λ t. p (true ∷ t))) (some_list n (λ t. q (true ∷ t))) (some_list n (λ t. p (false ∷ t))) (some_list n (λ t. q (false ∷ t)))

some_list-any : (n : ℕ) (h : List Bool → Form → Bool) (fs : List Form) → some_list n (λ t. any_passes (h t) fs) ≡ any_passes (λ f. some_list n (λ t. h t f)) fs
some_list-any n h [] = some_list-none n
some_list-any n h (f ∷ fs) = some_list-or n (λ t. h t f) (λ t. any_passes (h t) fs) ∙ ap (λ b. some_list n (λ t. h t f) || b) (some_list-any n h fs)

-- some table makes some formula true exactly where some formula is true for some table
pub truth-drawn : (p : PVar) (fs : List Form) (w : World) → truth w (any_of (map (Ex2 p) fs)) ≡ truth w (Ex2 p (any_of fs))
unfolding boxes
truth-drawn p fs w =
    let n = product (map w.size p.args) in
    let at = λ (t : List Bool). with_bound w p.num (entry (map w.size p.args) t) in
    truth-any w (map (Ex2 p) fs) ∙ any-map (truth w) (Ex2 p) fs ∙ sym (some_list-any n (λ t. truth (at t)) fs)
    ∙ sym (some_list-same n (λ t. truth (at t) (any_of fs)) (λ t. any_passes (truth (at t)) fs) (λ t l. truth-any (at t) fs))

sorted-drawn : (e : Sorting) (p : PVar) (fs : List Form) → sorted e (any_of (map (Ex2 p) fs)) ≡ sorted (over_bound e p.num p.args) (any_of fs)
unfolding boxes
sorted-drawn e p fs = sorted-any e (map (Ex2 p) fs) ∙ all-map (sorted e) (Ex2 p) fs ∙ sym (sorted-any (over_bound e p.num p.args) fs)

-- a formula below the quantifier of a predicate is replaced by one of its truth there
pub means-ex2 : (e : Sorting) (p : PVar) (f g : Form) → Means (over_bound e p.num p.args) f g → Means e (Ex2 p f) (Ex2 p g)
unfolding boxes
means-ex2 e p f g m = record {
  well = m.well;
  alike = λ w fit. some_list-same (product (map w.size p.args)) (λ t. truth (with_bound w p.num (entry (map w.size p.args) t)) f) (λ t. truth (with_bound w p.num (entry (map w.size p.args) t)) g)
      (λ t l. m.alike (with_bound w p.num (entry (map w.size p.args) t)) (fits-bound w e p.num p.args (entry (map w.size p.args) t) fit));
}

-- the quantifier before a formula is drawn in to the formulas of a disjunction of its truth
pub means-drawn : (e : Sorting) (p : PVar) (fs : List Form) (f : Form) → Means (over_bound e p.num p.args) (any_of fs) f → Means e (any_of (map (Ex2 p) fs)) (Ex2 p f)
means-drawn e p fs f m = record {
  well = sorted-drawn e p fs ∙ m.well;
  alike = λ w fit. truth-drawn p fs w ∙ (means-ex2 e p (any_of fs) f m).alike w fit;
}
