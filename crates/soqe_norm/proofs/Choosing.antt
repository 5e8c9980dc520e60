-- How numbers are chosen for binders: one after another, each search for a new one beginning where the last ended.
use Rattle.std.proofs.Common.{◌≡◌, ℕ, ◌<◌, Bool, true, false, cond, eqb, not, ◌||◌, List, [], ◌∷◌, ◌++◌, refl, sym, ◌∙◌, ap, subst, arith}
use Rattle.std.specs.Bool.{MatchBool}
use Rattle.std.proofs.lemmas.List.Folds.{list_any-append}
use Rattle.soqe_term.specs.declared.term.Var.{Var}
use Rattle.soqe_number.specs.Updates.{changed}
use Rattle.soqe_number.specs.Unused.{member}
use Rattle.soqe_form.specs.declared.form.Form.{Form}
use Rattle.soqe_number.specs.Marks.{marked, Adds, IsLeastWithout}
use Rattle.soqe_form.specs.FreeVars.{free_vars, is_among}
use Rattle.soqe_form.proofs.FreeVariables.{is_among-free_vars}
use Rattle.soqe_form.proofs.Numbers.{least-one}
use Rattle.soqe_norm.specs.Apart.{binders, renumbered, IsLeast, IsChoice, AreChoices, taken_first, IsApart}

least-without : (p : ℕ → Bool) (n : ℕ) → IsLeast p n → IsLeastWithout (λ m. not (p m)) n
least-without p n l = record { fails = ap not l.passes; below = λ m h. ap not (l.least m h) }

-- one number is the least
pub one-least : (p : ℕ → Bool) (m n : ℕ) → IsLeast p m → IsLeast p n → m ≡ n
one-least p m n h k = least-one (λ k. not (p k)) m n (least-without p m h) (least-without p n k)

-- the least number without a mark, where all taken and all standing numbers have one
least_choice : (taken used standing : ℕ → Bool) (n : ℕ) → used ≡ (λ m. taken m || standing m) → IsLeastWithout used n → IsLeast (λ m. not (taken m || standing m)) n
least_choice taken used standing n e l = record {
  passes = ap (λ u. not (u n)) (sym e) ∙ ap not l.fails;
  least = λ m h. ap (λ u. not (u m)) (sym e) ∙ ap not (l.below m h);
}

pub choice_made : (taken used standing : ℕ → Bool) (b n : ℕ) → used ≡ (λ m. taken m || standing m) → MatchBool (taken b) (IsLeastWithout used n) (n ≡ b) → IsChoice taken standing b n
choice_made taken used standing b n e c = choose (taken b) c
  where
    choose : (t : Bool) → MatchBool t (IsLeastWithout used n) (n ≡ b) → MatchBool t (IsLeast (λ m. not (taken m || standing m)) n) (n ≡ b)
    choose true c = least_choice taken used standing n e c
    choose false c = c

pub or_swap : (a b c : Bool) → ((a || b) || c) ≡ (b || (a || c))
or_swap true true c = refl
or_swap true false c = refl
or_swap false true c = refl
or_swap false false c = refl

-- one more binder
pub choices-push : (t s : ℕ → Bool) (bs ns : List ℕ) (b n : ℕ) → AreChoices t s bs ns → IsChoice (λ m. member m ns || t m) s b n → AreChoices t s (bs ++ b ∷ []) (ns ++ n ∷ [])
choices-push t s [] [] b n c d = (d, tt)
choices-push t s [] (k ∷ ns) b n c d = absurd c
choices-push t s (a ∷ bs) [] b n c d = absurd c
choices-push t s (a ∷ bs) (k ∷ ns) b n c d = (
  c.0,
  choices-push (λ m. eqb m k || t m) s bs ns b n c.1 (subst (λ p. IsChoice p s b n) (λ i m. or_swap (eqb m k) (member m ns) (t m) i) d),
)

-- Numbers were chosen for the first binders: these are taken now, and all numbers below the next one to try are used.
pub record Chosen (first : ℕ → Bool) (all bs ns : List ℕ) (now marks : ℕ → Bool) (next : ℕ) : Type 0 where
  pub choices : AreChoices first (λ m. member m all) bs ns
  pub taken : now ≡ (λ m. member m ns || first m)
  pub used : marks ≡ (λ m. now m || member m all)
  pub below : (k : ℕ) → k < next → marks k ≡ true

pub chosen_none : (first used : ℕ → Bool) (all : List ℕ) → used ≡ (λ m. first m || member m all) → Chosen first all [] [] first used 0
chosen_none first used all e = record {
  choices = tt;
  taken = refl;
  used = e;
  below = λ k h. absurd (omega arith);
}

pub pushed : (e a f : Bool) → cond e true (a || f) ≡ ((a || (e || false)) || f)
pushed true true f = refl
pushed true false f = refl
pushed false true f = refl
pushed false false f = refl

over : (e t s : Bool) → cond e true (t || s) ≡ (cond e true t || s)
over true t s = refl
over false t s = refl

pub still : (e u : Bool) → u ≡ true → cond e true u ≡ true
still true u h = refl
still false u h = h

-- a number for one more binder
pub chosen_more : (first : ℕ → Bool) (all bs ns : List ℕ) (taken used : ℕ → Bool) (next b n : ℕ) (taken' used' : ℕ → Bool) (next' : ℕ) → Chosen first all bs ns taken used next
    → MatchBool (taken b) (IsLeastWithout used n) (n ≡ b) → ((k : ℕ) → k < next' → used k ≡ true) → taken' ≡ changed taken n true → used' ≡ changed used n true
    → Chosen first all (bs ++ b ∷ []) (ns ++ n ∷ []) taken' used' next'
chosen_more first all bs ns taken used next b n taken' used' next' c d below t u = record {
  choices = choices-push first (λ m. member m all) bs ns b n c.choices (subst (λ p. IsChoice p (λ m. member m all) b n) c.taken (choice_made taken used (λ m. member m all) b n c.used d));
  taken =
      t ∙ (λ i m. cond (eqb m n) true (c.taken i m)) ∙ (λ i m. pushed (eqb m n) (member m ns) (first m) i)
      ∙ (λ i m. sym (list_any-append (λ k. eqb m k) ns (n ∷ [])) i || first m);
  used = u ∙ (λ i m. cond (eqb m n) true (c.used i m)) ∙ (λ i m. over (eqb m n) (taken m) (member m all) i) ∙ (λ i m. sym t i m || member m all);
  below = λ k l. ap (λ f. f k) u ∙ still (eqb k n) (used k) (below k l);
}

or_no : (b : Bool) → (b || false) ≡ b
or_no true = refl
or_no false = refl

-- the numbers that are taken from the start got the only marks
pub first_taken : (keep : List ℕ) (f : Form) (vars : List Var) (a b : List (ℕ × Bool)) → vars ≡ free_vars f → marked a ≡ (λ n. false) → Adds (λ n. member n keep || is_among vars n) a b
    → marked b ≡ taken_first keep f
first_taken keep f vars a b e h k =
    k.is ∙ (λ i n. (member n keep || is_among (e i) n) || h i n) ∙ (λ i n. or_no (member n keep || is_among (free_vars f) n) i)
    ∙ (λ i n. member n keep || is_among-free_vars f n i)

-- the formula with the chosen numbers
pub apart_made : (keep : List ℕ) (f : Form) (numbers items : List ℕ) (r : ℕ → ℕ) (made : Form) → AreChoices (taken_first keep f) (λ n. member n (binders f)) (binders f) numbers
    → items ≡ numbers → r ≡ (λ n. n) → made ≡ renumbered items r 0 f → IsApart keep f made
apart_made keep f numbers items r made c e h k = record {
  numbers = numbers;
  chosen = c;
  is = k ∙ (λ i. renumbered (e i) (h i) 0 f);
}
