-- Terms under other numbers are the same as the terms where each new number is a pair with the old one.
use Rattle.std.proofs.Common.{◌≡◌, ◌≢◌, ℕ, Bool, true, false, cond, eqb, ◌||◌, ◌&&◌, List, ◌∷◌, refl, sym, ◌∙◌, ap}
use Rattle.std.proofs.lemmas.Bool.{ne_eqb, or_left, or_right, both_ways, and_from}
use Rattle.soqe_term.specs.declared.term.Term.{Term, Var as var, App}
use Rattle.soqe_term.specs.declared.term.Terms.{Terms, Nil, Cons', end_of-Term as end-t, more_of-Term as one-t, end_of-Terms as ends-t, more_of-Terms as ones-t}
use Rattle.soqe_term.specs.Boxes.{boxes as term_boxes}
use Rattle.soqe_number.specs.Updates.{changed}
use Rattle.soqe_term.specs.Occurs.{occurs, occurs_any}
use Rattle.soqe_term.specs.Equal.{equal_symbols}
use Rattle.soqe_term.specs.Renumber.{renumbered, all_renumbered}
use Rattle.soqe_term.proofs.Worlds.{eqb-self}
use Rattle.soqe_term.proofs.EqualTerms.{equal_symbols-refl}
use Rattle.soqe_form.specs.Same.{related, same_term, same_terms}

-- each number that passes is named the same as its new number
abbrev pub Named : List (ℕ × ℕ) → (ℕ → ℕ) → (ℕ → Bool) → Type 0
Named vs r p = (m : ℕ) → p m ≡ true → related vs (r m) m ≡ true

pub named-left : (vs : List (ℕ × ℕ)) (r : ℕ → ℕ) (p q : ℕ → Bool) → Named vs r (λ m. p m || q m) → Named vs r p
named-left vs r p q h m o = h m (or_left (p m) (q m) o)

pub named-right : (vs : List (ℕ × ℕ)) (r : ℕ → ℕ) (p q : ℕ → Bool) → Named vs r (λ m. p m || q m) → Named vs r q
named-right vs r p q h m o = h m (or_right (p m) (q m) o)

mutual
  unfolding term_boxes

  pub same_term-renumbered : (vs : List (ℕ × ℕ)) (r : ℕ → ℕ) (t : Term) → Named vs r (λ m. occurs m t) → same_term vs (renumbered r t) t ≡ true
  same_term-renumbered vs r (var x) h = and_from (eqb x.sort x.sort) (related vs (r x.num) x.num) (eqb-self x.sort) (h x.num (eqb-self x.num))
  same_term-renumbered vs r (App f s ts) h =
      and_from (equal_symbols f f) (eqb s s && same_terms vs (all_renumbered r ts) ts) (equal_symbols-refl f)
      (and_from (eqb s s) (same_terms vs (all_renumbered r ts) ts) (eqb-self s) (same_terms-renumbered vs r ts h))

  pub same_terms-renumbered : (vs : List (ℕ × ℕ)) (r : ℕ → ℕ) (ts : Terms) → Named vs r (λ m. occurs_any m ts) → same_terms vs (all_renumbered r ts) ts ≡ true
  same_terms-renumbered vs r Nil h = refl
  same_terms-renumbered vs r (Cons' _ (one-t t end-t) _ (ones-t ts ends-t)) h =
      and_from (same_term vs (renumbered r t) t) (same_terms vs (all_renumbered r ts) ts)
      (same_term-renumbered vs r t (named-left vs r (λ m. occurs m t) (λ m. occurs_any m ts) h)) (same_terms-renumbered vs r ts (named-right vs r (λ m. occurs m t) (λ m. occurs_any m ts) h))

named_step : (p q s : Bool) → p ≡ q → (q ≡ false → s ≡ true) → cond (p || q) (p && q) s ≡ true
named_step true true s e h = refl
named_step true false s e h = let e : true ≡ false = e in cc
named_step false true s e h = let e : false ≡ true = e in cc
named_step false false s e h = h refl

-- below a binder of x that gets the number n, which is that of no other variable
pub named-under : (vs : List (ℕ × ℕ)) (r : ℕ → ℕ) (x n : ℕ) (p : ℕ → Bool) → Named vs r (λ m. cond (eqb m x) false (p m)) → ((m : ℕ) → cond (eqb m x) false (p m) ≡ true → r m ≢ n)
    → Named ((n, x) ∷ vs) (changed r x n) p
named-under vs r x n p h c m o = choose (eqb m x) refl
  where
    choose : (b : Bool) → eqb m x ≡ b → related ((n, x) ∷ vs) (cond b n (r m)) m ≡ true
    choose true e = named_step (eqb n n) (eqb m x) (related vs n m) (eqb-self n ∙ sym e) (λ d. absurd (both_ways (eqb m x) d e))
    choose false e =
        let q : cond (eqb m x) false (p m) ≡ true = ap (λ b. cond b false (p m)) e ∙ o in
        named_step (eqb (r m) n) (eqb m x) (related vs (r m) m) (ne_eqb (r m) n (c m q) ∙ sym e) (λ d. h m q)
