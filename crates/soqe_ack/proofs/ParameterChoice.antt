-- Marks on what stands in the formulas of a list, and parameters chosen one after another, each search beginning where the
-- last ended.
use Rattle.std.proofs.Common.{◌≡◌, ℕ, ◌<◌, Bool, true, cond, eqb, not, ◌||◌, List, [], ◌∷◌, ◌++◌, ◌+◌, length, take, get_or, refl, sym, ◌∙◌, ap, subst, arith}
use Rattle.std.specs.List.{list_any}
use Rattle.std.proofs.lemmas.List.Folds.{list_any-append, list_any_more}
use Rattle.soqe_term.specs.declared.term.Var.{Var}
use Rattle.soqe_number.specs.Updates.{changed}
use Rattle.soqe_form.specs.declared.form.Form.{Form}
use Rattle.soqe_form.specs.FreeVars.{is_among}
use Rattle.soqe_number.specs.Marks.{Adds, IsLeastWithout}
use Rattle.soqe_form.specs.Mentions.{mentions}
use Rattle.soqe_number.proofs.Marked.{adds-two}
use Rattle.soqe_norm.specs.Apart.{IsLeast}
use Rattle.soqe_norm.proofs.Choosing.{or_swap, pushed, still}
use Rattle.soqe_ack.specs.Acked.{AreParameters}

-- one more formula
pub adds_form : (fs : List Form) (i : ℕ) (d : Form) (a b c : List (ℕ × Bool)) → i < length fs → Adds (λ n. list_any (λ f. mentions n f) (take i fs)) a b
    → Adds (λ n. mentions n (get_or fs i d)) b c → Adds (λ n. list_any (λ f. mentions n f) (take (i + 1) fs)) a c
adds_form fs i d a b c l h k =
    adds-two (λ n. list_any (λ f. mentions n f) (take i fs)) (λ n. mentions n (get_or fs i d)) (λ n. list_any (λ f. mentions n f) (take (i + 1) fs)) a b c
    (λ n. list_any_more (λ f. mentions n f) fs i d l) h k

-- one more parameter
parameters-push : (used : ℕ → Bool) (sorts : List ℕ) (xs : List Var) (s n : ℕ) → AreParameters used sorts xs → IsLeast (λ m. not (is_among xs m || used m)) n
    → AreParameters used (sorts ++ s ∷ []) (xs ++ record { num = n; sort = s } ∷ [])
parameters-push used [] [] s n h l = (refl, l, tt)
parameters-push used [] (x ∷ xs) s n h l = absurd h
parameters-push used (a ∷ sorts) [] s n h l = absurd h
parameters-push used (a ∷ sorts) (x ∷ xs) s n h l = (
  h.0,
  h.1,
  parameters-push (λ m. eqb m x.num || used m) sorts xs s n h.2 (subst (λ p. IsLeast p n) (λ i m. not (or_swap (eqb m x.num) (is_among xs m) (used m) i)) l),
)

-- Parameters were chosen for the first sorts: they have marks now, and so have all numbers below the next one to try.
pub record AreChosen (first : ℕ → Bool) (sorts : List ℕ) (xs : List Var) (now : ℕ → Bool) (next : ℕ) : Type 0 where
  pub parameters : AreParameters first sorts xs
  pub marks : now ≡ (λ n. is_among xs n || first n)
  pub below : (k : ℕ) → k < next → now k ≡ true

pub chosen_none : (first : ℕ → Bool) → AreChosen first [] [] first 0
chosen_none first = record {
  parameters = tt;
  marks = refl;
  below = λ k h. absurd (omega arith);
}

least : (first now : ℕ → Bool) (xs : List Var) (n : ℕ) → now ≡ (λ m. is_among xs m || first m) → IsLeastWithout now n → IsLeast (λ m. not (is_among xs m || first m)) n
least first now xs n e l = record {
  passes = ap (λ u. not (u n)) (sym e) ∙ ap not l.fails;
  least = λ m h. ap (λ u. not (u m)) (sym e) ∙ ap not (l.below m h);
}

pub chosen_more : (first : ℕ → Bool) (sorts : List ℕ) (xs : List Var) (now now' : ℕ → Bool) (next s n : ℕ) → AreChosen first sorts xs now next → IsLeastWithout now n
    → now' ≡ changed now n true → AreChosen first (sorts ++ s ∷ []) (xs ++ record { num = n; sort = s } ∷ []) now' n
chosen_more first sorts xs now now' next s n c l t = record {
  parameters = parameters-push first sorts xs s n c.parameters (least first now xs n c.marks l);
  marks =
      t ∙ (λ i m. cond (eqb m n) true (c.marks i m)) ∙ (λ i m. pushed (eqb m n) (is_among xs m) (first m) i)
      ∙ (λ i m. sym (list_any-append (λ x. eqb m x.num) xs (record { num = n; sort = s } ∷ [])) i || first m);
  below = λ k h. ap (λ f. f k) t ∙ still (eqb k n) (now k) (l.below k h);
}
