-- The plan of four words, from what their last one is as a number.
use Rattle.std.proofs.Common.{◌≡◌, ℕ, ◌<◌, ◌≤◌, List, [], ◌∷◌, length, map, get_or, Option, sym, ◌∙◌, ap, subst, arith}
use Rattle.soqe_calls.specs.declared.words.Plan.{Plan}
use Rattle.soqe_calls.specs.Words.{IsSize, plan_named, IsPlanOf}

plan-of_size : (name call shape size : List ℕ) (n : ℕ) (plan : Option Plan) → IsSize size n → plan ≡ plan_named call shape n → IsPlanOf (name ∷ call ∷ shape ∷ size ∷ []) plan
unfolding IsPlanOf
plan-of_size name call shape size n plan h is = (λ m k. is ∙ ap (plan_named call shape) (h.1 ∙ sym k.1), λ none. absurd (none n h))

-- where the second, third and fourth word are a call, a shape and a size
pub plan-of_words : {A : Type 0} (f : A → List ℕ) (words : List A) (a b c : A) (call shape size : List ℕ) (n : ℕ) (plan : Option Plan) → 4 ≤ length words → length words < 5
    → a ≡ get_or words 1 a → b ≡ get_or words 2 b → c ≡ get_or words 3 c → call ≡ f a → shape ≡ f b → size ≡ f c
    → IsSize size n → plan ≡ plan_named call shape n → IsPlanOf (map f words) plan
plan-of_words f [] a b c call shape size n plan l m p q r s t u h is = absurd (omega arith)
plan-of_words f (v ∷ []) a b c call shape size n plan l m p q r s t u h is = absurd (omega arith)
plan-of_words f (v ∷ w ∷ []) a b c call shape size n plan l m p q r s t u h is = absurd (omega arith)
plan-of_words f (v ∷ w ∷ x ∷ []) a b c call shape size n plan l m p q r s t u h is = absurd (omega arith)
plan-of_words f (v ∷ w ∷ x ∷ y ∷ []) a b c call shape size n plan l m p q r s t u h is =
    plan-of_size (f v) (f w) (f x) (f y) n plan (subst (λ text. IsSize text n) (u ∙ ap f r) h)
    (is ∙ ap (λ call. plan_named call shape n) (s ∙ ap f p) ∙ ap (λ shape. plan_named (f w) shape n) (t ∙ ap f q))
plan-of_words f (v ∷ w ∷ x ∷ y ∷ z ∷ more) a b c call shape size n plan l m p q r s t u h is = absurd (omega arith)
