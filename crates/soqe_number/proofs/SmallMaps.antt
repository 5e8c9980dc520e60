-- What a few entries in front of others say of each number, before and after a value is set.
use Rattle.std.proofs.Common.{◌≡◌, ℕ, zero, suc, Bool, true, false, cond, eqb, List, [], ◌∷◌, ◌++◌, set, get_or, Some, refl, sym, ◌∙◌, ap, subst, arith}
use Rattle.std.specs.Map.{lookup}
use Rattle.std.proofs.lemmas.Bool.{eqb-true, eqb-false}
use Rattle.std.proofs.lemmas.List.{append_assoc}
use Rattle.soqe_number.specs.SmallMap.{HasNone, IsPlaceOf, Sets}
use Rattle.soqe_number.proofs.Equalities.{eqb_sym}

pub lookup-behind : (n : ℕ) (few others : List (ℕ × ℕ)) → HasNone n few → lookup (eqb n) (few ++ others) ≡ lookup (eqb n) others
lookup-behind n [] others h = refl
lookup-behind n (e ∷ es) others h =
    ap (λ b. cond b (Some e.1) (lookup (eqb n) (es ++ others))) (h 0 (omega arith)) ∙ lookup-behind n es others (λ k l. h (suc k) (omega (arith, l)))

place-behind : (n : ℕ) (e : ℕ × ℕ) (es : List (ℕ × ℕ)) (i : ℕ) → IsPlaceOf n (e ∷ es) (suc i) → IsPlaceOf n es i
place-behind n e es i p = record { within = omega (arith, p.within); here = p.here; before = λ k l. p.before (suc k) (omega (arith, l)) }

pub lookup-at : (n : ℕ) (few others : List (ℕ × ℕ)) (i : ℕ) → IsPlaceOf n few i → lookup (eqb n) (few ++ others) ≡ Some (get_or few i (0, 0)).1
lookup-at n [] others i p = absurd (omega (arith, p.within))
lookup-at n (e ∷ es) others zero p = ap (λ b. cond b (Some e.1) (lookup (eqb n) (es ++ others))) p.here
lookup-at n (e ∷ es) others (suc i) p =
    ap (λ b. cond b (Some e.1) (lookup (eqb n) (es ++ others))) (p.before 0 (omega arith)) ∙ lookup-at n es others i (place-behind n e es i p)

cond_swap : {A : Type 0} (a b : Bool) (v w x : A) → (a ≡ true → b ≡ true → ⊥) → cond a v (cond b w x) ≡ cond b w (cond a v x)
cond_swap true true v w x h = absurd (h refl refl)
cond_swap true false v w x h = refl
cond_swap false b v w x h = refl

cond_again : {A : Type 0} (b : Bool) (v w x : A) → cond b v x ≡ cond b v (cond b w x)
cond_again true v w x = refl
cond_again false v w x = refl

-- a value is set behind an entry of another number
sets-after : (n value : ℕ) (e : ℕ × ℕ) (old new : List (ℕ × ℕ)) → eqb n e.0 ≡ false → Sets n value old new → Sets n value (e ∷ old) (e ∷ new)
sets-after n value e old new h k =
    λ q. ap (cond (eqb q e.0) (Some e.1)) (k q)
    ∙ cond_swap (eqb q e.0) (eqb n q) (Some e.1) (Some value) (lookup (eqb q) old) (λ a b. eqb-false n e.0 h (eqb-true n q b ∙ eqb-true q e.0 a))

pub sets-behind : (n value : ℕ) (few old new : List (ℕ × ℕ)) → HasNone n few → Sets n value old new → Sets n value (few ++ old) (few ++ new)
sets-behind n value [] old new h k = k
sets-behind n value (e ∷ es) old new h k =
    sets-after n value e (es ++ old) (es ++ new) (h 0 (omega arith)) (sets-behind n value es old new (λ j l. h (suc j) (omega (arith, l))) k)

pub sets-pushed : (n value : ℕ) (few others : List (ℕ × ℕ)) → HasNone n few → Sets n value (few ++ others) ((few ++ (n, value) ∷ []) ++ others)
sets-pushed n value few others h =
    subst (Sets n value (few ++ others)) (sym (append_assoc few ((n, value) ∷ []) others))
    (sets-behind n value few others ((n, value) ∷ others) h (λ q. ap (λ b. cond b (Some value) (lookup (eqb q) others)) (eqb_sym q n)))

pub sets-put : (n value : ℕ) (few others : List (ℕ × ℕ)) (i : ℕ) → IsPlaceOf n few i → Sets n value (few ++ others) (set few i (n, value) ++ others)
sets-put n value [] others i p = absurd (omega (arith, p.within))
sets-put n value (e ∷ es) others zero p =
    λ q. let rest = lookup (eqb q) (es ++ others) in
    ap (λ b. cond b (Some value) rest) (eqb_sym q n) ∙ cond_again (eqb n q) (Some value) (Some e.1) rest
    ∙ ap (λ b. cond (eqb n q) (Some value) (cond b (Some e.1) rest)) (eqb_sym n q ∙ ap (eqb q) (eqb-true n e.0 p.here))
sets-put n value (e ∷ es) others (suc i) p =
    sets-after n value e (es ++ others) (set es i (n, value) ++ others) (p.before 0 (omega arith)) (sets-put n value es others i (place-behind n e es i p))
