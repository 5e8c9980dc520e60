-- A Vec of frames as a stack.
use Rattle.std.proofs.Common.{◌≡◌, ◌-◌, ◌+◌, ◌<◌, length, take, sym, arith, List, [], ◌∷◌, ◌++◌, map, reverse, refl, ap, ◌∙◌}
use Rattle.std.proofs.lemmas.List.{reverse-append, map-append}
use Rattle.std.proofs.lemmas.List.{take_more}
use Rattle.std.proofs.Math.Seq.{take-length}
use Rattle.std.proofs.lemmas.Option.{get_or_from_slice_get, slice_get_within, slice_get-get_or}
use Rattle.std.specs.List.{slice_get}
use Rattle.std.specs.Prelude.{Some, None, ℕ}
use Rattle.soqe_parse.specs.declared.frame.Frame.{Frame}
use Rattle.soqe_parse.specs.Machine.{wants, asks}
use Rattle.soqe_parse.specs.Stack.{frame, stack_of, calls_of, call_view}
use Rattle.soqe_parse.specs.declared.frame.OpenCall.{OpenCall}

pub stack_of_push : (xs : List Frame) (x : Frame) → stack_of (xs ++ x ∷ []) ≡ frame x ∷ stack_of xs
unfolding stack_of
stack_of_push xs x = ap reverse (map-append frame xs (x ∷ [])) ∙ reverse-append (map frame xs) (frame x ∷ [])

pub stack_of_none : stack_of [] ≡ []
unfolding stack_of
stack_of_none = refl

last_is : (xs : List Frame) (x : Frame) → slice_get xs (length xs - 1) ≡ Some x → xs ≡ take (length xs - 1) xs ++ x ∷ []
last_is xs x e =
    let within = slice_get_within xs (length xs - 1) x e in
    let all : length xs ≡ (length xs - 1) + 1 = omega (arith, within) in
    sym (take-length xs) ∙ ap (λ (n : ℕ). take n xs) all ∙ take_more xs (length xs - 1) x within
    ∙ ap (λ (y : Frame). take (length xs - 1) xs ++ y ∷ []) (get_or_from_slice_get xs (length xs - 1) x x e)

pub wants_last : (xs : List Frame) (x : Frame) → slice_get xs (length xs - 1) ≡ Some x → asks (frame x) ≡ wants (stack_of xs)
wants_last xs x e = sym (ap wants (ap stack_of (last_is xs x e) ∙ stack_of_push (take (length xs - 1) xs) x))

pub wants_none : (xs : List Frame) → slice_get xs (length xs - 1) ≡ None → 0 ≡ wants (stack_of xs)
unfolding stack_of
wants_none [] e = refl
wants_none (x ∷ xs) e =
    let within : length (x ∷ xs) - 1 < length (x ∷ xs) = omega arith in
    let some = slice_get-get_or (x ∷ xs) (length (x ∷ xs) - 1) x within in
    absurd cc

pub calls_push : (xs : List OpenCall) (x : OpenCall) → calls_of (xs ++ x ∷ []) ≡ call_view x ∷ calls_of xs
unfolding calls_of
calls_push xs x = ap reverse (map-append call_view xs (x ∷ [])) ∙ reverse-append (map call_view xs) (call_view x ∷ [])

pub calls_none : calls_of [] ≡ []
unfolding calls_of
calls_none = refl
