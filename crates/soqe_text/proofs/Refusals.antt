-- A refusal that is passed on.
use Rattle.std.specs.Prelude.{ℕ, ◌≡◌, Result, Ok, Err}
use Rattle.std.proofs.Common.{sym, subst}
use Rattle.std.specs.Result.{IsErrAnd}
use Rattle.soqe_text.specs.declared.refused.Refused.{Refused}
use Rattle.soqe_text.specs.declared.refused.Refused.TheVariants as refusal
use Rattle.soqe_text.specs.Refused.{OnRefusedAt}

abbrev failed : (A : Type 0) → Refused → Result A Refused
failed A e = Err e

weaker : (A B : Type 0) (e : Refused) (P Q : ℕ → Type 0) → OnRefusedAt (failed A e) P → ((at : ℕ) → P at → Q at) → OnRefusedAt (failed B e) Q
weaker A B (refusal.At at) P Q h f = f at h
weaker A B refusal.Memory P Q h f = tt

-- What holds of the place of a refusal holds, or what follows from it, where `?` passes the refusal on.
pub passed_on : {A B : Type 0} (r : Result A Refused) (s : Result B Refused) (e : Refused) (P Q : ℕ → Type 0) → r ≡ failed A e → IsErrAnd s (λ y. y ≡ e)
    → OnRefusedAt r P → ((at : ℕ) → P at → Q at) → OnRefusedAt s Q
passed_on r (Ok x) e P Q was is h f = absurd is
passed_on {A = A} {B = B} r (Err y) e P Q was is h f =
    let there : OnRefusedAt (failed A e) P = subst (λ (r : Result A Refused). OnRefusedAt r P) was h in
    subst (λ (y : Refused). OnRefusedAt (failed B y) Q) (sym is) (weaker A B e P Q there f)
