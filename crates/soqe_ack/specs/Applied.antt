-- What a try comes to.
use Rattle.std.specs.Prelude.{◌≡◌, ℕ, Bool, true, false, List, Option, Some, None}
use Rattle.soqe_term.specs.declared.term.Var.{Var}
use Rattle.soqe_term.specs.Sorting.{Sorting}
use Rattle.soqe_form.specs.declared.form.Pred.TheVariants.{Bound}
use Rattle.soqe_form.specs.declared.form.PVar.{PVar}
use Rattle.soqe_form.specs.declared.form.Form.{Form, Ex2}
use Rattle.soqe_form.specs.Alike.{AlikeIn}
use Rattle.soqe_form.specs.Free.{free_pred}
use Rattle.soqe_form.specs.Sorted.{sorted}
use Rattle.soqe_norm.specs.Folds.{case_form}
use Rattle.soqe_ack.specs.Acked.{IsAcked, IsStuck}
use Rattle.soqe_ack.specs.Signs.{is_pos}
use Rattle.soqe_ack.specs.Tries.{IsTried, IsNotReached}
use Rattle.soqe_ack.specs.declared.applying.Acked.{Acked}
use Rattle.soqe_ack.specs.declared.trying.Tried.{Tried}

-- the case without its predicate by the try of the sign, or none where a conjunct stands in the way
abbrev pub IsApplied : Bool → PVar → List ℕ → List Var → List Form → Option Acked → Type 0
IsApplied s p keep vars fs None = IsStuck s (Bound p.num) fs
IsApplied s p keep vars fs (Some a) = IsAcked s p keep vars fs a.params a.value a.form

-- the formula is true exactly where some table of the predicate makes the case true
abbrev pub AppliedIsAlike : PVar → List Var → List Form → Option Acked → Type 0
AppliedIsAlike p vars fs None = Unit {0}
AppliedIsAlike p vars fs (Some a) = (e : Sorting) → sorted e (Ex2 p (case_form vars fs)) ≡ true → AlikeIn e a.form (Ex2 p (case_form vars fs))

-- the formula is well sorted where the case is
abbrev pub AppliedIsSorted : PVar → List Var → List Form → Option Acked → Type 0
AppliedIsSorted p vars fs None = Unit {0}
AppliedIsSorted p vars fs (Some a) = (e : Sorting) → sorted e (Ex2 p (case_form vars fs)) ≡ true → sorted e a.form ≡ true

-- the formula lacks the predicate
abbrev pub AppliedLacks : PVar → List Var → List Form → Option Acked → Type 0
AppliedLacks p vars fs None = Unit {0}
AppliedLacks p vars fs (Some a) = (e : Sorting) → sorted e (Ex2 p (case_form vars fs)) ≡ true → free_pred p.num a.form ≡ false

-- the case without its predicate by the first try that succeeds, or none where none does
abbrev pub IsFirstTry : PVar → List ℕ → List Var → List Form → Option Tried → Type 0
IsFirstTry p keep vars fs None = IsNotReached p fs
IsFirstTry p keep vars fs (Some t) = IsTried p keep vars fs (is_pos t.sign) t.params t.value t.form
