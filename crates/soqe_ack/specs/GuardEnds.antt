-- What the search for a guard's parts ends with.
use Rattle.std.specs.Prelude.{◌↔◌, ◌≡◌, Bool, true, List, Some}
use Rattle.soqe_term.specs.declared.term.Var.{Var}
use Rattle.soqe_term.specs.World.{World}
use Rattle.soqe_term.specs.Sorting.{Sorting}
use Rattle.soqe_term.specs.Fits.{Fits}
use Rattle.soqe_form.specs.declared.form.Pred.{Pred}
use Rattle.soqe_form.specs.declared.form.Form.{Form}
use Rattle.soqe_form.specs.Sorted.{sorted, pred_sorts}
use Rattle.soqe_form.specs.Truth.{truth}
use Rattle.soqe_ack.specs.declared.guarding.GuardEnd.{GuardEnd}
use Rattle.soqe_ack.specs.declared.guarding.GuardEnd.TheVariants.{Guard, NotGuard}
use Rattle.soqe_ack.specs.GuardLaws.{sorts_of, StandNowhere, AreDistinct, CoversAt}
use Rattle.soqe_ack.specs.Guards.{IsGuard}

-- the formula is a guard with this condition and this rest, or no condition and rest make it one
abbrev pub IsGuardEnd : Bool → Pred → List Var → Form → GuardEnd → Type 0
IsGuardEnd s q xs f (Guard c r) = IsGuard s q xs f c r
IsGuardEnd s q xs f NotGuard = (c r : Form) → IsGuard s q xs f c r → ⊥

-- the formula is true exactly where its rest is and, for all parameters at which its condition is, the literal of the sign is
abbrev pub EndSaysParts : Bool → Pred → List Var → Form → GuardEnd → Type 0
EndSaysParts s q xs f (Guard c r) = AreDistinct xs → StandNowhere xs f → (e : Sorting) → sorted e f ≡ true → pred_sorts e q ≡ Some (sorts_of xs)
    → (w : World) → Fits w e → (truth w f ≡ true) ↔ ((truth w r ≡ true) × CoversAt w s q xs c)
EndSaysParts s q xs f NotGuard = Unit {0}
