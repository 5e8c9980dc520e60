-- Formulas of one truth.
use Rattle.std.specs.Prelude.{◌≡◌}
use Rattle.soqe_term.specs.World.{World}
use Rattle.soqe_term.specs.Sorting.{Sorting}
use Rattle.soqe_term.specs.Fits.{Fits}
use Rattle.soqe_form.specs.declared.form.Form.{Form}
use Rattle.soqe_form.specs.Truth.{truth}

-- Two formulas have one truth in every world that fits what is known of the names. Equal truth in every world at all
-- would be too much: the entry of a table out of range is false, so `ex2 P. P(c)` is false where c lies out of range.
abbrev pub AlikeIn : Sorting → Form → Form → Type 0
AlikeIn e f g = (w : World) → Fits w e → truth w f ≡ truth w g
