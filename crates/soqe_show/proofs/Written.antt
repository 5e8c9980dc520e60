-- One text written behind another.
use Rattle.std.proofs.Common.{◌≡◌, ◌++◌, ◌∙◌, ap, append_assoc}
use Rattle.soqe_show.specs.Printed.{Text}

-- a, and then b
pub joined : (start a b : Text) {middle last : Text} → middle ≡ start ++ a → last ≡ middle ++ b → last ≡ start ++ (a ++ b)
joined start a b p q = q ∙ ap (λ t. t ++ b) p ∙ append_assoc start a b
