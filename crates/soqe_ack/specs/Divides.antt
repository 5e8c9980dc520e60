-- How the code goes through the conjuncts of a case.
use Rattle.std.specs.Prelude.{◌≡◌, Bool, true, false, List, [], ◌∷◌, ◌++◌, Option, Some, None}
use Rattle.soqe_term.specs.declared.term.Var.{Var}
use Rattle.soqe_form.specs.declared.form.Pred.{Pred}
use Rattle.soqe_form.specs.declared.form.Form.{Form}
use Rattle.soqe_form.specs.FreePreds.{has_free}
use Rattle.soqe_form.specs.Mentions.{depth}
use Rattle.soqe_norm.specs.Joins.{with_or, or_onto}
use Rattle.soqe_norm.specs.Rises.{has_sign}
use Rattle.soqe_psub.specs.PredSubst.{pred_sub}
use Rattle.soqe_ack.specs.Acked.{AreConditions, IsStuck}
use Rattle.soqe_ack.specs.Guards.{IsGuard}
use Rattle.soqe_ack.specs.declared.dividing.Role.{Role}
use Rattle.soqe_ack.specs.declared.dividing.Role.TheVariants as role
use Rattle.soqe_ack.specs.declared.dividing.Share.{Share}
use Rattle.soqe_ack.specs.declared.dividing.Share.TheVariants as share
use Rattle.soqe_ack.specs.declared.dividing.Divided.{Divided}

-- the conjunct is this to the try
abbrev pub IsRole : Bool → Pred → List Var → Form → Role → Type 0
IsRole s q xs f (role.Guard parts) = (has_sign s q f ≡ true) × IsGuard s q xs f parts.cond parts.rest
IsRole s q xs f (role.Lacks g) = (has_free q f ≡ false) × (g ≡ f)
IsRole s q xs f (role.Waits g) = (has_sign s q f ≡ false) × (g.now ≡ f)
IsRole s q xs f role.InWay = (has_sign s q f ≡ true) × ((c r : Form) → IsGuard s q xs f c r → ⊥)

-- it has the sign and is no guard
abbrev pub is_in_way : Role → Bool
is_in_way (role.Guard parts) = false
is_in_way (role.Lacks g) = false
is_in_way (role.Waits g) = false
is_in_way role.InWay = true

-- the conditions with that of one more conjunct
abbrev pub next_condition : Option Form → Role → Option Form
next_condition c (role.Guard parts) = Some (with_or c parts.cond)
next_condition c (role.Lacks g) = c
next_condition c (role.Waits g) = c
next_condition c role.InWay = c

-- what becomes of one more conjunct
abbrev pub next_share : Role → List Share
next_share (role.Guard parts) = share.Ready parts.rest ∷ []
next_share (role.Lacks g) = share.Ready g ∷ []
next_share (role.Waits g) = share.Waits g ∷ []
next_share role.InWay = []

-- what was divided, with one more conjunct
pub record Takes (old : Divided) (r : Role) (new : Divided) : Type 0 where
  pub condition : new.condition ≡ next_condition old.condition r
  pub shares : new.shares.items ≡ old.shares.items ++ next_share r

-- the share is that the conjunct gets the value
abbrev pub WaitsFor : Form → Share → Type 0
WaitsFor f (share.Ready g) = ⊥
WaitsFor f (share.Waits g) = g.now ≡ f

-- what becomes of each conjunct
pub data AreShares (s : Bool) (q : Pred) (xs : List Var) : List Form → List Share → Type 0 where
  nothing : AreShares s q xs [] []
  lacks : {f : Form} {fs : List Form} {shares : List Share} → has_free q f ≡ false → AreShares s q xs fs shares
      → AreShares s q xs (f ∷ fs) (share.Ready f ∷ shares)
  waits : {f : Form} {u : Share} {fs : List Form} {shares : List Share} → has_sign s q f ≡ false → WaitsFor f u → AreShares s q xs fs shares
      → AreShares s q xs (f ∷ fs) (u ∷ shares)
  guards : {f c r : Form} {fs : List Form} {shares : List Share} → has_sign s q f ≡ true → IsGuard s q xs f c r → AreShares s q xs fs shares
      → AreShares s q xs (f ∷ fs) (share.Ready r ∷ shares)

-- the conjuncts are divided so
pub record IsDivided (s : Bool) (q : Pred) (xs : List Var) (fs : List Form) (d : Divided) : Type 0 where
  pub conditions : List Form
  pub conditioned : AreConditions s q xs fs conditions
  pub joined : d.condition ≡ or_onto None conditions
  pub shared : AreShares s q xs fs d.shares.items

-- they are divided so, or one stands in the way
abbrev pub IsDivision : Bool → Pred → List Var → List Form → Option Divided → Type 0
IsDivision s q xs fs None = IsStuck s q fs
IsDivision s q xs fs (Some d) = IsDivided s q xs fs d

-- what becomes of a conjunct where this is the value
abbrev pub share_form : Pred → List Var → Form → Share → Form
share_form q xs value (share.Ready f) = f
share_form q xs value (share.Waits f) = pred_sub (depth f.now) q xs value f.now
