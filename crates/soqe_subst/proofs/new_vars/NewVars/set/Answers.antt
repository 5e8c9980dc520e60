use Rattle.std.proofs.Common.{◌≡◌, ℕ, Bool, true, false, cond, eqb, List, Option, Some, None, refl, ◌∙◌, ap}
use Rattle.std.specs.Map.{lookup}
use Rattle.std.specs.Option.{unwrap_or}
use Rattle.soqe_number.specs.Updates.{changed}
use Rattle.soqe_term.specs.declared.term.Var.{Var}
use Rattle.soqe_number.proofs.Equalities.{eqb_sym}
use Rattle.soqe_subst.specs.NewVars.{new_var}
use Rattle.soqe_subst.proofs.new_vars.NewVars.set.Goals as goal

var_of : (b : Bool) (var : Option Var) (o : Option (Option Var)) → unwrap_or (cond b (Some var) o) None ≡ cond b var (unwrap_or o None)
var_of true var o = refl
var_of false var o = refl

-- the new variables after one was set
new_var-set : (old new : List (ℕ × Option Var)) (n : ℕ) (var : Option Var) → ((m : ℕ) → lookup (eqb m) new ≡ cond (eqb n m) (Some var) (lookup (eqb m) old))
    → new_var new ≡ changed (new_var old) n var
unfolding new_var
new_var-set old new n var h =
    λ i m. (ap (λ o. unwrap_or o None) (h m) ∙ var_of (eqb n m) var (lookup (eqb m) old) ∙ ap (λ b. cond b var (unwrap_or (lookup (eqb m) old) None)) (eqb_sym n m)) i

pub returns : goal.returns
returns c =
    new_var-set c.self.inside.vars.entries c.insert.new.self.entries c.args.n c.args.var c.in_ok-insert.ensures.updates.0
    ∙ ap (λ m. changed (new_var m) c.args.n c.args.var) c.self.view_is
