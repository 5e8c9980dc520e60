use Rattle.std.proofs.Common.{◌≡◌, ℕ, Option, None, length, sym, subst}
use Rattle.soqe_parse.specs.Formulas.{IsFormFaultIn}
use Rattle.soqe_parse.specs.Machine.{finish}
use Rattle.soqe_parse.specs.Stack.{state_of}
use Rattle.soqe_parse.proofs.FormFound.{stops, ends}
use Rattle.soqe_parse.proofs.read_form.form_of_tokens.Goals as goal

pub returns-in-Some : goal.returns-in-Some
returns-in-Some c =
    subst (λ (o : Option ℕ). IsFormFaultIn c.args.bytes.now c.args.tokens.now o c.in-Some.at) (sym c.in-Some.is)
    (stops c.args.bytes.now c.args.tokens.now c.in-Some.at c.form_ran.new.stack.items c.in_ok-mode.mode c.in_ok-mode.ensures)

pub returns-in-Err-Dead : goal.returns-in-Err-Dead
returns-in-Err-Dead c =
    let none : finish (state_of c.form_ran.new.stack.items c.in_ok-mode.mode) ≡ None = rw c.in-Err-Dead.field-0-is at c.in-Err-Dead.ensures in
    subst (λ (o : Option ℕ). IsFormFaultIn c.args.bytes.now c.args.tokens.now o (length c.args.bytes.now)) (sym c.in-None.is)
    (ends c.args.bytes.now c.args.tokens.now c.form_ran.new.stack.items c.in_ok-mode.mode c.in_ok-mode.ensures none)
