use Rattle.std.proofs.Common.{◌≡◌, ℕ, Bool, true, false, ◌||◌, cond, eqb, List, take, get_or, refl, sym, ◌∙◌, ap}
use Rattle.std.proofs.lemmas.List.{take_all}
use Rattle.std.proofs.lemmas.List.Folds.{list_any_more}
use Rattle.soqe_term.specs.declared.term.Var.{Var}
use Rattle.soqe_form.specs.FreeVars.{is_among}
use Rattle.soqe_form.proofs.FreeVariables.{is_among-free_vars}
use Rattle.soqe_simp.proofs.known.marks_of_free.Goals as goal

cond_or : (b a : Bool) → cond b true a ≡ (a || b)
cond_or true true = refl
cond_or true false = refl
cond_or false true = refl
cond_or false false = refl

pub loop-x-preserved : goal.loop-x-preserved
loop-x-preserved c =
    let xs : List Var = c.as_slice-x-items.result.now in
    let at : ℕ = c.loop-x.x-index in
    let none : Var = record { num = 0; sort = 0 } in
    λ i n. ((λ j. c.in_ok-set.ensures j n) ∙ ap (cond (eqb n (get_or xs at none).num) true) (λ j. c.loop-x.invariant j n)
    ∙ cond_or (eqb n (get_or xs at none).num) (is_among (take at xs) n) ∙ sym (list_any_more (λ x. eqb n x.num) xs at none c.loop-x-test.true)) i

pub returns : goal.returns
returns c =
    c.loop-x.invariant
    ∙ (λ i n. (ap (λ l. is_among l n) (take_all c.loop-x.x-index c.as_slice-x-items.result.now c.loop-x-test.false ∙ c.as_slice-x-items.ensures ∙ c.in_ok-vars.ensures)
    ∙ is_among-free_vars c.args.form.now n) i)
