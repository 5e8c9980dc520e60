use Rattle.std.proofs.Common.{◌≡◌, ◌∙◌, ◌-◌, ◌∷◌, Some, ap, arith, sym, subst, length, reverse, take}
use Rattle.std.specs.Prelude.{slice_get}
use Rattle.std.specs.Vec.{vec_len}
use Rattle.std.specs.Option.{unwrap_or}
use Rattle.soqe_text.specs.Lookups.{entered}
use Rattle.soqe_text.specs.Scope.{times, IsCounted}
use Rattle.soqe_text.proofs.Scopes.{IsCounted-left, last_first}
use Rattle.soqe_text.proofs.scope.Scope.leave.Goals as goal

pub invariant_of-self-in-Some : goal.invariant_of-self-in-Some
invariant_of-self-in-Some c n =
    let xs = c.self.inside.numbers.items in
    let counts = entered c.self.inside.counts.entries in
    let rest = reverse (take (length xs - 1) xs) in
    let top : slice_get xs (length xs - 1) ≡ Some c.in-Some.num.now = ap (λ l. slice_get l (length l - 1)) (sym c.deref.ensures.value) ∙ sym c.in-Some.ensures.value in
    let counted : IsCounted counts (c.in-Some.num.now ∷ rest) = subst (IsCounted counts) (last_first xs c.in-Some.num.now top) c.self.invariant in
    let count : vec_len c.self.inside.numbers ≡ length xs = omega (arith, c.deref.ensures.len, ap length c.deref.ensures.value) in
    ap (λ f. unwrap_or (f n) 0) c.in_ok-put_mapped-in-Some.ensures.new ∙ IsCounted-left counts rest c.in-Some.num.now c.one_less-count.result counted c.one_less-count.ensures n
    ∙ sym (ap (λ ys. times n (reverse ys)) (c.pop.ensures.rest ∙ ap (λ m. take (m - 1) xs) count))
