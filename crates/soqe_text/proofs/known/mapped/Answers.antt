use Rattle.std.proofs.Common.{◌≡◌, None, sym, ap}
use Rattle.std.specs.Option.{unwrap_or}
use Rattle.soqe_text.specs.Lookups.{entered}
use Rattle.soqe_text.proofs.known.mapped.Goals as goal

pub returns-in-Some-Some : goal.returns-in-Some-Some
unfolding entered
returns-in-Some-Some g c =
    let e : c.in-Some-Some.field-0.now ≡ entered c.args.map.now.entries c.args.num = ap (λ o. unwrap_or o None) c.in-Some-Some.ensures.value in
    cc (e, c.in-Some-Some.field-0-is)

pub returns-in-Some-None : goal.returns-in-Some-None
unfolding entered
returns-in-Some-None g c =
    let e : c.in-Some-None.field-0.now ≡ entered c.args.map.now.entries c.args.num = ap (λ o. unwrap_or o None) c.in-Some-None.ensures.value in
    cc (e, c.in-Some-None.field-0-is)

pub returns-in-None : goal.returns-in-None
unfolding entered
returns-in-None g c = sym (ap (λ o. unwrap_or o None) c.in-None.ensures.value)
