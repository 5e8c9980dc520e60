use Rattle.std.proofs.Common.{◌≡◌, None, ap}
use Rattle.std.specs.Option.{unwrap_or}
use Rattle.soqe_text.specs.Lookups.{entered}
use Rattle.soqe_text.proofs.Lookups.{entered-set}
use Rattle.soqe_text.proofs.known.put_mapped.Goals as goal

pub returns-in-Ok-Some-clause-old : goal.returns-in-Ok-Some-clause-old
unfolding entered
returns-in-Ok-Some-clause-old g c =
    let e : unwrap_or c.in-Ok-Some.field-0 None ≡ entered c.args.map.now.entries c.args.num = ap (λ o. unwrap_or o None) c.in-Ok-Some.ensures.old in
    rw c.in-Ok-Some.field-0-is at e

pub returns-in-Ok-Some-clause-new : goal.returns-in-Ok-Some-clause-new
returns-in-Ok-Some-clause-new g c = entered-set c.args.map.now.entries c.insert.new.self.entries c.args.num c.args.value c.in-Ok-Some.ensures.updates.0

pub returns-in-Ok-None-clause-old : goal.returns-in-Ok-None-clause-old
unfolding entered
returns-in-Ok-None-clause-old g c =
    let e : unwrap_or c.in-Ok-None.field-0 None ≡ entered c.args.map.now.entries c.args.num = ap (λ o. unwrap_or o None) c.in-Ok-None.ensures.old in
    rw c.in-Ok-None.field-0-is at e

pub returns-in-Ok-None-clause-new : goal.returns-in-Ok-None-clause-new
returns-in-Ok-None-clause-new g c = entered-set c.args.map.now.entries c.insert.new.self.entries c.args.num c.args.value c.in-Ok-None.ensures.updates.0
