use Rattle.std.proofs.Common.{◌∙◌, ap}
use Rattle.std.specs.String.{string_eq}
use Rattle.indexmap.specs.IndexMap.{insert_entry}
use Rattle.soqe_signature.specs.Stored.{declarations}
use Rattle.soqe_signature.proofs.Kept.{insert_entry-new, declarations-push, IsKept-new}
use Rattle.soqe_signature.proofs.signature.Signature.append.Goals as goal

pub invariant_of-self-in-Ok : goal.invariant_of-self-in-Ok
invariant_of-self-in-Ok c =
    let entries = c.in-Ok.ensures.entries ∙ ap (λ es. insert_entry string_eq es c.args.name (record { kind = c.args.kind; num = c.count-num.result })) c.reserve.ensures.entries
    ∙ insert_entry-new c.self.inside.names.entries _ c.args.name _ c.self.view_is c.requires.new_name in
    IsKept-new c.args.name (record { kind = c.args.kind; num = c.count-num.result }) c.numbering-numbering.result c.len-place.result c.self.invariant c.self.view_is c.requires.few
    c.count-num.ensures c.numbering-numbering.ensures c.len-place.ensures.len entries c.in_ok-push.ensures.ok

pub returns-in-Ok-clause-ok : goal.returns-in-Ok-clause-ok
returns-in-Ok-clause-ok c =
    let entries = c.in-Ok.ensures.entries ∙ ap (λ es. insert_entry string_eq es c.args.name (record { kind = c.args.kind; num = c.count-num.result })) c.reserve.ensures.entries
    ∙ insert_entry-new c.self.inside.names.entries _ c.args.name _ c.self.view_is c.requires.new_name in
    ap declarations entries ∙ declarations-push c.self.inside.names.entries _ c.args.name _ c.self.view_is
