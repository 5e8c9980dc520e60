use Rattle.std.proofs.Common.{◌∙◌, ◌++◌, ◌∷◌, [], string_bytes}
use Rattle.soqe_signature.proofs.Kept.{take-entry, place_of-front}
use Rattle.soqe_signature.proofs.signature.Signature.append_copy.Goals as goal

pub append-requires-clause-new_name : goal.append-requires-clause-new_name
append-requires-clause-new_name c =
    place_of-front c.other.inside.names.entries c.args.other.now c.args.self.now c.args.place _ (c.in-Some.name.now, c.in-Some.stored.now)
    c.other.view_is c.requires.distinct c.requires.front c.in-Some.ensures.entry (c.in_ok-name-in-Some.ensures.ok ∙ c.as_str.ensures.value)

pub returns-in_ok-append-in-Some : goal.returns-in_ok-append-in-Some
returns-in_ok-append-in-Some c =
    c.in_ok-append-in-Some.ensures.ok
    ∙ (λ i. c.requires.front i ++ record { name = string_bytes c.in_ok-name-in-Some.name; kind = c.in_ok-kind-in-Some.ensures i } ∷ [])
    ∙ take-entry c.other.inside.names.entries c.args.other.now c.args.place _ (c.in-Some.name.now, c.in-Some.stored.now)
    c.other.view_is c.in-Some.ensures.entry (c.in_ok-name-in-Some.ensures.ok ∙ c.as_str.ensures.value)
