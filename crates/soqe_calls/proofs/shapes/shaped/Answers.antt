use Rattle.std.proofs.Common.{◌∙◌, ◌/◌, ◌+◌, ap, sym}
use Rattle.std.proofs.lemmas.Result.{IfOk-weaker}
use Rattle.soqe_calls.specs.Nodes.{nodes}
use Rattle.soqe_calls.specs.Shapes.{core, wide, size_of}
use Rattle.soqe_calls.proofs.Sizes.{nodes-wide, nodes-bound, nodes-negations, nodes-negation-rows, nodes-chain-rows}
use Rattle.soqe_calls.proofs.shapes.shaped.Goals as goal

pub returns-in-Wide-clause-nodes : goal.returns-in-Wide-clause-nodes
returns-in-Wide-clause-nodes c =
    IfOk-weaker c.wide.result _ _ (λ f e. ap nodes e ∙ nodes-wide (c.args.size / 10) ∙ ap (λ s. size_of s c.args.size) (sym c.in-Wide.is)) c.wide.ensures

pub returns-in-Deep-clause-nodes : goal.returns-in-Deep-clause-nodes
returns-in-Deep-clause-nodes c =
    IfOk-weaker c.deep.result _ _ (λ f e. ap nodes e ∙ nodes-bound (c.args.size / 4) core ∙ ap (λ s. size_of s c.args.size) (sym c.in-Deep.is)) c.deep.ensures

pub returns-in-Mixed-clause-nodes : goal.returns-in-Mixed-clause-nodes
returns-in-Mixed-clause-nodes c =
    IfOk-weaker c.mixed.result _ _
    (λ f e. ap nodes e ∙ nodes-bound (c.args.size / 8) (wide (c.args.size / 20)) ∙ ap (λ m. c.args.size / 8 + m) (nodes-wide (c.args.size / 20))
    ∙ ap (λ s. size_of s c.args.size) (sym c.in-Mixed.is))
    c.mixed.ensures

pub returns-in-Negations-clause-nodes : goal.returns-in-Negations-clause-nodes
returns-in-Negations-clause-nodes c =
    IfOk-weaker c.negations.result _ _ (λ f e. ap nodes e ∙ nodes-negations c.args.size ∙ ap (λ s. size_of s c.args.size) (sym c.in-Negations.is)) c.negations.ensures

pub returns-in-NegationRows-clause-nodes : goal.returns-in-NegationRows-clause-nodes
returns-in-NegationRows-clause-nodes c =
    IfOk-weaker c.negation_rows.result _ _ (λ f e. ap nodes e ∙ nodes-negation-rows c.args.size ∙ ap (λ s. size_of s c.args.size) (sym c.in-NegationRows.is)) c.negation_rows.ensures

pub returns-in-ChainRows-clause-nodes : goal.returns-in-ChainRows-clause-nodes
returns-in-ChainRows-clause-nodes c =
    IfOk-weaker c.chain_rows.result _ _ (λ f e. ap nodes e ∙ nodes-chain-rows c.args.size ∙ ap (λ s. size_of s c.args.size) (sym c.in-ChainRows.is)) c.chain_rows.ensures
