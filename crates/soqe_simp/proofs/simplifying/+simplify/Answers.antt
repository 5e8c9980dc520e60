use Rattle.std.proofs.Common.{◌≡◌, List, [], ◌∷◌, length, refl, sym, ◌∙◌, ap, subst, arith, rules}
use Rattle.std.proofs.lemmas.Result.{IfOk-weaker}
use Rattle.soqe_form.specs.declared.form.Form.{Form, Not, Imp}
use Rattle.soqe_simp.specs.Weight.{weight}
use Rattle.soqe_simp.specs.Simplified.{on_children, simplify}
use Rattle.soqe_simp.specs.Ready.{IsSimple, IsBelow}
use Rattle.soqe_simp.specs.Finished.{finished}
use Rattle.soqe_simp.proofs.Simplifies.{simplify-keeps}
use Rattle.soqe_simp.proofs.Simple.{children-simplified-weigh, simplify-simple, simple-stays}
use Rattle.soqe_simp.proofs.Settled.{children-made_simple, simplify-children, not-lighter, not-ready, not-simplified, imp-lighter, imp-ready, imp-simplified, below-default}
use Rattle.soqe_simp.proofs.Finished.{settled-same, finished-simple, stepped-ready, stepped-lighter}
use Rattle.soqe_number.specs.Counts.{counted}
use Rattle.soqe_form.specs.declared.quantifiers.Quantifier.{Quantifier}
use Rattle.soqe_simp.specs.declared.stepping.Stepped.TheVariants.{Settled, Made}
use Rattle.soqe_simp.specs.Stepped.{stepped}
use Rattle.soqe_form.specs.Quantifiers.{quantified, quantify}
use Rattle.soqe_simp.specs.Known.{Learns, PutsBack}
use Rattle.soqe_simp.proofs.Quantified.{children-quantified, weight-popped, put_front-step, put_front-end, chain-whole, chain-weighs, chain-simplified, simplify-quantified, weight-quantify}
use Rattle.soqe_simp.proofs.Knowing.{each-place, last-place_of, last-knows, others-place, knows-learned, puts-none, puts-passed, puts-settled, puts-learned}
use Rattle.soqe_simp.proofs.simplifying.+simplify.Goals as goal

pub settle-finish-requires : goal.settle-finish-requires
settle-finish-requires t c =
    let taken : c.in_ok-stepped.stepped ≡ stepped c.args.form = c.in_ok-stepped.ensures ∙ ap stepped c.into_inner.ensures in (
      omega (arith, stepped-lighter c.args.form c.in_ok-stepped.stepped taken),
      stepped-ready c.args.form c.in_ok-stepped.stepped c.requires taken,
    )

pub settle-returns : goal.settle-returns
settle-returns t c =
    let taken : c.in_ok-stepped.stepped ≡ stepped c.args.form = c.in_ok-stepped.ensures ∙ ap stepped c.into_inner.ensures in
    IfOk-weaker c.finish.result (λ r. r ≡ finished c.in_ok-stepped.stepped) (λ r. r ≡ simplify c.args.form)
    (λ r e. finished-simple c.args.form c.in_ok-stepped.stepped r c.requires taken e) c.finish.ensures

-- ---- ~A

pub settle_first-finish-requires : goal.settle_first-finish-requires
settle_first-finish-requires t c =
    let form : c.args.form ≡ Not c.in-Not.a = sym c.into_inner.ensures ∙ c.in-Not.is in
    let now : Form = Not c.in_ok-a-in-Not.a in (
      omega (
        arith,
        not-lighter c.args.form c.in-Not.a c.in_ok-a-in-Not.a form c.in_ok-a-in-Not.ensures,
        stepped-lighter now c.in_ok-stepped-in-Not.stepped c.in_ok-stepped-in-Not.ensures,
      ),
      stepped-ready now c.in_ok-stepped-in-Not.stepped (not-ready c.in-Not.a c.in_ok-a-in-Not.a c.in_ok-a-in-Not.ensures) c.in_ok-stepped-in-Not.ensures,
    )

pub settle_first-returns-in_ok-stepped-in-Not : goal.settle_first-returns-in_ok-stepped-in-Not
settle_first-returns-in_ok-stepped-in-Not t c =
    let form : c.args.form ≡ Not c.in-Not.a = sym c.into_inner.ensures ∙ c.in-Not.is in
    let now : Form = Not c.in_ok-a-in-Not.a in
    IfOk-weaker c.finish.result (λ r. r ≡ finished c.in_ok-stepped-in-Not.stepped) (λ r. r ≡ simplify c.args.form)
    (λ r e. not-simplified c.args.form c.in-Not.a c.in_ok-a-in-Not.a r form c.in_ok-a-in-Not.ensures
    (finished-simple now c.in_ok-stepped-in-Not.stepped r (not-ready c.in-Not.a c.in_ok-a-in-Not.a c.in_ok-a-in-Not.ensures) c.in_ok-stepped-in-Not.ensures e))
    c.finish.ensures

-- ---- A -> D

pub settle_first-finish-requires-in-Imp : goal.settle_first-finish-requires-in-Imp
settle_first-finish-requires-in-Imp t c =
    let form : c.args.form ≡ Imp c.in-Imp.a c.in-Imp.d = sym c.into_inner.ensures ∙ c.in-Imp.is in
    let now : Form = Imp c.in_ok-a-in-Imp.a c.in-Imp.d in (
      omega (
        arith,
        imp-lighter c.args.form c.in-Imp.a c.in-Imp.d c.in_ok-a-in-Imp.a form c.in_ok-a-in-Imp.ensures,
        stepped-lighter now c.in_ok-stepped-in-Imp.stepped c.in_ok-stepped-in-Imp.ensures,
      ),
      stepped-ready now c.in_ok-stepped-in-Imp.stepped
          (imp-ready c.args.form c.in-Imp.a c.in-Imp.d c.in_ok-a-in-Imp.a c.requires form c.in_ok-a-in-Imp.ensures) c.in_ok-stepped-in-Imp.ensures,
    )

pub settle_first-returns-in_ok-stepped-in-Imp : goal.settle_first-returns-in_ok-stepped-in-Imp
settle_first-returns-in_ok-stepped-in-Imp t c =
    let form : c.args.form ≡ Imp c.in-Imp.a c.in-Imp.d = sym c.into_inner.ensures ∙ c.in-Imp.is in
    let now : Form = Imp c.in_ok-a-in-Imp.a c.in-Imp.d in
    IfOk-weaker c.finish-in-Imp.result (λ r. r ≡ finished c.in_ok-stepped-in-Imp.stepped) (λ r. r ≡ simplify c.args.form)
    (λ r e. imp-simplified c.args.form c.in-Imp.a c.in-Imp.d c.in_ok-a-in-Imp.a r c.requires form c.in_ok-a-in-Imp.ensures
    (finished-simple now c.in_ok-stepped-in-Imp.stepped r
    (imp-ready c.args.form c.in-Imp.a c.in-Imp.d c.in_ok-a-in-Imp.a c.requires form c.in_ok-a-in-Imp.ensures) c.in_ok-stepped-in-Imp.ensures e))
    c.finish-in-Imp.ensures

pub settle_first-unreachable-requires : goal.settle_first-unreachable-requires
settle_first-unreachable-requires t c =
    below-default c.into_inner.result (subst IsBelow (sym c.into_inner.ensures) c.requires) c.in_default.not-Not c.in_default.not-Imp

pub settle_made-returns : goal.settle_made-returns
settle_made-returns t c =
    sym (simple-stays c.args.made.form
    (c.requires.ends (sym c.is_again.ensures ∙ c.if-is_again.false) (sym c.is_below.ensures ∙ c.if-is_below.false) (sym c.is_anew.ensures ∙ c.if-is_anew.false)))

-- ---- the children, then the root

pub simplify_node-finish-requires : goal.simplify_node-finish-requires
simplify_node-finish-requires t c =
    let now : Form = on_children simplify c.args.form in (
      omega (arith, children-simplified-weigh c.args.form, stepped-lighter now c.in_ok-stepped.stepped c.in_ok-stepped.ensures),
      stepped-ready now c.in_ok-stepped.stepped (children-made_simple c.args.form) c.in_ok-stepped.ensures,
    )

pub simplify_node-returns : goal.simplify_node-returns
simplify_node-returns t c =
    IfOk-weaker c.finish.result (λ r. r ≡ finished c.in_ok-stepped.stepped) (λ r. r ≡ simplify c.args.form)
    (λ r e. finished-simple (on_children simplify c.args.form) c.in_ok-stepped.stepped r (children-made_simple c.args.form) c.in_ok-stepped.ensures e
    ∙ simplify-children c.args.form)
    c.finish.ensures

-- ---- one quantifier

pub put_front-finish-requires : goal.put_front-finish-requires
put_front-finish-requires t c =
    let now : Form = quantified c.args.quantifier c.args.form in (
      omega (arith, stepped-lighter now c.in_ok-stepped.stepped c.in_ok-stepped.ensures),
      stepped-ready now c.in_ok-stepped.stepped (children-quantified c.args.quantifier c.args.form c.requires) c.in_ok-stepped.ensures,
    )

pub put_front-returns : goal.put_front-returns
put_front-returns t c =
    let now : Form = quantified c.args.quantifier c.args.form in
    IfOk-weaker c.finish.result (λ r. r ≡ finished c.in_ok-stepped.stepped) (λ r. r ≡ simplify now)
    (λ r e. finished-simple now c.in_ok-stepped.stepped r (children-quantified c.args.quantifier c.args.form c.requires) c.in_ok-stepped.ensures e) c.finish.ensures

pub put_known-returns-then-not-has : goal.put_known-returns-then-not-has
put_known-returns-then-not-has t c = puts-none c.args.quantifier c.args.form c.args.known.now c.requires (sym c.has.ensures ∙ c.if-not-has.true)

pub put_known-returns : goal.put_known-returns
put_known-returns t c =
    IfOk-weaker c.quantified.result (λ r. r ≡ quantified c.args.quantifier c.args.form) (λ r. PutsBack c.args.quantifier c.args.form c.args.known.now c.pass.new.known r)
    (λ r e. puts-passed c.args.quantifier c.args.form c.args.known.now c.pass.new.known r c.requires (sym c.has.ensures ∙ c.if-not-has.false)
    (sym c.may_be_defined.ensures ∙ c.if-may_be_defined.false) c.in_ok-pass.ensures e)
    c.quantified.ensures

pub put_looking-settle_made-requires : goal.put_looking-settle_made-requires
put_looking-settle_made-requires t c =
    let now : Form = quantified c.args.quantifier c.args.form in
    let taken : Made c.in-Made.made ≡ stepped now = sym c.in-Made.is ∙ c.in_ok-stepped.ensures in (
      omega (arith, stepped-lighter now (Made c.in-Made.made) taken),
      stepped-ready now (Made c.in-Made.made) (children-quantified c.args.quantifier c.args.form c.requires) taken,
    )

pub put_looking-returns-in_ok-pass-in-Settled : goal.put_looking-returns-in_ok-pass-in-Settled
put_looking-returns-in_ok-pass-in-Settled t c =
    let now : Form = quantified c.args.quantifier c.args.form in
    let taken : Settled c.in-Settled.same ≡ stepped now = sym c.in-Settled.is ∙ c.in_ok-stepped.ensures in
    puts-settled c.args.quantifier c.args.form c.args.known.now c.pass.new.known c.in-Settled.same c.in_ok-pass-in-Settled.ensures (settled-same now c.in-Settled.same taken)
    (finished-simple now (Settled c.in-Settled.same) c.in-Settled.same (children-quantified c.args.quantifier c.args.form c.requires) taken refl)

pub put_looking-returns-in_ok-learn-in-Made : goal.put_looking-returns-in_ok-learn-in-Made
put_looking-returns-in_ok-learn-in-Made t c =
    let now : Form = quantified c.args.quantifier c.args.form in
    let taken : Made c.in-Made.made ≡ stepped now = sym c.in-Made.is ∙ c.in_ok-stepped.ensures in
    puts-learned c.args.quantifier c.args.form c.args.known.now c.learn.new.known c.in_ok-other-in-Made.other c.in_ok-learn-in-Made.ensures.places
    (subst (Learns (counted c.args.known.now.places) c.learn.new.known) c.get.ensures c.in_ok-learn-in-Made.ensures.learned)
    (finished-simple now (Made c.in-Made.made) c.in_ok-other-in-Made.other (children-quantified c.args.quantifier c.args.form c.requires) taken c.in_ok-other-in-Made.ensures)

-- ---- a chain of quantifiers

pub put_back_few-put_front-requires : goal.put_back_few-put_front-requires
put_back_few-put_front-requires t c = (
  omega (arith, c.loop-quantifier.invariant.2, weight-popped c.loop-quantifier.chain.items c.pop.new.self.items c.in-Some.quantifier c.loop-quantifier.made c.in-Some.ensures.items),
  c.loop-quantifier.invariant.0,
)

pub put_back_few-loop-quantifier-preserved : goal.put_back_few-loop-quantifier-preserved
put_back_few-loop-quantifier-preserved t c =
    put_front-step c.loop-quantifier.chain.items c.pop.new.self.items c.in-Some.quantifier c.loop-quantifier.made c.in_ok-made.made (quantify c.args.chain.items c.args.form)
    c.in-Some.ensures.items c.in_ok-made.ensures c.loop-quantifier.invariant.1 c.loop-quantifier.invariant.2

pub put_back_few-returns : goal.put_back_few-returns
put_back_few-returns t c =
    let empty : c.loop-quantifier.chain.items ≡ [] = first_of (search rules, grind arith) in
    put_front-end c.loop-quantifier.chain.items c.loop-quantifier.made (quantify c.args.chain.items c.args.form) empty c.loop-quantifier.invariant.0 c.loop-quantifier.invariant.1

pub put_back-loop-quantifier-init : goal.put_back-loop-quantifier-init
put_back-loop-quantifier-init t c =
    let place = counted c.in_ok-known.known.places in (
      c.requires,
      refl,
      omega (arith),
      each-place c.args.chain.items place c.in_ok-known.ensures.places,
      knows-learned (length c.args.chain.items) place c.in_ok-known.known c.args.form refl
          (subst (Learns place c.in_ok-known.known) c.get.ensures c.in_ok-known.ensures.learned) (λ n o. c.in_ok-known.ensures.places.most n),
    )

pub put_back-put_known-requires : goal.put_back-put_known-requires
put_back-put_known-requires t c = (
  omega (arith, c.loop-quantifier.invariant.2, weight-popped c.loop-quantifier.chain.items c.pop.new.self.items c.in-Some.quantifier c.loop-quantifier.made c.in-Some.ensures.items),
  c.loop-quantifier.invariant.0,
)

pub put_back-loop-quantifier-preserved : goal.put_back-loop-quantifier-preserved
put_back-loop-quantifier-preserved t c =
    let chain : List Quantifier = c.loop-quantifier.chain.items in
    let qs : List Quantifier = c.pop.new.self.items in
    let q : Quantifier = c.in-Some.quantifier in
    let place = counted c.loop-quantifier.known.places in
    let at = last-place_of chain qs q place c.in-Some.ensures.items c.loop-quantifier.invariant.3 in
    let knows = last-knows chain qs q c.loop-quantifier.known c.loop-quantifier.made c.in-Some.ensures.items c.loop-quantifier.invariant.4 in
    let puts = c.in_ok-made.ensures in
    let front = put_front-step chain qs q c.loop-quantifier.made c.in_ok-made.made (quantify c.args.chain.items c.args.form)
    c.in-Some.ensures.items (puts.simple (length qs) at knows) c.loop-quantifier.invariant.1 c.loop-quantifier.invariant.2 in (
      front.0,
      front.1,
      front.2,
      others-place chain qs q place (counted c.put_known.new.known.places) c.in-Some.ensures.items puts.places c.loop-quantifier.invariant.3,
      puts.knows (length qs) at knows,
    )

pub put_back-returns : goal.put_back-returns
put_back-returns t c =
    let empty : c.loop-quantifier.chain.items ≡ [] = first_of (search rules, grind arith) in
    put_front-end c.loop-quantifier.chain.items c.loop-quantifier.made (quantify c.args.chain.items c.args.form) empty c.loop-quantifier.invariant.0 c.loop-quantifier.invariant.1

pub simplify_one-put_front-requires : goal.simplify_one-put_front-requires
simplify_one-put_front-requires t c =
    let made : c.in_ok-body.body ≡ simplify c.args.form = c.in_ok-body.ensures.exact in (
      omega (arith, weight-quantify (c.args.quantifier ∷ []) c.in_ok-body.body c.args.form (omega (arith, ap weight made, (simplify-keeps c.args.form).weight))),
      subst IsSimple (sym made) (simplify-simple c.args.form),
    )

pub simplify_one-returns : goal.simplify_one-returns
simplify_one-returns t c =
    let made : c.in_ok-body.body ≡ simplify c.args.form = c.in_ok-body.ensures.exact in
    IfOk-weaker c.put_front.result (λ r. r ≡ simplify (quantified c.args.quantifier c.in_ok-body.body)) (λ r. r ≡ simplify (quantified c.args.quantifier c.args.form))
    (λ r e. e ∙ ap (λ g. simplify (quantified c.args.quantifier g)) made ∙ simplify-quantified c.args.quantifier c.args.form)
    c.put_front.ensures

pub simplify_chain-put_back_few-requires : goal.simplify_chain-put_back_few-requires
simplify_chain-put_back_few-requires t c =
    let whole : quantify c.chain_of.new.chain.items c.in_ok-inner.inner ≡ quantified c.args.outermost c.args.form =
    chain-whole c.new-chain.result.items c.push.new.self.items c.chain_of.new.chain.items c.args.outermost c.args.form c.in_ok-inner.inner
    c.new-chain.ensures.items c.in_ok-push.ensures.items c.in_ok-inner.ensures.whole in (
      omega (arith, chain-weighs c.chain_of.new.chain.items c.in_ok-inner.inner c.in_ok-body.body (quantified c.args.outermost c.args.form) c.in_ok-body.ensures.exact whole),
      subst IsSimple (sym c.in_ok-body.ensures.exact) (simplify-simple c.in_ok-inner.inner),
    )

pub simplify_chain-put_back-requires : goal.simplify_chain-put_back-requires
simplify_chain-put_back-requires t c =
    let whole : quantify c.chain_of.new.chain.items c.in_ok-inner.inner ≡ quantified c.args.outermost c.args.form =
    chain-whole c.new-chain.result.items c.push.new.self.items c.chain_of.new.chain.items c.args.outermost c.args.form c.in_ok-inner.inner
    c.new-chain.ensures.items c.in_ok-push.ensures.items c.in_ok-inner.ensures.whole in (
      omega (arith, chain-weighs c.chain_of.new.chain.items c.in_ok-inner.inner c.in_ok-body.body (quantified c.args.outermost c.args.form) c.in_ok-body.ensures.exact whole),
      subst IsSimple (sym c.in_ok-body.ensures.exact) (simplify-simple c.in_ok-inner.inner),
    )

pub simplify_chain-returns-then-len-lt-FEW : goal.simplify_chain-returns-then-len-lt-FEW
simplify_chain-returns-then-len-lt-FEW t c =
    let whole : quantify c.chain_of.new.chain.items c.in_ok-inner.inner ≡ quantified c.args.outermost c.args.form =
    chain-whole c.new-chain.result.items c.push.new.self.items c.chain_of.new.chain.items c.args.outermost c.args.form c.in_ok-inner.inner
    c.new-chain.ensures.items c.in_ok-push.ensures.items c.in_ok-inner.ensures.whole in
    IfOk-weaker c.put_back_few.result (λ r. r ≡ simplify (quantify c.chain_of.new.chain.items c.in_ok-body.body)) (λ r. r ≡ simplify (quantified c.args.outermost c.args.form))
    (λ r e. chain-simplified c.chain_of.new.chain.items c.in_ok-inner.inner c.in_ok-body.body (quantified c.args.outermost c.args.form) r c.in_ok-body.ensures.exact whole e)
    c.put_back_few.ensures

pub simplify_chain-returns-else-len-lt-FEW : goal.simplify_chain-returns-else-len-lt-FEW
simplify_chain-returns-else-len-lt-FEW t c =
    let whole : quantify c.chain_of.new.chain.items c.in_ok-inner.inner ≡ quantified c.args.outermost c.args.form =
    chain-whole c.new-chain.result.items c.push.new.self.items c.chain_of.new.chain.items c.args.outermost c.args.form c.in_ok-inner.inner
    c.new-chain.ensures.items c.in_ok-push.ensures.items c.in_ok-inner.ensures.whole in
    IfOk-weaker c.put_back.result (λ r. r ≡ simplify (quantify c.chain_of.new.chain.items c.in_ok-body.body)) (λ r. r ≡ simplify (quantified c.args.outermost c.args.form))
    (λ r e. chain-simplified c.chain_of.new.chain.items c.in_ok-inner.inner c.in_ok-body.body (quantified c.args.outermost c.args.form) r c.in_ok-body.ensures.exact whole e)
    c.put_back.ensures
