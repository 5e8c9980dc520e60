use Rattle.std.proofs.lemmas.Result.{IfOk-weaker}
use Rattle.soqe_ack.specs.Signs.{is_pos}
use Rattle.soqe_ack.proofs.Applies.{applied-alike, applied-sorted, applied-lacks}
use Rattle.soqe_ack.proofs.applying.apply.Goals as goal

pub returns : goal.returns
returns c =
    let s = is_pos c.args.sign in let p = c.args.pred.now in let k = c.args.keep.now in let vs = c.args.case.now.vars in let fs = c.args.case.now.conj in
    record {
      exact = c.apply_try.ensures;
      truth = IfOk-weaker c.apply_try.result _ _ (applied-alike s p k vs fs) c.apply_try.ensures;
      sorted = IfOk-weaker c.apply_try.result _ _ (applied-sorted s p k vs fs) c.apply_try.ensures;
      gone = IfOk-weaker c.apply_try.result _ _ (applied-lacks s p k vs fs) c.apply_try.ensures;
    }
