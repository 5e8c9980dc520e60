-- The conjuncts of a case, divided one after another.
use Rattle.std.proofs.Common.{◌≡◌, Bool, true, false, List, [], ◌∷◌, ◌++◌, map, Some, None, sym, ◌∙◌, ap, subst}
use Rattle.std.specs.List.{Contains}
use Rattle.soqe_term.specs.declared.term.Var.{Var}
use Rattle.soqe_form.specs.declared.form.Pred.{Pred}
use Rattle.soqe_form.specs.declared.form.Form.{Form}
use Rattle.soqe_norm.specs.Joins.{with_or, or_onto}
use Rattle.soqe_norm.specs.Rises.{has_sign}
use Rattle.soqe_norm.proofs.Joins.{or_onto-push}
use Rattle.soqe_psub.specs.PredSubst.{IsPredSub}
use Rattle.soqe_ack.specs.declared.dividing.Role.{Role}
use Rattle.soqe_ack.specs.declared.dividing.Role.TheVariants as role
use Rattle.soqe_ack.specs.declared.dividing.Share.{Share}
use Rattle.soqe_ack.specs.declared.dividing.Share.TheVariants as share
use Rattle.soqe_ack.specs.declared.dividing.Divided.{Divided}
use Rattle.soqe_ack.specs.Acked.{AreConditions, no_more, no_guard, guard, AreCleared, all_done, replaced, rest, IsStuck}
use Rattle.soqe_ack.specs.Divides.{IsRole, is_in_way, next_condition, next_share, Takes, AreShares, nothing, lacks, waits, guards, IsDivided, share_form}
use Rattle.soqe_ack.specs.Guards.{IsGuard}
use Rattle.soqe_ack.proofs.GuardSigns.{no_sign, any_parameters}
use Rattle.soqe_psub.proofs.PredSubs.{is_pred_sub, pred_sub-lacks}

module _ (s : Bool) (q : Pred) (xs : List Var) where
  -- ---- one more conjunct at the end

  no_guard-push : {fs cs : List Form} (f : Form) → AreConditions s q xs fs cs → has_sign s q f ≡ false → AreConditions s q xs (fs ++ f ∷ []) cs
  no_guard-push f no_more h = no_guard h no_more
  no_guard-push f (no_guard n k) h = no_guard n (no_guard-push f k h)
  no_guard-push f (guard n g k) h = guard n g (no_guard-push f k h)

  guard-push : {fs cs : List Form} {f c r : Form} → AreConditions s q xs fs cs → has_sign s q f ≡ true → IsGuard s q xs f c r
      → AreConditions s q xs (fs ++ f ∷ []) (cs ++ c ∷ [])
  guard-push no_more h i = guard h i no_more
  guard-push (no_guard n k) h i = no_guard n (guard-push k h i)
  guard-push (guard n g k) h i = guard n g (guard-push k h i)

  shares-push : {fs gs : List Form} {us vs : List Share} → AreShares s q xs fs us → AreShares s q xs gs vs → AreShares s q xs (fs ++ gs) (us ++ vs)
  shares-push nothing b = b
  shares-push (lacks h a) b = lacks h (shares-push a b)
  shares-push (waits h w a) b = waits h w (shares-push a b)
  shares-push (guards h g a) b = guards h g (shares-push a b)

  -- what is known of one more conjunct
  record More (fs : List Form) (f : Form) (d : Divided) (r : Role) : Type 0 where
    conditions : List Form
    conditioned : AreConditions s q xs (fs ++ f ∷ []) conditions
    joined : next_condition d.condition r ≡ or_onto None conditions
    shared : AreShares s q xs (f ∷ []) (next_share r)

  more : (fs : List Form) (f : Form) (d : Divided) (r : Role) → IsDivided s q xs fs d → IsRole s q xs f r → is_in_way r ≡ false → More fs f d r
  more fs f d (role.Guard parts) k i h = record {
    conditions = k.conditions ++ parts.cond ∷ [];
    conditioned = guard-push k.conditioned i.0 i.1;
    joined = ap (λ o. Some (with_or o parts.cond)) k.joined ∙ sym (or_onto-push None k.conditions parts.cond);
    shared = guards i.0 i.1 nothing;
  }
  more fs f d (role.Lacks g) k i h = record {
    conditions = k.conditions;
    conditioned = no_guard-push f k.conditioned (no_sign q f i.0 s);
    joined = k.joined;
    shared = subst (λ g. AreShares s q xs (f ∷ []) (share.Ready g ∷ [])) (sym i.1) (lacks i.0 nothing);
  }
  more fs f d (role.Waits g) k i h = record {
    conditions = k.conditions;
    conditioned = no_guard-push f k.conditioned i.0;
    joined = k.joined;
    shared = waits i.0 i.1 nothing;
  }
  more fs f d role.InWay k i h = let h : true ≡ false = h in cc

  pub divided-none : (d : Divided) → d.condition ≡ None → d.shares.items ≡ [] → IsDivided s q xs [] d
  divided-none d c h = record {
    conditions = [];
    conditioned = no_more;
    joined = c;
    shared = subst (AreShares s q xs []) (sym h) nothing;
  }

  pub divided-more : (fs : List Form) (f : Form) (d e : Divided) (r : Role) → IsDivided s q xs fs d → IsRole s q xs f r → is_in_way r ≡ false → Takes d r e
      → IsDivided s q xs (fs ++ f ∷ []) e
  divided-more fs f d e r k i h t =
      let m : More fs f d r = more fs f d r k i h in
      record {
        conditions = m.conditions;
        conditioned = m.conditioned;
        joined = t.condition ∙ m.joined;
        shared = subst (AreShares s q xs (fs ++ f ∷ [])) (sym t.shares) (shares-push k.shared m.shared);
      }

  -- a conjunct in the way
  pub stuck-at : (fs : List Form) (f : Form) (r : Role) → Contains fs f → IsRole s q xs f r → is_in_way r ≡ true → IsStuck s q fs
  stuck-at fs f (role.Guard parts) w i h = let h : false ≡ true = h in cc
  stuck-at fs f (role.Lacks g) w i h = let h : false ≡ true = h in cc
  stuck-at fs f (role.Waits g) w i h = let h : false ≡ true = h in cc
  stuck-at fs f role.InWay w i h = record {
    conjunct = f;
    within = w;
    has = i.0;
    none = λ ys c r g. let p = any_parameters s q ys xs g in i.1 p.condition p.rest p.is;
  }

  -- ---- what becomes of the conjuncts

  pub shares-clear : (value : Form) {fs : List Form} {shares : List Share} → AreShares s q xs fs shares → AreCleared s q xs value fs (map (share_form q xs value) shares)
  shares-clear value nothing = all_done
  shares-clear value (lacks {f = f} h k) = replaced (no_sign q f h s) (pred_sub-lacks q xs value f h) (shares-clear value k)
  shares-clear value (waits {u = share.Ready g} h w k) = absurd w
  shares-clear value (waits {u = share.Waits g} h w k) =
      replaced h (subst (λ f. IsPredSub q xs value f (share_form q xs value (share.Waits g))) w (is_pred_sub q xs value g.now)) (shares-clear value k)
  shares-clear value (guards h g k) = rest h g (shares-clear value k)
