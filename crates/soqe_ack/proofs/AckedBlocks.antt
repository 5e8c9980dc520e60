-- No quantifier of a predicate is new where a case loses its predicate.
use Rattle.std.proofs.Common.{◌≡◌, ℕ, Bool, true, false, cond, List, [], ◌∷◌, refl, ◌∙◌, ap}
use Rattle.std.specs.List.{list_any}
use Rattle.std.proofs.lemmas.Bool.{or_from}
use Rattle.soqe_term.specs.declared.term.Var.{Var}
use Rattle.soqe_term.specs.declared.term.Term.{Var as var}
use Rattle.soqe_term.specs.declared.term.Terms.{Terms, Nil, Cons', end_of-Term as end-t, more_of-Term as one-t, end_of-Terms as ends-t, more_of-Terms as ones-t}
use Rattle.soqe_number.proofs.Choices.{or_none_first, or_none_second}
use Rattle.soqe_form.specs.declared.form.Pred.{Pred}
use Rattle.soqe_form.specs.declared.form.Pred.TheVariants.{Bound}
use Rattle.soqe_form.specs.declared.form.PVar.{PVar}
use Rattle.soqe_form.specs.declared.form.Form.{Form, Equal, And}
use Rattle.soqe_form.specs.Boxes.{boxes}
use Rattle.soqe_form.specs.Places.{has_blocks}
use Rattle.soqe_norm.specs.Folds.{any_of}
use Rattle.soqe_norm.specs.Nnf.{nnf}
use Rattle.soqe_norm.proofs.Folded.{has_blocks-any, has_blocks-case}
use Rattle.soqe_norm.proofs.Nnfs.{has_blocks-nnf}
use Rattle.soqe_psub.proofs.PredSubLaws.{no_blocks_of}
use Rattle.soqe_ack.specs.Acked.{AreConditions, no_more, no_guard, guard, AreCleared, all_done, replaced, rest, IsAcked}
use Rattle.soqe_ack.specs.Guards.{equations_after, equations, IsGuard, lacking, literally, conjoined, quantified, on_right, on_left}

after-bare : (f : Form) (xs : List Var) (ts : Terms) → has_blocks f ≡ false → has_blocks (equations_after f xs ts) ≡ false
unfolding boxes
after-bare f [] Nil h = h
after-bare f [] (Cons' _ (one-t t end-t) _ (ones-t ts ends-t)) h = refl
after-bare f (x ∷ xs) Nil h = refl
after-bare f (x ∷ xs) (Cons' _ (one-t t end-t) _ (ones-t ts ends-t)) h = after-bare (And f (Equal (var x) t)) xs ts (or_from (has_blocks f) false h refl)

equations-bare : (xs : List Var) (ts : Terms) → has_blocks (equations xs ts) ≡ false
equations-bare [] Nil = refl
equations-bare [] (Cons' _ (one-t t end-t) _ (ones-t ts ends-t)) = refl
equations-bare (x ∷ xs) Nil = refl
equations-bare (x ∷ xs) (Cons' _ (one-t t end-t) _ (ones-t ts ends-t)) = after-bare (Equal (var x) t) xs ts refl

module _ (s : Bool) (q : Pred) (xs : List Var) where
  parts-bare : {f c r : Form} → IsGuard s q xs f c r → has_blocks f ≡ false → (has_blocks c ≡ false) × (has_blocks r ≡ false)
  unfolding boxes
  parts-bare (lacking h) k = (refl, k)
  parts-bare (literally ts) k = (equations-bare xs ts, refl)
  parts-bare (conjoined {f = f} {g = g} {c = c} {d = d} {r = r} {t = t} _ a b) k =
      let i = parts-bare a (or_none_first (has_blocks f) (has_blocks g) k) in let j = parts-bare b (or_none_second (has_blocks f) (has_blocks g) k) in
      (or_from (has_blocks c) (has_blocks d) i.0 j.0, or_from (has_blocks r) (has_blocks t) i.1 j.1)
  parts-bare (quantified _ a) k = parts-bare a k
  parts-bare (on_right f {g = g} {d = d} {t = t} _ _ b) k =
      let h : has_blocks f ≡ false = or_none_first (has_blocks f) (has_blocks g) k in
      let j = parts-bare b (or_none_second (has_blocks f) (has_blocks g) k) in
      (or_from (has_blocks (nnf true f)) (has_blocks d) (has_blocks-nnf true f ∙ h) j.0, or_from (has_blocks f) (has_blocks t) h j.1)
  parts-bare (on_left {f = f} g {c = c} {r = r} _ _ a) k =
      let h : has_blocks g ≡ false = or_none_second (has_blocks f) (has_blocks g) k in
      let i = parts-bare a (or_none_first (has_blocks f) (has_blocks g) k) in
      (or_from (has_blocks (nnf true g)) (has_blocks c) (has_blocks-nnf true g ∙ h) i.0, or_from (has_blocks r) (has_blocks g) i.1 h)

  conditions-bare : {fs cs : List Form} → AreConditions s q xs fs cs → list_any has_blocks fs ≡ false → list_any has_blocks cs ≡ false
  conditions-bare no_more k = refl
  conditions-bare (no_guard {f = f} {fs = fs} _ a) k = conditions-bare a (or_none_second (has_blocks f) (list_any has_blocks fs) k)
  conditions-bare (guard {f = f} {c = c} {fs = fs} {cs = cs} _ g a) k =
      or_from (has_blocks c) (list_any has_blocks cs) (parts-bare g (or_none_first (has_blocks f) (list_any has_blocks fs) k)).0
      (conditions-bare a (or_none_second (has_blocks f) (list_any has_blocks fs) k))

  cleared-bare : (value : Form) → has_blocks value ≡ false → {fs gs : List Form} → AreCleared s q xs value fs gs → list_any has_blocks fs ≡ false → list_any has_blocks gs ≡ false
  cleared-bare value v all_done k = refl
  cleared-bare value v (replaced {f = f} {g = g} {fs = fs} {gs = gs} _ is a) k =
      or_from (has_blocks g) (list_any has_blocks gs) (no_blocks_of q xs value f g is v (or_none_first (has_blocks f) (list_any has_blocks fs) k))
      (cleared-bare value v a (or_none_second (has_blocks f) (list_any has_blocks fs) k))
  cleared-bare value v (rest {f = f} {r = r} {fs = fs} {gs = gs} _ g a) k =
      or_from (has_blocks r) (list_any has_blocks gs) (parts-bare g (or_none_first (has_blocks f) (list_any has_blocks fs) k)).1
      (cleared-bare value v a (or_none_second (has_blocks f) (list_any has_blocks fs) k))

value-bare : (b : Bool) (c : Form) → has_blocks c ≡ false → has_blocks (cond b c (nnf true c)) ≡ false
value-bare true c h = h
value-bare false c h = has_blocks-nnf true c ∙ h

pub acked-bare : (s : Bool) (p : PVar) (keep : List ℕ) (vars : List Var) (fs : List Form) (params : List Var) (value form : Form) → IsAcked s p keep vars fs params value form
    → list_any has_blocks fs ≡ false → (has_blocks value ≡ false) × (has_blocks form ≡ false)
acked-bare s p keep vars fs params value form a k =
    let v : has_blocks value ≡ false =
    ap has_blocks a.is_value ∙ value-bare s (any_of a.conditions) (has_blocks-any a.conditions ∙ conditions-bare s (Bound p.num) params a.conditioned k) in
    (v, ap has_blocks a.is_form ∙ has_blocks-case vars a.conjuncts ∙ cleared-bare s (Bound p.num) params value v a.cleared k)
