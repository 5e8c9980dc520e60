-- The condition and the rest of a guard lack the predicate.
use Rattle.std.proofs.Common.{◌≡◌, Bool, true, false, List, [], ◌∷◌, refl, ◌∙◌}
use Rattle.std.proofs.lemmas.Bool.{or_from}
use Rattle.soqe_term.specs.declared.term.Var.{Var}
use Rattle.soqe_term.specs.declared.term.Term.{Var as var}
use Rattle.soqe_term.specs.declared.term.Terms.{Terms, Nil, Cons', end_of-Term as end-t, more_of-Term as one-t, end_of-Terms as ends-t, more_of-Terms as ones-t}
use Rattle.soqe_form.specs.declared.form.Pred.{Pred}
use Rattle.soqe_form.specs.declared.form.Form.{Form, Equal, And}
use Rattle.soqe_form.specs.Boxes.{boxes}
use Rattle.soqe_form.specs.FreePreds.{has_free}
use Rattle.soqe_norm.specs.Nnf.{nnf}
use Rattle.soqe_ack.specs.Guards.{equations_after, equations, IsGuard, lacking, literally, conjoined, quantified, on_right, on_left}
use Rattle.soqe_ack.proofs.NnfPreds.{has_free-nnf}

after-lack : (q : Pred) (f : Form) (xs : List Var) (ts : Terms) → has_free q f ≡ false → has_free q (equations_after f xs ts) ≡ false
unfolding boxes
after-lack q f [] Nil h = h
after-lack q f [] (Cons' _ (one-t t end-t) _ (ones-t ts ends-t)) h = refl
after-lack q f (x ∷ xs) Nil h = refl
after-lack q f (x ∷ xs) (Cons' _ (one-t t end-t) _ (ones-t ts ends-t)) h = after-lack q (And f (Equal (var x) t)) xs ts (or_from (has_free q f) false h refl)

equations-lack : (q : Pred) (xs : List Var) (ts : Terms) → has_free q (equations xs ts) ≡ false
equations-lack q [] Nil = refl
equations-lack q [] (Cons' _ (one-t t end-t) _ (ones-t ts ends-t)) = refl
equations-lack q (x ∷ xs) Nil = refl
equations-lack q (x ∷ xs) (Cons' _ (one-t t end-t) _ (ones-t ts ends-t)) = after-lack q (Equal (var x) t) xs ts refl

-- beside a formula without the predicate
beside : (q : Pred) (f c : Form) → has_free q f ≡ false → has_free q c ≡ false → has_free q (And (nnf true f) c) ≡ false
unfolding boxes
beside q f c h k = or_from (has_free q (nnf true f)) (has_free q c) (has_free-nnf q true f ∙ h) k

pub parts-lack : (s : Bool) (q : Pred) (xs : List Var) (f c r : Form) → IsGuard s q xs f c r → (has_free q c ≡ false) × (has_free q r ≡ false)
unfolding boxes
parts-lack s q xs _ _ _ (lacking h) = (refl, h)
parts-lack s q xs _ _ _ (literally ts) = (equations-lack q xs ts, refl)
parts-lack s q xs _ _ _ (conjoined {f = f} {g = g} {c = c} {d = d} {r = r} {t = t} _ a b) =
    let i = parts-lack s q xs f c r a in let j = parts-lack s q xs g d t b in
    (or_from (has_free q c) (has_free q d) i.0 j.0, or_from (has_free q r) (has_free q t) i.1 j.1)
parts-lack s q xs _ _ _ (quantified {f = f} {c = c} {r = r} _ a) = parts-lack s q xs f c r a
parts-lack s q xs _ _ _ (on_right f {g = g} {d = d} {t = t} h _ b) =
    let j = parts-lack s q xs g d t b in (beside q f d h j.0, or_from (has_free q f) (has_free q t) h j.1)
parts-lack s q xs _ _ _ (on_left {f = f} g {c = c} {r = r} _ h a) =
    let i = parts-lack s q xs f c r a in (beside q g c h i.0, or_from (has_free q r) (has_free q g) i.1 h)
