-- A binder under substitution. Where it catches a variable it gets the least number that does not stand in its body, which the tally
-- tells; the new variable is carried down, and the tally counts it from there on in the place of the old one.
use Rattle.std.proofs.Common.{◌≡◌, ℕ, ◌+◌, Bool, true, false, cond, eqb, ◌||◌, List, [], ◌∷◌, Option, Some, None, refl, sym, ◌∙◌, ap, subst}
use Rattle.std.proofs.lemmas.Bool.{eqb-true}
use Rattle.soqe_term.specs.declared.bindings.Bound.{Bound as Pair}
use Rattle.soqe_term.specs.declared.term.Var.{Var}
use Rattle.soqe_term.specs.Renumber.{numbered}
use Rattle.soqe_term.specs.Occurs.{occurs}
use Rattle.soqe_number.specs.Unused.{member}
use Rattle.soqe_number.specs.Updates.{changed}
use Rattle.soqe_number.proofs.Choices.{or_none_first, or_none_second}
use Rattle.soqe_term.proofs.Worlds.{changed-again, changed-same, changed-at}
use Rattle.soqe_form.specs.declared.form.Form.{Form, All}
use Rattle.soqe_form.specs.Boxes.{boxes}
use Rattle.soqe_number.specs.Counts.{times}
use Rattle.soqe_number.specs.Marks.{marked, IsLeastWithout}
use Rattle.soqe_form.specs.Mentions.{mentions}
use Rattle.soqe_number.specs.declared.unkept.Unkept.{Unkept}
use Rattle.soqe_number.specs.declared.tally.Tally.{Tally}
use Rattle.soqe_number.specs.Unkept.{Keeps, IsLeastBeside}
use Rattle.soqe_uses.specs.Uses.{uses, top, under, below}
use Rattle.soqe_number.specs.Tallies.{IsRightIfKnown, Leaves, Finds}
use Rattle.soqe_subst.specs.declared.walk.Walk.{Walk}
use Rattle.soqe_subst.specs.declared.walk.Found.{Found}
use Rattle.soqe_subst.specs.Catching.{AreCaught}
use Rattle.soqe_subst.specs.NewVars.{new_var}
use Rattle.soqe_subst.specs.Renewed.{renewed, binds}
use Rattle.soqe_subst.specs.Standing.{standing, lost_below}
use Rattle.soqe_subst.specs.Substitution.{sub, visible, without, renamed, bound_mentions, catches, fresh, new_binder, new_body}
use Rattle.soqe_subst.specs.Substitutes.{seen, left_of, IsReadyAt, IsReady, IsRightFor, IsSame, Substitutes, Exchanges, IsReadyBody, SubstitutesBody, SubstitutesBelow}
use Rattle.soqe_subst.proofs.Binders.{without-visible}
use Rattle.soqe_subst.proofs.Caught.{distinct-visible, any-under, any-top}
use Rattle.soqe_subst.proofs.Renewed.{renamed-renewed, binds-mentions, catches-renewed}
use Rattle.soqe_subst.proofs.StandingNumbers.{fresh-least, standing-below, standing-exchanged}
use Rattle.soqe_subst.proofs.Substitutions.{fresh-is}
use Rattle.soqe_subst.proofs.SubstitutingParts.{ready-moved, right-moved}

-- ---- the number

-- the least number beside those that stand there is the new one
number-fresh : (u : Unkept) (v : List Pair) (g : Form) (n : ℕ) → Keeps [] u → IsLeastBeside u (standing v g) n → n ≡ fresh v g
number-fresh u v g n k least = fresh-least v g n (subst (λ p. IsLeastWithout p n) (λ i m. k.marks i m || member m (standing v g)) (least k.others))

-- ---- new variables

-- y has the new variable z, and the others theirs
changed_case : (r : ℕ → Option Var) (y n : ℕ) (z x : Var) (P : ℕ → Var → Type 0) → P y z → (r n ≡ Some x → P n x) → changed r y (Some z) n ≡ Some x → P n x
changed_case r y n z x P at other e = choose (eqb n y) refl e
  where
    value : (z x : Var) → Some z ≡ Some x → z ≡ x
    value z x e = ap (get z) e
      where
        get : Var → Option Var → Var
        get d None = d
        get d (Some v) = v

    choose : (b : Bool) → eqb n y ≡ b → cond b (Some z) (r n) ≡ Some x → P n x
    choose true q e = subst (λ m. P m x) (sym (eqb-true n y q)) (subst (P y) (value z x e) at)
    choose false q e = other e

-- y has none, and the others theirs
none_case : (r : ℕ → Option Var) (y n : ℕ) (x : Var) → changed r y None n ≡ Some x → (eqb n y ≡ false) × (r n ≡ Some x)
none_case r y n x e = choose (eqb n y) refl e
  where
    off : {A : Type 0} (x : Var) → None ≡ Some x → A
    off x e = let e : None ≡ Some x = e in cc

    choose : (b : Bool) → eqb n y ≡ b → cond b None (r n) ≡ Some x → (eqb n y ≡ false) × (r n ≡ Some x)
    choose true q e = off x e
    choose false q e = (q, e)

-- a number that does not stand in a binding does not stand in it without y
mentions-without : (n : ℕ) (y : ℕ) (s : List Pair) → bound_mentions n s ≡ false → bound_mentions n (without y s) ≡ false
mentions-without n y [] h = refl
mentions-without n y (b ∷ more) h =
    step (eqb b.var.num y) (bound_mentions n (without y more)) (or_none_first (eqb n b.var.num) (occurs n b.term || bound_mentions n more) h)
    (or_none_first (occurs n b.term) (bound_mentions n more) (or_none_second (eqb n b.var.num) (occurs n b.term || bound_mentions n more) h))
    (mentions-without n y more (or_none_second (occurs n b.term) (bound_mentions n more) (or_none_second (eqb n b.var.num) (occurs n b.term || bound_mentions n more) h)))
  where
    step : (q c : Bool) → eqb n b.var.num ≡ false → occurs n b.term ≡ false → bound_mentions n (without y more) ≡ false → bound_mentions n (cond q (without y more) (b ∷ without y more)) ≡ false
    step true c e o h = h
    step false c e o h = λ i. e i || (o i || h i)

-- ---- a binder that is hidden already

-- one that catches nothing
pub body-kept : (u : Unkept) (s : List Pair) (a b : Walk) (t : Tally) (found : Found) (y : Var) (f m : Form) → found.catches ≡ false → Substitutes u s a b t f m
    → SubstitutesBody u s a b t found y f y m
body-kept u s a b t found y f m off p =
    let v = seen s a in
    let g = left_of a f in
    let none : IsReadyBody u s a found y f → catches v y g ≡ false =
    λ ready. catches-renewed v (marked a.hidden) s y (new_var a.renamed) f refl ready.body.apart ∙ sym ready.known.catches ∙ off in
    record {
      binder = λ ready right. sym (ap (λ q. cond q (numbered y (fresh v g)) y) (none ready));
      body = λ k h ready right. p.is k h ready.body right ∙ sym (ap (λ q. sub k v (cond q (renamed y.num (numbered y (fresh v g)) g) g)) (none ready));
      walk = p.walk;
    }

-- one that gets a new number
pub body-renamed : (u : Unkept) (s : List Pair) (a a1 a2 b c : Walk) (t t1 t2 : Tally) (found : Found) (y : Var) (n : ℕ) (f m : Form) → new_var a.renamed y.num ≡ None → found.catches ≡ true
    → Finds u (standing (seen s a) (left_of a f)) t t1 n → IsSame a a1 → Exchanges u y.num n found.count t1 t2
    → a2.hidden ≡ a1.hidden → new_var a2.renamed ≡ changed (new_var a1.renamed) y.num (Some (numbered y n)) → a2.catches ≡ a1.catches → a2.uses ≡ a1.uses
    → Substitutes u s a2 b t2 f m
    → c.hidden ≡ b.hidden → new_var c.renamed ≡ changed (new_var b.renamed) y.num None → c.catches ≡ b.catches → c.uses ≡ b.uses
    → SubstitutesBody u s a c t found y f (numbered y n) m
body-renamed u s a a1 a2 b c t t1 t2 found y n f m stays on finds same exchanges hid ren cat used p hid2 ren2 cat2 used2 =
    let r : ℕ → Option Var = new_var a.renamed in
    let z : Var = numbered y n in
    let v : List Pair = seen s a in
    let g : Form = left_of a f in
    let h2 : marked a.hidden ≡ marked a2.hidden = ap marked (sym same.hidden ∙ sym hid) in
    let r2 : changed r y.num (Some z) ≡ new_var a2.renamed = ap (λ q. changed q y.num (Some z)) (sym same.renamed) ∙ sym ren in
    let c2 : a.catches ≡ a2.catches = sym same.catches ∙ sym cat in
    let u2 : a.uses ≡ a2.uses = sym same.uses ∙ sym used in
    let does : IsReadyBody u s a found y f → catches v y g ≡ true =
    λ ready. catches-renewed v (marked a.hidden) s y r f refl ready.body.apart ∙ sym ready.known.catches ∙ on in
    let number : IsReadyBody u s a found y f → IsRightFor u s a f t → n ≡ fresh v g = λ ready right. number-fresh u v g n ready.body.kept (finds.least right) in
    let new : n ≡ fresh v g → (bound_mentions n v ≡ false) × (binds n f ≡ false) =
    λ e. let is = fresh-is v g in
    (ap (λ q. bound_mentions q v) e ∙ is.not_bound, binds-mentions n r f (ap (λ q. mentions q g) e ∙ is.not_in)) in
    let ready2 : IsReadyBody u s a found y f → n ≡ fresh v g → IsReadyAt u s (marked a.hidden) (changed r y.num (Some z)) a.catches a.uses f =
    λ ready e. record {
      kept = ready.body.kept;
      distinct = ready.body.distinct;
      apart = record {
        hides = λ k x q. changed_case r y.num k z x (λ k x. marked a.hidden k ≡ true) ready.hidden (ready.body.apart.hides k x) q;
        stands = λ k x q. changed_case r y.num k z x (λ k x. bound_mentions x.num v ≡ false) (new e).0 (ready.body.apart.stands k x) q;
      };
      unbound = λ k x q. changed_case r y.num k z x (λ k x. binds x.num f ≡ false) (new e).1 (ready.body.unbound k x) q;
      caught = ready.body.caught;
      used = ready.body.used;
    } in
    let right2 : IsReadyBody u s a found y f → IsRightFor u s a f t → IsRightIfKnown u (standing v (renewed (changed r y.num (Some z)) f)) t2 =
    λ ready right.
    exchanges.is (standing v g) (standing v (renewed (changed r y.num (Some z)) f))
    (λ k. ap (λ q. times k (standing v (renewed (changed r y.num (Some z)) f)) + cond (eqb k y.num) q 0) (ready.known.count on) ∙ standing-exchanged k v r y.num z f stays
    ∙ ap (λ q. times k (standing v g) + cond (eqb k n) q 0) (sym (ready.known.count on)))
    (finds.right ready.body.kept.others right) in
    record {
      binder = λ ready right. ap (numbered y) (number ready right) ∙ sym (ap (λ q. cond q (numbered y (fresh v g)) y) (does ready));
      body = λ k h ready right.
          let e = number ready right in
          p.is k h
          (ready-moved u s f (marked a.hidden) (marked a2.hidden) (changed r y.num (Some z)) (new_var a2.renamed) a.catches a2.catches a.uses a2.uses h2 r2 c2 u2 (ready2 ready e))
          (right-moved u s f t2 (marked a.hidden) (marked a2.hidden) (changed r y.num (Some z)) (new_var a2.renamed) h2 r2 (right2 ready right))
          ∙ (λ i. sub k (visible (sym h2 i) s) (renewed (sym r2 i) f))
          ∙ ap (sub k v) (sym (renamed-renewed r y.num z f ready.unbound stays))
          ∙ ap (λ q. sub k v (renamed y.num (numbered y q) g)) e
          ∙ sym (ap (λ q. sub k v (cond q (renamed y.num (numbered y (fresh v g)) g) g)) (does ready));
      walk = record {
        hidden = ap marked hid2 ∙ p.walk.hidden ∙ sym h2;
        renamed =
            ren2 ∙ ap (λ q. changed q y.num None) (p.walk.renamed ∙ sym r2) ∙ changed-again r y.num (Some z) None
            ∙ ap (changed r y.num) (sym stays) ∙ changed-same r y.num;
        catches = cat2 ∙ p.walk.catches ∙ ap (below f) (sym c2);
        uses = used2 ∙ p.walk.uses ∙ ap (below f) (sym u2);
      };
    }

-- ---- a binder that is yet to be hidden

pub body-below : (u : Unkept) (s : List Pair) (a a1 a2 b c : Walk) (t t1 : Tally) (found : Found) (y z : Var) (f m : Form)
    → found.catches ≡ top false a.catches → found.count ≡ top 0 a.uses → a1.catches ≡ under a.catches → a1.uses ≡ under a.uses → a1.hidden ≡ a.hidden → a1.renamed ≡ a.renamed
    → Leaves u (lost_below (visible (marked a1.hidden) s) y.num) t t1
    → marked a2.hidden ≡ changed (marked a1.hidden) y.num true → new_var a2.renamed ≡ changed (new_var a1.renamed) y.num None → a2.catches ≡ a1.catches → a2.uses ≡ a1.uses
    → SubstitutesBody u s a2 b t1 found y f z m
    → marked c.hidden ≡ changed (marked b.hidden) y.num (marked a1.hidden y.num) → new_var c.renamed ≡ changed (new_var b.renamed) y.num (new_var a1.renamed y.num)
    → c.catches ≡ b.catches → c.uses ≡ b.uses
    → SubstitutesBelow u s a c t y f z m
unfolding boxes
body-below u s a a1 a2 b c t t1 found y z f m fc fn c1 n1 h1 r1 leaves h2 r2 c2 n2 p h3 r3 c3 n3 =
    let h : ℕ → Bool = marked a.hidden in
    let r : ℕ → Option Var = new_var a.renamed in
    let v : List Pair = seen s a in
    let w : List Pair = without y.num v in
    let hy : ℕ → Bool = changed h y.num true in
    let ry : ℕ → Option Var = changed r y.num None in
    let eh : hy ≡ marked a2.hidden = ap (λ q. changed (marked q) y.num true) (sym h1) ∙ sym h2 in
    let er : ry ≡ new_var a2.renamed = ap (λ q. changed (new_var q) y.num None) (sym r1) ∙ sym r2 in
    let ec : under a.catches ≡ a2.catches = sym c1 ∙ sym c2 in
    let en : under a.uses ≡ a2.uses = sym n1 ∙ sym n2 in
    let hides : w ≡ visible hy s = without-visible h y.num s in
    let sees : w ≡ seen s a2 = hides ∙ ap (λ q. visible q s) eh in
    let ready : IsReady u s a (All y f) → IsReadyAt u s hy ry (under a.catches) (under a.uses) f =
    λ q. record {
      kept = q.kept;
      distinct = q.distinct;
      apart = record {
        hides = λ k x e. let is = none_case r y.num k x e in ap (λ b. cond b true (h k)) is.0 ∙ q.apart.hides k x is.1;
        stands = λ k x e. ap (bound_mentions x.num) (sym hides) ∙ mentions-without x.num y.num v (q.apart.stands k x (none_case r y.num k x e).1);
      };
      unbound = λ k x e. or_none_second (eqb x.num y.num) (binds x.num f) (q.unbound k x (none_case r y.num k x e).1);
      caught = subst (λ l. AreCaught l f (under a.catches)) hides q.caught.1;
      used = λ any. (q.used (any-under a.catches any)).1;
    } in
    let body : IsReady u s a (All y f) → IsReadyBody u s a2 found y f =
    λ q. record {
      body = ready-moved u s f hy (marked a2.hidden) ry (new_var a2.renamed) (under a.catches) a2.catches (under a.uses) a2.uses eh er ec en (ready q);
      hidden = (λ i. sym eh i y.num) ∙ changed-at h y.num true;
      unbound = λ k x e. or_none_first (eqb x.num y.num) (binds x.num f) (q.unbound k x (none_case r y.num k x ((λ i. er i k) ∙ e)).1);
      known = record {
        catches = fc ∙ q.caught.0 ∙ ap (λ l. catches l y f) sees;
        count = λ e. fn ∙ (q.used (any-top a.catches (sym fc ∙ e))).0;
      };
    } in
    let right : IsReady u s a (All y f) → IsRightFor u s a (All y f) t → IsRightFor u s a2 f t1 =
    λ q o.
    right-moved u s f t1 hy (marked a2.hidden) ry (new_var a2.renamed) eh er
    (subst (λ l. IsRightIfKnown u (standing l (renewed ry f)) t1) hides
    (leaves.is (standing v (All y (renewed ry f))) (standing w (renewed ry f))
    (λ k. standing-below k v y (renewed ry f) (distinct-visible h s q.distinct)
    ∙ ap (λ l. times k (lost_below (visible (marked l) s) y.num) + times k (standing w (renewed ry f))) (sym h1))
    o)) in
    record {
      binder = λ q o. p.binder (body q) (right q o) ∙ (λ i. new_binder (sym sees i) y (renewed (sym er i) f));
      body = λ k d q o. p.body k d (body q) (right q o) ∙ (λ i. sub k (sym sees i) (new_body (sym sees i) y (renewed (sym er i) f)));
      walk = record {
        hidden =
            h3 ∙ ap (λ q. changed q y.num (marked a1.hidden y.num)) (p.walk.hidden ∙ sym eh) ∙ changed-again h y.num true (marked a1.hidden y.num)
            ∙ ap (λ q. changed h y.num (marked q y.num)) h1 ∙ changed-same h y.num;
        renamed =
            r3 ∙ ap (λ q. changed q y.num (new_var a1.renamed y.num)) (p.walk.renamed ∙ sym er) ∙ changed-again r y.num None (new_var a1.renamed y.num)
            ∙ ap (λ q. changed r y.num (new_var q y.num)) r1 ∙ changed-same r y.num;
        catches = c3 ∙ p.walk.catches ∙ ap (below f) (sym ec);
        uses = n3 ∙ p.walk.uses ∙ ap (below f) (sym en);
      };
    }
