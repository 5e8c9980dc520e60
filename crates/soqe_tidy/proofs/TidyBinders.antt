-- A binder and the two parts of a node in the walk that makes a formula tidy.
use Rattle.std.proofs.Common.{◌≡◌, ℕ, ◌+◌, Bool, true, false, cond, eqb, not, ◌||◌, List, ◌++◌, refl, sym, ◌∙◌, ap, subst, arith}
use Rattle.std.proofs.lemmas.Bool.{both_ways}
use Rattle.std.proofs.lemmas.List.{map-append}
use Rattle.soqe_term.specs.declared.term.Var.{Var}
use Rattle.soqe_term.specs.Renumber.{numbered, renames}
use Rattle.soqe_number.specs.Unused.{member}
use Rattle.soqe_number.specs.Updates.{changed}
use Rattle.soqe_term.proofs.Worlds.{changed-again, changed-same}
use Rattle.soqe_form.specs.Boxes.{boxes}
use Rattle.soqe_form.specs.declared.form.Form.{Form, And, Or, Imp, Iff}
use Rattle.soqe_number.specs.declared.unkept.Unkept.{Unkept}
use Rattle.soqe_number.specs.declared.tally.Tally.{Tally}
use Rattle.soqe_number.specs.Marks.{IsLeastWithout}
use Rattle.soqe_number.specs.Unkept.{Keeps, IsLeastBeside}
use Rattle.soqe_form.specs.FreeVars.{others, free_occurrences}
use Rattle.soqe_tidy.specs.Numbers.{new_numbers}
use Rattle.soqe_number.proofs.Tallied.{unknown}
use Rattle.soqe_number.specs.Counts.{times}
use Rattle.soqe_number.specs.Tallies.{Gains, IsRight, IsRightIfKnown, Finds, Leaves}
use Rattle.soqe_tidy.specs.Tidy.{tidy_number, tidied}
use Rattle.soqe_uses.specs.Uses.{uses, top, under, below, AreOnTop}
use Rattle.soqe_tidy.specs.Tidies.{Tidies, TidiesPart, TidiesBelow, IsOfLarger}
use Rattle.soqe_number.proofs.Counted.{times-append}
use Rattle.soqe_tidy.proofs.TidyNumbers.{from_not, tidy_number-is}
use Rattle.soqe_tidy.proofs.NumbersChanged.{times-changed}

abbrev Pairs : Type 0
Pairs = List (ℕ × ℕ)

-- the least number beside those of the other free variables is the tidy one
number-tidy : (keep : List ℕ) (u : Unkept) (r : ℕ → ℕ) (x : ℕ) (f : Form) (n : ℕ) → Keeps keep u → IsLeastBeside u (new_numbers r (others x (free_occurrences f))) n → n ≡ tidy_number keep r x f
number-tidy keep u r x f n k least =
    tidy_number-is keep r x f n (subst (λ p. IsLeastWithout p n) (λ i m. k.marks i m || member m (new_numbers r (others x (free_occurrences f)))) (least k.others))

-- below the binder its variable's uses were added to the tally, for its number
right-below : (u : Unkept) (r : ℕ → ℕ) (x n count : ℕ) (f : Form) (a b : Tally) → IsRight u (new_numbers r (others x (free_occurrences f))) a → Gains (λ m. cond (eqb m n) count 0) a b
    → count ≡ uses x f → IsRight u (new_numbers (changed r x n) (free_occurrences f)) b
right-below u r x n count f a b right gains own = record {
  shape = gains.shape u right.shape;
  counts = λ m. gains.counts m ∙ (λ i. cond (eqb m n) (own i) 0 + right.counts m i) ∙ sym (times-changed m r x n (free_occurrences f));
}

-- The binder has its number n. Its variable has that number while the body is gone through, and then its old one.
pub tidies-below : (u : Unkept) (r s t v : Pairs) (a b c : Tally) (old mid new : List ℕ) (x : Var) (f made : Form) (n count outer : ℕ)
    → count ≡ top 0 old → mid ≡ under old → Finds u (new_numbers (renames r) (others x.num (free_occurrences f))) a b n
    → outer ≡ renames r x.num → renames s ≡ changed (renames r) x.num n → (c.is_known ≡ true → Gains (λ m. cond (eqb m n) count 0) b c)
    → Tidies u s t c mid new f made → renames v ≡ changed (renames t) x.num outer → TidiesBelow u r v a old new x f (numbered x n) made
tidies-below u r s t v a b c old mid new x f made n count outer here rest finds was set gains p back =
    let number : (keep : List ℕ) → Keeps keep u → IsRightIfKnown u (new_numbers (renames r) (others x.num (free_occurrences f))) a → n ≡ tidy_number keep (renames r) x.num f =
    λ keep k h. number-tidy keep u (renames r) x.num f n k (finds.least h) in
    record {
      binder = λ keep k h. ap (numbered x) (number keep k h);
      body = λ keep k own on h.
          p.is keep k (subst (AreOnTop f) (sym rest) on)
          (λ e. subst (λ q. IsRight u (new_numbers q (free_occurrences f)) c) (sym set)
          (right-below u (renames r) x.num n count f b c (finds.right k.others h (sym (gains e).known ∙ e)) (gains e) (here ∙ own)))
          ∙ ap (λ q. tidied keep q f) (set ∙ ap (changed (renames r) x.num) (number keep k h));
      by =
          back ∙ ap (λ q. changed q x.num outer) (p.by ∙ set) ∙ changed-again (renames r) x.num n outer
          ∙ ap (changed (renames r) x.num) was ∙ changed-same (renames r) x.num;
      rest = p.rest ∙ ap (below f) rest;
    }

times-parts : (n : ℕ) (r : ℕ → ℕ) (xs ys : List Var) → times n (new_numbers r (xs ++ ys)) ≡ times n (new_numbers r xs) + times n (new_numbers r ys)
times-parts n r xs ys = ap (times n) (map-append (λ (y : Var). r y.num) xs ys) ∙ times-append n (new_numbers r xs) (new_numbers r ys)

times-swapped : (n : ℕ) (r : ℕ → ℕ) (xs ys : List Var) → times n (new_numbers r (xs ++ ys)) ≡ times n (new_numbers r ys) + times n (new_numbers r xs)
times-swapped n r xs ys = let e = times-parts n r xs ys in omega (arith, e)

-- the tally of the larger part, without the numbers of the smaller one
pub larger-right : (u : Unkept) (r : ℕ → ℕ) (f g : Form) (a b : Tally) → Leaves u (new_numbers r (free_occurrences f)) a b → IsOfLarger u r f g true a b
larger-right u r f g a b leaves = record {
  left = λ e. absurd (both_ways true e refl);
  right = λ e.
      leaves.is (new_numbers r (free_occurrences f ++ free_occurrences g)) (new_numbers r (free_occurrences g)) (λ n. times-parts n r (free_occurrences f) (free_occurrences g));
}

pub larger-left : (u : Unkept) (r : ℕ → ℕ) (f g : Form) (a b : Tally) → Leaves u (new_numbers r (free_occurrences g)) a b → IsOfLarger u r f g false a b
larger-left u r f g a b leaves = record {
  left = λ e.
      leaves.is (new_numbers r (free_occurrences f ++ free_occurrences g)) (new_numbers r (free_occurrences f)) (λ n. times-swapped n r (free_occurrences f) (free_occurrences g));
  right = λ e. absurd (both_ways false refl e);
}

-- a part that goes on with the tally, one that is gone through with one of its own, and one where the tally is not known
pub part-on : (u : Unkept) (r s : Pairs) (a b : Tally) (old new : List ℕ) (f made : Form) → Tidies u r s a old new f made → TidiesPart u true r s a b old new f made
part-on u r s a b old new f made p = record {
  is = λ keep k on h. p.is keep k on (h refl);
  by = p.by;
  rest = p.rest;
  right = λ e. absurd (both_ways true e refl);
}

pub part-alone : (u : Unkept) (r s : Pairs) (a own : Tally) (old new : List ℕ) (f made : Form) → own.is_known ≡ false → Tidies u r s own old new f made → TidiesPart u false r s a a old new f made
part-alone u r s a own old new f made off p = record {
  is = λ keep k on h. p.is keep k on (unknown u (new_numbers (renames r) (free_occurrences f)) own off);
  by = p.by;
  rest = p.rest;
  right = λ e ns h. h;
}

pub part-unknown : (u : Unkept) (r s : Pairs) (a b : Tally) (old new : List ℕ) (f made : Form) → a.is_known ≡ false → b.is_known ≡ false → Tidies u r s a old new f made → TidiesPart u false r s a b old new f made
part-unknown u r s a b old new f made off later p = record {
  is = λ keep k on h. p.is keep k on (unknown u (new_numbers (renames r) (free_occurrences f)) a off);
  by = p.by;
  rest = p.rest;
  right = λ e ns h. unknown u ns b later;
}

-- both parts of a node were made tidy
pub record TidiesBoth (u : Unkept) (r s : Pairs) (tally : Tally) (old new : List ℕ) (f g made_f made_g : Form) : Type 0 where
  pub left : (keep : List ℕ) → Keeps keep u → (AreOnTop g old × AreOnTop f (below g old))
      → IsRightIfKnown u (new_numbers (renames r) (free_occurrences f ++ free_occurrences g)) tally → made_f ≡ tidied keep (renames r) f
  pub right : (keep : List ℕ) → Keeps keep u → (AreOnTop g old × AreOnTop f (below g old))
      → IsRightIfKnown u (new_numbers (renames r) (free_occurrences f ++ free_occurrences g)) tally → made_g ≡ tidied keep (renames r) g
  pub by : renames s ≡ renames r
  pub rest : new ≡ below f (below g old)

-- the right part is gone through first; the larger part goes on with the tally
pub both-parts : (u : Unkept) (r s v : Pairs) (larger : Bool) (a b c d : Tally) (old start mid new : List ℕ) (f g made_f made_g : Form)
    → IsOfLarger u (renames r) f g larger a b → start ≡ old → TidiesPart u larger r s b c start mid g made_g → TidiesPart u (not larger) s v c d mid new f made_f
    → TidiesBoth u r v a old new f g made_f made_g
both-parts u r s v larger a b c d old start mid new f g made_f made_g of same p q = record {
  left = λ keep k on h.
      q.is keep k (subst (AreOnTop f) (sym p.rest) (subst (λ l. AreOnTop f (below g l)) (sym same) on.1))
      (λ e. let off : larger ≡ false = from_not larger e in
      subst (λ m. IsRightIfKnown u (new_numbers m (free_occurrences f)) c) (sym p.by)
      (p.right off (new_numbers (renames r) (free_occurrences f)) (of.left off h)))
      ∙ ap (λ m. tidied keep m f) p.by;
  right = λ keep k on h. p.is keep k (subst (AreOnTop g) (sym same) on.0) (λ e. of.right e h);
  by = q.by ∙ p.by;
  rest = q.rest ∙ ap (below f) p.rest ∙ ap (λ l. below f (below g l)) same;
}

-- a conjunction
pub tidies-and : (u : Unkept) (r v : Pairs) (a : Tally) (old new : List ℕ) (h f g made_f made_g : Form) → h ≡ And f g → TidiesBoth u r v a old new f g made_f made_g
    → Tidies u r v a old new h (And made_f made_g)
unfolding boxes
tidies-and u r v a old new h f g made_f made_g e p =
    let made : Tidies u r v a old new (And f g) (And made_f made_g) =
    record { is = λ keep k on d i. And (p.left keep k on d i) (p.right keep k on d i); by = p.by; rest = p.rest } in
    subst (λ b. Tidies u r v a old new b (And made_f made_g)) (sym e) made

-- a disjunction
pub tidies-or : (u : Unkept) (r v : Pairs) (a : Tally) (old new : List ℕ) (h f g made_f made_g : Form) → h ≡ Or f g → TidiesBoth u r v a old new f g made_f made_g
    → Tidies u r v a old new h (Or made_f made_g)
unfolding boxes
tidies-or u r v a old new h f g made_f made_g e p =
    let made : Tidies u r v a old new (Or f g) (Or made_f made_g) =
    record { is = λ keep k on d i. Or (p.left keep k on d i) (p.right keep k on d i); by = p.by; rest = p.rest } in
    subst (λ b. Tidies u r v a old new b (Or made_f made_g)) (sym e) made

-- an implication
pub tidies-imp : (u : Unkept) (r v : Pairs) (a : Tally) (old new : List ℕ) (h f g made_f made_g : Form) → h ≡ Imp f g → TidiesBoth u r v a old new f g made_f made_g
    → Tidies u r v a old new h (Imp made_f made_g)
unfolding boxes
tidies-imp u r v a old new h f g made_f made_g e p =
    let made : Tidies u r v a old new (Imp f g) (Imp made_f made_g) =
    record { is = λ keep k on d i. Imp (p.left keep k on d i) (p.right keep k on d i); by = p.by; rest = p.rest } in
    subst (λ b. Tidies u r v a old new b (Imp made_f made_g)) (sym e) made

-- an equivalence
pub tidies-iff : (u : Unkept) (r v : Pairs) (a : Tally) (old new : List ℕ) (h f g made_f made_g : Form) → h ≡ Iff f g → TidiesBoth u r v a old new f g made_f made_g
    → Tidies u r v a old new h (Iff made_f made_g)
unfolding boxes
tidies-iff u r v a old new h f g made_f made_g e p =
    let made : Tidies u r v a old new (Iff f g) (Iff made_f made_g) =
    record { is = λ keep k on d i. Iff (p.left keep k on d i) (p.right keep k on d i); by = p.by; rest = p.rest } in
    subst (λ b. Tidies u r v a old new b (Iff made_f made_g)) (sym e) made
