-- An accepted document's result answers its problem.
--
-- Walk along the rows and keep two facts. The formula that stands is well sorted, and has the goal's truth in every world
-- that fits the declarations. And where a block is open, it is the first one of the formula that stands, and what its lines
-- have come to has the truth of the quantified formula in every world that fits the names in scope at its place. The row
-- `replace` gives the second fact, by the law of signs; a block by cases keeps it in a form of its own, which Cased tells. The
-- row `close` takes it back to the first, since a part replaced by one of equal truth in its scope keeps the truth of the
-- whole. Both facts are kept where a formula is simplified, and where a line shows one with other numbers for what is bound in
-- it. At a result no quantified predicate is left, and a well-sorted formula uses known names alone, so it is pure. A structure
-- that fits gives a world that fits.
use Rattle.std.proofs.Common.{◌≡◌, Bool, true, false, List, [], ◌∷◌, ◌++◌, Option, Some, None, refl, sym, ◌∙◌, ap, subst}
use Rattle.std.specs.Option.{is_some}
use Rattle.soqe_term.specs.Sorting.{Sorting}
use Rattle.soqe_signature.specs.Declarations.{sorting_of}
use Rattle.soqe_signature.specs.Structures.{world_of}
use Rattle.soqe_signature.proofs.Structures.{fits-world}
use Rattle.soqe_form.specs.declared.form.Form.{Form}
use Rattle.soqe_form.specs.declared.form.Block.{Block}
use Rattle.soqe_form.specs.Sorted.{sorted}
use Rattle.soqe_form.specs.Places.{first_block, part_at, put_at, scope_at, quantified, has_blocks}
use Rattle.soqe_form.proofs.Places.{truth-put_at, sorted-part, sorted-put_at}
use Rattle.soqe_form.proofs.FirstBlocks.{block-stands, some-first_block}
use Rattle.soqe_norm.specs.Valued.{valued, value_for}
use Rattle.soqe_norm.proofs.Blocks.{replaces-block, stays-sorted}
use Rattle.soqe_text.specs.declared.problem.Problem.{Problem}
use Rattle.soqe_text.specs.declared.problem.Problem.TheVariants as problem
use Rattle.soqe_deriv.specs.declared.document.Method.{Method}
use Rattle.soqe_deriv.specs.declared.document.Method.TheVariants as method
use Rattle.soqe_deriv.specs.declared.document.Line.{Line}
use Rattle.soqe_deriv.specs.declared.document.Document.{Document}
use Rattle.soqe_deriv.specs.Text.{declared_of}
use Rattle.soqe_text.specs.Sorted.{IsSorted}
use Rattle.soqe_deriv.specs.Valid.{Row, First, Posed, Further, Phase, Fresh, Running, Answered, Halted, Accepted, Ended, Work, Sign, Dls, Opened, State, start_state, goal_of, kept, simplified, opened, comes_to, Step, first, posed, start, block, replace, dls, close, result, mixed, not_reached, end_answered, end_halted, Reach, none, more, further}
use Rattle.soqe_deriv.specs.Sound.{IsSound}
use Rattle.soqe_deriv.proofs.Options.{some-is, none-some, one_of}
use Rattle.soqe_deriv.proofs.Meanings.{Means, means-same, means-simplified}
use Rattle.soqe_deriv.proofs.Cased.{IsCased, cased-comes, keeps-cased}
use Rattle.soqe_form.proofs.Pures.{first-order, free-known}
use Rattle.soqe_form.proofs.SamePures.{blocks-same}

-- what a problem's declarations make known
abbrev known : Problem → Sorting
known p = sorting_of (declared_of p)

-- the formula is well sorted, and has the truth of the problem's goal
abbrev Holds : Problem → Form → Type 0
Holds p f = Means (known p) f (goal_of p)

-- there is a problem, and the formula has the truth of its goal
record Answers (o : Option Problem) (f : Form) : Type 0 where
  problem : Problem
  is : o ≡ Some problem
  holds : Holds problem f

-- what a block's lines have come to is well sorted in the scope of its place, and has the truth of the block there
abbrev Comes : Sorting → Block → Form → Type 0
Comes e b r = Means e r (quantified b)

-- the same of what is left of an open block
abbrev Works : Sorting → Block → Work → Type 0
Works e b (Sign f) = (r : Form) → f ≡ Some r → Comes e b r
Works e b (Dls w) = IsCased e b w

works-come : (e : Sorting) (b : Block) (k : Work) → Works e b k → (r : Form) → comes_to b.exists k ≡ Some r → Comes e b r
works-come e b (Sign f) h = h
works-come e b (Dls w) h = cased-comes e b w h

-- the open block is the first one of the formula that stands
record IsOpen (q : Option Problem) (f : Option Form) (o : Opened) : Type 0 where
  problem : Problem
  posed_is : q ≡ Some problem
  formula : Form
  is : f ≡ Some formula
  first : first_block formula ≡ Some o.block
  work : Works (scope_at o.block.place formula (known problem)) o.block o.work

-- a result was written
abbrev IsDone : Phase → Type 0
IsDone Fresh = ⊥
IsDone Running = ⊥
IsDone Answered = Unit {0}
IsDone Halted = ⊥
IsDone Accepted = Unit {0}
IsDone Ended = ⊥

record Good (s : State) : Type 0 where
  posed_well : (p : Problem) → s.problem ≡ Some p → IsSorted p
  formula : (f : Form) → s.formula ≡ Some f → Answers s.problem f
  block : (o : Opened) → s.block ≡ Some o → IsOpen s.problem s.formula o
  done : IsDone s.phase → (f : Form) → s.formula ≡ Some f → has_blocks f ≡ false

goal-sorted : (p : Problem) → IsSorted p → sorted (known p) (goal_of p) ≡ true
goal-sorted (problem.Elim ds goal) h = h

not-done : {A : Type 0} (s : State) → s.phase ≡ Running → IsDone s.phase → A
not-done s h d = absurd (subst IsDone h d)

unworked : (e : Sorting) (m : Method) (b : Block) → Works e (opened m b).block (opened m b).work
unworked e method.Sign b = λ r q. none-some refl q
unworked e method.Dls b = record { unsplit = λ n. record { present = refl; due = refl; given = refl }; splits = λ f q. none-some refl q }

its-block : (m : Method) (b : Block) → (opened m b).block ≡ b
its-block method.Sign b = refl
its-block method.Dls b = refl

-- a first block stands at its place
stands : (f : Form) (b : Block) → first_block f ≡ Some b → part_at b.place f ≡ Some (quantified b)
stands f b e = block-stands f b e

put-holds : (p : Problem) (f : Form) (b : Block) (r : Form) → first_block f ≡ Some b → Holds p f → Comes (scope_at b.place f (known p)) b r → Holds p (put_at b.place r f)
put-holds p f b r e h c = record {
  well = sorted-put_at b.place f (quantified b) r (stands f b e) (known p) c.well h.well;
  alike = λ w k. truth-put_at b.place f (quantified b) r (stands f b e) (known p) c.alike w k ∙ h.alike w k;
}

block-sorted : (p : Problem) (f : Form) (b : Block) → first_block f ≡ Some b → Holds p f → sorted (scope_at b.place f (known p)) (quantified b) ≡ true
block-sorted p f b e h = sorted-part b.place f (quantified b) (stands f b e) (known p) h.well

value-comes : (p : Problem) (f : Form) (b : Block) (v : Bool) → first_block f ≡ Some b → Holds p f → value_for b ≡ Some v → Comes (scope_at b.place f (known p)) b (valued b.pred.num v b.body)
value-comes p f b v e h q =
    let in_scope = block-sorted p f b e h in
    record { well = stays-sorted (scope_at b.place f (known p)) b v in_scope; alike = replaces-block (scope_at b.place f (known p)) b v q in_scope }

no-blocks : (f : Form) → first_block f ≡ None → has_blocks f ≡ false
no-blocks f e = sym (some-first_block f) ∙ ap is_some e

module _ (s : State) (good : Good s) where
  keeps : {r : Row} {t : State} → Step s r t → Good t
  keeps (first h) = record { posed_well = good.posed_well; formula = good.formula; block = good.block; done = λ d. absurd d }
  keeps (posed {p = p} h n k) = record {
    posed_well = λ q e. subst IsSorted (some-is e) k;
    formula = λ f e. none-some n (good.formula f e).is;
    block = λ o e. none-some n (good.block o e).posed_is;
    done = good.done;
  }
  keeps (start {f = f} {p = p} h q n k) = record {
    posed_well = good.posed_well;
    formula = λ x e. record {
      problem = p;
      is = q;
      holds = subst (Holds p) (some-is e)
          (means-same (known p) f (simplified (kept p) (goal_of p)) (goal_of p) k
          (means-simplified (known p) (kept p) (goal_of p) (goal_of p) (record { well = goal-sorted p (good.posed_well p q); alike = λ w k. refl })));
    };
    block = λ o e. none-some n (good.block o e).is;
    done = λ d. not-done s h d;
  }
  keeps (block {m = m} {f = f} {b = b} h q n k) = record {
    posed_well = good.posed_well;
    formula = good.formula;
    block = λ o e. subst (IsOpen s.problem s.formula) (some-is e) (let a = good.formula f q in record {
      problem = a.problem;
      posed_is = a.is;
      formula = f;
      is = q;
      first = k ∙ ap Some (sym (its-block m b));
      work = unworked (scope_at (opened m b).block.place f (known a.problem)) m b;
    });
    done = λ d. not-done s h d;
  }
  keeps (replace {v = v} {f = f} {b = b} h q k e) = record {
    posed_well = good.posed_well;
    formula = good.formula;
    block = λ o u. subst (IsOpen s.problem s.formula) (some-is u) (let a = good.block (opened method.Sign b) q in
        let g = good.formula a.formula a.is in
        record {
          problem = g.problem;
          posed_is = g.is;
          formula = a.formula;
          is = a.is;
          first = a.first;
          work = λ r c. let scope = scope_at b.place a.formula (known g.problem) in
              subst (Comes scope b) (some-is c)
              (means-same scope f (valued b.pred.num v b.body) (quantified b) e (value-comes g.problem a.formula b v a.first g.holds k));
        });
    done = λ d. not-done s h d;
  }
  keeps (dls {b = b} {w = w} {v = v} h j q k) = record {
    posed_well = good.posed_well;
    formula = good.formula;
    block = λ o u. subst (IsOpen s.problem s.formula) (some-is u) (let a = good.block (record { block = b; work = Dls w }) q in
        let g = good.formula a.formula a.is in
        record {
          problem = a.problem;
          posed_is = a.posed_is;
          formula = a.formula;
          is = a.is;
          first = a.first;
          work = keeps-cased (scope_at b.place a.formula (known a.problem)) b
              (block-sorted a.problem a.formula b a.first (subst (λ p. Holds p a.formula) (one_of g.is a.posed_is) g.holds)) a.work k;
        });
    done = λ d. not-done s h d;
  }
  keeps (close {f = f} {g = g} {r = r} {p = p} {o = o} h j q k u e) =
      let a = good.block o k in
      let c = good.formula a.formula a.is in
      let stood : a.formula ≡ g = one_of a.is q in
      let posed_is : a.problem ≡ p = one_of a.posed_is j in
      let holds : Holds p a.formula = subst (λ p. Holds p a.formula) (one_of c.is j) c.holds in
      let scope = scope_at o.block.place a.formula (known p) in
      let came : Comes scope o.block r = subst (λ p. Comes (scope_at o.block.place a.formula (known p)) o.block r) posed_is (works-come (scope_at o.block.place a.formula (known a.problem)) o.block o.work a.work r u) in
      let comes : Comes scope o.block f =
      means-same scope f (simplified (kept p) r) (quantified o.block) e (means-simplified scope (kept p) r (quantified o.block) came) in
      let put : Holds p (put_at o.block.place f g) = subst (λ x. Holds p (put_at o.block.place f x)) stood (put-holds p a.formula o.block f a.first holds comes) in
      record {
        posed_well = good.posed_well;
        formula = λ x d. record {
          problem = p;
          is = j;
          holds = subst (Holds p) (some-is d) (means-simplified (known p) (kept p) (put_at o.block.place f g) (goal_of p) put);
        };
        block = λ p d. none-some refl d;
        done = λ d. not-done s h d;
      }
  keeps (result {f = f} {g = g} h q n k e) = record {
    posed_well = good.posed_well;
    formula = λ x d. let a = good.formula g q in record {
      problem = a.problem;
      is = a.is;
      holds = subst (Holds a.problem) (some-is d) (means-same (known a.problem) f g (goal_of a.problem) e a.holds);
    };
    block = λ o d. none-some n d;
    done = λ d x u. subst (λ y. has_blocks y ≡ false) (some-is u) (blocks-same f g e ∙ no-blocks g k);
  }
  keeps (mixed h q i j) = record { posed_well = good.posed_well; formula = good.formula; block = good.block; done = λ d. absurd d }
  keeps (not_reached h q p n i u v) = record { posed_well = good.posed_well; formula = good.formula; block = good.block; done = λ d. absurd d }
  keeps (end_answered h) = record {
    posed_well = good.posed_well;
    formula = good.formula;
    block = good.block;
    done = λ d f e. good.done (subst IsDone (sym h) tt) f e;
  }
  keeps (end_halted h) = record { posed_well = good.posed_well; formula = good.formula; block = good.block; done = λ d. absurd d }

good-start : Good start_state
good-start = record {
  posed_well = λ p e. none-some refl e;
  formula = λ f e. none-some refl e;
  block = λ o e. none-some refl e;
  done = λ d. absurd d;
}

good-reached : {rs : List Row} {t : State} → Reach start_state rs t → Good t
good-reached none = good-start
good-reached (more {t = t} r k) = keeps t (good-reached r) k

-- what stands after valid rows is well sorted
pub reached-sorted : {rs : List Row} {t : State} {p : Problem} {f : Form} → Reach start_state rs t → t.problem ≡ Some p → t.formula ≡ Some f
    → sorted (sorting_of (declared_of p)) f ≡ true
reached-sorted {t = t} {p = p} {f = f} r h k =
    let a = (good-reached r).formula f k in
    subst (λ q. sorted (known q) f ≡ true) (one_of a.is h) a.holds.well

-- the problem that is posed last
abbrev posed_after : Option Problem → List Row → Option Problem
posed_after o [] = o
posed_after o (First ∷ rs) = posed_after o rs
posed_after o (Posed p ∷ rs) = posed_after (Some p) rs
posed_after o (Further l ∷ rs) = posed_after o rs

posed_after-append : (o : Option Problem) (rs qs : List Row) → posed_after o (rs ++ qs) ≡ posed_after (posed_after o rs) qs
posed_after-append o [] qs = refl
posed_after-append o (First ∷ rs) qs = posed_after-append o rs qs
posed_after-append o (Posed p ∷ rs) qs = posed_after-append (Some p) rs qs
posed_after-append o (Further l ∷ rs) qs = posed_after-append o rs qs

posed_after-further : (o : Option Problem) (ls : List Line) → posed_after o (further ls) ≡ o
posed_after-further o [] = refl
posed_after-further o (l ∷ ls) = posed_after-further o ls

step-posed : {s t : State} {r : Row} → Step s r t → t.problem ≡ posed_after s.problem (r ∷ [])
step-posed (first h) = refl
step-posed (posed h n k) = refl
step-posed (start h q n k) = refl
step-posed (block h q n k) = refl
step-posed (replace h q k e) = refl
step-posed (dls h j q k) = refl
step-posed (close h j q k u e) = refl
step-posed (result h q n k e) = refl
step-posed (mixed h q i j) = refl
step-posed (not_reached h q p n i u v) = refl
step-posed (end_answered h) = refl
step-posed (end_halted h) = refl

reach-posed : {rs : List Row} {t : State} → Reach start_state rs t → t.problem ≡ posed_after None rs
reach-posed none = refl
reach-posed (more {rs = rs} {r = r} k h) = step-posed h ∙ ap (λ o. posed_after o (r ∷ [])) (reach-posed k) ∙ sym (posed_after-append None rs (r ∷ []))

pub accepted_sound : (d : Document) → IsSound d
accepted_sound d f a =
    let good = good-reached a.reach in
    let answers = good.formula f a.formula in
    let posed_is : a.last.problem ≡ Some d.problem = reach-posed a.reach ∙ posed_after-further (Some d.problem) d.lines in
    let holds : Holds d.problem f = subst (λ p. Holds p f) (one_of answers.is posed_is) answers.holds in
    let bare : has_blocks f ≡ false = good.done (subst IsDone (sym a.accepted) tt) f a.formula in
    record {
      pure = record {
        first_order = first-order f (known d.problem) (record { skolem = λ n. refl; bound = λ n. refl }) holds.well bare;
        closed = λ n o. free-known n f (known d.problem) holds.well o;
      };
      same = λ m s h k. holds.alike (world_of (declared_of d.problem) m s) (fits-world (declared_of d.problem) m s h k);
    }
