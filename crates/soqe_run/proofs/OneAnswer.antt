-- Words and bytes have one answer.
--
-- The words have one plan, and a text is too long or is not. A text that is not is exactly one of four: it spells a problem,
-- or has a syntax fault, a refused name or a wrong use, each at one place. A problem has one derivation by a method, so its
-- document and its ending are one.
use Rattle.std.proofs.Common.{◌≡◌, ◌∙◌, ℕ, ◌<◌, ◌≤◌, List, ◌∷◌, ◌++◌, Option, Some, None, refl, sym, ap, subst, arith, inl, inr}
use Rattle.std.specs.Prelude.{codes, Result, Ok, Err}
use Rattle.std.specs.Fmt.{decimal}
use Rattle.soqe_form.specs.declared.form.Form.{Form}
use Rattle.soqe_parse.proofs.Places.{one_problem, one_place}
use Rattle.soqe_text.specs.declared.problem.Problem.{Problem}
use Rattle.soqe_text.specs.Naming.{named_problem}
use Rattle.soqe_text.specs.Uses.{wrong_in_problem}
use Rattle.soqe_text.specs.Spelled.{HasNameFault, HasSortFault}
use Rattle.soqe_text.specs.Spellings.{OneSpelled, SpelledAlone, OneReason}
use Rattle.soqe_deriv.specs.declared.document.Document.{Document}
use Rattle.soqe_deriv.specs.declared.document.Line.TheVariants as line_of
use Rattle.soqe_deriv.specs.declared.document.Stop.{Stop}
use Rattle.soqe_deriv.specs.Text.{document_text}
use Rattle.soqe_deriv.specs.Valid.{kept}
use Rattle.soqe_flow.specs.declared.derivation.Wanted.{Wanted}
use Rattle.soqe_flow.specs.Ordered.{Ending, Result as Ends, Stops, Follows, IsOrdered, started}
use Rattle.soqe_flow.proofs.Unique.{one-derivation}
use Rattle.soqe_run.specs.Answer.{Answer, usage, planned, Replies, too_long, by_method}
use Rattle.soqe_run.specs.AnswerLaws.{OneAnswer}
use Rattle.soqe_run.specs.Reply.{IsFixed, line}
use Rattle.soqe_run.specs.Responds.{Responds, syntax_fault, names_fault, sorts_fault, done, stopped, status_of}
use Rattle.soqe_run.specs.declared.plan.Plan.{Plan}
use Rattle.soqe_run.specs.declared.plan.Plan.TheVariants.{Elim}
use Rattle.soqe_run.specs.declared.status.Status.{Status}

some-is : {A : Type 0} {a b : A} → Some a ≡ Some b → a ≡ b
some-is e = cc

-- names that are known, and a name that is refused
abbrev as_result : {A : Type 0} → A → Result A ℕ
as_result a = Ok a

abbrev as_error : {A : Type 0} → ℕ → Result A ℕ
as_error at = Err at

ok-is : {A : Type 0} {a b : A} → as_result a ≡ Ok b → a ≡ b
ok-is {a = a} e = ap (λ r. elim r [ Ok x ↦ x | Err n ↦ a ]) e

err-is : {A : Type 0} {m n : ℕ} → as_error {A = A} m ≡ Err n → m ≡ n
err-is {m = m} e = ap (λ r. elim r [ Ok x ↦ m | Err n ↦ n ]) e

none-some : {A B : Type 0} {o : Option A} {a : A} → o ≡ None → o ≡ Some a → B
none-some {o = o} {a = a} n e = let h : None ≡ Some a = sym n ∙ e in cc

both : {due due' status status' : Status} {words words' text text' : List ℕ} → due ≡ due' → words ≡ words'
    → IsFixed due words status text → IsFixed due' words' status' text' → (status ≡ status') × (text ≡ text')
both d w h k = (h.status_is ∙ d ∙ sym k.status_is, h.text_is ∙ w ∙ sym k.text_is)

-- ---- one place

-- a text has one first refused name
one-name : (bytes : List ℕ) (at other : ℕ) → HasNameFault bytes at → HasNameFault bytes other → at ≡ other
one-name bytes at other h k = err-is (sym h.refused ∙ ap (named_problem bytes) (one_problem bytes h.tree k.tree h.shape k.shape) ∙ k.refused)

-- a text has one first wrong use
one-use : (bytes : List ℕ) (at other : ℕ) → HasSortFault bytes at → HasSortFault bytes other → at ≡ other
one-use bytes at other h k =
    let tree = one_problem bytes h.tree k.tree h.well_named.shape k.well_named.shape in
    let declared : h.declared ≡ k.declared = ok-is (sym h.well_named.named ∙ ap (named_problem bytes) tree ∙ k.well_named.named) in
    some-is (sym h.refused ∙ (λ i. wrong_in_problem bytes (declared i) (tree i)) ∙ k.refused)

-- ---- one document

-- a problem has one document by a method, with one ending
one-document : (w : Wanted) (d c : Document) (e g : Ending) → d.problem ≡ c.problem → IsOrdered w d e → IsOrdered w c g
    → (document_text d ≡ document_text c) × (e ≡ g)
one-document w d c e g same h k =
    let one = one-derivation (kept d.problem) w (started d.problem) h.lines k.lines e g h.follow
    (subst (λ (p : Problem). Follows (kept p) w (started p) k.lines g) (sym same) k.follow) in
    let lines : d.lines ≡ c.lines = h.are ∙ (λ i. line_of.Start (started (same i)) ∷ one.0 i) ∙ sym k.are in
    (λ i. document_text (record { problem = same i; lines = lines i }), one.1)

ends-stops : {A : Type 0} {f : Form} {s : Stop} → Ends f ≡ Stops s → A
ends-stops e = cc

stop-is : {s t : Stop} → Stops s ≡ Stops t → s ≡ t
stop-is e = cc

-- ---- one answer

over-within : {A : Type 0} {m n : ℕ} → m < n → n ≤ m → A
over-within h k = absurd (omega arith)

elim-is : {v w : Wanted} {p : Plan} → p ≡ Elim v → p ≡ Elim w → v ≡ w
elim-is {v = v} {w = w} h k = let e : Elim v ≡ Elim w = sym h ∙ k in cc

module _ (one_spelled : OneSpelled) (spelled_alone : SpelledAlone) (one_reason : OneReason) where
  one-response : (wanted : Wanted) (bytes : List ℕ) (status other : Status) (text other_text : List ℕ)
      → Responds wanted bytes status text → Responds wanted bytes other other_text → (status ≡ other) × (text ≡ other_text)
  one-response w b s t x y (syntax_fault at h f) (syntax_fault other k g) = both refl (ap (λ (n : ℕ). line (codes "syntax at " ++ decimal n)) (one_place b at other h k)) f g
  one-response w b s t x y (syntax_fault at h f) (names_fault other k g) = absurd ((one_reason b at other).0 h (inl k))
  one-response w b s t x y (syntax_fault at h f) (sorts_fault other k g) = absurd ((one_reason b at other).0 h (inr k))
  one-response w b s t x y (syntax_fault at h f) (done d r k is g) = absurd (spelled_alone b d.problem at k (inl h))
  one-response w b s t x y (syntax_fault at h f) (stopped d r k is g) = absurd (spelled_alone b d.problem at k (inl h))
  one-response w b s t x y (names_fault at h f) (syntax_fault other k g) = absurd ((one_reason b other at).0 k (inl h))
  one-response w b s t x y (names_fault at h f) (names_fault other k g) = both refl (ap (λ (n : ℕ). line (codes "names at " ++ decimal n)) (one-name b at other h k)) f g
  one-response w b s t x y (names_fault at h f) (sorts_fault other k g) = absurd ((one_reason b at other).1 h k)
  one-response w b s t x y (names_fault at h f) (done d r k is g) = absurd (spelled_alone b d.problem at k (inr (inl h)))
  one-response w b s t x y (names_fault at h f) (stopped d r k is g) = absurd (spelled_alone b d.problem at k (inr (inl h)))
  one-response w b s t x y (sorts_fault at h f) (syntax_fault other k g) = absurd ((one_reason b other at).0 k (inr h))
  one-response w b s t x y (sorts_fault at h f) (names_fault other k g) = absurd ((one_reason b other at).1 k h)
  one-response w b s t x y (sorts_fault at h f) (sorts_fault other k g) = both refl (ap (λ (n : ℕ). line (codes "sorts at " ++ decimal n)) (one-use b at other h k)) f g
  one-response w b s t x y (sorts_fault at h f) (done d r k is g) = absurd (spelled_alone b d.problem at k (inr (inr h)))
  one-response w b s t x y (sorts_fault at h f) (stopped d r k is g) = absurd (spelled_alone b d.problem at k (inr (inr h)))
  one-response w b s t x y (done d r h is f) (syntax_fault other k g) = absurd (spelled_alone b d.problem other h (inl k))
  one-response w b s t x y (done d r h is f) (names_fault other k g) = absurd (spelled_alone b d.problem other h (inr (inl k)))
  one-response w b s t x y (done d r h is f) (sorts_fault other k g) = absurd (spelled_alone b d.problem other h (inr (inr k)))
  one-response w b s t x y (done d r h is f) (done c q k is' g) =
      both refl (one-document w d c (Ends r) (Ends q) (one_spelled b d.problem c.problem h k) is.ordered is'.ordered).0 f g
  one-response w b s t x y (done d r h is f) (stopped c q k is' g) =
      ends-stops (one-document w d c (Ends r) (Stops q) (one_spelled b d.problem c.problem h k) is.ordered is'.ordered).1
  one-response w b s t x y (stopped d r h is f) (syntax_fault other k g) = absurd (spelled_alone b d.problem other h (inl k))
  one-response w b s t x y (stopped d r h is f) (names_fault other k g) = absurd (spelled_alone b d.problem other h (inr (inl k)))
  one-response w b s t x y (stopped d r h is f) (sorts_fault other k g) = absurd (spelled_alone b d.problem other h (inr (inr k)))
  one-response w b s t x y (stopped d r h is f) (done c q k is' g) =
      ends-stops (sym (one-document w d c (Stops r) (Ends q) (one_spelled b d.problem c.problem h k) is.ordered is'.ordered).1)
  one-response w b s t x y (stopped d r h is f) (stopped c q k is' g) =
      let one = one-document w d c (Stops r) (Stops q) (one_spelled b d.problem c.problem h k) is.ordered is'.ordered in
      both (ap status_of (stop-is one.1)) one.0 f g

  one-reply : (plan : Plan) (bytes : List ℕ) (status other : Status) (text other_text : List ℕ)
      → Replies plan bytes status text → Replies plan bytes other other_text → (status ≡ other) × (text ≡ other_text)
  one-reply p b s t x y (too_long over f) (too_long over' g) = both refl refl f g
  one-reply p b s t x y (too_long over f) (by_method v is within ok r) = over-within over within
  one-reply p b s t x y (by_method v is within ok r) (too_long over f) = over-within over within
  one-reply p b s t x y (by_method v is within ok r) (by_method w is' within' ok' q) =
      one-response v b s t x y r (subst (λ (u : Wanted). Responds u b t y) (elim-is is' is) q)

  pub one-answer : OneAnswer
  one-answer ws b s t x y (usage none f) (usage none' g) = both refl refl f g
  one-answer ws b s t x y (usage none f) (planned p is r) = none-some none is
  one-answer ws b s t x y (planned p is r) (usage none f) = none-some none is
  one-answer ws b s t x y (planned p is r) (planned q is' k) =
      one-reply p b s t x y r (subst (λ (u : Plan). Replies u b t y) (some-is (sym is' ∙ is)) k)
