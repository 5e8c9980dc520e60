-- What is printed is read back. A text that spells a problem is a tree of texts, with all names known and used rightly.
-- The printed tree is that tree in the spelling that is printed (BackDressed, BackDeclared), and that spelling keeps
-- what is declared, the uses and the formula (BackNormal). A tree over other places with the printed texts is therefore
-- read as the same problem (BackNames, BackUses, BackNumbers).
use Rattle.std.proofs.Common.{◌≡◌, ◌<◌, ◌^◌, length, ℕ, true, List, [], ◌++◌, arith, None, is_none, Ok, ◌∙◌, ap, sym, subst}
use Rattle.soqe_syntax.specs.declared.piece.Span.{Span}
use Rattle.soqe_syntax.specs.Grammar as syntax
use Rattle.soqe_syntax.specs.Grammar.{IsLevelled}
use Rattle.soqe_syntax.specs.Pieces.{HasProblem}
use Rattle.std.proofs.lemmas.Bool.{lt-ltb}
use Rattle.soqe_signature.specs.declared.kinds.NameKind.TheVariants as numbering
use Rattle.soqe_signature.specs.Declarations.{Declaration, count_of}
use Rattle.soqe_form.specs.declared.form.Form.{Form}
use Rattle.soqe_text.specs.declared.problem.Problem.{Problem}
use Rattle.soqe_text.specs.declared.problem.Problem.TheVariants as problem
use Rattle.soqe_text.specs.Meanings.{problem_names}
use Rattle.soqe_text.specs.NewNames.{first_declared}
use Rattle.soqe_text.specs.Naming.{then_named, named, all_named_declared, named_problem}
use Rattle.soqe_text.specs.Uses.{wrong, wrong_in_declared, wrong_in_problem, free_sorts, no_sorts}
use Rattle.soqe_text.specs.Spelled.{Spells}
use Rattle.soqe_show.specs.Printed.{Text}
use Rattle.soqe_show.specs.Dress.{dress_problem, problem_text}
use Rattle.soqe_show.specs.Placed.{texts_problem, placed_problem, AreWords_problem}
use Rattle.soqe_show.specs.Back.{SpellsWhereSome}
use Rattle.soqe_show.proofs.BackKnown.{from_none}
use Rattle.soqe_show.proofs.PlacedShapes.{problem_has_shape}
use Rattle.soqe_show.proofs.PlacedTexts.{problem_has_texts}
use Rattle.soqe_show.proofs.BackNames.{then_ok, named_texts, texts_named, all_declared_texts, texts_all_declared}
use Rattle.soqe_show.proofs.BackUses.{IsRight, neither, both_none, right_texts, texts_right}
use Rattle.soqe_show.proofs.BackNumbers.{form_of, form_is}
use Rattle.soqe_show.proofs.BackNormal.{normal, normal_form, normal_right, normal_named}
use Rattle.soqe_show.proofs.BackDressed.{tree_back}
use Rattle.soqe_show.proofs.BackDeclared.{IsKnown, declared_back, problem_adds, problem_ordinary, declared_is}
use Rattle.soqe_show.specs.FormBack.{is_declared, has_known_binders, ProblemIsUsual}
use Rattle.soqe_show.proofs.BackGoal.{tree_known}
use Rattle.soqe_show.proofs.BackLookups.{are_ordinary}
use Rattle.soqe_show.proofs.BackLevels.{levelled}
use Rattle.soqe_show.proofs.BackWords.{tree_words, all_declared_words}

-- A problem of texts is read with these declarations and names.
record IsRead (ds : List Declaration) (p : syntax.Problem Text) : Type 0 where
  known : IsKnown ds p.declared p.goal
  right : IsRight ds (free_sorts ds) (no_sorts ds) p.goal

-- the texts of a problem over places that is read
read_texts : (bytes : List ℕ) (ds : List Declaration) (t : syntax.Problem Span) → named_problem bytes t ≡ Ok ds → wrong_in_problem bytes ds t ≡ None
    → IsRead ds (texts_problem bytes t)
read_texts bytes ds t known right =
    let n = then_ok (all_named_declared bytes first_declared t.declared) (λ ds. named bytes ds [] [] t.goal) ds known in
    let w = neither (wrong_in_declared bytes ds t.declared) (wrong bytes ds (free_sorts ds) (no_sorts ds) t.goal) right in
    record {
      known = record {
        before = n.0;
        declared = all_declared_texts bytes first_declared t.declared n.0 n.1;
        named = named_texts bytes n.0 [] [] t.goal ds n.2;
        right = sym (declared_is bytes ds t.declared) ∙ ap is_none w.0;
      };
      right = right_texts bytes (problem_names ds) (free_sorts ds) (no_sorts ds) t.goal w.1;
    }

-- a problem over places whose texts are read is read
texts_read : (bytes : List ℕ) (ds : List Declaration) (t : syntax.Problem Span) → IsRead ds (texts_problem bytes t)
    → (named_problem bytes t ≡ Ok ds) × (wrong_in_problem bytes ds t ≡ None)
texts_read bytes ds t h = (
  ap (λ r. then_named r (λ ds. named bytes ds [] [] t.goal)) (texts_all_declared bytes first_declared t.declared h.known.before h.known.declared)
      ∙ texts_named bytes h.known.before [] [] t.goal ds h.known.named,
  both_none (wrong_in_declared bytes ds t.declared) (wrong bytes ds (free_sorts ds) (no_sorts ds) t.goal)
      (from_none (wrong_in_declared bytes ds t.declared) (declared_is bytes ds t.declared ∙ h.known.right))
      (texts_right bytes (problem_names ds) (free_sorts ds) (no_sorts ds) t.goal h.right),
)

-- a problem in the spelling that is printed
abbrev normal_problem : List Declaration → syntax.Problem Text → syntax.Problem Text
normal_problem ds p = record { declared = p.declared; goal = normal ds p.goal }

normal_read : (ds : List Declaration) (p : syntax.Problem Text) → IsRead ds p → IsRead ds (normal_problem ds p)
normal_read ds p h = record {
  known = record {
    before = h.known.before;
    declared = h.known.declared;
    named = normal_named ds h.known.before [] [] p.goal ds h.known.named;
    right = h.known.right;
  };
  right = normal_right ds (free_sorts ds) (no_sorts ds) p.goal h.right;
}

-- it is what is printed
printed_normal : (ds : List Declaration) (p : syntax.Problem Text) → IsRead ds p → dress_problem (problem.Elim ds (form_of ds (free_sorts ds) p.goal)) ≡ normal_problem ds p
printed_normal ds p h =
    let declared = declared_back ds p.declared p.goal h.known in
    let goal = tree_back ds h.known.before [] [] p.goal ds h.known.named (λ name f k. k) (free_sorts ds) (no_sorts ds) h.right in
    (λ i. record { declared = declared i; goal = goal i })

-- what is read of a text that spells a problem, and what is printed for the problem
spelled_read : (bytes : List ℕ) (p : Problem) (h : Spells bytes p) → IsRead h.declared (texts_problem bytes h.tree)
spelled_read bytes p h = read_texts bytes h.declared h.tree h.well_named.named h.well_sorted

spelled_printed : (bytes : List ℕ) (p : Problem) (h : Spells bytes p) → dress_problem p ≡ normal_problem h.declared (texts_problem bytes h.tree)
spelled_printed bytes p h =
    ap dress_problem h.numbered
    ∙ ap (λ f. dress_problem (problem.Elim h.declared f)) (form_is bytes (problem_names h.declared) (free_sorts h.declared) h.tree.goal)
    ∙ printed_normal h.declared (texts_problem bytes h.tree) (spelled_read bytes p h)

pub spells_back : (bytes text : List ℕ) (p : Problem) (places : syntax.Problem Span) → Spells bytes p → HasProblem text places → texts_problem text places ≡ dress_problem p → Spells text p
spells_back bytes text p places h shape same =
    let ds = h.declared in
    let read = texts_problem bytes h.tree in
    let are : texts_problem text places ≡ normal_problem ds read = same ∙ spelled_printed bytes p h in
    let back = texts_read text ds places (subst (IsRead ds) (sym are) (normal_read ds read (spelled_read bytes p h))) in
    record {
      tree = places;
      declared = ds;
      well_named = record { shape = shape; named = back.0 };
      well_sorted = back.1;
      numbered = h.numbered ∙ ap (problem.Elim ds) (form_is bytes (problem_names ds) (free_sorts ds) h.tree.goal
          ∙ sym (normal_form ds (free_sorts ds) read.goal)
          ∙ ap (λ q. form_of ds (free_sorts ds) q.goal) (sym are)
          ∙ sym (form_is text (problem_names ds) (free_sorts ds) places.goal));
    }

pub printed_levelled : (p : Problem) → IsLevelled (dress_problem p).goal
printed_levelled (problem.Elim ds goal) = levelled ds goal

pub printed_words : (bytes : List ℕ) (p : Problem) → Spells bytes p → AreWords_problem (dress_problem p)
printed_words bytes p h =
    let ds = h.declared in
    let read = texts_problem bytes h.tree in
    let r = spelled_read bytes p h in
    let ordinary = problem_ordinary ds read.declared read.goal r.known in
    subst AreWords_problem (sym (spelled_printed bytes p h)) (
      all_declared_words first_declared ds read.declared r.known.before ordinary r.known.declared r.known.right,
      tree_words ds r.known.before [] [] read.goal ds ordinary r.known.named (λ name f k. k) (free_sorts ds) (no_sorts ds) r.right,
    )

-- the printed text is that of words in their places
pub reads_back : (bytes : List ℕ) (p : Problem) → Spells bytes p → Spells (problem_text p) p
reads_back bytes p h =
    let tree = dress_problem p in
    spells_back bytes (problem_text p) p (placed_problem tree) h (problem_has_shape tree (printed_words bytes p h) (printed_levelled p)) (problem_has_texts tree)

-- so is each text that is the printed one
pub printed_spells : (text : List ℕ) (p : Problem) → text ≡ problem_text p → SpellsWhereSome text p
printed_spells text p is bytes h = subst (λ text. Spells text p) (sym is) (reads_back bytes p h)

-- the declarations and names of a problem
abbrev declarations : Problem → List Declaration
declarations (problem.Elim ds goal) = ds

-- and its goal
abbrev goal_of : Problem → Form
goal_of (problem.Elim ds goal) = goal

obj_first : (ds more : List Declaration) → ds ≡ first_declared ++ more → is_declared ds 0 ≡ true
obj_first ds more h = ap (λ ds. is_declared ds 0) h ∙ lt-ltb 0 (count_of numbering.Sort (first_declared ++ more)) (omega arith)

-- the names of a problem are ordinary, and its binders are known
pub usual_problem : ProblemIsUsual
usual_problem bytes ds goal few h =
    let fs = h.declared in
    let read = texts_problem bytes h.tree in
    let r = spelled_read bytes (problem.Elim ds goal) h in
    let same : fs ≡ ds = ap declarations (sym h.numbered) in
    let added = problem_adds fs read.declared read.goal r.known in
    let obj = obj_first fs added.more added.is in
    let binders = tree_known fs (subst (λ ds. length ds < 2 ^ 64) (sym same) few) obj r.known.before [] [] read.goal fs r.known.named (λ name f k. k) (free_sorts fs) (no_sorts fs) r.right in
    record {
      ordinary = subst (λ ds. are_ordinary ds ≡ true) same (problem_ordinary fs read.declared read.goal r.known);
      obj = subst (λ ds. is_declared ds 0 ≡ true) same obj;
      binders = ap (λ p. has_known_binders (declarations p) (goal_of p)) h.numbered ∙ ap (has_known_binders fs) (form_is bytes (problem_names fs) (free_sorts fs) h.tree.goal) ∙ binders;
    }
