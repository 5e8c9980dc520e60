-- A tidy formula is tidy already: each new number is read as itself, and each binder has its tidy number.
use Rattle.std.proofs.Common.{◌≡◌, ℕ, ◌+◌, Bool, true, false, cond, eqb, not, ◌||◌, map, List, [], ◌∷◌, length, refl, sym, ◌∙◌, ap}
use Rattle.std.specs.List.{list_any}
use Rattle.std.proofs.lemmas.List.{length-map}
use Rattle.std.proofs.lemmas.Bool.{or_left, or_right}
use Rattle.soqe_term.specs.declared.term.Var.{Var}
use Rattle.soqe_term.specs.declared.term.Term.{Term, Var as var, App}
use Rattle.soqe_term.specs.declared.term.Terms.{Terms, Nil, Cons, Cons', end_of-Term as end-t, more_of-Term as one-t, end_of-Terms as ends-t, more_of-Terms as ones-t}
use Rattle.soqe_term.specs.Boxes.{boxes as term_boxes}
use Rattle.soqe_number.specs.Updates.{changed}
use Rattle.soqe_term.specs.Occurs.{occurs, occurs_any, AgreeOn, first_from}
use Rattle.soqe_number.specs.Unused.{member}
use Rattle.soqe_term.specs.Renumber.{numbered, renumbered, all_renumbered}
use Rattle.soqe_term.proofs.Worlds.{eqb-self, changed-at, changed-off, agree-left, agree-right}
use Rattle.soqe_form.specs.declared.form.Form.{Form, True, False, Equal, Atom, Not, Not', And, And', Or, Or', Imp, Imp', Iff, Iff', All, All', Ex, Ex', All2, All2', Ex2, Ex2', end_of-Form as end, more_of-Form as one}
use Rattle.soqe_form.specs.Boxes.{boxes}
use Rattle.soqe_form.specs.Free.{free}
use Rattle.soqe_form.specs.FreeVars.{others, free_occurrences, is_among}
use Rattle.soqe_tidy.specs.Tidy.{tidy_number, tidied, tidy}
use Rattle.soqe_form.proofs.FreeVariables.{is_among-others, is_among-free_occurrences}
use Rattle.soqe_tidy.proofs.TidyNumbers.{tidy_number-apart}
use Rattle.soqe_tidy.proofs.Tidied.{moved, others-tidied, free_occurrences-tidied}

mutual
  unfolding term_boxes

  renumbered-again : (s r : ℕ → ℕ) (t : Term) → AgreeOn (λ m. occurs m t) (λ m. s (r m)) r → renumbered s (renumbered r t) ≡ renumbered r t
  renumbered-again s r (var x) h = ap (λ n. var (numbered x n)) (h x.num (eqb-self x.num))
  renumbered-again s r (App f m ts) h = ap (App f m) (all_renumbered-again s r ts h)

  all_renumbered-again : (s r : ℕ → ℕ) (ts : Terms) → AgreeOn (λ m. occurs_any m ts) (λ m. s (r m)) r → all_renumbered s (all_renumbered r ts) ≡ all_renumbered r ts
  all_renumbered-again s r Nil h = refl
  all_renumbered-again s r (Cons' _ (one-t t end-t) _ (ones-t ts ends-t)) h =
      λ i. Cons (renumbered-again s r t (agree-left (λ m. occurs m t) (λ m. occurs_any m ts) (λ m. s (r m)) r h) i) (all_renumbered-again s r ts (agree-right (λ m. occurs m t) (λ m. occurs_any m ts) (λ m. s (r m)) r h) i)

any-again : (s r : ℕ → ℕ) (k : ℕ) (ys : List Var) → AgreeOn (is_among ys) (λ m. s (r m)) r → list_any (λ y. eqb k (s y.num)) (map (moved r) ys) ≡ list_any (λ y. eqb k (r y.num)) ys
any-again s r k [] h = refl
any-again s r k (y ∷ ys) h =
    λ i. eqb k (h y.num (or_left (eqb y.num y.num) (is_among ys y.num) (eqb-self y.num)) i) || any-again s r k ys (λ m o. h m (or_right (eqb m y.num) (is_among ys m) o)) i

-- below a binder of x, whose tidy number is n
module _ (keep : List ℕ) (s r : ℕ → ℕ) (x : ℕ) (f : Form) (h : AgreeOn (λ m. cond (eqb m x) false (free m f)) (λ m. s (r m)) r) where
  abbrev number : ℕ
  number = tidy_number keep r x f

  abbrev inner : Form
  inner = tidied keep (changed r x number) f

  others-again : others number (free_occurrences inner) ≡ map (moved r) (others x (free_occurrences f))
  others-again = ap (others number) (free_occurrences-tidied keep (changed r x number) f) ∙ others-tidied keep r x f

  length-again : length (free_occurrences inner) ≡ length (free_occurrences f)
  length-again = ap length (free_occurrences-tidied keep (changed r x number) f) ∙ length-map (free_occurrences f) (moved (changed r x number))

  taken-again : (k : ℕ) → list_any (λ y. eqb k (s y.num)) (others number (free_occurrences inner)) ≡ list_any (λ y. eqb k (r y.num)) (others x (free_occurrences f))
  taken-again k =
      ap (list_any (λ y. eqb k (s y.num))) others-again
      ∙ any-again s r k (others x (free_occurrences f))
      (λ m o. h m (sym (is_among-others x m (free_occurrences f) ∙ ap (cond (eqb m x) false) (is_among-free_occurrences m f)) ∙ o))

  -- the binder's number is tidy already
  number-again : tidy_number keep s number inner ≡ number
  number-again = λ i. first_from (λ k. not (member k keep || taken-again k i)) 0 (length keep + length-again i)

  agree-again : AgreeOn (λ m. free m f) (λ m. changed s number number (changed r x number m)) (changed r x number)
  agree-again m o = choose (eqb m x) refl
    where
      choose : (b : Bool) → eqb m x ≡ b → changed s number number (cond b number (r m)) ≡ cond b number (r m)
      choose true d = changed-at s number number
      choose false d = changed-off s number (r m) number (tidy_number-apart keep r x f m o d) ∙ h m (ap (λ b. cond b false (free m f)) d ∙ o)

pub tidied-again : (keep : List ℕ) (s r : ℕ → ℕ) (f : Form) → AgreeOn (λ m. free m f) (λ m. s (r m)) r → tidied keep s (tidied keep r f) ≡ tidied keep r f
unfolding boxes
tidied-again keep s r True h = refl
tidied-again keep s r False h = refl
tidied-again keep s r (Equal t u) h =
    λ i. Equal (renumbered-again s r t (agree-left (λ m. occurs m t) (λ m. occurs m u) (λ m. s (r m)) r h) i) (renumbered-again s r u (agree-right (λ m. occurs m t) (λ m. occurs m u) (λ m. s (r m)) r h) i)
tidied-again keep s r (Atom p ts) h = ap (Atom p) (all_renumbered-again s r ts h)
tidied-again keep s r (Not' _ (one f end)) h = ap Not (tidied-again keep s r f h)
tidied-again keep s r (And' _ (one f end) _ (one g end)) h =
    λ i. And (tidied-again keep s r f (agree-left (λ m. free m f) (λ m. free m g) (λ m. s (r m)) r h) i) (tidied-again keep s r g (agree-right (λ m. free m f) (λ m. free m g) (λ m. s (r m)) r h) i)
tidied-again keep s r (Or' _ (one f end) _ (one g end)) h =
    λ i. Or (tidied-again keep s r f (agree-left (λ m. free m f) (λ m. free m g) (λ m. s (r m)) r h) i) (tidied-again keep s r g (agree-right (λ m. free m f) (λ m. free m g) (λ m. s (r m)) r h) i)
tidied-again keep s r (Imp' _ (one f end) _ (one g end)) h =
    λ i. Imp (tidied-again keep s r f (agree-left (λ m. free m f) (λ m. free m g) (λ m. s (r m)) r h) i) (tidied-again keep s r g (agree-right (λ m. free m f) (λ m. free m g) (λ m. s (r m)) r h) i)
tidied-again keep s r (Iff' _ (one f end) _ (one g end)) h =
    λ i. Iff (tidied-again keep s r f (agree-left (λ m. free m f) (λ m. free m g) (λ m. s (r m)) r h) i) (tidied-again keep s r g (agree-right (λ m. free m f) (λ m. free m g) (λ m. s (r m)) r h) i)
tidied-again keep s r (All' x _ (one f end)) h =
    let n : ℕ = tidy_number keep r x.num f in
    let g : Form = tidied keep (changed r x.num n) f in
    ap (λ m. All (numbered x m) (tidied keep (changed s n m) g)) (number-again keep s r x.num f h)
    ∙ ap (All (numbered x n)) (tidied-again keep (changed s n n) (changed r x.num n) f (agree-again keep s r x.num f h))
tidied-again keep s r (Ex' x _ (one f end)) h =
    let n : ℕ = tidy_number keep r x.num f in
    let g : Form = tidied keep (changed r x.num n) f in
    ap (λ m. Ex (numbered x m) (tidied keep (changed s n m) g)) (number-again keep s r x.num f h)
    ∙ ap (Ex (numbered x n)) (tidied-again keep (changed s n n) (changed r x.num n) f (agree-again keep s r x.num f h))
tidied-again keep s r (All2' p _ (one f end)) h = ap (All2 p) (tidied-again keep s r f h)
tidied-again keep s r (Ex2' p _ (one f end)) h = ap (Ex2 p) (tidied-again keep s r f h)

pub tidy-again : (keep : List ℕ) (f : Form) → tidy keep (tidy keep f) ≡ tidy keep f
tidy-again keep f = tidied-again keep (λ n. n) (λ n. n) f (λ m o. refl)
