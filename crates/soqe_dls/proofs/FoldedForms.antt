-- A folded formula is taken apart again; and a tidy case is a case with as many variables and conjuncts.
use Rattle.std.proofs.Common.{◌≡◌, ℕ, ◌+◌, ◌-◌, ◌<◌, true, List, [], ◌∷◌, ◌++◌, length, map, refl, sym, ◌∙◌, ap, arith}
use Rattle.std.proofs.lemmas.List.{length_push, length-map}
use Rattle.soqe_term.specs.declared.term.Var.{Var}
use Rattle.soqe_form.specs.declared.form.Form.{Form, And, And', Ex, Ex', end_of-Form as end, more_of-Form as one}
use Rattle.soqe_form.specs.Boxes.{boxes}
use Rattle.soqe_tidy.specs.Tidy.{tidied, tidy}
use Rattle.soqe_norm.specs.Folds.{and_after, all_of, exists_in, case_form}
use Rattle.soqe_norm.proofs.FoldedParts.{exists_in-push, last-joined, and-sides, ex-parts, exists_in-parts}
use Rattle.soqe_dls.proofs.FoldedTidy.{tidy-in-front, tidy-all}
use Rattle.soqe_dls.specs.Parts.{IsOfCase, HasInFront, HasConjuncts, is_conjunction, is_existential}

pub existential-default : (f : Form) → is_existential f ≡ true → ((x : Var) (g : Form) → f ≡ Ex x g → ⊥) → ⊥
unfolding boxes
existential-default (Ex' x _ (one f end)) h n = n x f refl
existential-default _ h n = cc

pub conjunction-default : (f : Form) → is_conjunction f ≡ true → ((g h : Form) → f ≡ And g h → ⊥) → ⊥
unfolding boxes
conjunction-default (And' _ (one f end) _ (one g end)) h n = n f g refl
conjunction-default _ h n = cc

-- so many variables were taken from the front, and the others stand there still
pub record Taken (form rest : Form) (vars : List Var) (count done : ℕ) : Type 0 where
  pub is : form ≡ exists_in vars rest
  pub many : length vars ≡ done
  pub left : HasInFront (count - done) rest

module _ (count : ℕ) (f : Form) (h : HasInFront count f) (some : 0 < count) where
  pub front-is-existential : is_existential f ≡ true
  unfolding boxes
  front-is-existential = first h.vars h.as_many h.is
    where
      first : (xs : List Var) → length xs ≡ count → f ≡ exists_in xs h.body → is_existential f ≡ true
      first [] l e = absurd (omega (arith, l))
      first (x ∷ xs) l e = ap is_existential e

  pub front-below : (n : ℕ) → count ≡ n + 1 → (x : Var) (g : Form) → f ≡ Ex x g → HasInFront n g
  front-below n m x g is = first h.vars h.as_many h.is
    where
      first : (xs : List Var) → length xs ≡ count → f ≡ exists_in xs h.body → HasInFront n g
      first [] l e = absurd (omega (arith, l))
      first (y ∷ xs) l e = record { vars = xs; body = h.body; is = (ex-parts x y g (exists_in xs h.body) (sym is ∙ e)).1; as_many = omega (arith, l, m) }

pub taken-more : (form rest body : Form) (vars : List Var) (x : Var) (count done : ℕ) → done < count → rest ≡ Ex x body → Taken form rest vars count done
    → Taken form body (vars ++ x ∷ []) count (done + 1)
taken-more form rest body vars x count done l e t = record {
  is = t.is ∙ ap (exists_in vars) e ∙ sym (exists_in-push vars x body);
  many = length_push vars x ∙ ap (λ n. n + 1) t.many;
  left = front-below (count - done) rest t.left (omega arith) (count - (done + 1)) (omega arith) x body e;
}

module _ (count : ℕ) (f : Form) (h : HasConjuncts count f) (two : 1 < count) where
  pub joined-is-conjunction : is_conjunction f ≡ true
  unfolding boxes
  joined-is-conjunction = first h.conj h.as_many h.is
    where
      first : (fs : List Form) → length fs ≡ count → f ≡ all_of fs → is_conjunction f ≡ true
      first [] l e = absurd (omega (arith, l))
      first (g ∷ []) l e = absurd (omega (arith, l))
      first (g ∷ k ∷ fs) l e = ap is_conjunction (e ∙ (last-joined g k fs).is)

  pub joined-front : (n : ℕ) → count ≡ n + 1 → (a b : Form) → f ≡ And a b → HasConjuncts n a
  joined-front n m a b is = first h.conj h.as_many h.is
    where
      first : (fs : List Form) → length fs ≡ count → f ≡ all_of fs → HasConjuncts n a
      first [] l e = absurd (omega (arith, l))
      first (g ∷ []) l e = absurd (omega (arith, l))
      first (g ∷ k ∷ fs) l e =
          let j = last-joined g k fs in
          record { conj = g ∷ j.front; is = (and-sides a b (and_after g j.front) j.last (sym is ∙ e ∙ j.is)).0; as_many = omega (arith, l, m, j.many) }

-- what stands below the variables of a case joins its conjuncts
pub below-joins : (variables conjuncts : ℕ) (f : Form) (xs : List Var) (g : Form) → IsOfCase variables conjuncts f → f ≡ exists_in xs g → length xs ≡ variables → HasConjuncts conjuncts g
below-joins variables conjuncts f xs g h e l = record {
  conj = h.conj;
  is = sym (exists_in-parts h.vars xs (all_of h.conj) g (sym h.is ∙ e) (h.as_many_vars ∙ sym l)).1;
  as_many = h.as_many;
}

-- the tidy formula of a case is that of a case with as many variables and conjuncts
pub tidy-case : (keep : List ℕ) (xs : List Var) (fs : List Form) → IsOfCase (length xs) (length fs) (tidy keep (case_form xs fs))
tidy-case keep xs fs =
    let front = tidy-in-front keep (λ n. n) xs (all_of fs) in
    record {
      vars = front.vars;
      conj = map (tidied keep front.names) fs;
      is = front.is ∙ ap (exists_in front.vars) (tidy-all keep front.names fs);
      as_many_vars = front.many;
      as_many = length-map fs (tidied keep front.names);
    }
