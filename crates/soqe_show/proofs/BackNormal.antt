-- The spelling that is printed, as a change of the tree that was read: only needed parentheses, `!=` for the negation of
-- an equation, and no sort of a binder where it is `obj`. The change keeps what is declared, the uses and the formula.
use Rattle.std.proofs.Common.{◌≡◌, ℕ, Bool, true, false, cond, eqb, nat_lt, List, ◌∷◌, map, Option, Some, None, set, refl, ◌∙◌, ap, sym, subst, eqb-true}
use Rattle.soqe_syntax.specs.Grammar.{Tree, Constant, Atom, Equation, Not, Bind, Bind2, Binary, Paren, level, left, right}
use Rattle.soqe_signature.specs.Declarations.{Declaration}
use Rattle.soqe_form.specs.declared.form.Form as form
use Rattle.soqe_text.specs.Uses.{num_of}
use Rattle.soqe_text.specs.Numbering.{over_elements, joined_by, quantified_over}
use Rattle.soqe_show.specs.Printed.{Text}
use Rattle.soqe_show.specs.Placed.{equation_sign}
use Rattle.soqe_show.specs.Dress.{guard, negated}
use Rattle.soqe_show.proofs.BackKnown.{number_of, sort_known}
use Rattle.soqe_show.proofs.BackNames.{Named}
use Rattle.soqe_show.proofs.BackUses.{right_sort, sort_of_binder, IsRight}
use Rattle.soqe_show.proofs.BackNumbers.{form_of}

-- a sort that is written, if it isn't the one with number 0
abbrev pub kept_sort : List Declaration → Option Text → Option Text
kept_sort ds None = None
kept_sort ds (Some s) = cond (eqb (number_of ds s) 0) None (Some s)

-- the tree that is printed for a tree that was read
abbrev pub normal : List Declaration → Tree Text → Tree Text
normal ds (Constant b) = Constant b
normal ds (Atom t) = Atom t
normal ds (Equation b sign l r) = Equation b (equation_sign b) l r
normal ds (Not a) = negated (normal ds a)
normal ds (Bind q x s a) = Bind q x (kept_sort ds s) (guard 4 (normal ds a))
normal ds (Bind2 q p ss a) = Bind2 q p ss (guard 4 (normal ds a))
normal ds (Binary op l r) = Binary op (guard (left op) (normal ds l)) (guard (right op) (normal ds r))
normal ds (Paren a) = normal ds a

kept_number : (ds : List Declaration) (s : Option Text) → sort_of_binder ds (kept_sort ds s) ≡ sort_of_binder ds s
kept_number ds None = refl
kept_number ds (Some s) = by (eqb (number_of ds s) 0) refl
  where
    by : (b : Bool) → eqb (number_of ds s) 0 ≡ b → sort_of_binder ds (cond b None (Some s)) ≡ number_of ds s
    by true e = sym (eqb-true (number_of ds s) 0 e)
    by false e = refl

kept_known : (fs ds : List Declaration) (vs ps : List ℕ) (s : Option Text) → sort_known ds vs ps s ≡ true → sort_known ds vs ps (kept_sort fs s) ≡ true
kept_known fs ds vs ps None h = refl
kept_known fs ds vs ps (Some s) h = by (eqb (number_of fs s) 0)
  where
    by : (b : Bool) → sort_known ds vs ps (cond b None (Some s)) ≡ true
    by true = refl
    by false = h

kept_right : (ds : List Declaration) (s : Option Text) → right_sort ds s ≡ true → right_sort ds (kept_sort ds s) ≡ true
kept_right ds None h = refl
kept_right ds (Some s) h = by (eqb (number_of ds s) 0)
  where
    by : (b : Bool) → right_sort ds (cond b None (Some s)) ≡ true
    by true = refl
    by false = h

module _ (ds : List Declaration) (vs : List (Option ℕ)) where
  form-guard : (k : ℕ) (t : Tree Text) → form_of ds vs (guard k t) ≡ form_of ds vs t
  form-guard k t = by (nat_lt (level t) k)
    where
      by : (b : Bool) → form_of ds vs (cond b (Paren t) t) ≡ form_of ds vs t
      by true = refl
      by false = refl

  form-negated : (t : Tree Text) → form_of ds vs (negated t) ≡ form.Not (form_of ds vs t)
  form-negated (Equation false sign l r) = refl
  form-negated (Equation true sign l r) = ap form.Not (form-guard 4 (Equation true sign l r))
  form-negated (Constant b) = ap form.Not (form-guard 4 (Constant b))
  form-negated (Atom t) = ap form.Not (form-guard 4 (Atom t))
  form-negated (Not t) = ap form.Not (form-guard 4 (Not t))
  form-negated (Bind q x s t) = ap form.Not (form-guard 4 (Bind q x s t))
  form-negated (Bind2 q x ss t) = ap form.Not (form-guard 4 (Bind2 q x ss t))
  form-negated (Binary op l r) = ap form.Not (form-guard 4 (Binary op l r))
  form-negated (Paren t) = ap form.Not (form-guard 4 (Paren t))

-- the printed tree has the formula of the tree that was read
pub normal_form : (ds : List Declaration) (vs : List (Option ℕ)) (t : Tree Text) → form_of ds vs (normal ds t) ≡ form_of ds vs t
normal_form ds vs (Constant b) = refl
normal_form ds vs (Atom t) = refl
normal_form ds vs (Equation b sign l r) = refl
normal_form ds vs (Not a) = form-negated ds vs (normal ds a) ∙ ap form.Not (normal_form ds vs a)
normal_form ds vs (Bind q x s a) =
    ap (λ n. over_elements q (record { num = num_of ds x; sort = n }) (form_of ds (set vs (num_of ds x) (Some n)) (guard 4 (normal ds a)))) (kept_number ds s)
    ∙ ap (over_elements q (record { num = num_of ds x; sort = sort_of_binder ds s }))
    (form-guard ds (set vs (num_of ds x) (Some (sort_of_binder ds s))) 4 (normal ds a) ∙ normal_form ds (set vs (num_of ds x) (Some (sort_of_binder ds s))) a)
normal_form ds vs (Bind2 q p ss a) =
    ap (quantified_over q (record { num = num_of ds p; args = map (number_of ds) ss })) (form-guard ds vs 4 (normal ds a) ∙ normal_form ds vs a)
normal_form ds vs (Binary op l r) =
    let first = form-guard ds vs (left op) (normal ds l) ∙ normal_form ds vs l in
    let second = form-guard ds vs (right op) (normal ds r) ∙ normal_form ds vs r in
    (λ i. joined_by op (first i) (second i))
normal_form ds vs (Paren a) = normal_form ds vs a

module _ (ds : List Declaration) (vs : List (Option ℕ)) (ps : List (Option (List ℕ))) where
  right-guard : (k : ℕ) (t : Tree Text) → IsRight ds vs ps t → IsRight ds vs ps (guard k t)
  right-guard k t h = by (nat_lt (level t) k)
    where
      by : (b : Bool) → IsRight ds vs ps (cond b (Paren t) t)
      by true = h
      by false = h

  right-negated : (t : Tree Text) → IsRight ds vs ps t → IsRight ds vs ps (negated t)
  right-negated (Equation false sign l r) h = h
  right-negated (Equation true sign l r) h = right-guard 4 (Equation true sign l r) h
  right-negated (Constant b) h = right-guard 4 (Constant b) h
  right-negated (Atom t) h = right-guard 4 (Atom t) h
  right-negated (Not t) h = right-guard 4 (Not t) h
  right-negated (Bind q x s t) h = right-guard 4 (Bind q x s t) h
  right-negated (Bind2 q x ss t) h = right-guard 4 (Bind2 q x ss t) h
  right-negated (Binary op l r) h = right-guard 4 (Binary op l r) h
  right-negated (Paren t) h = right-guard 4 (Paren t) h

-- the printed tree uses names rightly where the tree that was read does
pub normal_right : (ds : List Declaration) (vs : List (Option ℕ)) (ps : List (Option (List ℕ))) (t : Tree Text) → IsRight ds vs ps t → IsRight ds vs ps (normal ds t)
normal_right ds vs ps (Constant b) h = h
normal_right ds vs ps (Atom t) h = h
normal_right ds vs ps (Equation b sign l r) h = h
normal_right ds vs ps (Not a) h = right-negated ds vs ps (normal ds a) (normal_right ds vs ps a h)
normal_right ds vs ps (Bind q x s a) h = (
  kept_right ds s h.0,
  subst (λ n. IsRight ds (set vs (num_of ds x) (Some n)) ps (guard 4 (normal ds a))) (sym (kept_number ds s))
      (right-guard ds (set vs (num_of ds x) (Some (sort_of_binder ds s))) ps 4 (normal ds a) (normal_right ds (set vs (num_of ds x) (Some (sort_of_binder ds s))) ps a h.1)),
)
normal_right ds vs ps (Bind2 q p ss a) h =
    let below = set ps (num_of ds p) (Some (map (number_of ds) ss)) in
    (h.0, right-guard ds vs below 4 (normal ds a) (normal_right ds vs below a h.1))
normal_right ds vs ps (Binary op l r) h = (
  right-guard ds vs ps (left op) (normal ds l) (normal_right ds vs ps l h.0),
  right-guard ds vs ps (right op) (normal ds r) (normal_right ds vs ps r h.1),
)
normal_right ds vs ps (Paren a) h = normal_right ds vs ps a h

module _ (ds : List Declaration) (vs ps : List ℕ) (new : List Declaration) where
  named-guard : (k : ℕ) (t : Tree Text) → Named ds vs ps t new → Named ds vs ps (guard k t) new
  named-guard k t h = by (nat_lt (level t) k)
    where
      by : (b : Bool) → Named ds vs ps (cond b (Paren t) t) new
      by true = h
      by false = h

  named-negated : (t : Tree Text) → Named ds vs ps t new → Named ds vs ps (negated t) new
  named-negated (Equation false sign l r) h = h
  named-negated (Equation true sign l r) h = named-guard 4 (Equation true sign l r) h
  named-negated (Constant b) h = named-guard 4 (Constant b) h
  named-negated (Atom t) h = named-guard 4 (Atom t) h
  named-negated (Not t) h = named-guard 4 (Not t) h
  named-negated (Bind q x s t) h = named-guard 4 (Bind q x s t) h
  named-negated (Bind2 q x ss t) h = named-guard 4 (Bind2 q x ss t) h
  named-negated (Binary op l r) h = named-guard 4 (Binary op l r) h
  named-negated (Paren t) h = named-guard 4 (Paren t) h

-- the printed tree declares what the tree that was read declares
pub normal_named : (fs ds : List Declaration) (vs ps : List ℕ) (t : Tree Text) (new : List Declaration) → Named ds vs ps t new → Named ds vs ps (normal fs t) new
normal_named fs ds vs ps (Constant b) new h = h
normal_named fs ds vs ps (Atom t) new h = h
normal_named fs ds vs ps (Equation b sign l r) new h = h
normal_named fs ds vs ps (Not a) new h = named-negated ds vs ps new (normal fs a) (normal_named fs ds vs ps a new h)
normal_named fs ds vs ps (Bind q x s a) new h = (
  h.0,
  h.1,
  kept_known fs h.0.declared vs ps s h.2,
  named-guard h.0.declared (h.0.num ∷ vs) ps new 4 (normal fs a) (normal_named fs h.0.declared (h.0.num ∷ vs) ps a new h.3),
)
normal_named fs ds vs ps (Bind2 q p ss a) new h = (
  h.0,
  h.1,
  h.2,
  named-guard h.0.declared vs (h.0.num ∷ ps) new 4 (normal fs a) (normal_named fs h.0.declared vs (h.0.num ∷ ps) a new h.3),
)
normal_named fs ds vs ps (Binary op l r) new h = (
  h.0,
  named-guard ds vs ps h.0 (left op) (normal fs l) (normal_named fs ds vs ps l h.0 h.1),
  named-guard h.0 vs ps new (right op) (normal fs r) (normal_named fs h.0 vs ps r new h.2),
)
normal_named fs ds vs ps (Paren a) new h = normal_named fs ds vs ps a new h
