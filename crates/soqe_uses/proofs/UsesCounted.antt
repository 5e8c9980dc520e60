-- Counting the free variables of a formula, and the uses of its binders.
use Rattle.std.proofs.Common.{◌≡◌, ℕ, ◌+◌, ◌-◌, ◌⊎◌, ⊎_elim, Bool, true, false, cond, eqb, not, List, [], ◌∷◌, ◌++◌, refl, sym, ◌∙◌, ap, subst, arith}
use Rattle.std.proofs.lemmas.List.{map-append}
use Rattle.soqe_term.specs.declared.term.Var.{Var}
use Rattle.std.proofs.lemmas.Bool.{eqb-true, eq-eqb, both_ways}
use Rattle.soqe_number.specs.Updates.{changed}
use Rattle.soqe_term.specs.declared.term.Term.{Term}
use Rattle.soqe_term.specs.declared.term.Terms.{Terms}
use Rattle.soqe_form.specs.declared.form.Pred.{Pred}
use Rattle.soqe_form.specs.declared.form.PVar.{PVar}
use Rattle.soqe_form.specs.declared.form.Form.{Form, True, False, Equal, Atom, Not, And, Or, Imp, Iff, All, Ex, All2, Ex2}
use Rattle.soqe_form.specs.Boxes.{boxes}
use Rattle.soqe_form.specs.FreeVars.{occurrences, all_occurrences, others, free_occurrences}
use Rattle.soqe_uses.specs.Numbers.{numbers}
use Rattle.soqe_number.specs.Counts.{counted, times, Counts}
use Rattle.soqe_uses.specs.Uses.{uses, below, AreOnTop, Gathers}
use Rattle.soqe_number.proofs.Counted.{times-append}

abbrev Pairs : Type 0
Pairs = List (ℕ × ℕ)

pub counts-both : (xs ys zs : List Var) (a b c : Pairs) → zs ≡ xs ++ ys → Counts (λ n. times n (numbers xs)) a b → Counts (λ n. times n (numbers ys)) b c → Counts (λ n. times n (numbers zs)) a c
counts-both xs ys zs a b c e h k = record {
  is = λ n.
      let x = h.is n in let y = k.is n in
      let sum : times n (numbers zs) ≡ times n (numbers xs) + times n (numbers ys) =
      ap (λ l. times n (numbers l)) e ∙ ap (times n) (map-append (λ (y : Var). y.num) xs ys) ∙ times-append n (numbers xs) (numbers ys) in
      omega (arith, x, y, sum);
}

others_step : (b c d : Bool) (y : Var) (n k : ℕ) (zs : List Var) → eqb n y.num ≡ c → (b ≡ true → c ≡ d) → (b ≡ false → d ≡ true → c ≡ true → ⊥) → times n (numbers zs) ≡ cond d 0 k
    → times n (numbers (cond (not b) (y ∷ zs) zs)) ≡ cond d 0 (cond c 1 0 + k)
others_step true true true y n k zs e h l m = m
others_step true false false y n k zs e h l m = let m : times n (numbers zs) ≡ k = m in let sum : times n (numbers zs) ≡ 0 + k = omega (arith, m) in sum
others_step true true false y n k zs e h l m = let h : true ≡ false = h refl in cc
others_step true false true y n k zs e h l m = let h : false ≡ true = h refl in cc
others_step false true true y n k zs e h l m = absurd (l refl refl refl)
others_step false false true y n k zs e h l m = λ i. cond (e i) 1 0 + m i
others_step false c false y n k zs e h l m = λ i. cond (e i) 1 0 + m i

-- the variable of a binder does not count outside
pub times-others : (n x : ℕ) (ys : List Var) → times n (numbers (others x ys)) ≡ cond (eqb n x) 0 (times n (numbers ys))
times-others n x [] = none (eqb n x)
  where
    none : (b : Bool) → ◌≡◌ {A = ℕ} 0 (cond b 0 0)
    none true = refl
    none false = refl
times-others n x (y ∷ ys) =
    others_step (eqb y.num x) (eqb n y.num) (eqb n x) y n (times n (numbers ys)) (others x ys) refl (λ e. ap (eqb n) (eqb-true y.num x e))
    (λ e d c. both_ways (eqb y.num x) e (eq-eqb y.num x (sym (eqb-true n y.num c) ∙ eqb-true n x d))) (times-others n x ys)

below_step : (b : Bool) (outside inside k now : ℕ) → (b ≡ true → now ≡ outside) → inside ≡ k + now → cond b outside inside ≡ cond b 0 k + now
below_step true outside inside k now h e = let same = h refl in let sum : outside ≡ 0 + now = omega (arith, same) in sum
below_step false outside inside k now h e = e

-- the variable of a binder is counted in its body, and has its old count behind it
pub gathers-below : (x : Var) (f : Form) (a b c : Pairs) (outside inside count : ℕ) (old mid new : List ℕ) → outside ≡ counted a x.num → Gathers f a b old mid
    → inside ≡ counted b x.num → count ≡ inside - outside → new ≡ count ∷ mid → counted c ≡ changed (counted b) x.num outside → Gathers (All x f) a c old new
unfolding boxes
gathers-below x f a b c outside inside count old mid new was h here less up back =
    let own : count ≡ uses x.num f = let sum = h.counts.is x.num in omega (arith, sum, was, here, less) in
    record {
      counts = record {
        is = λ n.
            (λ i. back i n)
            ∙ below_step (eqb n x.num) outside (counted b n) (uses n f) (counted a n) (λ e. ap (counted a) (eqb-true n x.num e) ∙ sym was) (h.counts.is n)
            ∙ ap (λ k. k + counted a n) (sym (times-others n x.num (free_occurrences f)));
      };
      on_top = subst (AreOnTop (All x f)) (sym up) (own, h.on_top);
      rest = ap (below (All x f)) up ∙ h.rest;
    }

-- ---- each kind of formula

pub counts-none : (p : ℕ → ℕ) (a : Pairs) → ((n : ℕ) → p n ≡ 0) → Counts p a a
counts-none p a z = record { is = λ n. let e = z n in omega (arith, e) }

nothing : (a : Pairs) → Counts (λ n. 0) a a
nothing a = counts-none (λ n. 0) a (λ n. refl)

pub gathers-constant : (f : Form) (a : Pairs) (ns : List ℕ) → f ≡ True ⊎ f ≡ False → Gathers f a a ns ns
gathers-constant f a ns e =
    ⊎_elim (λ e. subst (λ h. Gathers h a a ns ns) (sym e) (record { counts = nothing a; on_top = tt; rest = refl }))
    (λ e. subst (λ h. Gathers h a a ns ns) (sym e) (record { counts = nothing a; on_top = tt; rest = refl })) e

pub gathers-equal : (f : Form) (s t : Term) (a b c : Pairs) (ns : List ℕ) → f ≡ Equal s t → Counts (λ n. times n (numbers (occurrences s))) a b → Counts (λ n. times n (numbers (occurrences t))) b c → Gathers f a c ns ns
gathers-equal f s t a b c ns e h k =
    subst (λ h. Gathers h a c ns ns) (sym e) (record { counts = counts-both (occurrences s) (occurrences t) (occurrences s ++ occurrences t) a b c refl h k; on_top = tt; rest = refl })

pub gathers-atom : (f : Form) (p : Pred) (ts : Terms) (a b : Pairs) (ns : List ℕ) → f ≡ Atom p ts → Counts (λ n. times n (numbers (all_occurrences ts))) a b → Gathers f a b ns ns
gathers-atom f p ts a b ns e h = subst (λ h. Gathers h a b ns ns) (sym e) (record { counts = h; on_top = tt; rest = refl })

pub gathers-and : (f g : Form) (a b c : Pairs) (old mid new : List ℕ) → Gathers f a b old mid → Gathers g b c mid new → Gathers (And f g) a c old new
unfolding boxes
gathers-and f g a b c old mid new h k = record {
  counts = counts-both (free_occurrences f) (free_occurrences g) (free_occurrences f ++ free_occurrences g) a b c refl h.counts k.counts;
  on_top = (k.on_top, subst (AreOnTop f) (sym k.rest) h.on_top);
  rest = ap (below f) k.rest ∙ h.rest;
}

-- the same for each node over two parts, and over one
pub gathers-two : (h f g : Form) (a b : Pairs) (ns ms : List ℕ) → h ≡ And f g ⊎ (h ≡ Or f g ⊎ (h ≡ Imp f g ⊎ h ≡ Iff f g)) → Gathers (And f g) a b ns ms → Gathers h a b ns ms
unfolding boxes
gathers-two h f g a b ns ms e k =
    ⊎_elim (λ e. subst (λ h. Gathers h a b ns ms) (sym e) k)
    (⊎_elim (λ e. subst (λ h. Gathers h a b ns ms) (sym e) (record { counts = k.counts; on_top = k.on_top; rest = k.rest }))
    (⊎_elim (λ e. subst (λ h. Gathers h a b ns ms) (sym e) (record { counts = k.counts; on_top = k.on_top; rest = k.rest }))
    (λ e. subst (λ h. Gathers h a b ns ms) (sym e) (record { counts = k.counts; on_top = k.on_top; rest = k.rest })))) e

pub gathers-not : (f : Form) (a b : Pairs) (ns ms : List ℕ) → Gathers f a b ns ms → Gathers (Not f) a b ns ms
unfolding boxes
gathers-not f a b ns ms k = record { counts = k.counts; on_top = k.on_top; rest = k.rest }

pub gathers-all2 : (p : PVar) (f : Form) (a b : Pairs) (ns ms : List ℕ) → Gathers f a b ns ms → Gathers (All2 p f) a b ns ms
unfolding boxes
gathers-all2 p f a b ns ms k = record { counts = k.counts; on_top = k.on_top; rest = k.rest }

pub gathers-ex2 : (p : PVar) (f : Form) (a b : Pairs) (ns ms : List ℕ) → Gathers f a b ns ms → Gathers (Ex2 p f) a b ns ms
unfolding boxes
gathers-ex2 p f a b ns ms k = record { counts = k.counts; on_top = k.on_top; rest = k.rest }

pub gathers-ex : (x : Var) (f : Form) (a b : Pairs) (ns ms : List ℕ) → Gathers (All x f) a b ns ms → Gathers (Ex x f) a b ns ms
unfolding boxes
gathers-ex x f a b ns ms k = record { counts = k.counts; on_top = k.on_top; rest = k.rest }
