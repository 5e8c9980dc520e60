-- To be the same is transitive.
use Rattle.std.proofs.Common.{◌≡◌, ℕ, Bool, true, false, cond, eqb, ◌&&◌, ◌||◌, List, [], ◌∷◌, refl, ◌∙◌, ap}
use Rattle.std.specs.Cmp.Lexicographic.{bytes_decides}
use Rattle.std.proofs.lemmas.Bool.{eqb-true, eq-eqb, and_from}
use Rattle.soqe_term.specs.declared.term.Sym.{Sym}
use Rattle.soqe_term.specs.declared.term.Term.{Term, Var as var, App}
use Rattle.soqe_term.specs.declared.term.Terms.{Terms, Nil, Cons', end_of-Term as end-t, more_of-Term as one-t, end_of-Terms as ends-t, more_of-Terms as ones-t}
use Rattle.soqe_term.specs.Equal.{equal_symbols}
use Rattle.soqe_number.proofs.Choices.{and_first, and_second}
use Rattle.soqe_term.proofs.EqualTerms.{equal_symbols-same}
use Rattle.soqe_form.specs.declared.form.Pred.{Pred}
use Rattle.soqe_form.specs.declared.form.Pred.TheVariants.{Decl, Bound}
use Rattle.soqe_form.specs.declared.form.PVar.{PVar}
use Rattle.soqe_form.specs.declared.form.Form.{Form, Equal, Atom, Not', And', Or', Imp', Iff', All', Ex', All2', Ex2', end_of-Form as end, more_of-Form as one}
use Rattle.soqe_form.specs.Same.{related, same_term, same_terms, same_pred, same_sorts, same_in, same}
use Rattle.soqe_form.proofs.SameCases.{never, GoesUp, same-induction, at-equal, at-atom, at-not, at-and, at-or, at-imp, at-iff, at-all, at-ex, at-all2, at-ex2}

-- two numbers that name the same as a third one name the same
abbrev pub IsChained : List (ℕ × ℕ) → List (ℕ × ℕ) → List (ℕ × ℕ) → Type 0
IsChained vs us ws = (l m n : ℕ) → related vs l m ≡ true → related us m n ≡ true → related ws l n ≡ true

chained_step : (p q r a b c : Bool) → cond (p || q) (p && q) a ≡ true → cond (q || r) (q && r) b ≡ true → (a ≡ true → b ≡ true → c ≡ true) → cond (p || r) (p && r) c ≡ true
chained_step true true true a b c h k m = refl
chained_step true true false a b c h k m = never k
chained_step true false r a b c h k m = never h
chained_step false true r a b c h k m = never h
chained_step false false true a b c h k m = never k
chained_step false false false a b c h k m = m h k

chained-under : (vs us ws : List (ℕ × ℕ)) (x y z : ℕ) → IsChained vs us ws → IsChained ((x, y) ∷ vs) ((y, z) ∷ us) ((x, z) ∷ ws)
chained-under vs us ws x y z h l m n o p = chained_step (eqb l x) (eqb m y) (eqb n z) (related vs l m) (related us m n) (related ws l n) o p (h l m n)

eqb-chained : (l m n : ℕ) → eqb l m ≡ true → eqb m n ≡ true → eqb l n ≡ true
eqb-chained l m n o p = eq-eqb l n (eqb-true l m o ∙ eqb-true m n p)

equal_symbols-chained : (f g h : Sym) → equal_symbols f g ≡ true → equal_symbols g h ≡ true → equal_symbols f h ≡ true
equal_symbols-chained f g h o p = ap (λ k. equal_symbols k h) (equal_symbols-same f g o) ∙ p

module _ (vs us ws : List (ℕ × ℕ)) (h : IsChained vs us ws) where
  mutual
    same_term-chained : (s t u : Term) → same_term vs s t ≡ true → same_term us t u ≡ true → same_term ws s u ≡ true
    same_term-chained (var x) (var y) (var z) o p =
        and_from (eqb x.sort z.sort) (related ws x.num z.num)
        (eqb-chained x.sort y.sort z.sort (and_first (eqb x.sort y.sort) (related vs x.num y.num) o) (and_first (eqb y.sort z.sort) (related us y.num z.num) p))
        (h x.num y.num z.num (and_second (eqb x.sort y.sort) (related vs x.num y.num) o) (and_second (eqb y.sort z.sort) (related us y.num z.num) p))
    same_term-chained (var x) (var y) (App k n rs) o p = never p
    same_term-chained (var x) (App g m ts) u o p = never o
    same_term-chained (App f l ss) (var y) u o p = never o
    same_term-chained (App f l ss) (App g m ts) (var z) o p = never p
    same_term-chained (App f l ss) (App g m ts) (App k n rs) o p =
        let more_o : (eqb l m && same_terms vs ss ts) ≡ true = and_second (equal_symbols f g) (eqb l m && same_terms vs ss ts) o in
        let more_p : (eqb m n && same_terms us ts rs) ≡ true = and_second (equal_symbols g k) (eqb m n && same_terms us ts rs) p in
        and_from (equal_symbols f k) (eqb l n && same_terms ws ss rs)
        (equal_symbols-chained f g k (and_first (equal_symbols f g) (eqb l m && same_terms vs ss ts) o) (and_first (equal_symbols g k) (eqb m n && same_terms us ts rs) p))
        (and_from (eqb l n) (same_terms ws ss rs) (eqb-chained l m n (and_first (eqb l m) (same_terms vs ss ts) more_o) (and_first (eqb m n) (same_terms us ts rs) more_p))
        (same_terms-chained ss ts rs (and_second (eqb l m) (same_terms vs ss ts) more_o) (and_second (eqb m n) (same_terms us ts rs) more_p)))

    same_terms-chained : (ss ts rs : Terms) → same_terms vs ss ts ≡ true → same_terms us ts rs ≡ true → same_terms ws ss rs ≡ true
    same_terms-chained Nil Nil Nil o p = refl
    same_terms-chained Nil Nil (Cons' _ (one-t u end-t) _ (ones-t rs ends-t)) o p = never p
    same_terms-chained Nil (Cons' _ (one-t t end-t) _ (ones-t ts ends-t)) rs o p = never o
    same_terms-chained (Cons' _ (one-t s end-t) _ (ones-t ss ends-t)) Nil rs o p = never o
    same_terms-chained (Cons' _ (one-t s end-t) _ (ones-t ss ends-t)) (Cons' _ (one-t t end-t) _ (ones-t ts ends-t)) Nil o p = never p
    same_terms-chained (Cons' _ (one-t s end-t) _ (ones-t ss ends-t)) (Cons' _ (one-t t end-t) _ (ones-t ts ends-t)) (Cons' _ (one-t u end-t) _ (ones-t rs ends-t)) o p =
        and_from (same_term ws s u) (same_terms ws ss rs)
        (same_term-chained s t u (and_first (same_term vs s t) (same_terms vs ss ts) o) (and_first (same_term us t u) (same_terms us ts rs) p))
        (same_terms-chained ss ts rs (and_second (same_term vs s t) (same_terms vs ss ts) o) (and_second (same_term us t u) (same_terms us ts rs) p))

  same_pred-chained : (p q r : Pred) → same_pred vs p q ≡ true → same_pred us q r ≡ true → same_pred ws p r ≡ true
  same_pred-chained (Decl l) (Decl m) (Decl n) o p = eqb-chained l m n o p
  same_pred-chained (Decl l) (Decl m) (Bound n) o p = never p
  same_pred-chained (Decl l) (Bound m) r o p = never o
  same_pred-chained (Bound l) (Decl m) r o p = never o
  same_pred-chained (Bound l) (Bound m) (Decl n) o p = never p
  same_pred-chained (Bound l) (Bound m) (Bound n) o p = h l m n o p

-- what is the same as the second formula is the same as the first
abbrev pub SameChained : List (ℕ × ℕ) → List (ℕ × ℕ) → Form → Form → Type 0
SameChained vs ps f g = (us qs ws rs : List (ℕ × ℕ)) (h : Form) → IsChained vs us ws → IsChained ps qs rs → same_in us qs g h ≡ true → same_in ws rs f h ≡ true

same_sorts-chained : (p q r : PVar) → p.args ≡ q.args → same_sorts q r ≡ true → same_sorts p r ≡ true
same_sorts-chained p q r e o = (bytes_decides p.args r.args).1 (e ∙ (bytes_decides q.args r.args).0 o)

chained-up : GoesUp SameChained
chained-up = record {
  true_nodes = λ vs ps us qs ws rs h c d o. o;
  false_nodes = λ vs ps us qs ws rs h c d o. o;
  equal_nodes = λ vs ps s t u v a b us qs ws rs h c d o.
      at-equal (λ h. same_in ws rs (Equal s t) h ≡ true) (same_term us u) (same_term us v) h o
      (λ x y p q. and_from (same_term ws s x) (same_term ws t y) (same_term-chained vs us ws c s u x a p) (same_term-chained vs us ws c t v y b q));
  atom_nodes = λ vs ps p q ts ss a b us qs ws rs h c d o.
      at-atom (λ h. same_in ws rs (Atom p ts) h ≡ true) (same_pred qs q) (same_terms us ss) h o
      (λ r xs k l. and_from (same_pred rs p r) (same_terms ws ts xs) (same_pred-chained ps qs rs d p q r a k) (same_terms-chained vs us ws c ts ss xs b l));
  not_nodes = λ vs ps f g p us qs ws rs h c d o.
      at-not (λ h. same_in ws rs (Not' tt (one f end)) h ≡ true) (same_in us qs g) h o (λ x k. p us qs ws rs x c d k);
  and_nodes = λ vs ps f g l m p q us qs ws rs h c d o.
      at-and (λ h. same_in ws rs (And' tt (one f end) tt (one g end)) h ≡ true) (same_in us qs l) (same_in us qs m) h o
      (λ x y a b. and_from (same_in ws rs f x) (same_in ws rs g y) (p us qs ws rs x c d a) (q us qs ws rs y c d b));
  or_nodes = λ vs ps f g l m p q us qs ws rs h c d o.
      at-or (λ h. same_in ws rs (Or' tt (one f end) tt (one g end)) h ≡ true) (same_in us qs l) (same_in us qs m) h o
      (λ x y a b. and_from (same_in ws rs f x) (same_in ws rs g y) (p us qs ws rs x c d a) (q us qs ws rs y c d b));
  imp_nodes = λ vs ps f g l m p q us qs ws rs h c d o.
      at-imp (λ h. same_in ws rs (Imp' tt (one f end) tt (one g end)) h ≡ true) (same_in us qs l) (same_in us qs m) h o
      (λ x y a b. and_from (same_in ws rs f x) (same_in ws rs g y) (p us qs ws rs x c d a) (q us qs ws rs y c d b));
  iff_nodes = λ vs ps f g l m p q us qs ws rs h c d o.
      at-iff (λ h. same_in ws rs (Iff' tt (one f end) tt (one g end)) h ≡ true) (same_in us qs l) (same_in us qs m) h o
      (λ x y a b. and_from (same_in ws rs f x) (same_in ws rs g y) (p us qs ws rs x c d a) (q us qs ws rs y c d b));
  all_nodes = λ vs ps x y f g s p us qs ws rs h c d o.
      at-all (λ h. same_in ws rs (All' x tt (one f end)) h ≡ true) (λ z k. eqb y.sort z.sort && same_in ((y.num, z.num) ∷ us) qs g k) h o
      (λ z k a. and_from (eqb x.sort z.sort) (same_in ((x.num, z.num) ∷ ws) rs f k)
      (eq-eqb x.sort z.sort (s ∙ eqb-true y.sort z.sort (and_first (eqb y.sort z.sort) (same_in ((y.num, z.num) ∷ us) qs g k) a)))
      (p ((y.num, z.num) ∷ us) qs ((x.num, z.num) ∷ ws) rs k (chained-under vs us ws x.num y.num z.num c) d (and_second (eqb y.sort z.sort) (same_in ((y.num, z.num) ∷ us) qs g k) a)));
  ex_nodes = λ vs ps x y f g s p us qs ws rs h c d o.
      at-ex (λ h. same_in ws rs (Ex' x tt (one f end)) h ≡ true) (λ z k. eqb y.sort z.sort && same_in ((y.num, z.num) ∷ us) qs g k) h o
      (λ z k a. and_from (eqb x.sort z.sort) (same_in ((x.num, z.num) ∷ ws) rs f k)
      (eq-eqb x.sort z.sort (s ∙ eqb-true y.sort z.sort (and_first (eqb y.sort z.sort) (same_in ((y.num, z.num) ∷ us) qs g k) a)))
      (p ((y.num, z.num) ∷ us) qs ((x.num, z.num) ∷ ws) rs k (chained-under vs us ws x.num y.num z.num c) d (and_second (eqb y.sort z.sort) (same_in ((y.num, z.num) ∷ us) qs g k) a)));
  all2_nodes = λ vs ps x y f g s p us qs ws rs h c d o.
      at-all2 (λ h. same_in ws rs (All2' x tt (one f end)) h ≡ true) (λ z k. same_sorts y z && same_in us ((y.num, z.num) ∷ qs) g k) h o
      (λ z k a. and_from (same_sorts x z) (same_in ws ((x.num, z.num) ∷ rs) f k)
      (same_sorts-chained x y z s (and_first (same_sorts y z) (same_in us ((y.num, z.num) ∷ qs) g k) a))
      (p us ((y.num, z.num) ∷ qs) ws ((x.num, z.num) ∷ rs) k c (chained-under ps qs rs x.num y.num z.num d) (and_second (same_sorts y z) (same_in us ((y.num, z.num) ∷ qs) g k) a)));
  ex2_nodes = λ vs ps x y f g s p us qs ws rs h c d o.
      at-ex2 (λ h. same_in ws rs (Ex2' x tt (one f end)) h ≡ true) (λ z k. same_sorts y z && same_in us ((y.num, z.num) ∷ qs) g k) h o
      (λ z k a. and_from (same_sorts x z) (same_in ws ((x.num, z.num) ∷ rs) f k)
      (same_sorts-chained x y z s (and_first (same_sorts y z) (same_in us ((y.num, z.num) ∷ qs) g k) a))
      (p us ((y.num, z.num) ∷ qs) ws ((x.num, z.num) ∷ rs) k c (chained-under ps qs rs x.num y.num z.num d) (and_second (same_sorts y z) (same_in us ((y.num, z.num) ∷ qs) g k) a)));
}

pub same-chained : (f g h : Form) → same f g ≡ true → same g h ≡ true → same f h ≡ true
same-chained f g h o p = same-induction SameChained chained-up [] [] f g o [] [] [] [] h eqb-chained eqb-chained p
