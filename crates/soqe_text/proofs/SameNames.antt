-- Two ways to keep what is known at a place say the same of a formula, where each number has the same at both.
use Rattle.std.specs.Prelude.{ℕ, ◌≡◌, Bool, cond, List, ◌∷◌, Option, Some, None, get_or, set, refl}
use Rattle.std.proofs.Common.{sym, ◌∙◌, ap}
use Rattle.std.specs.Option.{option_or}
use Rattle.soqe_syntax.specs.declared.piece.Span.{Span}
use Rattle.soqe_syntax.specs.Grammar as syntax
use Rattle.soqe_syntax.specs.Pieces.{text_at}
use Rattle.soqe_signature.specs.declared.skolems.SkolemSig.{SkolemSig}
use Rattle.soqe_term.specs.declared.term.Sym.{Sym}
use Rattle.soqe_term.specs.declared.term.Sym.TheVariants.{Fun}
use Rattle.soqe_term.specs.declared.term.Terms.{Terms, Nil, Cons}
use Rattle.soqe_term.specs.declared.term.Var.{Var}
use Rattle.soqe_signature.specs.Declarations.{Declaration, Found, lookup}
use Rattle.soqe_form.specs.declared.form.PVar.{PVar}
use Rattle.soqe_form.specs.declared.form.Form.{Form, Equal, Atom, Not}
use Rattle.soqe_signature.specs.Scope.{sort_among, sorts_among}
use Rattle.soqe_text.specs.Lookups.{Places, ByList, ByNumber, known_at, with_known}
use Rattle.soqe_text.specs.Meanings.{Names, form_names, found_in, symbol_in}
use Rattle.soqe_text.specs.Naming.{sort_numbers_by}
use Rattle.soqe_text.specs.Numbering.{applied_by, predicate, negated, over_elements, quantified_over, joined_by, numbered, numbered_term_by, numbered_terms_by, numbered_atom_by, numbered_by}
use Rattle.soqe_text.specs.Uses.{head, num_of_by, sort_found, arguments_found, predicate_found, sort_of_term_by, behind_fitting, then_behind, behind_by, is_none_left, has_arguments_by, is_used_right_by, wrong_head_by, wrong_term_by, wrong_in_by, wrong_in_all_by, wrong_in_arguments_by, wrong_in_atom_by, wrong_in_equation_by, differ, binder_sort_by, wrong_sort_by, no_sort_in_by, wrong, wrong_by}

-- What one way knows at a place is what the other knows there, below binders too.
record Same {V P W Q : Type 0} (sort_at : V → ℕ → Option ℕ) (with_sort : V → ℕ → ℕ → V) (sorts_at : P → ℕ → Option (List ℕ)) (with_sorts : P → ℕ → List ℕ → P)
    (sort_at' : W → ℕ → Option ℕ) (with_sort' : W → ℕ → ℕ → W) (sorts_at' : Q → ℕ → Option (List ℕ)) (with_sorts' : Q → ℕ → List ℕ → Q)
    (h : V → W) (k : P → Q) : Type 0 where
  sort : (vs : V) → sort_at vs ≡ sort_at' (h vs)
  bind : (vs : V) (n s : ℕ) → h (with_sort vs n s) ≡ with_sort' (h vs) n s
  sorts : (ps : P) → sorts_at ps ≡ sorts_at' (k ps)
  binds : (ps : P) (n : ℕ) (ss : List ℕ) → k (with_sorts ps n ss) ≡ with_sorts' (k ps) n ss

module _ {V P W Q : Type 0} (bytes : List ℕ) (look : List ℕ → Option Found) (symbols : List ℕ → ℕ → Sym)
    (sort_at : V → ℕ → Option ℕ) (with_sort : V → ℕ → ℕ → V) (sorts_at : P → ℕ → Option (List ℕ)) (with_sorts : P → ℕ → List ℕ → P)
    (sort_at' : W → ℕ → Option ℕ) (with_sort' : W → ℕ → ℕ → W) (sorts_at' : Q → ℕ → Option (List ℕ)) (with_sorts' : Q → ℕ → List ℕ → Q)
    (h : V → W) (k : P → Q) (same : Same sort_at with_sort sorts_at with_sorts sort_at' with_sort' sorts_at' with_sorts' h k) where
  abbrev one : Names V P
  one = record { find = look; symbol = symbols; sort_at = sort_at; with_sort = with_sort; sorts_at = sorts_at; with_sorts = with_sorts }

  abbrev other : Names W Q
  other = record { find = look; symbol = symbols; sort_at = sort_at'; with_sort = with_sort'; sorts_at = sorts_at'; with_sorts = with_sorts' }

  module _ (vs : V) where
    sort-same : (t : syntax.Term Span) → sort_of_term_by bytes one vs t ≡ sort_of_term_by bytes other (h vs) t
    sort-same t = ap (λ (f : ℕ → Option ℕ). sort_found f (look (text_at bytes (head t)))) (same.sort vs)

    behind-same : (ts : syntax.Terms Span) (ss : List ℕ) → behind_by bytes one vs ts ss ≡ behind_by bytes other (h vs) ts ss
    behind-same (syntax.One t) ss = ap (λ (r : Option ℕ). behind_fitting r ss) (sort-same t)
    behind-same (syntax.More ts t) ss = λ i. then_behind (behind-same ts ss i) (λ ss. behind_fitting (sort-same t i) ss)

    arguments-same : (t : syntax.Term Span) (ss : List ℕ) → has_arguments_by bytes one vs t ss ≡ has_arguments_by bytes other (h vs) t ss
    arguments-same (syntax.Plain x) ss = refl
    arguments-same (syntax.Applied x ts) ss = ap is_none_left (behind-same ts ss)

    right-same : (t : syntax.Term Span) (o : Option (List ℕ)) → is_used_right_by bytes one vs t o ≡ is_used_right_by bytes other (h vs) t o
    right-same t None = refl
    right-same t (Some ss) = arguments-same t ss

    head-same : (t : syntax.Term Span) (o : Option (List ℕ)) → wrong_head_by bytes one vs t o ≡ wrong_head_by bytes other (h vs) t o
    head-same t o = ap (λ (b : Bool). cond b None (Some (head t).start)) (right-same t o)

    term-same : (t : syntax.Term Span) → wrong_term_by bytes one vs t ≡ wrong_term_by bytes other (h vs) t
    term-same t =
        head-same t (arguments_found (sort_at vs) (look (text_at bytes (head t))))
        ∙ ap (λ (f : ℕ → Option ℕ). wrong_head_by bytes other (h vs) t (arguments_found f (look (text_at bytes (head t))))) (same.sort vs)

    mutual
      in-same : (t : syntax.Term Span) → wrong_in_by bytes one vs t ≡ wrong_in_by bytes other (h vs) t
      in-same (syntax.Plain x) = term-same (syntax.Plain x)
      in-same (syntax.Applied x ts) = λ i. option_or (term-same (syntax.Applied x ts) i) (in-all-same ts i)

      in-all-same : (ts : syntax.Terms Span) → wrong_in_all_by bytes one vs ts ≡ wrong_in_all_by bytes other (h vs) ts
      in-all-same (syntax.One t) = in-same t
      in-all-same (syntax.More ts t) = λ i. option_or (in-all-same ts i) (in-same t i)

    in-arguments-same : (t : syntax.Term Span) → wrong_in_arguments_by bytes one vs t ≡ wrong_in_arguments_by bytes other (h vs) t
    in-arguments-same (syntax.Plain x) = refl
    in-arguments-same (syntax.Applied x ts) = in-all-same ts

    atom-same : (ps : P) (t : syntax.Term Span) → wrong_in_atom_by bytes one vs ps t ≡ wrong_in_atom_by bytes other (h vs) (k ps) t
    atom-same ps t = λ i. option_or (head-here i) (in-arguments-same t i)
      where
        head-here : wrong_head_by bytes one vs t (predicate_found (sorts_at ps) (look (text_at bytes (head t))))
            ≡ wrong_head_by bytes other (h vs) t (predicate_found (sorts_at' (k ps)) (look (text_at bytes (head t))))
        head-here =
            head-same t (predicate_found (sorts_at ps) (look (text_at bytes (head t))))
            ∙ ap (λ (f : ℕ → Option (List ℕ)). wrong_head_by bytes other (h vs) t (predicate_found f (look (text_at bytes (head t))))) (same.sorts ps)

    equation-same : (at : Span) (l r : syntax.Term Span) → wrong_in_equation_by bytes one vs at l r ≡ wrong_in_equation_by bytes other (h vs) at l r
    equation-same at l r =
        λ i. option_or (in-same l i) (option_or (cond (differ (sort-same l i) (sort-same r i)) (Some at.start) None) (in-same r i))

    mutual
      numbered-term-same : (t : syntax.Term Span) → numbered_term_by bytes one vs t ≡ numbered_term_by bytes other (h vs) t
      numbered-term-same (syntax.Plain x) = ap (λ (f : ℕ → Option ℕ). applied_by (symbols (text_at bytes x)) f (look (text_at bytes x)) Nil) (same.sort vs)
      numbered-term-same (syntax.Applied x ts) =
          λ i. applied_by (symbols (text_at bytes x)) (same.sort vs i) (look (text_at bytes x)) (numbered-terms-same ts Nil i)

      numbered-terms-same : (ts : syntax.Terms Span) (after : Terms) → numbered_terms_by bytes one vs ts after ≡ numbered_terms_by bytes other (h vs) ts after
      numbered-terms-same (syntax.One t) after = λ i. Cons (numbered-term-same t i) after
      numbered-terms-same (syntax.More ts t) after =
          numbered-terms-same ts (Cons (numbered_term_by bytes one vs t) after)
          ∙ (λ i. numbered_terms_by bytes other (h vs) ts (Cons (numbered-term-same t i) after))

    numbered-atom-same : (t : syntax.Term Span) → numbered_atom_by bytes one vs t ≡ numbered_atom_by bytes other (h vs) t
    numbered-atom-same (syntax.Plain p) = refl
    numbered-atom-same (syntax.Applied p ts) = ap (Atom (predicate (look (text_at bytes p)))) (numbered-terms-same ts Nil)

  wrong-same : (t : syntax.Tree Span) (vs : V) (ps : P) → wrong_by bytes one vs ps t ≡ wrong_by bytes other (h vs) (k ps) t
  wrong-same (syntax.Constant b) vs ps = refl
  wrong-same (syntax.Atom t) vs ps = atom-same vs ps t
  wrong-same (syntax.Equation b at l r) vs ps = equation-same vs at l r
  wrong-same (syntax.Not a) vs ps = wrong-same a vs ps
  wrong-same (syntax.Bind q x s a) vs ps =
      let n = num_of_by one (text_at bytes x) in
      let sort = binder_sort_by bytes one s in
      ap (option_or (wrong_sort_by bytes one s))
      (wrong-same a (with_sort vs n sort) ps ∙ ap (λ (w : W). wrong_by bytes other w (k ps) a) (same.bind vs n sort))
  wrong-same (syntax.Bind2 q p ss a) vs ps =
      let n = num_of_by one (text_at bytes p) in
      let sorts = sort_numbers_by bytes look ss in
      ap (option_or (no_sort_in_by bytes one ss))
      (wrong-same a vs (with_sorts ps n sorts) ∙ ap (λ (w : Q). wrong_by bytes other (h vs) w a) (same.binds ps n sorts))
  wrong-same (syntax.Binary op l r) vs ps = λ i. option_or (wrong-same l vs ps i) (wrong-same r vs ps i)
  wrong-same (syntax.Paren a) vs ps = wrong-same a vs ps

  numbered-same : (t : syntax.Tree Span) (vs : V) → numbered_by bytes one vs t ≡ numbered_by bytes other (h vs) t
  numbered-same (syntax.Constant b) vs = refl
  numbered-same (syntax.Atom t) vs = numbered-atom-same vs t
  numbered-same (syntax.Equation b at l r) vs = λ i. negated b (Equal (numbered-term-same vs l i) (numbered-term-same vs r i))
  numbered-same (syntax.Not a) vs = ap Not (numbered-same a vs)
  numbered-same (syntax.Bind q x s a) vs =
      let n = num_of_by one (text_at bytes x) in
      let sort = binder_sort_by bytes one s in
      ap (over_elements q (record { num = n; sort = sort }))
      (numbered-same a (with_sort vs n sort) ∙ ap (λ (w : W). numbered_by bytes other w a) (same.bind vs n sort))
  numbered-same (syntax.Bind2 q p ss a) vs =
      ap (quantified_over q (record { num = num_of_by one (text_at bytes p); args = sort_numbers_by bytes look ss })) (numbered-same a vs)
  numbered-same (syntax.Binary op l r) vs = λ i. joined_by op (numbered-same l vs i) (numbered-same r vs i)
  numbered-same (syntax.Paren a) vs = numbered-same a vs

abbrev sort_put : Places ℕ → ℕ → ℕ → Places ℕ
sort_put vs n s = with_known vs n (Some s)

abbrev sorts_put : Places (List ℕ) → ℕ → List ℕ → Places (List ℕ)
sorts_put ps n ss = with_known ps n (Some ss)

-- ---- problems

-- a place as the reader keeps it
abbrev by_look : (List ℕ → Option Found) → (List ℕ → ℕ → Sym) → Names (Places ℕ) (Places (List ℕ))
by_look look symbols = record { find = look; symbol = symbols; sort_at = known_at; with_sort = sort_put; sorts_at = known_at; with_sorts = sorts_put }

same_lists : Same (λ (vs : List (Option ℕ)) n. get_or vs n None) (λ vs n s. set vs n (Some s)) (λ (ps : List (Option (List ℕ))) n. get_or ps n None) (λ ps n ss. set ps n (Some ss))
    known_at sort_put known_at sorts_put ByList ByList
same_lists = record { sort = λ vs. refl; bind = λ vs n s. refl; sorts = λ ps. refl; binds = λ ps n ss. refl }

-- a problem's places are lists
pub wrong_listed : (bytes : List ℕ) (ds : List Declaration) (t : syntax.Tree Span) (vs : List (Option ℕ)) (ps : List (Option (List ℕ)))
    → wrong bytes ds vs ps t ≡ wrong_by bytes (by_look (lookup ds) (λ name n. Fun n)) (ByList vs) (ByList ps) t
wrong_listed bytes ds t vs ps = wrong-same bytes (lookup ds) (λ name n. Fun n) _ _ _ _ known_at sort_put known_at sorts_put ByList ByList same_lists t vs ps

pub numbered_listed : (bytes : List ℕ) (ds : List Declaration) (t : syntax.Tree Span) (vs : List (Option ℕ))
    → numbered bytes ds vs t ≡ numbered_by bytes (by_look (lookup ds) (λ name n. Fun n)) (ByList vs) t
numbered_listed bytes ds t vs = numbered-same bytes (lookup ds) (λ name n. Fun n) _ _ _ _ known_at sort_put known_at sorts_put ByList ByList same_lists t vs

-- ---- formulas by themselves

same_fronts : Same sort_among (λ (vs : List Var) n s. record { num = n; sort = s } ∷ vs) sorts_among (λ (ps : List PVar) n ss. record { num = n; args = ss } ∷ ps)
    known_at sort_put known_at sorts_put (λ vs. ByNumber (sort_among vs)) (λ ps. ByNumber (sorts_among ps))
same_fronts = record { sort = λ vs. refl; bind = λ vs n s. refl; sorts = λ ps. refl; binds = λ ps n ss. refl }

-- the places of a formula by itself are known by number
pub wrong_by_number : (bytes : List ℕ) (ds : List Declaration) (ks : List SkolemSig) (t : syntax.Tree Span) (vs : List Var) (ps : List PVar)
    → wrong_by bytes (form_names ds ks) vs ps t ≡ wrong_by bytes (by_look (found_in ds ks) (symbol_in ds)) (ByNumber (sort_among vs)) (ByNumber (sorts_among ps)) t
wrong_by_number bytes ds ks t vs ps =
    wrong-same bytes (found_in ds ks) (symbol_in ds) _ _ _ _ known_at sort_put known_at sorts_put (λ vs. ByNumber (sort_among vs)) (λ ps. ByNumber (sorts_among ps)) same_fronts t vs ps

pub numbered_by_number : (bytes : List ℕ) (ds : List Declaration) (ks : List SkolemSig) (t : syntax.Tree Span) (vs : List Var)
    → numbered_by bytes (form_names ds ks) vs t ≡ numbered_by bytes (by_look (found_in ds ks) (symbol_in ds)) (ByNumber (sort_among vs)) t
numbered_by_number bytes ds ks t vs =
    numbered-same bytes (found_in ds ks) (symbol_in ds) _ _ _ _ known_at sort_put known_at sorts_put (λ vs. ByNumber (sort_among vs)) (λ (ps : List PVar). ByNumber (sorts_among ps)) same_fronts t vs

-- the same, where the reader's places are these
pub wrong_in_form : (bytes : List ℕ) (ds : List Declaration) (ks : List SkolemSig) (t : syntax.Tree Span) (xs : List Var) (ps : List PVar) (vs : Places ℕ) (qs : Places (List ℕ))
    (r : Option ℕ) → vs ≡ ByNumber (sort_among xs) → qs ≡ ByNumber (sorts_among ps) → wrong_by bytes (by_look (found_in ds ks) (symbol_in ds)) vs qs t ≡ r
    → wrong_by bytes (form_names ds ks) xs ps t ≡ r
wrong_in_form bytes ds ks t xs ps vs qs r e d h = wrong_by_number bytes ds ks t xs ps ∙ (λ i. wrong_by bytes (by_look (found_in ds ks) (symbol_in ds)) (sym e i) (sym d i) t) ∙ h

pub numbered_in_form : (bytes : List ℕ) (ds : List Declaration) (ks : List SkolemSig) (t : syntax.Tree Span) (xs : List Var) (vs : Places ℕ) (f : Form)
    → vs ≡ ByNumber (sort_among xs) → f ≡ numbered_by bytes (by_look (found_in ds ks) (symbol_in ds)) vs t → f ≡ numbered_by bytes (form_names ds ks) xs t
numbered_in_form bytes ds ks t xs vs f e h = h ∙ (λ i. numbered_by bytes (by_look (found_in ds ks) (symbol_in ds)) (e i) t) ∙ sym (numbered_by_number bytes ds ks t xs)
