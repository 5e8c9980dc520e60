-- Which names are known in a tree of texts, and what it declares; a tree over places says what its texts say.
use Rattle.std.proofs.Common.{◌≡◌, ℕ, Bool, true, false, cond, ◌&&◌, List, [], ◌∷◌, map, Option, Some, None, Result, Ok, Err, is_none, refl, ◌∙◌, ap, sym, subst}
use Rattle.std.specs.List.{list_all}
use Rattle.std.specs.Option.{option_or}
use Rattle.soqe_syntax.specs.declared.piece.Span.{Span}
use Rattle.soqe_syntax.specs.Grammar.{Tree, Constant, Atom, Equation, Not, Bind, Bind2, Binary, Paren, Declared, DeclaredSort, DeclaredFun, DeclaredPred, DeclaredVar}
use Rattle.soqe_syntax.specs.Pieces.{text_at}
use Rattle.soqe_signature.specs.declared.kinds.Kind.{Kind}
use Rattle.soqe_signature.specs.declared.kinds.Kind.TheVariants as kind
use Rattle.soqe_signature.specs.Declarations.{Declaration, lookup}
use Rattle.soqe_text.specs.NewNames.{is_new, with_declared, Entered}
use Rattle.soqe_text.specs.Naming.{unless_refused, then_named, unknown_of, unknown_name, unknown_in, variable_entered, predicate_entered, or_refused, unknown_sort, variable_bound, predicate_bound, named, sort_number, name_declared, unknown_in_declared, kind_declared, named_declared, all_named_declared}
use Rattle.soqe_show.specs.Printed.{Text}
use Rattle.soqe_show.specs.Placed.{texts, texts_declared}
use Rattle.soqe_show.proofs.BackKnown.{is_known, known_in, sort_known, number_of, none_unless, from_none, none_or, known_term, known_sides, known_names, known_sort, numbers_of}

-- All names of a tree are known, and behind it stand the declarations new.
abbrev pub Named : List Declaration → List ℕ → List ℕ → Tree Text → List Declaration → Type 0
Named ds vs ps (Constant b) new = ds ≡ new
Named ds vs ps (Atom t) new = (known_in ds vs ps t ≡ true) × (ds ≡ new)
Named ds vs ps (Equation b sign l r) new = ((known_in ds vs ps l && known_in ds vs ps r) ≡ true) × (ds ≡ new)
Named ds vs ps (Not a) new = Named ds vs ps a new
Named ds vs ps (Bind q x s a) new =
    (e : Entered) × (variable_entered ds x ≡ Some e) × (sort_known e.declared vs ps s ≡ true) × Named e.declared (e.num ∷ vs) ps a new
Named ds vs ps (Bind2 q p ss a) new =
    (e : Entered) × (predicate_entered ds p ≡ Some e) × (list_all (is_known e.declared vs ps) ss ≡ true) × Named e.declared vs (e.num ∷ ps) a new
Named ds vs ps (Binary op l r) new = (middle : List Declaration) × Named ds vs ps l middle × Named middle vs ps r new
Named ds vs ps (Paren a) new = Named ds vs ps a new

-- the name that a declaration declares
abbrev pub name_of_declared : Declared Text → Text
name_of_declared (DeclaredSort s) = s
name_of_declared (DeclaredFun f ss r) = f
name_of_declared (DeclaredPred p ss) = p
name_of_declared (DeclaredVar x s) = x

-- what a declared name stands for
abbrev pub kind_of_declared : List Declaration → Declared Text → Kind
kind_of_declared ds (DeclaredSort s) = kind.Sort
kind_of_declared ds (DeclaredFun f ss r) = kind.Fun (map (number_of ds) ss) (number_of ds r)
kind_of_declared ds (DeclaredPred p ss) = kind.Pred (map (number_of ds) ss)
kind_of_declared ds (DeclaredVar x s) = kind.Free (number_of ds s)

-- each sort of a declaration is known
abbrev pub known_declared : List Declaration → Declared Text → Bool
known_declared ds (DeclaredSort s) = true
known_declared ds (DeclaredFun f ss r) = list_all (is_known ds [] []) ss && is_known ds [] [] r
known_declared ds (DeclaredPred p ss) = list_all (is_known ds [] []) ss
known_declared ds (DeclaredVar x s) = is_known ds [] [] s

-- A declaration has a new name and known sorts, and behind it stand the declarations new.
pub record NamedDeclared (ds : List Declaration) (d : Declared Text) (new : List Declaration) : Type 0 where
  pub is_new : is_new ds (name_of_declared d) ≡ true
  pub known : known_declared ds d ≡ true
  pub is : with_declared ds (name_of_declared d) (kind_of_declared ds d) ≡ new

-- Declarations one after another are so.
abbrev pub AllNamedDeclared : List Declaration → List (Declared Text) → List Declaration → Type 0
AllNamedDeclared ds [] new = ds ≡ new
AllNamedDeclared ds (d ∷ more) new = (middle : List Declaration) × NamedDeclared ds d middle × AllNamedDeclared middle more new

-- names that are known
abbrev accepted : {A : Type 0} → A → Result A ℕ
accepted a = Ok a

ok-is : {A : Type 0} (a b : A) → accepted a ≡ Ok b → a ≡ b
ok-is a b h = ap (λ r. elim r [ Ok x ↦ x | Err e ↦ a ]) h

err-ok : {A : Type 0} (at : ℕ) (a : A) {P : Type 0} → accepted a ≡ Err at → P
err-ok at a h = cc

unless_ok : {A : Type 0} (o : Option ℕ) (a b : A) → unless_refused o a ≡ Ok b → (is_none o ≡ true) × (a ≡ b)
unless_ok None a b h = (refl, ok-is a b h)
unless_ok (Some at) a b h = err-ok at b (sym h)

pub then_ok : {A B : Type 0} (r : Result A ℕ) (k : A → Result B ℕ) (b : B) → then_named r k ≡ Ok b → (a : A) × (r ≡ Ok a) × (k a ≡ Ok b)
then_ok (Ok a) k b h = (a, refl, h)
then_ok (Err at) k b h = err-ok at b (sym h)

or_ok : (o : Option Entered) (at : ℕ) (e : Entered) → or_refused o at ≡ Ok e → o ≡ Some e
or_ok None at e h = err-ok at e (sym h)
or_ok (Some d) at e h = ap Some (ok-is d e h)

-- a binder that is accepted has entered its name, and its sorts are known
binder_ok : (entered : Option Entered) (at : ℕ) (unknown : Entered → Option ℕ) (e : Entered)
    → then_named (or_refused entered at) (λ e. unless_refused (unknown e) e) ≡ Ok e → (entered ≡ Some e) × (is_none (unknown e) ≡ true)
binder_ok entered at unknown e h =
    let first = then_ok (or_refused entered at) (λ e. unless_refused (unknown e) e) e h in
    let second = unless_ok (unknown first.0) first.0 e first.2 in
    (or_ok entered at first.0 first.1 ∙ ap Some second.1, subst (λ e. is_none (unknown e) ≡ true) second.1 second.0)

binder_accepted : (entered : Option Entered) (at : ℕ) (unknown : Entered → Option ℕ) (e : Entered) → entered ≡ Some e → is_none (unknown e) ≡ true
    → then_named (or_refused entered at) (λ e. unless_refused (unknown e) e) ≡ Ok e
binder_accepted entered at unknown e h k =
    ap (λ o. then_named (or_refused o at) (λ e. unless_refused (unknown e) e)) h ∙ ap (λ o. unless_refused o e) (from_none (unknown e) k)

-- what a tree over places declares its texts declare
pub named_texts : (bytes : List ℕ) (ds : List Declaration) (vs ps : List ℕ) (t : Tree Span) (new : List Declaration)
    → named bytes ds vs ps t ≡ Ok new → Named ds vs ps (texts bytes t) new
named_texts bytes ds vs ps (Constant b) new h = ok-is ds new h
named_texts bytes ds vs ps (Atom t) new h =
    let r = unless_ok (unknown_in bytes ds vs ps t) ds new h in
    (sym (known_term bytes (lookup ds) vs ps t) ∙ r.0, r.1)
named_texts bytes ds vs ps (Equation b at l r) new h =
    let k = unless_ok (option_or (unknown_in bytes ds vs ps l) (unknown_in bytes ds vs ps r)) ds new h in
    (sym (known_sides bytes (lookup ds) vs ps l r) ∙ k.0, k.1)
named_texts bytes ds vs ps (Not a) new h = named_texts bytes ds vs ps a new h
named_texts bytes ds vs ps (Bind q x s a) new h =
    let first = then_ok (variable_bound bytes ds vs ps x s) (λ e. named bytes e.declared (e.num ∷ vs) ps a) new h in
    let e = first.0 in
    let b = binder_ok (variable_entered ds (text_at bytes x)) x.start (λ e. unknown_sort bytes e.declared vs ps s) e first.1 in
    (e, b.0, sym (known_sort bytes (lookup e.declared) vs ps s) ∙ b.1, named_texts bytes e.declared (e.num ∷ vs) ps a new first.2)
named_texts bytes ds vs ps (Bind2 q p ss a) new h =
    let first = then_ok (predicate_bound bytes ds vs ps p ss) (λ e. named bytes e.declared vs (e.num ∷ ps) a) new h in
    let e = first.0 in
    let b = binder_ok (predicate_entered ds (text_at bytes p)) p.start (λ e. unknown_of bytes e.declared vs ps ss) e first.1 in
    (e, b.0, sym (known_names bytes (lookup e.declared) vs ps ss) ∙ b.1, named_texts bytes e.declared vs (e.num ∷ ps) a new first.2)
named_texts bytes ds vs ps (Binary op l r) new h =
    let first = then_ok (named bytes ds vs ps l) (λ ds. named bytes ds vs ps r) new h in
    (first.0, named_texts bytes ds vs ps l first.0 first.1, named_texts bytes first.0 vs ps r new first.2)
named_texts bytes ds vs ps (Paren a) new h = named_texts bytes ds vs ps a new h

-- what the texts of a tree over places declare it declares
pub texts_named : (bytes : List ℕ) (ds : List Declaration) (vs ps : List ℕ) (t : Tree Span) (new : List Declaration)
    → Named ds vs ps (texts bytes t) new → named bytes ds vs ps t ≡ Ok new
texts_named bytes ds vs ps (Constant b) new h = ap accepted h
texts_named bytes ds vs ps (Atom t) new h =
    ap (λ o. unless_refused o ds) (from_none (unknown_in bytes ds vs ps t) (known_term bytes (lookup ds) vs ps t ∙ h.0)) ∙ ap accepted h.1
texts_named bytes ds vs ps (Equation b at l r) new h =
    ap (λ o. unless_refused o ds) (from_none (option_or (unknown_in bytes ds vs ps l) (unknown_in bytes ds vs ps r)) (known_sides bytes (lookup ds) vs ps l r ∙ h.0)) ∙ ap accepted h.1
texts_named bytes ds vs ps (Not a) new h = texts_named bytes ds vs ps a new h
texts_named bytes ds vs ps (Bind q x s a) new h =
    let e = h.0 in
    ap (λ r. then_named r (λ e. named bytes e.declared (e.num ∷ vs) ps a))
    (binder_accepted (variable_entered ds (text_at bytes x)) x.start (λ e. unknown_sort bytes e.declared vs ps s) e h.1 (known_sort bytes (lookup e.declared) vs ps s ∙ h.2))
    ∙ texts_named bytes e.declared (e.num ∷ vs) ps a new h.3
texts_named bytes ds vs ps (Bind2 q p ss a) new h =
    let e = h.0 in
    ap (λ r. then_named r (λ e. named bytes e.declared vs (e.num ∷ ps) a))
    (binder_accepted (predicate_entered ds (text_at bytes p)) p.start (λ e. unknown_of bytes e.declared vs ps ss) e h.1 (known_names bytes (lookup e.declared) vs ps ss ∙ h.2))
    ∙ texts_named bytes e.declared vs (e.num ∷ ps) a new h.3
texts_named bytes ds vs ps (Binary op l r) new h =
    ap (λ n. then_named n (λ ds. named bytes ds vs ps r)) (texts_named bytes ds vs ps l h.0 h.1) ∙ texts_named bytes h.0 vs ps r new h.2
texts_named bytes ds vs ps (Paren a) new h = texts_named bytes ds vs ps a new h

kind_is : (bytes : List ℕ) (ds : List Declaration) (d : Declared Span) → kind_declared bytes ds d ≡ kind_of_declared ds (texts_declared bytes d)
kind_is bytes ds (DeclaredSort s) = refl
kind_is bytes ds (DeclaredFun f ss r) = ap (λ ns. kind.Fun ns (sort_number bytes ds r)) (numbers_of bytes (lookup ds) ss)
kind_is bytes ds (DeclaredPred p ss) = ap kind.Pred (numbers_of bytes (lookup ds) ss)
kind_is bytes ds (DeclaredVar x s) = refl

name_is : (bytes : List ℕ) (d : Declared Span) → text_at bytes (name_declared d) ≡ name_of_declared (texts_declared bytes d)
name_is bytes (DeclaredSort s) = refl
name_is bytes (DeclaredFun f ss r) = refl
name_is bytes (DeclaredPred p ss) = refl
name_is bytes (DeclaredVar x s) = refl

known_is : (bytes : List ℕ) (ds : List Declaration) (d : Declared Span) → is_none (unknown_in_declared bytes ds d) ≡ known_declared ds (texts_declared bytes d)
known_is bytes ds (DeclaredSort s) = refl
known_is bytes ds (DeclaredFun f ss r) =
    none_or (unknown_of bytes ds [] [] ss) (unknown_name bytes ds [] [] r)
    ∙ (λ i. known_names bytes (lookup ds) [] [] ss i && none_unless (is_known ds [] [] (text_at bytes r)) r.start i)
known_is bytes ds (DeclaredPred p ss) = known_names bytes (lookup ds) [] [] ss
known_is bytes ds (DeclaredVar x s) = none_unless (is_known ds [] [] (text_at bytes s)) s.start

declaration_is : (bytes : List ℕ) (ds : List Declaration) (d : Declared Span)
    → with_declared ds (text_at bytes (name_declared d)) (kind_declared bytes ds d) ≡ with_declared ds (name_of_declared (texts_declared bytes d)) (kind_of_declared ds (texts_declared bytes d))
declaration_is bytes ds d = (λ i. with_declared ds (name_is bytes d i) (kind_is bytes ds d i))

cond_ok : {A : Type 0} (b : Bool) (r : Result A ℕ) (at : ℕ) (a : A) → cond b r (Err at) ≡ Ok a → (b ≡ true) × (r ≡ Ok a)
cond_ok true r at a h = (refl, h)
cond_ok false r at a h = err-ok at a (sym h)

declared_texts : (bytes : List ℕ) (ds : List Declaration) (d : Declared Span) (new : List Declaration)
    → named_declared bytes ds d ≡ Ok new → NamedDeclared ds (texts_declared bytes d) new
declared_texts bytes ds d new h =
    let c = cond_ok (is_new ds (text_at bytes (name_declared d))) _ (name_declared d).start new h in
    let k = unless_ok (unknown_in_declared bytes ds d) (with_declared ds (text_at bytes (name_declared d)) (kind_declared bytes ds d)) new c.1 in
    record { is_new = ap (is_new ds) (sym (name_is bytes d)) ∙ c.0; known = sym (known_is bytes ds d) ∙ k.0; is = sym (declaration_is bytes ds d) ∙ k.1 }

texts_declared_named : (bytes : List ℕ) (ds : List Declaration) (d : Declared Span) (new : List Declaration)
    → NamedDeclared ds (texts_declared bytes d) new → named_declared bytes ds d ≡ Ok new
texts_declared_named bytes ds d new h =
    ap (λ b. cond b (unless_refused (unknown_in_declared bytes ds d) (with_declared ds (text_at bytes (name_declared d)) (kind_declared bytes ds d))) (Err (name_declared d).start))
    (ap (is_new ds) (name_is bytes d) ∙ h.is_new)
    ∙ ap (λ o. unless_refused o (with_declared ds (text_at bytes (name_declared d)) (kind_declared bytes ds d))) (from_none (unknown_in_declared bytes ds d) (known_is bytes ds d ∙ h.known))
    ∙ ap accepted (declaration_is bytes ds d ∙ h.is)

pub all_declared_texts : (bytes : List ℕ) (ds : List Declaration) (all : List (Declared Span)) (new : List Declaration)
    → all_named_declared bytes ds all ≡ Ok new → AllNamedDeclared ds (map (texts_declared bytes) all) new
all_declared_texts bytes ds [] new h = ok-is ds new h
all_declared_texts bytes ds (d ∷ more) new h =
    let first = then_ok (named_declared bytes ds d) (λ ds. all_named_declared bytes ds more) new h in
    (first.0, declared_texts bytes ds d first.0 first.1, all_declared_texts bytes first.0 more new first.2)

pub texts_all_declared : (bytes : List ℕ) (ds : List Declaration) (all : List (Declared Span)) (new : List Declaration)
    → AllNamedDeclared ds (map (texts_declared bytes) all) new → all_named_declared bytes ds all ≡ Ok new
texts_all_declared bytes ds [] new h = ap accepted h
texts_all_declared bytes ds (d ∷ more) new h =
    ap (λ n. then_named n (λ ds. all_named_declared bytes ds more)) (texts_declared_named bytes ds d h.0 h.1) ∙ texts_all_declared bytes h.0 more new h.2
