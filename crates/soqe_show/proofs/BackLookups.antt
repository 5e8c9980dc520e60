-- What declarations and binders add to the declarations in front of them, and that earlier names keep their meaning.
use Rattle.std.proofs.Common.{◌≡◌, ℕ, Bool, true, false, cond, ◌&&◌, List, [], ◌∷◌, ◌++◌, Option, Some, None, refl, ◌∙◌, ap, sym, subst, append_assoc, append-nil, true≢false}
use Rattle.std.proofs.lemmas.Option.{none-some, same_Some, cond_some}
use Rattle.std.proofs.lemmas.Slice.Eq.{bytes_eq-Decides}
use Rattle.std.specs.List.{list_all}
use Rattle.std.specs.Str.{bytes_eq}
use Rattle.soqe_name.specs.Names.{is_ordinary}
use Rattle.soqe_syntax.specs.Grammar.{Tree, Constant, Atom, Equation, Not, Bind, Bind2, Binary, Paren, Declared}
use Rattle.soqe_signature.specs.declared.kinds.Kind.{Kind}
use Rattle.soqe_signature.specs.declared.kinds.Kind.TheVariants as kind
use Rattle.soqe_signature.specs.declared.kinds.NameKind.{NameKind}
use Rattle.soqe_signature.specs.declared.kinds.NameKind.TheVariants as numbering
use Rattle.soqe_signature.specs.Declarations.{Declaration, Found, numbering_of, count_of, lookup, lookup_behind}
use Rattle.soqe_signature.proofs.Declared.{lookup-new}
use Rattle.soqe_text.specs.NewNames.{is_new, with_declared, Entered}
use Rattle.soqe_text.specs.Naming.{entered_at, variable_place, predicate_place, variable_entered, predicate_entered}
use Rattle.soqe_show.specs.Printed.{Text}
use Rattle.soqe_show.specs.Dress.{dress_declared, dress_all_declared}
use Rattle.soqe_show.proofs.BackNames.{Named, name_of_declared, kind_of_declared, NamedDeclared, AllNamedDeclared}

lookup_behind-append : (passed ds more : List Declaration) (name : Text) (f : Found)
    → lookup_behind passed ds name ≡ Some f → lookup_behind passed (ds ++ more) name ≡ Some f
lookup_behind-append passed [] more name f h = absurd (none-some f h)
lookup_behind-append passed (d ∷ ds) more name f h = by (bytes_eq d.name name) (lookup_behind-append (passed ++ d ∷ []) ds more name f) h
  where
    by : (b : Bool) → (lookup_behind (passed ++ d ∷ []) ds name ≡ Some f → lookup_behind (passed ++ d ∷ []) (ds ++ more) name ≡ Some f)
        → cond b (Some (record { kind = d.kind; num = count_of (numbering_of d.kind) passed })) (lookup_behind (passed ++ d ∷ []) ds name) ≡ Some f
        → cond b (Some (record { kind = d.kind; num = count_of (numbering_of d.kind) passed })) (lookup_behind (passed ++ d ∷ []) (ds ++ more) name) ≡ Some f
    by true rest h = h
    by false rest h = rest h

-- Names that are known keep their meaning.
abbrev pub Grows : List Declaration → List Declaration → Type 0
Grows ds new = (name : Text) (f : Found) → lookup ds name ≡ Some f → lookup new name ≡ Some f

-- each name is an ordinary one
abbrev pub are_ordinary : List Declaration → Bool
are_ordinary ds = list_all (λ d. is_ordinary d.name) ds

are_ordinary-append : (ds es : List Declaration) → are_ordinary ds ≡ true → are_ordinary es ≡ true → are_ordinary (ds ++ es) ≡ true
are_ordinary-append [] es h k = k
are_ordinary-append (d ∷ ds) es h k = by (is_ordinary d.name) (are_ordinary-append ds es) h
  where
    by : (b : Bool) → (are_ordinary ds ≡ true → are_ordinary es ≡ true → are_ordinary (ds ++ es) ≡ true) → (b && are_ordinary ds) ≡ true → (b && are_ordinary (ds ++ es)) ≡ true
    by true rest h = rest h k
    by false rest h = h

ordinary_behind : (passed ds : List Declaration) (name : Text) (f : Found) → are_ordinary ds ≡ true → lookup_behind passed ds name ≡ Some f → is_ordinary name ≡ true
ordinary_behind passed [] name f h k = absurd (none-some f k)
ordinary_behind passed (d ∷ ds) name f h k = by (bytes_eq d.name name) refl (is_ordinary d.name) refl h (ordinary_behind (passed ++ d ∷ []) ds name f) k
  where
    by : (b : Bool) → bytes_eq d.name name ≡ b → (o : Bool) → is_ordinary d.name ≡ o → (o && are_ordinary ds) ≡ true
        → (are_ordinary ds ≡ true → lookup_behind (passed ++ d ∷ []) ds name ≡ Some f → is_ordinary name ≡ true)
        → cond b (Some (record { kind = d.kind; num = count_of (numbering_of d.kind) passed })) (lookup_behind (passed ++ d ∷ []) ds name) ≡ Some f → is_ordinary name ≡ true
    by b e false ordinary h rest k = absurd (true≢false (sym h))
    by true e true ordinary h rest k = ap is_ordinary (sym ((bytes_eq-Decides d.name name).0 e)) ∙ ordinary
    by false e true ordinary h rest k = rest h k

-- a known name is an ordinary one where all are
pub ordinary_known : (ds : List Declaration) (name : Text) (f : Found) → are_ordinary ds ≡ true → lookup ds name ≡ Some f → is_ordinary name ≡ true
ordinary_known ds name f h k = ordinary_behind [] ds name f h k

dress_all_declared-append : (fs ds es : List Declaration) → dress_all_declared fs (ds ++ es) ≡ dress_all_declared fs ds ++ dress_all_declared fs es
dress_all_declared-append fs [] es = refl
dress_all_declared-append fs (d ∷ ds) es =
    ap (λ l. dress_declared fs d ++ l) (dress_all_declared-append fs ds es) ∙ sym (append_assoc (dress_declared fs d) (dress_all_declared fs ds) (dress_all_declared fs es))

-- Ordinary names are added at the end, and they are printed as these declarations, by the names of the declarations fs.
pub record Adds (fs ds new : List Declaration) (printed : List (Declared Text)) : Type 0 where
  pub more : List Declaration
  pub is : new ≡ ds ++ more
  pub dressed : dress_all_declared fs more ≡ printed
  pub ordinary : are_ordinary more ≡ true

pub adds_none : (fs ds new : List Declaration) → ds ≡ new → Adds fs ds new []
adds_none fs ds new h = record { more = []; is = sym h ∙ sym (append-nil ds); dressed = refl; ordinary = refl }

pub adds_both : (fs ds middle new : List Declaration) (xs ys : List (Declared Text)) → Adds fs ds middle xs → Adds fs middle new ys → Adds fs ds new (xs ++ ys)
adds_both fs ds middle new xs ys h k = record {
  more = h.more ++ k.more;
  is = k.is ∙ ap (λ l. l ++ k.more) h.is ∙ append_assoc ds h.more k.more;
  dressed = dress_all_declared-append fs h.more k.more ∙ (λ i. h.dressed i ++ k.dressed i);
  ordinary = are_ordinary-append h.more k.more h.ordinary k.ordinary;
}

pub adds_grows : (fs ds new : List Declaration) (xs : List (Declared Text)) → Adds fs ds new xs → Grows ds new
adds_grows fs ds new xs h name f k = ap (λ l. lookup l name) h.is ∙ lookup_behind-append [] ds h.more name f k

pub adds_ordinary : (fs ds new : List Declaration) (xs : List (Declared Text)) → Adds fs ds new xs → are_ordinary ds ≡ true → are_ordinary new ≡ true
adds_ordinary fs ds new xs h k = ap are_ordinary h.is ∙ are_ordinary-append ds h.more k h.ordinary

-- a new name is unknown, and an ordinary one
pub new_unknown : (ds : List Declaration) (name : Text) → is_new ds name ≡ true → (lookup ds name ≡ None) × (is_ordinary name ≡ true)
new_unknown ds name h = by (lookup ds name) refl h
  where
    by : (found : Option Found) → lookup ds name ≡ found → elim found [ Some f ↦ false | None ↦ is_ordinary name ] ≡ true → (lookup ds name ≡ None) × (is_ordinary name ≡ true)
    by None e h = (e, h)
    by (Some f) e h = absurd (true≢false (sym h))

-- A name is known behind its binder, with its number in its numbering, and the binder adds nothing that is declared.
pub record Enters (ds : List Declaration) (name : Text) (k : NameKind) (e : Entered) : Type 0 where
  pub found : Found
  pub known : lookup e.declared name ≡ Some found
  pub numbering : numbering_of found.kind ≡ k
  pub number : found.num ≡ e.num
  pub adds : (fs : List Declaration) → Adds fs ds e.declared []

enters_new : (ds : List Declaration) (name : Text) (k : Kind) (e : Entered) → ((fs : List Declaration) → dress_all_declared fs (record { name = name; kind = k } ∷ []) ≡ [])
    → cond (is_new ds name) (Some (record { num = count_of (numbering_of k) ds; declared = with_declared ds name k })) None ≡ Some e → Enters ds name (numbering_of k) e
enters_new ds name k e hidden h =
    let c = cond_some (is_new ds name) (record { num = count_of (numbering_of k) ds; declared = with_declared ds name k }) e h in
    let n = new_unknown ds name c.0 in
    subst (Enters ds name (numbering_of k)) c.1
    (record {
      found = record { kind = k; num = count_of (numbering_of k) ds };
      known = lookup-new ds (record { name = name; kind = k }) n.0;
      numbering = refl;
      number = refl;
      adds = λ fs. record { more = record { name = name; kind = k } ∷ []; is = refl; dressed = hidden fs; ordinary = (λ i. n.1 i && true) };
    })

enters_old : (ds : List Declaration) (name : Text) (k : NameKind) (e : Entered) (f : Found) → lookup ds name ≡ Some f → numbering_of f.kind ≡ k
    → Some (record { num = f.num; declared = ds }) ≡ Some e → Enters ds name k e
enters_old ds name k e f known is h =
    subst (Enters ds name k) (same_Some (record { num = f.num; declared = ds }) e h)
    (record { found = f; known = known; numbering = is; number = refl; adds = λ fs. adds_none fs ds ds refl })

-- a variable at its binder
pub variable_enters : (ds : List Declaration) (name : Text) (e : Entered) → variable_entered ds name ≡ Some e → Enters ds name numbering.Variable e
variable_enters ds name e h = by (lookup ds name) refl h
  where
    by_kind : (k : Kind) (n : ℕ) → lookup ds name ≡ Some (record { kind = k; num = n })
        → entered_at ds name kind.VarName (variable_place (Some (record { kind = k; num = n }))) ≡ Some e → Enters ds name numbering.Variable e
    by_kind kind.VarName n known h = enters_old ds name numbering.Variable e (record { kind = kind.VarName; num = n }) known refl h
    by_kind (kind.Free sort) n known h = enters_old ds name numbering.Variable e (record { kind = kind.Free sort; num = n }) known refl h
    by_kind kind.Sort n known h = absurd (none-some e h)
    by_kind (kind.Fun args result) n known h = absurd (none-some e h)
    by_kind (kind.Pred args) n known h = absurd (none-some e h)
    by_kind kind.Rel n known h = absurd (none-some e h)
    by_kind kind.Prop n known h = absurd (none-some e h)
    by_kind kind.PredName n known h = absurd (none-some e h)

    by : (found : Option Found) → lookup ds name ≡ found → entered_at ds name kind.VarName (variable_place found) ≡ Some e → Enters ds name numbering.Variable e
    by None known h = enters_new ds name kind.VarName e (λ fs. refl) h
    by (Some f) known h = by_kind f.kind f.num known h

-- a predicate at its binder
pub predicate_enters : (ds : List Declaration) (name : Text) (e : Entered) → predicate_entered ds name ≡ Some e → Enters ds name numbering.BoundPred e
predicate_enters ds name e h = by (lookup ds name) refl h
  where
    by_kind : (k : Kind) (n : ℕ) → lookup ds name ≡ Some (record { kind = k; num = n })
        → entered_at ds name kind.PredName (predicate_place (Some (record { kind = k; num = n }))) ≡ Some e → Enters ds name numbering.BoundPred e
    by_kind kind.PredName n known h = enters_old ds name numbering.BoundPred e (record { kind = kind.PredName; num = n }) known refl h
    by_kind kind.VarName n known h = absurd (none-some e h)
    by_kind (kind.Free sort) n known h = absurd (none-some e h)
    by_kind kind.Sort n known h = absurd (none-some e h)
    by_kind (kind.Fun args result) n known h = absurd (none-some e h)
    by_kind (kind.Pred args) n known h = absurd (none-some e h)
    by_kind kind.Rel n known h = absurd (none-some e h)
    by_kind kind.Prop n known h = absurd (none-some e h)

    by : (found : Option Found) → lookup ds name ≡ found → entered_at ds name kind.PredName (predicate_place found) ≡ Some e → Enters ds name numbering.BoundPred e
    by None known h = enters_new ds name kind.PredName e (λ fs. refl) h
    by (Some f) known h = by_kind f.kind f.num known h

-- a tree adds nothing that is declared
pub named_adds : (fs ds : List Declaration) (vs ps : List ℕ) (t : Tree Text) (new : List Declaration) → Named ds vs ps t new → Adds fs ds new []
named_adds fs ds vs ps (Constant b) new h = adds_none fs ds new h
named_adds fs ds vs ps (Atom t) new h = adds_none fs ds new h.1
named_adds fs ds vs ps (Equation b sign l r) new h = adds_none fs ds new h.1
named_adds fs ds vs ps (Not a) new h = named_adds fs ds vs ps a new h
named_adds fs ds vs ps (Bind q x s a) new h =
    adds_both fs ds h.0.declared new [] [] ((variable_enters ds x h.0 h.1).adds fs) (named_adds fs h.0.declared (h.0.num ∷ vs) ps a new h.3)
named_adds fs ds vs ps (Bind2 q p ss a) new h =
    adds_both fs ds h.0.declared new [] [] ((predicate_enters ds p h.0 h.1).adds fs) (named_adds fs h.0.declared vs (h.0.num ∷ ps) a new h.3)
named_adds fs ds vs ps (Binary op l r) new h = adds_both fs ds h.0 new [] [] (named_adds fs ds vs ps l h.0 h.1) (named_adds fs h.0 vs ps r new h.2)
named_adds fs ds vs ps (Paren a) new h = named_adds fs ds vs ps a new h

-- known names keep their meaning behind a tree
pub named_grows : (ds : List Declaration) (vs ps : List ℕ) (t : Tree Text) (new : List Declaration) → Named ds vs ps t new → Grows ds new
named_grows ds vs ps t new h = adds_grows [] ds new [] (named_adds [] ds vs ps t new h)

-- behind a declaration
pub declared_grows : (ds : List Declaration) (d : Declared Text) (new : List Declaration) → NamedDeclared ds d new → Grows ds new
declared_grows ds d new h name f k =
    ap (λ l. lookup l name) (sym h.is) ∙ lookup_behind-append [] ds (record { name = name_of_declared d; kind = kind_of_declared ds d } ∷ []) name f k

-- and behind declarations
pub all_declared_grows : (ds : List Declaration) (all : List (Declared Text)) (new : List Declaration) → AllNamedDeclared ds all new → Grows ds new
all_declared_grows ds [] new h name f k = ap (λ l. lookup l name) (sym h) ∙ k
all_declared_grows ds (d ∷ more) new h name f k = all_declared_grows h.0 more new h.2 name f (declared_grows ds d h.0 h.1 name f k)
