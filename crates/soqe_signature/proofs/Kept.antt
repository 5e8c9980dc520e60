-- What a signature keeps in its map, and what the map's calls say of its declarations.
use Rattle.std.specs.Prelude.{ℕ, zero, suc, ◌≡◌, ◌<◌, ◌+◌, ◌-◌, ◌^◌, if◌then◌else◌, Bool, true, false, cond, List, [], ◌∷◌, ◌++◌, length, take, map, slice_get, Option, Some, None, String, string_bytes, refl}
use Rattle.std.proofs.Common.{sym, ◌∙◌, ap, subst, arith, append_assoc, length-append, get_or, true≢false}
use Rattle.std.proofs.lemmas.List.{append-nil, length-map, map-append}
use Rattle.std.proofs.lemmas.Iterator.Adapters.{position_from-zero}
use Rattle.std.specs.declared.alloc.Global.{Global}
use Rattle.std.specs.List.{position, position_from, IsDistinct}
use Rattle.std.specs.Option.{option_map, option_and_then, unwrap_or}
use Rattle.std.proofs.lemmas.Bool.{cond-false, false_from_ne_true}
use Rattle.std.proofs.lemmas.Map.Keys.{apart_from_distinct}
use Rattle.std.proofs.lemmas.Option.{none-some, slice_get-map, slice_get_within, get_or_from_slice_get}
use Rattle.std.proofs.lemmas.Slice.Eq.{bytes_eq-Decides}
use Rattle.std.proofs.lemmas.Str.{IsUtf8-had}
use Rattle.std.specs.Map as map
use Rattle.std.specs.Map.{keys_of}
use Rattle.std.specs.Str.{bytes_eq, IsUtf8}
use Rattle.std.specs.String.{string_eq}
use Rattle.indexmap.specs.IndexMap.{insert_entry}
use Rattle.soqe_signature.specs.declared.signature.Stored.{Stored}
use Rattle.soqe_signature.specs.Declarations.{Declaration, Found, HasDistinctNames, numbering_of, count_of, lookup, lookup_behind, of_numbering, place_of}
use Rattle.soqe_signature.specs.declared.kinds.NameKind.{NameKind}
use Rattle.soqe_signature.specs.Places.{PlaceLists, list_at, with_place, places_of}
use Rattle.soqe_signature.specs.Stored.{declaration, declarations, numbers_behind, IsKept}
use Rattle.soqe_signature.proofs.Declared.{bytes_eq-sym, bytes_eq-refl, place_of-take, count_of-le}
use Rattle.soqe_number.proofs.Slices.{take-push}
use Rattle.soqe_signature.proofs.Placed.{places_of-push, length-list_at, of_numbering-place}

abbrev pub Entries : Type 0
Entries = List (String Global × Stored)

-- the test by which the map looks a name up
abbrev pub is_named : List ℕ → String Global → Bool
is_named name k = bytes_eq name (string_bytes k)

-- what an entry says of its name
abbrev pub found : Stored → Found
found s = record { kind = s.kind; num = s.num }

position_from-declarations : (name : List ℕ) (n : ℕ) (es : Entries)
    → position_from (is_named name) n (keys_of es) ≡ position_from (λ d. bytes_eq d.name name) n (declarations es)
position_from-declarations name n [] = refl
position_from-declarations name n (e ∷ es) =
    (λ i. cond (bytes_eq-sym name (string_bytes e.0) i) (Some n) (position_from-declarations name (n + 1) es i))

-- the place of a name among the keys is its place among the declarations
pub position-declarations : (name : List ℕ) (es : Entries) → position (is_named name) (keys_of es) ≡ place_of (declarations es) name
position-declarations name es =
    position_from-zero (is_named name) (keys_of es) ∙ position_from-declarations name 0 es
    ∙ sym (position_from-zero (λ d. bytes_eq d.name name) (declarations es))

tail_of : List ℕ → List ℕ
tail_of [] = []
tail_of (x ∷ xs) = xs

head_of : List ℕ → ℕ
head_of [] = 0
head_of (x ∷ xs) = x

tail-same : (x y : ℕ) (xs ys : List ℕ) → x ∷ xs ≡ y ∷ ys → xs ≡ ys
unfolding tail_of
tail-same x y xs ys e = ap tail_of e

head-same : (x y : ℕ) (xs ys : List ℕ) → x ∷ xs ≡ y ∷ ys → x ≡ y
unfolding head_of
head-same x y xs ys e = ap head_of e

-- the map finds what the declarations say of a name
pub lookup-declarations : (name : List ℕ) (passed : List Declaration) (es : Entries) → map (λ e. e.1.num) es ≡ numbers_behind passed (declarations es)
    → option_map found (map.lookup (is_named name) es) ≡ lookup_behind passed (declarations es) name
lookup-declarations name passed [] h = refl
lookup-declarations name passed (e ∷ es) h =
    let n : e.1.num ≡ count_of (numbering_of e.1.kind) passed = head-same _ _ _ _ h in
    let rest : option_map found (map.lookup (is_named name) es) ≡ lookup_behind (passed ++ declaration e ∷ []) (declarations es) name = lookup-declarations name (passed ++ declaration e ∷ []) es (tail-same _ _ _ _ h) in
    by (is_named name e.0) n rest
    ∙ ap (λ b. cond b (Some (record { kind = e.1.kind; num = count_of (numbering_of e.1.kind) passed })) (lookup_behind (passed ++ declaration e ∷ []) (declarations es) name)) (bytes_eq-sym name (string_bytes e.0))
  where
    by : {n : ℕ} {r : Option Found} (b : Bool) → e.1.num ≡ n → option_map found (map.lookup (is_named name) es) ≡ r
        → option_map found (cond b (Some e.1) (map.lookup (is_named name) es)) ≡ cond b (Some (record { kind = e.1.kind; num = n })) r
    by true n rest = ap (λ m. Some (record { kind = e.1.kind; num = m })) n
    by false n rest = rest

numbers_behind-push : (passed ds : List Declaration) (d : Declaration) → numbers_behind passed (ds ++ d ∷ []) ≡ numbers_behind passed ds ++ count_of (numbering_of d.kind) (passed ++ ds) ∷ []
numbers_behind-push passed [] d = ap (λ l. count_of (numbering_of d.kind) l ∷ []) (sym (append-nil passed))
numbers_behind-push passed (c ∷ ds) d =
    ap (λ r. count_of (numbering_of c.kind) passed ∷ r)
    (numbers_behind-push (passed ++ c ∷ []) ds d ∙ ap (λ l. numbers_behind (passed ++ c ∷ []) ds ++ count_of (numbering_of d.kind) l ∷ []) (append_assoc passed (c ∷ []) ds))

-- one more entry, with its number and its place
pub IsKept-push : (es : Entries) (p : PlaceLists) (name : String Global) (s : Stored) → IsKept es p → s.num ≡ count_of (numbering_of s.kind) (declarations es)
    → length es + 1 < 2 ^ 32 → IsKept (es ++ (name, s) ∷ []) (with_place p (numbering_of s.kind) (length es))
IsKept-push es p name s h n few = record {
  numbers =
      map-append (λ e. e.1.num) es ((name, s) ∷ [])
      ∙ (λ i. h.numbers i ++ n i ∷ [])
      ∙ sym (numbers_behind-push [] (declarations es) (declaration (name, s)))
      ∙ sym (ap (numbers_behind []) (map-append declaration es ((name, s) ∷ [])));
  places_kept =
      (λ i. with_place (h.places_kept i) (numbering_of s.kind) (sym (length-map es declaration) i))
      ∙ sym (places_of-push (declarations es) (declaration (name, s)))
      ∙ sym (ap places_of (map-append declaration es ((name, s) ∷ [])));
  few = omega (arith, length-append es ((name, s) ∷ []));
}

-- a name that is not among the declarations is not among the keys
pub lookup-absent : (name : List ℕ) (es : Entries) → place_of (declarations es) name ≡ None → map.lookup (is_named name) es ≡ None
lookup-absent name es h = absent 0 es (sym (position_from-zero (is_named name) (keys_of es)) ∙ position-declarations name es ∙ h)
  where
    absent : (n : ℕ) (es : Entries) → position_from (is_named name) n (keys_of es) ≡ None → map.lookup (is_named name) es ≡ None
    absent n [] h = refl
    absent n (e ∷ es) h = by (is_named name e.0) h (absent (n + 1) es)
      where
        by : (b : Bool) → cond b (Some n) (position_from (is_named name) (n + 1) (keys_of es)) ≡ None
            → (position_from (is_named name) (n + 1) (keys_of es) ≡ None → map.lookup (is_named name) es ≡ None) → cond b (Some e.1) (map.lookup (is_named name) es) ≡ None
        by true h rest = absurd (none-some _ (sym h))
        by false h rest = rest h

module _ (es : Entries) (p : PlaceLists) (h : IsKept es p) where
  -- a numbering has as many places as names
  pub count_of-kept : (k : NameKind) → length (list_at p k) ≡ count_of k (declarations es)
  count_of-kept k = ap (λ q. length (list_at q k)) h.places_kept ∙ length-list_at k (declarations es)

  -- which are few
  pub count_of-few : (k : NameKind) → count_of k (declarations es) < 2 ^ 32
  count_of-few k = omega (arith, h.few, count_of-le k (declarations es), length-map es declaration)

  -- what the map finds is what the declarations say
  pub lookup-kept : (name : List ℕ) → lookup (declarations es) name ≡ option_map found (map.lookup (is_named name) es)
  lookup-kept name = sym (lookup-declarations name [] es h.numbers)

  -- the entry at the place of a number is the declaration with the number
  pub of_numbering-kept : (k : NameKind) (n : ℕ) → slice_get (of_numbering k (declarations es)) n
      ≡ option_and_then (λ place. option_map declaration (slice_get es place)) (slice_get (list_at p k) n)
  of_numbering-kept k n =
      of_numbering-place k (declarations es) n
      ∙ (λ i. option_and_then (λ place. slice_get-map declaration es place i) (slice_get (list_at (sym h.places_kept i) k) n))

insert_entry-absent : (name : String Global) (s : Stored) (es : Entries) → map.lookup (is_named (string_bytes name)) es ≡ None
    → insert_entry string_eq es name s ≡ es ++ (name, s) ∷ []
insert_entry-absent name s [] h = refl
insert_entry-absent name s (e ∷ es) h = by (is_named (string_bytes name) e.0) h (insert_entry-absent name s es)
  where
    by : (b : Bool) → cond b (Some e.1) (map.lookup (is_named (string_bytes name)) es) ≡ None
        → (map.lookup (is_named (string_bytes name)) es ≡ None → insert_entry string_eq es name s ≡ es ++ (name, s) ∷ [])
        → (if b then (e.0, s) ∷ es else e ∷ insert_entry string_eq es name s) ≡ e ∷ es ++ (name, s) ∷ []
    by true h rest = absurd (none-some _ (sym h))
    by false h rest = ap (λ l. e ∷ l) (rest h)

-- a name that the declarations do not have goes last
pub insert_entry-new : (es : Entries) (ds : List Declaration) (name : String Global) (s : Stored) → declarations es ≡ ds → place_of ds (string_bytes name) ≡ None
    → insert_entry string_eq es name s ≡ es ++ (name, s) ∷ []
insert_entry-new es ds name s view absent =
    insert_entry-absent name s es (lookup-absent (string_bytes name) es (ap (λ l. place_of l (string_bytes name)) view ∙ absent))

-- and its declaration too
pub declarations-push : (es : Entries) (ds : List Declaration) (name : String Global) (s : Stored) → declarations es ≡ ds
    → declarations (es ++ (name, s) ∷ []) ≡ ds ++ declaration (name, s) ∷ []
declarations-push es ds name s view = map-append declaration es ((name, s) ∷ []) ∙ ap (λ l. l ++ declaration (name, s) ∷ []) view

-- what is kept after it
pub IsKept-new : {es new : Entries} {p q : PlaceLists} {ds : List Declaration} (name : String Global) (s : Stored) (k : NameKind) (n : ℕ) → IsKept es p
    → declarations es ≡ ds → length ds < 2 ^ 32 - 1 → s.num ≡ count_of k ds → k ≡ numbering_of s.kind → n ≡ length es
    → new ≡ es ++ (name, s) ∷ [] → q ≡ with_place p k n → IsKept new q
IsKept-new {es} {new} {p} {q} {ds} name s k n h view few num is_kind is_place entries places =
    let enough : length es + 1 < 2 ^ 32 = omega (arith, few, ap length view, length-map es declaration) in
    let kept : IsKept (es ++ (name, s) ∷ []) (with_place p (numbering_of s.kind) (length es)) =
    IsKept-push es p name s h (num ∙ (λ i. count_of (is_kind i) (sym view i))) enough in
    subst (λ l. IsKept l q) (sym entries)
    (subst (IsKept (es ++ (name, s) ∷ [])) (sym (places ∙ (λ i. with_place p (is_kind i) (is_place i)))) kept)

-- the entry of a declaration
entry-at : (es : Entries) (i : ℕ) (d : Declaration) → slice_get (declarations es) i ≡ Some d
    → (e : String Global × Stored) × (slice_get (keys_of es) i ≡ Some e.0) × (declaration e ≡ d)
entry-at [] i d h = absurd (none-some d h)
entry-at (e ∷ es) zero d h = (e, refl, ap (λ o. unwrap_or o d) h)
entry-at (e ∷ es) (suc i) d h = entry-at es i d h

-- the names of a map are distinct
pub HasDistinctNames-kept : (es : Entries) (ds : List Declaration) → declarations es ≡ ds → IsDistinct string_eq (keys_of es) → HasDistinctNames ds
HasDistinctNames-kept es ds view unique = subst HasDistinctNames view distinct
  where
    apart : (i j : ℕ) (d e : Declaration) → slice_get (declarations es) i ≡ Some d → slice_get (declarations es) j ≡ Some e → d.name ≡ e.name → i < j → ⊥
    apart i j d e at_i at_j same lt =
        let x = entry-at es i d at_i in
        let y = entry-at es j e at_j in
        let unlike : string_eq (get_or (keys_of es) i x.0.0) (get_or (keys_of es) j x.0.0) ≡ false =
        apart_from_distinct string_eq (keys_of es) i j x.0.0 unique lt (slice_get_within (keys_of es) j y.0.0 y.1) in
        let alike : string_bytes x.0.0 ≡ string_bytes y.0.0 = ap (λ d. d.name) x.2 ∙ same ∙ sym (ap (λ d. d.name) y.2) in
        true≢false
        (sym (bytes_eq-refl (string_bytes x.0.0)) ∙ ap (bytes_eq (string_bytes x.0.0)) alike
        ∙ sym (λ k. string_eq (get_or_from_slice_get (keys_of es) i x.0.0 x.0.0 x.1 k) (get_or_from_slice_get (keys_of es) j y.0.0 x.0.0 y.1 k))
        ∙ unlike)

    distinct : HasDistinctNames (declarations es)
    distinct i j d e at_i at_j same =
        let left : i < j → ⊥ = apart i j d e at_i at_j same in
        let right : j < i → ⊥ = apart j i e d at_j at_i (sym same) in
        omega (arith, left, right)

-- bytes that are no text are no name
pub lookup-no_text : (name : List ℕ) → ¬ (IsUtf8 name) → (passed : List Declaration) (es : Entries) → lookup_behind passed (declarations es) name ≡ None
lookup-no_text name not_text passed [] = refl
lookup-no_text name not_text passed (e ∷ es) =
    let unlike : bytes_eq (string_bytes e.0) name ≡ false =
    false_from_ne_true _ (λ same. not_text (subst IsUtf8 ((bytes_eq-Decides (string_bytes e.0) name).0 same) (IsUtf8-had (string_bytes e.0) e.0.ok))) in
    cond-false _ _ _ unlike ∙ lookup-no_text name not_text (passed ++ declaration e ∷ []) es

-- what a copied entry adds to a front
pub take-entry : (es : Entries) (ds : List Declaration) (n : ℕ) (name : List ℕ) (e : String Global × Stored) → declarations es ≡ ds → Some e ≡ slice_get es n
    → name ≡ string_bytes e.0 → take n ds ++ record { name = name; kind = e.1.kind } ∷ [] ≡ take (n + 1) ds
take-entry es ds n name e view at same =
    take-push n ds (record { name = name; kind = e.1.kind })
    (ap (λ l. slice_get l n) (sym view) ∙ slice_get-map declaration es n ∙ ap (option_map declaration) (sym at) ∙ (λ i. Some (record { name = sym same i; kind = e.1.kind })))

-- which is not there yet
pub place_of-front : (es : Entries) (ds front : List Declaration) (n : ℕ) (name : List ℕ) (e : String Global × Stored) → declarations es ≡ ds → HasDistinctNames ds
    → front ≡ take n ds → Some e ≡ slice_get es n → name ≡ string_bytes e.0 → place_of front name ≡ None
place_of-front es ds front n name e view distinct is_front at same =
    (λ i. place_of (is_front i) (same i))
    ∙ place_of-take ds n (declaration e) distinct (ap (λ l. slice_get l n) (sym view) ∙ slice_get-map declaration es n ∙ ap (option_map declaration) (sym at))
