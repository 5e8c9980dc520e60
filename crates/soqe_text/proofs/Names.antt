-- What a look-up says of a new name.
use Rattle.std.specs.Prelude.{ℕ, zero, suc, ◌≡◌, ◌<◌, ◌≤◌, ◌+◌, ◌&&◌, ◌||◌, ◌==◌, Bool, true, false, cond, not, List, [], ◌∷◌, ◌++◌, length, take, drop, Option, Some, None, Err, is_some, slice_get, slice_index, refl}
use Rattle.std.proofs.Common.{sym, ◌∙◌, ap, arith, true≢false, subst}
use Rattle.soqe_text.specs.declared.new_names.NameFault.{NameFault}
use Rattle.std.proofs.lemmas.Option.{none-some, slice_get_within}
use Rattle.std.proofs.lemmas.Bool.{false_from_ne_true}
use Rattle.std.proofs.lemmas.Iterator.Adapters.{position_from-zero}
use Rattle.std.specs.Char.{is_ascii_alphabetic, is_ascii_digit}
use Rattle.std.specs.List.{position_from, list_all}
use Rattle.std.specs.Str.{bytes_eq, IsUtf8}
use Rattle.std.proofs.lemmas.Str.{IsUtf8-from_ascii}
use Rattle.soqe_name.specs.Names.{is_ordinary, is_word}
use Rattle.soqe_signature.specs.declared.kinds.Kind.{Kind}
use Rattle.soqe_signature.specs.declared.kinds.NameKind.TheVariants as numbering
use Rattle.soqe_signature.specs.declared.kinds.DeclareFault.{DeclareFault}
use Rattle.soqe_signature.specs.declared.kinds.DeclareFault.TheVariants as fault
use Rattle.soqe_signature.specs.Declarations.{Declaration, Found, numbering_of, of_numbering, count_of, lookup, lookup_behind, place_of, name_from}
use Rattle.soqe_signature.specs.Declares.{first_unknown, sorts_named, unknown_fault, fault_at, fault_of, Declares}
use Rattle.soqe_signature.proofs.Declared.{count_of-le, name_of-lookup}
use Rattle.soqe_text.specs.NewNames.{is_new, OnRefusedName, name_fault_of}

and-left : (a b : Bool) → (a && b) ≡ true → a ≡ true
and-left true b h = refl
and-left false b h = h

and-right : (a b : Bool) → (a && b) ≡ true → b ≡ true
and-right true b h = h
and-right false b h = absurd (true≢false (sym h))

both : (a b : Bool) → a ≡ true → b ≡ true → (a && b) ≡ true
both true b h k = k
both false b h k = h

or-left : (a b : Bool) → a ≡ true → (a || b) ≡ true
or-left true b h = refl
or-left false b h = absurd (true≢false (sym h))

pub drop_all : (xs : List ℕ) (n : ℕ) → length xs ≤ n → drop n xs ≡ []
drop_all [] zero h = refl
drop_all [] (suc n) h = refl
drop_all (x ∷ xs) zero h = absurd (omega (arith, h))
drop_all (x ∷ xs) (suc n) h = drop_all xs n (omega (arith, h))

pub take_all : (xs : List ℕ) (n : ℕ) → length xs ≤ n → take n xs ≡ xs
take_all [] zero h = refl
take_all [] (suc n) h = refl
take_all (x ∷ xs) zero h = absurd (omega (arith, h))
take_all (x ∷ xs) (suc n) h = ap (λ ys. x ∷ ys) (take_all xs n (omega (arith, h)))

-- the number of a declared name is below the count of the declarations
pub lookup_below : (ds : List Declaration) (name : List ℕ) (f : Found) → lookup ds name ≡ Some f → f.num < length ds
lookup_below ds name f h = by (slice_get (of_numbering (numbering_of f.kind) ds) f.num) refl (name_of-lookup ds name f h)
  where
    by : (r : Option Declaration) → slice_get (of_numbering (numbering_of f.kind) ds) f.num ≡ r → name_from r ≡ Some name → f.num < length ds
    by None e named = absurd (none-some name named)
    by (Some d) e named =
        let within = slice_get_within (of_numbering (numbering_of f.kind) ds) f.num d e in
        let few = count_of-le (numbering_of f.kind) ds in
        omega (arith, within, few)

-- a name is looked up where it has a place
is_some-lookup : (passed ds : List Declaration) (name : List ℕ) (n : ℕ)
    → is_some (lookup_behind passed ds name) ≡ is_some (position_from (λ d. bytes_eq d.name name) n ds)
is_some-lookup passed [] name n = refl
is_some-lookup passed (d ∷ ds) name n = by (bytes_eq d.name name) (is_some-lookup (passed ++ d ∷ []) ds name (n + 1))
  where
    by : (b : Bool) → is_some (lookup_behind (passed ++ d ∷ []) ds name) ≡ is_some (position_from (λ d. bytes_eq d.name name) (n + 1) ds)
        → is_some (cond b (Some (record { kind = d.kind; num = count_of (numbering_of d.kind) passed })) (lookup_behind (passed ++ d ∷ []) ds name))
        ≡ is_some (cond b (Some n) (position_from (λ d. bytes_eq d.name name) (n + 1) ds))
    by true h = refl
    by false h = h

-- a name may be declared where no fault is due, if the sorts of its kind are known
pub is_new_fault : (ds : List Declaration) (name : List ℕ) (k : Kind) (r : Option DeclareFault) → first_unknown (count_of numbering.Sort ds) (sorts_named k) ≡ None
    → fault_of is_ordinary ds name k ≡ r → is_new ds name ≡ not (is_some r)
is_new_fault ds name k r known h =
    by (lookup ds name) (place_of ds name) (is_ordinary name) (is_some-lookup [] ds name 0 ∙ ap is_some (sym (position_from-zero (λ d. bytes_eq d.name name) ds))) h
  where
    by : (found : Option Found) (place : Option ℕ) (ordinary : Bool) → is_some found ≡ is_some place → fault_at place ordinary ds k ≡ r
        → elim found [ Some f ↦ false | None ↦ ordinary ] ≡ not (is_some r)
    by None None true same h = ap (λ r. not (is_some r)) (sym (ap unknown_fault known) ∙ h)
    by None None false same h = ap (λ r. not (is_some r)) h
    by None (Some p) o same h = absurd (true≢false (sym same))
    by (Some f) None o same h = absurd (true≢false same)
    by (Some f) (Some p) o same h = ap (λ r. not (is_some r)) h

-- a name that is refused is not new
pub refused_declare : (ds new : List Declaration) (name : List ℕ) (k : Kind) (e : DeclareFault) (r : NameFault) → r ≡ name_fault_of e
    → Declares is_ordinary ds new name k (Err e) → first_unknown (count_of numbering.Sort ds) (sorts_named k) ≡ None → OnRefusedName {T = ℕ} (Err r) (is_new ds name ≡ false)
refused_declare ds new name k e r is d known = subst (λ r. OnRefusedName {T = ℕ} (Err r) (is_new ds name ≡ false)) (sym is) (by e d)
  where
    by : (e : DeclareFault) → Declares is_ordinary ds new name k (Err e) → OnRefusedName {T = ℕ} (Err (name_fault_of e)) (is_new ds name ≡ false)
    by fault.Memory d = tt
    by (fault.Duplicate place) d = is_new_fault ds name k (Some (fault.Duplicate place)) known d.0
    by fault.Reserved d = is_new_fault ds name k (Some fault.Reserved) known d.0
    by (fault.UnknownSort sort) d = is_new_fault ds name k (Some (fault.UnknownSort sort)) known d.0

-- a name that is not ordinary is not new
pub is_new-odd : (ds : List Declaration) (name : List ℕ) → is_ordinary name ≡ false → is_new ds name ≡ false
is_new-odd ds name h = by (lookup ds name)
  where
    by : (found : Option Found) → elim found [ Some f ↦ false | None ↦ is_ordinary name ] ≡ false
    by None = h
    by (Some f) = refl

word-ascii : (b : ℕ) → is_word b ≡ true → b < 128
word-ascii b h = grind (arith, h)

words-ascii : (bs : List ℕ) → list_all is_word bs ≡ true → (i : ℕ) → slice_index bs i < 128
words-ascii [] h i = omega arith
words-ascii (b ∷ bs) h zero = word-ascii b (and-left (is_word b) (list_all is_word bs) h)
words-ascii (b ∷ bs) h (suc i) = words-ascii bs (and-right (is_word b) (list_all is_word bs) h) i

-- ordinary names are ASCII
pub ordinary-utf8 : (name : List ℕ) → is_ordinary name ≡ true → IsUtf8 name
ordinary-utf8 [] h = absurd (true≢false (sym h))
ordinary-utf8 (b ∷ bs) h =
    let first : is_ascii_alphabetic b ≡ true = and-left (is_ascii_alphabetic b) _ (and-left (is_ascii_alphabetic b && list_all is_word bs) _ h) in
    let rest : list_all is_word bs ≡ true = and-right (is_ascii_alphabetic b) _ (and-left (is_ascii_alphabetic b && list_all is_word bs) _ h) in
    IsUtf8-from_ascii (b ∷ bs) (λ i. words-ascii (b ∷ bs) (both (is_word b) (list_all is_word bs) (or-left (is_ascii_alphabetic b || is_ascii_digit b) (b == 95) (or-left (is_ascii_alphabetic b) (is_ascii_digit b) first)) rest) i)

pub odd_bytes : (ds : List Declaration) (name : List ℕ) → (IsUtf8 name → ⊥) → is_new ds name ≡ false
odd_bytes ds name h = is_new-odd ds name (false_from_ne_true _ (λ o. h (ordinary-utf8 name o)))
