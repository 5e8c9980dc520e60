-- What a binding's map says of its variables.
use Rattle.std.proofs.Common.{◌≡◌, ℕ, ◌<◌, ⊎_elim, arith, length, zero, suc, take, slice_get, Bool, true, false, cond, eqb, List, [], ◌∷◌, ◌++◌, map, Some, None, refl, sym, ◌∙◌, ap, subst}
use Rattle.std.proofs.lemmas.List.{map-append}
use Rattle.std.proofs.lemmas.Option.{none-some, same_Some, slice_get_cases}
use Rattle.std.proofs.lemmas.Bool.{eqb-false, ne_eqb}
use Rattle.std.proofs.lemmas.Map.Keys.{IsDistinct-head, IsDistinct-tail}
use Rattle.std.specs.List.{IsDistinct, AllByRecursion}
use Rattle.std.specs.Map as map_of
use Rattle.std.specs.Map.{keys_of}
use Rattle.std.specs.Option.{option_map}
use Rattle.indexmap.specs.IndexMap.{insert_entry}
use Rattle.soqe_term.specs.declared.bindings.Bound.{Bound}
use Rattle.soqe_term.specs.declared.bindings.BoundTerm.{BoundTerm}
use Rattle.soqe_term.specs.BoundTerms.{bound_of, bounds}
use Rattle.soqe_term.specs.Bindings.{bound_term, HasDistinctVars}

abbrev pub Entries : Type 0
Entries = List (ℕ × BoundTerm)

-- the map finds the term of a variable
pub bound_term-bounds : (n : ℕ) (es : Entries) → bound_term (bounds es) n ≡ option_map (λ b. b.term) (map_of.lookup (λ k. eqb n k) es)
bound_term-bounds n [] = refl
bound_term-bounds n (e ∷ es) = by (eqb n e.0) (bound_term-bounds n es)
  where
    by : (q : Bool) → bound_term (bounds es) n ≡ option_map (λ b. b.term) (map_of.lookup (λ k. eqb n k) es)
        → cond q (Some e.1.term) (bound_term (bounds es) n) ≡ option_map (λ b. b.term) (cond q (Some e.1) (map_of.lookup (λ k. eqb n k) es))
    by true h = refl
    by false h = h

-- a new variable goes last
insert_entry-absent : (n : ℕ) (b : BoundTerm) (es : Entries) → bound_term (bounds es) n ≡ None → insert_entry eqb es n b ≡ es ++ (n, b) ∷ []
insert_entry-absent n b [] h = refl
insert_entry-absent n b (e ∷ es) h = by (eqb n e.0) h (insert_entry-absent n b es)
  where
    by : (q : Bool) → cond q (Some e.1.term) (bound_term (bounds es) n) ≡ None → (bound_term (bounds es) n ≡ None → insert_entry eqb es n b ≡ es ++ (n, b) ∷ [])
        → cond q ((e.0, b) ∷ es) (e ∷ insert_entry eqb es n b) ≡ e ∷ es ++ (n, b) ∷ []
    by true h rest = absurd (none-some _ (sym h))
    by false h rest = ap (λ l. e ∷ l) (rest h)

pub bounds-insert : (n : ℕ) (b : BoundTerm) (es new : Entries) (s : List Bound) → bounds es ≡ s → bound_term s n ≡ None → new ≡ insert_entry eqb es n b
    → bounds new ≡ s ++ bound_of (n, b) ∷ []
bounds-insert n b es new s view absent is =
    ap bounds (is ∙ insert_entry-absent n b es (ap (λ l. bound_term l n) view ∙ absent))
    ∙ map-append bound_of es ((n, b) ∷ []) ∙ ap (λ l. l ++ bound_of (n, b) ∷ []) view

nums-bounds : (es : Entries) → map (λ b. b.var.num) (bounds es) ≡ keys_of es
nums-bounds [] = refl
nums-bounds (e ∷ es) = ap (λ l. e.0 ∷ l) (nums-bounds es)

-- the keys are distinct, and so are the variables
pub distinct-bounds : (es : Entries) (s : List Bound) → bounds es ≡ s → IsDistinct eqb (keys_of es) → HasDistinctVars s
distinct-bounds es s view h = subst HasDistinctVars view (subst (IsDistinct eqb) (sym (nums-bounds es)) h)

at-recursion : (P : ℕ → Type 0) (s : List Bound) (n : ℕ) (b : Bound) → AllByRecursion P (map (λ b. b.var.num) s) → slice_get s n ≡ Some b → P b.var.num
at-recursion P [] n b h e = absurd (none-some b e)
at-recursion P (c ∷ s) zero b h e = subst (λ b. P b.var.num) (same_Some c b e) h.0
at-recursion P (c ∷ s) (suc n) b h e = at-recursion P s n b h.1 e

-- a variable isn't among those in front of it
pub fresh-front : (s : List Bound) (n : ℕ) (b : Bound) → HasDistinctVars s → slice_get s n ≡ Some b → bound_term (take n s) b.var.num ≡ None
fresh-front [] n b d e = absurd (none-some b e)
fresh-front (c ∷ s) zero b d e = refl
fresh-front (c ∷ s) (suc n) b d e =
    let apart : eqb c.var.num b.var.num ≡ false = at-recursion (λ y. eqb c.var.num y ≡ false) s n b (IsDistinct-head eqb c.var.num (map (λ b. b.var.num) s) d) e in
    let other : eqb b.var.num c.var.num ≡ false = ne_eqb b.var.num c.var.num (λ q. eqb-false c.var.num b.var.num apart (sym q)) in
    ap (λ q. cond q (Some c.term) (bound_term (take n s) b.var.num)) other ∙ fresh-front s n b (IsDistinct-tail eqb c.var.num (map (λ b. b.var.num) s) d) e

pub slice_get-there : (s : List Bound) (n : ℕ) → n < length s → slice_get s n ≡ None → ⊥
slice_get-there s n l h = ⊎_elim (λ k. none-some k.0 (sym h ∙ k.2)) (λ k. omega (arith, k.0)) (slice_get_cases s n).1
