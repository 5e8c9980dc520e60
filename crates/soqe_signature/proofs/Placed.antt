-- Where the declarations of a numbering stand.
--
--   places_of-push       the places after one more declaration
--   length-list_at       a numbering has as many places as names
--   of_numbering-place   a number leads to its declaration
use Rattle.std.specs.Prelude.{ℕ, zero, suc, ◌≡◌, ◌+◌, Bool, true, false, cond, List, [], ◌∷◌, ◌++◌, length, Option, slice_get, refl}
use Rattle.std.proofs.Common.{sym, ◌∙◌, ap, arith, zero-add}
use Rattle.std.specs.Option.{option_and_then}
use Rattle.soqe_signature.specs.declared.kinds.NameKind.{NameKind}
use Rattle.soqe_signature.specs.declared.kinds.NameKind.TheVariants as numbering
use Rattle.soqe_signature.specs.Declarations.{Declaration, numbering_of, same_numbering, of_numbering, count_of}
use Rattle.soqe_signature.specs.Places.{PlaceLists, list_at, with_place, places_from, places_of}

-- one more item at the end, behind a first one that may be there
push_both : (a b : Bool) (n m : ℕ) (ps : List ℕ)
    → cond a (n ∷ cond b (ps ++ m ∷ []) ps) (cond b (ps ++ m ∷ []) ps) ≡ cond b (cond a (n ∷ ps) ps ++ m ∷ []) (cond a (n ∷ ps) ps)
push_both true true n m ps = refl
push_both true false n m ps = refl
push_both false true n m ps = refl
push_both false false n m ps = refl

-- a declaration at the end stands last in its numbering, and changes no other
pub places_from-push : (k : NameKind) (n m : ℕ) (ds : List Declaration) (d : Declaration) → m ≡ n + length ds
    → places_from k n (ds ++ d ∷ []) ≡ cond (same_numbering (numbering_of d.kind) k) (places_from k n ds ++ m ∷ []) (places_from k n ds)
places_from-push k n m [] d e = let same : n ≡ m = omega (arith, e) in ap (λ x. cond (same_numbering (numbering_of d.kind) k) (x ∷ []) []) same
places_from-push k n m (c ∷ ds) d e =
    let rest = places_from-push k (n + 1) m ds d (omega (arith, e)) in
    ap (λ r. cond (same_numbering (numbering_of c.kind) k) (n ∷ r) r) rest
    ∙ push_both (same_numbering (numbering_of c.kind) k) (same_numbering (numbering_of d.kind) k) n m (places_from k (n + 1) ds)

-- the lists of all numberings, by a function
abbrev lists_by : (NameKind → List ℕ) → PlaceLists
lists_by p = record {
  sorts = p numbering.Sort;
  funs = p numbering.Fun;
  preds = p numbering.Pred;
  variables = p numbering.Variable;
  bound_preds = p numbering.BoundPred;
  rels = p numbering.Rel;
  props = p numbering.Prop;
}

with_place-lists_by : (p : NameKind → List ℕ) (k : NameKind) (n : ℕ) → with_place (lists_by p) k n ≡ lists_by (λ j. cond (same_numbering k j) (p j ++ n ∷ []) (p j))
with_place-lists_by p numbering.Sort n = refl
with_place-lists_by p numbering.Fun n = refl
with_place-lists_by p numbering.Pred n = refl
with_place-lists_by p numbering.Variable n = refl
with_place-lists_by p numbering.BoundPred n = refl
with_place-lists_by p numbering.Rel n = refl
with_place-lists_by p numbering.Prop n = refl

pub places_of-push : (ds : List Declaration) (d : Declaration) → places_of (ds ++ d ∷ []) ≡ with_place (places_of ds) (numbering_of d.kind) (length ds)
places_of-push ds d =
    (λ i. lists_by (λ k. places_from-push k 0 (length ds) ds d (sym (zero-add (length ds))) i))
    ∙ sym (with_place-lists_by (λ k. places_from k 0 ds) (numbering_of d.kind) (length ds))

list_at-places_of : (ds : List Declaration) (k : NameKind) → list_at (places_of ds) k ≡ places_from k 0 ds
list_at-places_of ds numbering.Sort = refl
list_at-places_of ds numbering.Fun = refl
list_at-places_of ds numbering.Pred = refl
list_at-places_of ds numbering.Variable = refl
list_at-places_of ds numbering.BoundPred = refl
list_at-places_of ds numbering.Rel = refl
list_at-places_of ds numbering.Prop = refl

length-places_from : (k : NameKind) (n : ℕ) (ds : List Declaration) → length (places_from k n ds) ≡ count_of k ds
length-places_from k n [] = refl
length-places_from k n (d ∷ ds) = by (same_numbering (numbering_of d.kind) k) (length-places_from k (n + 1) ds)
  where
    by : (b : Bool) → length (places_from k (n + 1) ds) ≡ count_of k ds
        → length (cond b (n ∷ places_from k (n + 1) ds) (places_from k (n + 1) ds)) ≡ length (cond b (d ∷ of_numbering k ds) (of_numbering k ds))
    by true e = ap suc e
    by false e = e

-- a numbering has as many places as names
pub length-list_at : (k : NameKind) (ds : List Declaration) → length (list_at (places_of ds) k) ≡ count_of k ds
length-list_at k ds = ap length (list_at-places_of ds k) ∙ length-places_from k 0 ds

-- where f gives the declarations from the place n on, their numbers lead to them
places_from-at : (k : NameKind) (n : ℕ) (ds : List Declaration) (f : ℕ → Option Declaration) → ((j : ℕ) → slice_get ds j ≡ f (n + j)) → (i : ℕ)
    → slice_get (of_numbering k ds) i ≡ option_and_then f (slice_get (places_from k n ds) i)
places_from-at k n [] f h i = refl
places_from-at k n (d ∷ ds) f h i =
    by (same_numbering (numbering_of d.kind) k) i (places_from-at k (n + 1) ds f (λ j. h (suc j) ∙ ap f (omega arith)))
  where
    by : (b : Bool) (i : ℕ) → ((i : ℕ) → slice_get (of_numbering k ds) i ≡ option_and_then f (slice_get (places_from k (n + 1) ds) i))
        → slice_get (cond b (d ∷ of_numbering k ds) (of_numbering k ds)) i ≡ option_and_then f (slice_get (cond b (n ∷ places_from k (n + 1) ds) (places_from k (n + 1) ds)) i)
    by true zero rest = h 0 ∙ ap f (omega arith)
    by true (suc i) rest = rest i
    by false i rest = rest i

-- the declaration with a number stands at the place that its numbering keeps
pub of_numbering-place : (k : NameKind) (ds : List Declaration) (i : ℕ) → slice_get (of_numbering k ds) i ≡ option_and_then (slice_get ds) (slice_get (list_at (places_of ds) k) i)
of_numbering-place k ds i =
    places_from-at k 0 ds (slice_get ds) (λ j. ap (slice_get ds) (sym (zero-add j))) i
    ∙ ap (λ ps. option_and_then (slice_get ds) (slice_get ps i)) (sym (list_at-places_of ds k))
