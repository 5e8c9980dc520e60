-- What the declarations say of a name and of a number, and what one more declaration at the end changes.
--
--   lookup-push, lookup-old, lookup-other, lookup-new      what a name stands for
--   of_numbering-push, count_of-push-same, count_of-push-other      the names of a numbering
--   name_of-old, fun_sort_of-old, pred_sorts_of-old, free_sort_of-old      old numbers keep their meaning
--   numbered-new, name_of-new, fun_sort_of-new, pred_sorts_of-new, free_sort_of-new      the next number has the new one
--   lookup-name_of, name_of-lookup      a name leads to its number, and a number to its name where names are distinct
use Rattle.std.specs.Prelude.{ℕ, zero, suc, ◌≡◌, ◌<◌, ◌≤◌, ◌+◌, Bool, true, false, cond, List, [], ◌∷◌, ◌++◌, length, take, Option, Some, None, slice_get, refl}
use Rattle.std.proofs.Common.{sym, ◌∙◌, ap, arith, append_assoc, length-append, true≢false}
use Rattle.std.proofs.lemmas.Cmp.{nat_list_eq_equiv}
use Rattle.std.proofs.lemmas.Bool.{cond-true, cond-false, false_from_ne_true}
use Rattle.std.proofs.lemmas.Iterator.Adapters.{position_from-zero}
use Rattle.std.proofs.lemmas.List.{append-nil, take_more}
use Rattle.std.proofs.lemmas.List.Elements.{filter-append}
use Rattle.std.proofs.lemmas.Option.{none-some, slice_get_within, get_or_from_slice_get}
use Rattle.std.proofs.lemmas.Slice.Eq.{bytes_eq-Decides}
use Rattle.std.specs.List.{position_from}
use Rattle.std.specs.Option.{unwrap_or}
use Rattle.std.specs.Str.{bytes_eq}
use Rattle.soqe_number.proofs.Slices.{slice_get-append, slice_get-last, slice_get-take, take-push}
use Rattle.soqe_signature.specs.declared.kinds.Kind.TheVariants as kind
use Rattle.soqe_signature.specs.declared.kinds.NameKind.{NameKind}
use Rattle.soqe_signature.specs.declared.kinds.NameKind.TheVariants as numbering
use Rattle.soqe_term.specs.Sorting.{FunSort}
use Rattle.soqe_signature.specs.Declarations.{Declaration, Found, numbering_of, same_numbering, of_numbering, count_of, lookup, lookup_behind, place_of, name_from, name_of, fun_sort_from, fun_sort_of, pred_sorts_from, pred_sorts_of, free_sort_from, free_sort_of, HasDistinctNames}

pub bytes_eq-sym : (xs ys : List ℕ) → bytes_eq xs ys ≡ bytes_eq ys xs
bytes_eq-sym xs ys = nat_list_eq_equiv.symm xs ys

pub bytes_eq-refl : (xs : List ℕ) → bytes_eq xs xs ≡ true
bytes_eq-refl xs = nat_list_eq_equiv.refl xs

-- no numbering has more names than there are declarations
pub count_of-le : (k : NameKind) (ds : List Declaration) → count_of k ds ≤ length ds
count_of-le k [] = omega arith
count_of-le k (d ∷ ds) = by (same_numbering (numbering_of d.kind) k) (count_of-le k ds)
  where
    by : (b : Bool) → count_of k ds ≤ length ds → length (cond b (d ∷ of_numbering k ds) (of_numbering k ds)) ≤ length (d ∷ ds)
    by true h = omega (arith, h)
    by false h = omega (arith, h)

pub same_numbering-refl : (k : NameKind) → same_numbering k k ≡ true
same_numbering-refl numbering.Sort = refl
same_numbering-refl numbering.Fun = refl
same_numbering-refl numbering.Pred = refl
same_numbering-refl numbering.Variable = refl
same_numbering-refl numbering.BoundPred = refl
same_numbering-refl numbering.Rel = refl
same_numbering-refl numbering.Prop = refl

module _ {X : Type 0} where
  position_from-absent : (p : X → Bool) (n : ℕ) (xs : List X) → ((i : ℕ) (x : X) → slice_get xs i ≡ Some x → p x ≡ false) → position_from p n xs ≡ None
  position_from-absent p n [] h = refl
  position_from-absent p n (x ∷ xs) h = cond-false _ _ _ (h 0 x refl) ∙ position_from-absent p (n + 1) xs (λ i. h (suc i))

-- a name that no declaration has has no place
pub place_of-absent : (ds : List Declaration) (name : List ℕ) → ((i : ℕ) (d : Declaration) → slice_get ds i ≡ Some d → d.name ≡ name → ⊥) → place_of ds name ≡ None
place_of-absent ds name h =
    position_from-zero (λ d. bytes_eq d.name name) ds
    ∙ position_from-absent (λ d. bytes_eq d.name name) 0 ds
    (λ i d at. false_from_ne_true _ (λ e. h i d at ((bytes_eq-Decides d.name name).0 e)))

-- a name stands nowhere in front of its place
pub place_of-take : (ds : List Declaration) (n : ℕ) (d : Declaration) → HasDistinctNames ds → slice_get ds n ≡ Some d → place_of (take n ds) d.name ≡ None
place_of-take ds n d distinct at =
    place_of-absent (take n ds) d.name
    (λ i e front same.
    let back = slice_get-take n ds i e front in
    let equal : i ≡ n = distinct i n e d back.1 at same in
    absurd (omega (arith, back.0, equal)))

-- what is found, or else the other
abbrev pub found_or : Option Found → Option Found → Option Found
found_or None r = r
found_or (Some f) r = Some f

-- what one more declaration says of a name, behind those that were passed already
abbrev pub said_behind : List Declaration → Declaration → List ℕ → Option Found
said_behind passed d name = cond (bytes_eq d.name name) (Some (record { kind = d.kind; num = count_of (numbering_of d.kind) passed })) None

lookup_behind-push : (passed ds : List Declaration) (d : Declaration) (name : List ℕ)
    → lookup_behind passed (ds ++ d ∷ []) name ≡ found_or (lookup_behind passed ds name) (said_behind (passed ++ ds) d name)
lookup_behind-push passed [] d name = ap (λ l. said_behind l d name) (sym (append-nil passed))
lookup_behind-push passed (c ∷ ds) d name =
    by (bytes_eq c.name name) (record { kind = c.kind; num = count_of (numbering_of c.kind) passed })
    (lookup_behind (passed ++ c ∷ []) (ds ++ d ∷ []) name) (lookup_behind (passed ++ c ∷ []) ds name) (said_behind (passed ++ c ∷ ds) d name)
    (lookup_behind-push (passed ++ c ∷ []) ds d name
    ∙ ap (λ l. found_or (lookup_behind (passed ++ c ∷ []) ds name) (said_behind l d name)) (append_assoc passed (c ∷ []) ds))
  where
    by : (b : Bool) (f : Found) (new old last : Option Found) → new ≡ found_or old last → cond b (Some f) new ≡ found_or (cond b (Some f) old) last
    by true f new old last h = refl
    by false f new old last h = h

-- after one more declaration a name stands for what it stood for, or else for what the new one says
pub lookup-push : (ds : List Declaration) (d : Declaration) (name : List ℕ) → lookup (ds ++ d ∷ []) name ≡ found_or (lookup ds name) (said_behind ds d name)
lookup-push ds d name = lookup_behind-push [] ds d name

module _ (ds : List Declaration) (d : Declaration) where
  -- a declared name keeps its meaning
  pub lookup-old : (name : List ℕ) (f : Found) → lookup ds name ≡ Some f → lookup (ds ++ d ∷ []) name ≡ Some f
  lookup-old name f h = lookup-push ds d name ∙ ap (λ r. found_or r (said_behind ds d name)) h

  -- another name keeps its meaning too
  pub lookup-other : (name : List ℕ) → bytes_eq d.name name ≡ false → lookup (ds ++ d ∷ []) name ≡ lookup ds name
  lookup-other name h = lookup-push ds d name ∙ ap (found_or (lookup ds name)) (cond-false _ _ _ h) ∙ same (lookup ds name)
    where
      same : (r : Option Found) → found_or r None ≡ r
      same None = refl
      same (Some f) = refl

  -- the new name has the next number
  pub lookup-new : lookup ds d.name ≡ None → lookup (ds ++ d ∷ []) d.name ≡ Some (record { kind = d.kind; num = count_of (numbering_of d.kind) ds })
  lookup-new h = lookup-push ds d d.name ∙ (λ i. found_or (h i) (said_behind ds d d.name)) ∙ cond-true _ _ _ (bytes_eq-refl d.name)

  -- the names of a numbering
  pub of_numbering-push : (k : NameKind) → of_numbering k (ds ++ d ∷ []) ≡ of_numbering k ds ++ cond (same_numbering (numbering_of d.kind) k) (d ∷ []) []
  of_numbering-push k = filter-append (λ d. same_numbering (numbering_of d.kind) k) ds (d ∷ [])

  -- how many they are
  pub count_of-push-same : (k : NameKind) → same_numbering (numbering_of d.kind) k ≡ true → count_of k (ds ++ d ∷ []) ≡ count_of k ds + 1
  count_of-push-same k h =
      ap length (of_numbering-push k ∙ ap (λ l. of_numbering k ds ++ l) (cond-true _ _ _ h)) ∙ length-append (of_numbering k ds) (d ∷ [])

  pub count_of-push-other : (k : NameKind) → same_numbering (numbering_of d.kind) k ≡ false → count_of k (ds ++ d ∷ []) ≡ count_of k ds
  count_of-push-other k h =
      ap length (of_numbering-push k ∙ ap (λ l. of_numbering k ds ++ l) (cond-false _ _ _ h)) ∙ ap length (append-nil (of_numbering k ds))

  -- a number that is taken keeps its declaration
  pub numbered-old : (k : NameKind) (n : ℕ) (e : Declaration) → slice_get (of_numbering k ds) n ≡ Some e → slice_get (of_numbering k (ds ++ d ∷ [])) n ≡ Some e
  numbered-old k n e h = ap (λ l. slice_get l n) (of_numbering-push k) ∙ slice_get-append (of_numbering k ds) _ n e h

  -- the next number has the new declaration
  pub numbered-new : slice_get (of_numbering (numbering_of d.kind) (ds ++ d ∷ [])) (count_of (numbering_of d.kind) ds) ≡ Some d
  numbered-new =
      ap (λ l. slice_get l (count_of (numbering_of d.kind) ds))
      (of_numbering-push (numbering_of d.kind) ∙ ap (λ l. of_numbering (numbering_of d.kind) ds ++ l) (cond-true _ _ _ (same_numbering-refl (numbering_of d.kind))))
      ∙ slice_get-last (of_numbering (numbering_of d.kind) ds) d

  -- what is read from a declaration by its number stays
  numbered_by : {A : Type 0} (f : Option Declaration → Option A) → f None ≡ None → (k : NameKind) (n : ℕ) (a : A)
      → f (slice_get (of_numbering k ds) n) ≡ Some a → f (slice_get (of_numbering k (ds ++ d ∷ [])) n) ≡ Some a
  numbered_by {A} f none k n a h = by (slice_get (of_numbering k ds) n) refl h
    where
      by : (r : Option Declaration) → slice_get (of_numbering k ds) n ≡ r → f r ≡ Some a → f (slice_get (of_numbering k (ds ++ d ∷ [])) n) ≡ Some a
      by None e h = absurd (none-some a (sym none ∙ h))
      by (Some c) e h = ap f (numbered-old k n c e) ∙ h

  -- old numbers keep their names and sorts
  pub name_of-old : (k : NameKind) (n : ℕ) (name : List ℕ) → name_of ds k n ≡ Some name → name_of (ds ++ d ∷ []) k n ≡ Some name
  name_of-old k n name h = numbered_by name_from refl k n name h

  pub fun_sort_of-old : (n : ℕ) (s : FunSort) → fun_sort_of ds n ≡ Some s → fun_sort_of (ds ++ d ∷ []) n ≡ Some s
  fun_sort_of-old n s h = numbered_by fun_sort_from refl numbering.Fun n s h

  pub pred_sorts_of-old : (n : ℕ) (sorts : List ℕ) → pred_sorts_of ds n ≡ Some sorts → pred_sorts_of (ds ++ d ∷ []) n ≡ Some sorts
  pred_sorts_of-old n sorts h = numbered_by pred_sorts_from refl numbering.Pred n sorts h

  pub free_sort_of-old : (n s : ℕ) → free_sort_of ds n ≡ Some s → free_sort_of (ds ++ d ∷ []) n ≡ Some s
  free_sort_of-old n s h = numbered_by free_sort_from refl numbering.Variable n s h

  -- the next number has the new name
  pub name_of-new : name_of (ds ++ d ∷ []) (numbering_of d.kind) (count_of (numbering_of d.kind) ds) ≡ Some d.name
  name_of-new = ap name_from numbered-new

module _ (ds : List Declaration) (name : List ℕ) where
  -- and the new sorts
  pub fun_sort_of-new : (args : List ℕ) (result : ℕ) → fun_sort_of (ds ++ record { name = name; kind = kind.Fun args result } ∷ []) (count_of numbering.Fun ds) ≡ Some (record { args = args; result = result })
  fun_sort_of-new args result = ap fun_sort_from (numbered-new ds (record { name = name; kind = kind.Fun args result }))

  pub pred_sorts_of-new : (args : List ℕ) → pred_sorts_of (ds ++ record { name = name; kind = kind.Pred args } ∷ []) (count_of numbering.Pred ds) ≡ Some args
  pred_sorts_of-new args = ap pred_sorts_from (numbered-new ds (record { name = name; kind = kind.Pred args }))

  pub free_sort_of-new : (sort : ℕ) → free_sort_of (ds ++ record { name = name; kind = kind.Free sort } ∷ []) (count_of numbering.Variable ds) ≡ Some sort
  free_sort_of-new sort = ap free_sort_from (numbered-new ds (record { name = name; kind = kind.Free sort }))

-- one numbering is one value
pub same_numbering-is : (a b : NameKind) → same_numbering a b ≡ true → a ≡ b
same_numbering-is numbering.Sort numbering.Sort h = refl
same_numbering-is numbering.Sort numbering.Fun h = absurd (true≢false (sym h))
same_numbering-is numbering.Sort numbering.Pred h = absurd (true≢false (sym h))
same_numbering-is numbering.Sort numbering.Variable h = absurd (true≢false (sym h))
same_numbering-is numbering.Sort numbering.BoundPred h = absurd (true≢false (sym h))
same_numbering-is numbering.Sort numbering.Rel h = absurd (true≢false (sym h))
same_numbering-is numbering.Sort numbering.Prop h = absurd (true≢false (sym h))
same_numbering-is numbering.Fun numbering.Sort h = absurd (true≢false (sym h))
same_numbering-is numbering.Fun numbering.Fun h = refl
same_numbering-is numbering.Fun numbering.Pred h = absurd (true≢false (sym h))
same_numbering-is numbering.Fun numbering.Variable h = absurd (true≢false (sym h))
same_numbering-is numbering.Fun numbering.BoundPred h = absurd (true≢false (sym h))
same_numbering-is numbering.Fun numbering.Rel h = absurd (true≢false (sym h))
same_numbering-is numbering.Fun numbering.Prop h = absurd (true≢false (sym h))
same_numbering-is numbering.Pred numbering.Sort h = absurd (true≢false (sym h))
same_numbering-is numbering.Pred numbering.Fun h = absurd (true≢false (sym h))
same_numbering-is numbering.Pred numbering.Pred h = refl
same_numbering-is numbering.Pred numbering.Variable h = absurd (true≢false (sym h))
same_numbering-is numbering.Pred numbering.BoundPred h = absurd (true≢false (sym h))
same_numbering-is numbering.Pred numbering.Rel h = absurd (true≢false (sym h))
same_numbering-is numbering.Pred numbering.Prop h = absurd (true≢false (sym h))
same_numbering-is numbering.Variable numbering.Sort h = absurd (true≢false (sym h))
same_numbering-is numbering.Variable numbering.Fun h = absurd (true≢false (sym h))
same_numbering-is numbering.Variable numbering.Pred h = absurd (true≢false (sym h))
same_numbering-is numbering.Variable numbering.Variable h = refl
same_numbering-is numbering.Variable numbering.BoundPred h = absurd (true≢false (sym h))
same_numbering-is numbering.Variable numbering.Rel h = absurd (true≢false (sym h))
same_numbering-is numbering.Variable numbering.Prop h = absurd (true≢false (sym h))
same_numbering-is numbering.BoundPred numbering.Sort h = absurd (true≢false (sym h))
same_numbering-is numbering.BoundPred numbering.Fun h = absurd (true≢false (sym h))
same_numbering-is numbering.BoundPred numbering.Pred h = absurd (true≢false (sym h))
same_numbering-is numbering.BoundPred numbering.Variable h = absurd (true≢false (sym h))
same_numbering-is numbering.BoundPred numbering.BoundPred h = refl
same_numbering-is numbering.BoundPred numbering.Rel h = absurd (true≢false (sym h))
same_numbering-is numbering.BoundPred numbering.Prop h = absurd (true≢false (sym h))
same_numbering-is numbering.Rel numbering.Sort h = absurd (true≢false (sym h))
same_numbering-is numbering.Rel numbering.Fun h = absurd (true≢false (sym h))
same_numbering-is numbering.Rel numbering.Pred h = absurd (true≢false (sym h))
same_numbering-is numbering.Rel numbering.Variable h = absurd (true≢false (sym h))
same_numbering-is numbering.Rel numbering.BoundPred h = absurd (true≢false (sym h))
same_numbering-is numbering.Rel numbering.Rel h = refl
same_numbering-is numbering.Rel numbering.Prop h = absurd (true≢false (sym h))
same_numbering-is numbering.Prop numbering.Sort h = absurd (true≢false (sym h))
same_numbering-is numbering.Prop numbering.Fun h = absurd (true≢false (sym h))
same_numbering-is numbering.Prop numbering.Pred h = absurd (true≢false (sym h))
same_numbering-is numbering.Prop numbering.Variable h = absurd (true≢false (sym h))
same_numbering-is numbering.Prop numbering.BoundPred h = absurd (true≢false (sym h))
same_numbering-is numbering.Prop numbering.Rel h = absurd (true≢false (sym h))
same_numbering-is numbering.Prop numbering.Prop h = refl

-- the place of the declaration with a number: as many of its numbering stand in front of it
pub of_numbering-at : (k : NameKind) (ds : List Declaration) (n : ℕ) (d : Declaration) → slice_get (of_numbering k ds) n ≡ Some d
    → (i : ℕ) × (slice_get ds i ≡ Some d) × (same_numbering (numbering_of d.kind) k ≡ true) × (count_of k (take i ds) ≡ n)
of_numbering-at k [] n d h = absurd (none-some d h)
of_numbering-at k (c ∷ ds) n d h = by (same_numbering (numbering_of c.kind) k) refl n h (of_numbering-at k ds)
  where
    by : (b : Bool) → same_numbering (numbering_of c.kind) k ≡ b → (n : ℕ) → slice_get (cond b (c ∷ of_numbering k ds) (of_numbering k ds)) n ≡ Some d
        → ((n : ℕ) (d : Declaration) → slice_get (of_numbering k ds) n ≡ Some d
        → (i : ℕ) × (slice_get ds i ≡ Some d) × (same_numbering (numbering_of d.kind) k ≡ true) × (count_of k (take i ds) ≡ n))
        → (i : ℕ) × (slice_get (c ∷ ds) i ≡ Some d) × (same_numbering (numbering_of d.kind) k ≡ true) × (count_of k (take i (c ∷ ds)) ≡ n)
    by true e zero h rest = (0, h, ap (λ o. same_numbering (numbering_of (unwrap_or o c).kind) k) (sym h) ∙ e, refl)
    by true e (suc n) h rest =
        let r = rest n d h in
        (suc r.0, r.1, r.2, ap length (cond-true _ (c ∷ of_numbering k (take r.0 ds)) (of_numbering k (take r.0 ds)) e) ∙ ap suc r.3)
    by false e n h rest =
        let r = rest n d h in
        (suc r.0, r.1, r.2, ap length (cond-false _ (c ∷ of_numbering k (take r.0 ds)) (of_numbering k (take r.0 ds)) e) ∙ r.3)

-- what a name stands for, by the place of its first declaration
pub lookup_behind-at : (passed ds : List Declaration) (i : ℕ) (d : Declaration) → ((j : ℕ) (e : Declaration) → j < i → slice_get ds j ≡ Some e → e.name ≡ d.name → ⊥)
    → slice_get ds i ≡ Some d → lookup_behind passed ds d.name ≡ Some (record { kind = d.kind; num = count_of (numbering_of d.kind) (passed ++ take i ds) })
lookup_behind-at passed [] i d before h = absurd (none-some d h)
lookup_behind-at passed (c ∷ ds) zero d before h =
    let is : c ≡ d = ap (λ o. unwrap_or o c) h in
    cond-true _ _ _ (ap (λ e. bytes_eq e.name d.name) is ∙ bytes_eq-refl d.name)
    ∙ (λ k. Some (record { kind = (is k).kind; num = count_of (numbering_of (is k).kind) (sym (append-nil passed) k) }))
lookup_behind-at passed (c ∷ ds) (suc i) d before h =
    let other : bytes_eq c.name d.name ≡ false = false_from_ne_true _ (λ same. before 0 c (omega arith) refl ((bytes_eq-Decides c.name d.name).0 same)) in
    cond-false _ _ _ other
    ∙ lookup_behind-at (passed ++ c ∷ []) ds i d (λ j e lt. before (suc j) e (omega (arith, lt))) h
    ∙ ap (λ l. Some (record { kind = d.kind; num = count_of (numbering_of d.kind) l })) (append_assoc passed (c ∷ []) (take i ds))

-- where names are distinct, a name that has a number is found with it
pub lookup-name_of : (ds : List Declaration) (k : NameKind) (n : ℕ) (name : List ℕ) → HasDistinctNames ds → name_of ds k n ≡ Some name
    → (d : Declaration) × (d.name ≡ name) × (numbering_of d.kind ≡ k) × (lookup ds name ≡ Some (record { kind = d.kind; num = n }))
lookup-name_of ds k n name distinct h = by (slice_get (of_numbering k ds) n) refl h
  where
    by : (r : Option Declaration) → slice_get (of_numbering k ds) n ≡ r → name_from r ≡ Some name
        → (d : Declaration) × (d.name ≡ name) × (numbering_of d.kind ≡ k) × (lookup ds name ≡ Some (record { kind = d.kind; num = n }))
    by None e h = absurd (none-some name h)
    by (Some d) e h =
        let named : d.name ≡ name = ap (λ o. unwrap_or o name) h in
        let at = of_numbering-at k ds n d e in
        let is_kind : numbering_of d.kind ≡ k = same_numbering-is (numbering_of d.kind) k at.2 in
        let found = lookup_behind-at [] ds at.0 d (λ j e lt before same. absurd (omega (arith, lt, distinct j at.0 e d before at.1 same))) at.1 in (
          d,
          named,
          is_kind,
          ap (lookup ds) (sym named) ∙ found
              ∙ ap (λ m. Some (record { kind = d.kind; num = m })) (ap (λ k. count_of k (take at.0 ds)) is_kind ∙ at.3),
        )

name_of-lookup_behind : (passed ds : List Declaration) (name : List ℕ) (f : Found) → lookup_behind passed ds name ≡ Some f
    → name_of (passed ++ ds) (numbering_of f.kind) f.num ≡ Some name
name_of-lookup_behind passed [] name f h = absurd (none-some f h)
name_of-lookup_behind passed (c ∷ ds) name f h = by (bytes_eq c.name name) refl h (name_of-lookup_behind (passed ++ c ∷ []) ds name f)
  where
    here : name_of (passed ++ c ∷ ds) (numbering_of c.kind) (count_of (numbering_of c.kind) passed) ≡ Some c.name
    here =
        ap (λ l. name_of l (numbering_of c.kind) (count_of (numbering_of c.kind) passed)) (sym (append_assoc passed (c ∷ []) ds))
        ∙ ap (λ l. name_from (slice_get l (count_of (numbering_of c.kind) passed))) (filter-append (λ d. same_numbering (numbering_of d.kind) (numbering_of c.kind)) (passed ++ c ∷ []) ds)
        ∙ ap name_from (slice_get-append (of_numbering (numbering_of c.kind) (passed ++ c ∷ [])) _ _ c (numbered-new passed c))

    by : (b : Bool) → bytes_eq c.name name ≡ b
        → cond b (Some (record { kind = c.kind; num = count_of (numbering_of c.kind) passed })) (lookup_behind (passed ++ c ∷ []) ds name) ≡ Some f
        → (lookup_behind (passed ++ c ∷ []) ds name ≡ Some f → name_of (passed ++ c ∷ [] ++ ds) (numbering_of f.kind) f.num ≡ Some name)
        → name_of (passed ++ c ∷ ds) (numbering_of f.kind) f.num ≡ Some name
    by true e h rest =
        let is : record { kind = c.kind; num = count_of (numbering_of c.kind) passed } ≡ f = ap (λ o. unwrap_or o f) h in
        (λ k. name_of (passed ++ c ∷ ds) (numbering_of (sym is k).kind) (sym is k).num) ∙ here ∙ ap Some ((bytes_eq-Decides c.name name).0 e)
    by false e h rest = ap (λ l. name_of l (numbering_of f.kind) f.num) (sym (append_assoc passed (c ∷ []) ds)) ∙ rest h

-- a declared name has its number
pub name_of-lookup : (ds : List Declaration) (name : List ℕ) (f : Found) → lookup ds name ≡ Some f → name_of ds (numbering_of f.kind) f.num ≡ Some name
name_of-lookup ds name f h = name_of-lookup_behind [] ds name f h
