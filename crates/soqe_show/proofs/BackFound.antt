-- What is found for the printed name of a number, in a formula by itself: what the number stands for.
use Rattle.std.proofs.Common.{◌≡◌, ℕ, zero, suc, ◌<◌, ◌^◌, Bool, true, false, cond, nat_lt, List, [], ◌∷◌, ◌++◌, length, Option, Some, None, slice_get, codes, refl, ◌∙◌, ap, sym, arith, true≢false}
use Rattle.std.specs.Fmt.{decimal}
use Rattle.std.specs.Option.{option_or}
use Rattle.std.proofs.lemmas.Bool.{ltb-true}
use Rattle.std.proofs.lemmas.Option.{none-some, same_Some}
use Rattle.soqe_signature.specs.declared.kinds.Kind.{Kind}
use Rattle.soqe_signature.specs.declared.kinds.Kind.TheVariants as kind
use Rattle.soqe_signature.specs.declared.kinds.NameKind.{NameKind}
use Rattle.soqe_signature.specs.declared.kinds.NameKind.TheVariants as numbering
use Rattle.soqe_signature.specs.declared.skolems.SkolemSig.{SkolemSig}
use Rattle.soqe_term.specs.declared.term.Sym.TheVariants.{Fun, Skolem}
use Rattle.soqe_term.specs.Sorting.{FunSort}
use Rattle.soqe_signature.specs.SkolemSigs.{skolem_sort_of}
use Rattle.soqe_signature.specs.Declarations.{Declaration, Found, numbering_of, same_numbering, of_numbering, count_of, lookup, name_from, name_of, fun_sort_from, fun_sort_of, pred_sorts_from, pred_sorts_of, HasDistinctNames}
use Rattle.soqe_number.proofs.Choices.{bool_cases}
use Rattle.soqe_signature.proofs.Declared.{lookup-name_of}
use Rattle.soqe_form.specs.declared.form.Pred.TheVariants.{Decl, Bound}
use Rattle.soqe_text.specs.Meanings.{skolem_found, found_by_tag, found_in, symbol_of, symbol_in}
use Rattle.soqe_text.proofs.Entries.{fun_found, pred_found}
use Rattle.soqe_show.specs.Printed.{Text}
use Rattle.soqe_show.specs.Dress.{name_or, sort_name, var_name, sym_name, pred_name}
use Rattle.soqe_show.specs.Placed.{IsWord}
use Rattle.soqe_show.specs.FormBack.{is_declared}
use Rattle.soqe_show.proofs.BackLookups.{are_ordinary, ordinary_known}
use Rattle.soqe_show.proofs.BackTagged.{variable_word, predicate_word, skolem_word, variable_tagged, tag_with}
use Rattle.soqe_show.proofs.BackWords.{ordinary_word}

-- A text is a word that stands for this.
pub record Means (ds : List Declaration) (ks : List SkolemSig) (name : Text) (k : Kind) (n : ℕ) : Type 0 where
  pub found : found_in ds ks name ≡ Some (record { kind = k; num = n })
  pub word : IsWord name

-- A declared name has this number in its numbering.
record HasNumber (ds : List Declaration) (k : NameKind) (n : ℕ) (name : Text) : Type 0 where
  what : Kind
  is : numbering_of what ≡ k
  known : lookup ds name ≡ Some (record { kind = what; num = n })

-- a variable's name, declared or bound
abbrev pub is_variable : Kind → Bool
is_variable kind.VarName = true
is_variable (kind.Free s) = true
is_variable _ = false

-- ---- the kinds of one numbering

variable_kind : (c : Kind) → numbering_of c ≡ numbering.Variable → is_variable c ≡ true
variable_kind c h = by c (ap (λ k. same_numbering k numbering.Variable) h)
  where
    by : (c : Kind) → same_numbering (numbering_of c) numbering.Variable ≡ true → is_variable c ≡ true
    by kind.VarName h = refl
    by (kind.Free s) h = refl
    by kind.Sort h = absurd (true≢false (sym h))
    by (kind.Fun args result) h = absurd (true≢false (sym h))
    by (kind.Pred args) h = absurd (true≢false (sym h))
    by kind.Rel h = absurd (true≢false (sym h))
    by kind.Prop h = absurd (true≢false (sym h))
    by kind.PredName h = absurd (true≢false (sym h))

sort_kind : (c : Kind) → numbering_of c ≡ numbering.Sort → c ≡ kind.Sort
sort_kind c h = by c (ap (λ k. same_numbering k numbering.Sort) h)
  where
    by : (c : Kind) → same_numbering (numbering_of c) numbering.Sort ≡ true → c ≡ kind.Sort
    by kind.Sort h = refl
    by kind.VarName h = absurd (true≢false (sym h))
    by (kind.Free s) h = absurd (true≢false (sym h))
    by (kind.Fun args result) h = absurd (true≢false (sym h))
    by (kind.Pred args) h = absurd (true≢false (sym h))
    by kind.Rel h = absurd (true≢false (sym h))
    by kind.Prop h = absurd (true≢false (sym h))
    by kind.PredName h = absurd (true≢false (sym h))

bound_kind : (c : Kind) → numbering_of c ≡ numbering.BoundPred → c ≡ kind.PredName
bound_kind c h = by c (ap (λ k. same_numbering k numbering.BoundPred) h)
  where
    by : (c : Kind) → same_numbering (numbering_of c) numbering.BoundPred ≡ true → c ≡ kind.PredName
    by kind.PredName h = refl
    by kind.Sort h = absurd (true≢false (sym h))
    by kind.VarName h = absurd (true≢false (sym h))
    by (kind.Free s) h = absurd (true≢false (sym h))
    by (kind.Fun args result) h = absurd (true≢false (sym h))
    by (kind.Pred args) h = absurd (true≢false (sym h))
    by kind.Rel h = absurd (true≢false (sym h))
    by kind.Prop h = absurd (true≢false (sym h))

pred_kind : (c : Kind) → numbering_of c ≡ numbering.Pred → (args : List ℕ) × (c ≡ kind.Pred args)
pred_kind c h = by c (ap (λ k. same_numbering k numbering.Pred) h)
  where
    by : (c : Kind) → same_numbering (numbering_of c) numbering.Pred ≡ true → (args : List ℕ) × (c ≡ kind.Pred args)
    by (kind.Pred args) h = (args, refl)
    by kind.Sort h = absurd (true≢false (sym h))
    by kind.VarName h = absurd (true≢false (sym h))
    by (kind.Free s) h = absurd (true≢false (sym h))
    by (kind.Fun args result) h = absurd (true≢false (sym h))
    by kind.Rel h = absurd (true≢false (sym h))
    by kind.Prop h = absurd (true≢false (sym h))
    by kind.PredName h = absurd (true≢false (sym h))

fun_kind : (c : Kind) → numbering_of c ≡ numbering.Fun → (k : FunSort) × (c ≡ kind.Fun k.args k.result)
fun_kind c h = by c (ap (λ k. same_numbering k numbering.Fun) h)
  where
    by : (c : Kind) → same_numbering (numbering_of c) numbering.Fun ≡ true → (k : FunSort) × (c ≡ kind.Fun k.args k.result)
    by (kind.Fun args result) h = (record { args = args; result = result }, refl)
    by kind.Sort h = absurd (true≢false (sym h))
    by kind.VarName h = absurd (true≢false (sym h))
    by (kind.Free s) h = absurd (true≢false (sym h))
    by (kind.Pred args) h = absurd (true≢false (sym h))
    by kind.Rel h = absurd (true≢false (sym h))
    by kind.Prop h = absurd (true≢false (sym h))
    by kind.PredName h = absurd (true≢false (sym h))

-- ---- numbers without a name

not_there : {X : Type 0} (xs : List X) (n : ℕ) → slice_get xs n ≡ None → n < length xs → ⊥
not_there [] n h lt = absurd (omega (arith, lt))
not_there (x ∷ xs) zero h lt = none-some x (sym h)
not_there (x ∷ xs) (suc n) h lt = not_there xs n h (omega (arith, lt))

item_there : {X : Type 0} (xs : List X) (n : ℕ) → slice_get xs n ≡ None → nat_lt n (length xs) ≡ false
item_there xs n h = bool_cases (λ b. b ≡ false) (nat_lt n (length xs)) (λ e. absurd (not_there xs n h (ltb-true n (length xs) e))) (λ e. refl)

-- a number without a name has no entry
no_entry : (ds : List Declaration) (k : NameKind) (n : ℕ) → name_of ds k n ≡ None → slice_get (of_numbering k ds) n ≡ None
no_entry ds k n h = by (slice_get (of_numbering k ds) n) h
  where
    by : (r : Option Declaration) → name_from r ≡ None → r ≡ None
    by None h = refl
    by (Some d) h = absurd (none-some d.name (sym h))

-- and stands past the end of its table
past_end : (ds : List Declaration) (k : NameKind) (n : ℕ) → name_of ds k n ≡ None → nat_lt n (count_of k ds) ≡ false
past_end ds k n h = item_there (of_numbering k ds) n (no_entry ds k n h)

-- ---- what printed names stand for

module _ (ds : List Declaration) (ks : List SkolemSig) where
  known_means : (name : Text) (c k : Kind) (n : ℕ) → lookup ds name ≡ Some (record { kind = c; num = n }) → c ≡ k → IsWord name → Means ds ks name k n
  known_means name c k n known is word =
      record { found = ap (λ o. option_or o (found_by_tag ds ks name)) known ∙ ap (λ k. Some (record { kind = k; num = n })) is; word = word }

module _ (ds : List Declaration) (ks : List SkolemSig) (distinct : HasDistinctNames ds) (ordinary : are_ordinary ds ≡ true) where
  numbered : (k : NameKind) (n : ℕ) (name : Text) → name_of ds k n ≡ Some name → HasNumber ds k n name
  numbered k n name h = let r = lookup-name_of ds k n name distinct h in record { what = r.0.kind; is = r.2; known = r.3 }

  word_known : (name : Text) (f : Found) → lookup ds name ≡ Some f → IsWord name
  word_known name f known = ordinary_word name (ordinary_known ds name f ordinary known)

  -- a tagged name is not declared
  undeclared : (bs : Text) → lookup ds (95 ∷ bs) ≡ None
  undeclared bs = by (lookup ds (95 ∷ bs)) refl
    where
      by : (o : Option Found) → lookup ds (95 ∷ bs) ≡ o → o ≡ None
      by None e = refl
      by (Some f) e = absurd (true≢false (sym (ordinary_known ds (95 ∷ bs) f ordinary e)))

  pub sort_means : (s : ℕ) → is_declared ds s ≡ true → Means ds ks (sort_name ds s) kind.Sort s
  sort_means s h = by (name_of ds numbering.Sort s) refl
    where
      by : (o : Option Text) → name_of ds numbering.Sort s ≡ o → Means ds ks (name_or o [] s) kind.Sort s
      by None e = absurd (true≢false (sym h ∙ past_end ds numbering.Sort s e))
      by (Some name) e = let d = numbered numbering.Sort s name e in known_means ds ks name d.what kind.Sort s d.known (sort_kind d.what d.is) (word_known name _ d.known)

  pub predicate_means : (n : ℕ) (args : List ℕ) → pred_sorts_of ds n ≡ Some args → Means ds ks (pred_name ds (Decl n)) (kind.Pred args) n
  predicate_means n args h = by (name_of ds numbering.Pred n) refl
    where
      by : (o : Option Text) → name_of ds numbering.Pred n ≡ o → Means ds ks (name_or o [] n) (kind.Pred args) n
      by None e = absurd (none-some args (sym (ap pred_sorts_from (no_entry ds numbering.Pred n e)) ∙ h))
      by (Some name) e =
          let d = numbered numbering.Pred n name e in
          let c = pred_kind d.what d.is in
          let sorts = pred_found ds name c.0 n (d.known ∙ ap (λ k. Some (record { kind = k; num = n })) c.1) in
          known_means ds ks name d.what (kind.Pred args) n d.known (c.1 ∙ ap kind.Pred (same_Some c.0 args (sym sorts ∙ h))) (word_known name _ d.known)

  -- the printed name of a bound predicate
  pub bound_means : (n : ℕ) → n < 2 ^ 64 → Means ds ks (pred_name ds (Bound n)) kind.PredName n
  bound_means n small = by (name_of ds numbering.BoundPred n) refl
    where
      by : (o : Option Text) → name_of ds numbering.BoundPred n ≡ o → Means ds ks (name_or o (codes "_p") n) kind.PredName n
      by None e = record {
        found = ap (λ o. option_or o (found_by_tag ds ks (codes "_p" ++ decimal n))) (undeclared (112 ∷ decimal n))
            ∙ tag_with ds ks 112 n refl small ∙ ap (λ b. cond b None (Some (record { kind = kind.PredName; num = n }))) (past_end ds numbering.BoundPred n e);
        word = predicate_word n small;
      }
      by (Some name) e = let d = numbered numbering.BoundPred n name e in known_means ds ks name d.what kind.PredName n d.known (bound_kind d.what d.is) (word_known name _ d.known)

  -- the printed name of a variable
  pub variable_means : (n : ℕ) → n < 2 ^ 64 → (c : Kind) × (is_variable c ≡ true) × Means ds ks (var_name ds n) c n
  variable_means n small = by (name_of ds numbering.Variable n) refl
    where
      by : (o : Option Text) → name_of ds numbering.Variable n ≡ o → (c : Kind) × (is_variable c ≡ true) × Means ds ks (name_or o (codes "_") n) c n
      by None e = (
        kind.VarName,
        refl,
        record {
          found = ap (λ o. option_or o (found_by_tag ds ks (codes "_" ++ decimal n))) (undeclared (decimal n))
              ∙ variable_tagged ds ks n small ∙ ap (λ b. cond b None (Some (record { kind = kind.VarName; num = n }))) (past_end ds numbering.Variable n e);
          word = variable_word n small;
        },
      )
      by (Some name) e = let d = numbered numbering.Variable n name e in (d.what, variable_kind d.what d.is, known_means ds ks name d.what d.what n d.known refl (word_known name _ d.known))

  -- the printed name of a declared function, which stands for it again
  pub function_means : (n : ℕ) (k : FunSort) → fun_sort_of ds n ≡ Some k → Means ds ks (sym_name ds (Fun n)) (kind.Fun k.args k.result) n × (symbol_in ds (sym_name ds (Fun n)) n ≡ Fun n)
  function_means n k h = by (name_of ds numbering.Fun n) refl
    where
      by : (o : Option Text) → name_of ds numbering.Fun n ≡ o → Means ds ks (name_or o [] n) (kind.Fun k.args k.result) n × (symbol_in ds (name_or o [] n) n ≡ Fun n)
      by None e = absurd (none-some k (sym (ap fun_sort_from (no_entry ds numbering.Fun n e)) ∙ h))
      by (Some name) e =
          let d = numbered numbering.Fun n name e in
          let c = fun_kind d.what d.is in
          let sorts = fun_found ds name c.0.args c.0.result n (d.known ∙ ap (λ k. Some (record { kind = k; num = n })) c.1) in
          let same : c.0 ≡ k = same_Some c.0 k (sym sorts ∙ h) in (
            known_means ds ks name d.what (kind.Fun k.args k.result) n d.known (c.1 ∙ (λ i. kind.Fun (same i).args (same i).result)) (word_known name _ d.known),
            ap (λ o. symbol_of o n) d.known,
          )

  -- the printed name of a Skolem function
  pub skolem_means : (n : ℕ) (k : FunSort) → skolem_sort_of ks n ≡ Some k → n < 2 ^ 64
      → Means ds ks (sym_name ds (Skolem n)) (kind.Fun k.args k.result) n × (symbol_in ds (sym_name ds (Skolem n)) n ≡ Skolem n)
  skolem_means n k h small = (
    record {
      found = ap (λ o. option_or o (found_by_tag ds ks (codes "_f" ++ decimal n))) (undeclared (102 ∷ decimal n))
          ∙ tag_with ds ks 102 n refl small ∙ ap (skolem_found n) h;
      word = skolem_word n small;
    },
    ap (λ o. symbol_of o n) (undeclared (102 ∷ decimal n)),
  )
