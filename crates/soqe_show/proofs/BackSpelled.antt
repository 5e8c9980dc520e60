-- A formula that some text spells by itself has known binders: the numbers and sorts of its names are those of declarations,
-- or stand in tagged names.
use Rattle.std.proofs.Common.{◌≡◌, ℕ, ◌<◌, ◌^◌, ◌==◌, Bool, true, false, cond, nat_lt, List, [], ◌∷◌, length, Option, Some, None, slice_get, refl, ◌∙◌, ap, sym, arith, true≢false}
use Rattle.std.specs.Option.{option_or}
use Rattle.std.specs.Str.Parse.{digits_value}
use Rattle.std.proofs.lemmas.Bool.{lt-ltb}
use Rattle.std.proofs.lemmas.Option.{none-some, same_Some, slice_get_within}
use Rattle.soqe_lex.specs.Lexical.{is_number}
use Rattle.soqe_signature.specs.declared.kinds.Kind.{Kind}
use Rattle.soqe_signature.specs.declared.kinds.Kind.TheVariants as kind
use Rattle.soqe_signature.specs.declared.kinds.NameKind.{NameKind}
use Rattle.soqe_signature.specs.declared.kinds.NameKind.TheVariants as numbering
use Rattle.soqe_signature.specs.declared.skolems.SkolemSig.{SkolemSig}
use Rattle.soqe_term.specs.Sorting.{FunSort}
use Rattle.soqe_signature.specs.SkolemSigs.{skolem_sort_of}
use Rattle.soqe_signature.specs.Declarations.{Declaration, Found, numbering_of, of_numbering, count_of, lookup, name_from, name_of}
use Rattle.soqe_number.proofs.Choices.{and_second}
use Rattle.soqe_signature.proofs.Declared.{name_of-lookup, count_of-le}
use Rattle.soqe_text.specs.Meanings.{unnamed, skolem_found, tag_found, tagged_found, found_by_tag, found_in}
use Rattle.soqe_text.specs.Naming.{variable_place, predicate_place, sort_of_found}
use Rattle.soqe_text.specs.Uses.{is_no_sort, num_of_found}
use Rattle.soqe_text.specs.SpelledForm.{refused_binder}
use Rattle.soqe_show.specs.FormBack.{is_declared, is_small}

-- What a tag gives is no sort, and its number can be read.
record Tags (o : Option Found) : Type 0 where
  no_sort : is_no_sort o ≡ true
  small : (f : Found) → o ≡ Some f → is_small f.num ≡ true

tags_none : Tags None
tags_none = record { no_sort = refl; small = λ f h. absurd (none-some f h) }

tags_some : (f : Found) → is_no_sort (Some f) ≡ true → is_small f.num ≡ true → Tags (Some f)
tags_some f h k = record { no_sort = h; small = λ g e. ap (λ f. is_small f.num) (sym (same_Some f g e)) ∙ k }

tags_cond : (b : Bool) (x y : Option Found) → (b ≡ true → Tags x) → Tags y → Tags (cond b x y)
tags_cond true x y h k = h refl
tags_cond false x y h k = k

tags_unnamed : (count n : ℕ) (f : Found) → Tags (Some f) → Tags (unnamed count n f)
tags_unnamed count n f h = tags_cond (nat_lt n count) None (Some f) (λ e. tags_none) h

tags_skolem : (n : ℕ) (k : Option FunSort) → is_small n ≡ true → Tags (skolem_found n k)
tags_skolem n None h = tags_none
tags_skolem n (Some k) h = tags_some _ refl h

number_small : (bs : List ℕ) → is_number bs ≡ true → is_small (digits_value 10 bs) ≡ true
number_small bs h = and_second _ (is_small (digits_value 10 bs)) h

module _ (ds : List Declaration) (ks : List SkolemSig) where
  tags_tag : (tag n : ℕ) → is_small n ≡ true → Tags (tag_found ds ks tag n)
  tags_tag tag n h =
      tags_cond (tag == 112) _ _ (λ e. tags_unnamed _ n _ (tags_some _ refl h))
      (tags_cond (tag == 102) _ _ (λ e. tags_skolem n (skolem_sort_of ks n) h) tags_none)

  tags_behind : (bs : List ℕ) → Tags (tagged_found ds ks bs)
  tags_behind [] = tags_none
  tags_behind (b ∷ bs) =
      tags_cond (is_number (b ∷ bs)) _ _ (λ e. tags_unnamed _ (digits_value 10 (b ∷ bs)) _ (tags_some _ refl (number_small (b ∷ bs) e)))
      (tags_cond (is_number bs) _ _ (λ e. tags_tag b (digits_value 10 bs) (number_small bs e)) tags_none)

  tags_name : (name : List ℕ) → Tags (found_by_tag ds ks name)
  tags_name [] = tags_none
  tags_name (b ∷ bs) = tags_cond (b == 95) _ _ (λ e. tags_behind bs) tags_none

-- the number of a declared name stands in its table
number_within : (ds : List Declaration) (k : NameKind) (n : ℕ) (name : List ℕ) → name_of ds k n ≡ Some name → n < count_of k ds
number_within ds k n name h = by (slice_get (of_numbering k ds) n) refl h
  where
    by : (r : Option Declaration) → slice_get (of_numbering k ds) n ≡ r → name_from r ≡ Some name → n < count_of k ds
    by None e h = absurd (none-some name h)
    by (Some d) e h = slice_get_within (of_numbering k ds) n d e

module _ (ds : List Declaration) (ks : List SkolemSig) (few : length ds < 2 ^ 64) where
  -- each number that is found can be read
  pub found_small : (name : List ℕ) (f : Found) → found_in ds ks name ≡ Some f → is_small f.num ≡ true
  found_small name f h = by (lookup ds name) refl h
    where
      by : (o : Option Found) → lookup ds name ≡ o → option_or o (found_by_tag ds ks name) ≡ Some f → is_small f.num ≡ true
      by None e h = (tags_name ds ks name).small f h
      by (Some g) e h =
          let within = number_within ds (numbering_of g.kind) g.num name (name_of-lookup ds name g e) in
          let count = count_of-le (numbering_of g.kind) ds in
          ap (λ f. is_small f.num) (sym (same_Some g f h)) ∙ lt-ltb g.num (2 ^ 64) (omega (arith, within, count, few))

  -- each sort that is found is declared
  pub sort_there : (name : List ℕ) → is_no_sort (found_in ds ks name) ≡ false → is_declared ds (sort_of_found (found_in ds ks name)) ≡ true
  sort_there name h = by (lookup ds name) refl h
    where
      by_kind : (k : Kind) (n : ℕ) → lookup ds name ≡ Some (record { kind = k; num = n }) → is_no_sort (Some (record { kind = k; num = n })) ≡ false
          → is_declared ds (sort_of_found (Some (record { kind = k; num = n }))) ≡ true
      by_kind kind.Sort n e h = lt-ltb n (count_of numbering.Sort ds) (number_within ds numbering.Sort n name (name_of-lookup ds name (record { kind = kind.Sort; num = n }) e))
      by_kind kind.VarName n e h = absurd (true≢false h)
      by_kind (kind.Free s) n e h = absurd (true≢false h)
      by_kind (kind.Fun args result) n e h = absurd (true≢false h)
      by_kind (kind.Pred args) n e h = absurd (true≢false h)
      by_kind kind.Rel n e h = absurd (true≢false h)
      by_kind kind.Prop n e h = absurd (true≢false h)
      by_kind kind.PredName n e h = absurd (true≢false h)

      by : (o : Option Found) → lookup ds name ≡ o → is_no_sort (option_or o (found_by_tag ds ks name)) ≡ false
          → is_declared ds (sort_of_found (option_or o (found_by_tag ds ks name))) ≡ true
      by None e h = absurd (true≢false (sym (tags_name ds ks name).no_sort ∙ h))
      by (Some f) e h = by_kind f.kind f.num e h

  -- a variable at its binder, and the names behind it
  pub variable_there : (name : List ℕ) (at : ℕ) (behind : ℕ → Option ℕ) → refused_binder (variable_place (found_in ds ks name)) at behind ≡ None
      → (is_small (num_of_found (found_in ds ks name)) ≡ true) × (behind (num_of_found (found_in ds ks name)) ≡ None)
  variable_there name at behind h = by (found_in ds ks name) (found_small name) h
    where
      by_kind : (k : Kind) (n : ℕ) → is_small n ≡ true → refused_binder (variable_place (Some (record { kind = k; num = n }))) at behind ≡ None → (is_small n ≡ true) × (behind n ≡ None)
      by_kind kind.VarName n s h = (s, h)
      by_kind (kind.Free r) n s h = (s, h)
      by_kind kind.Sort n s h = absurd (none-some at (sym h))
      by_kind (kind.Fun args result) n s h = absurd (none-some at (sym h))
      by_kind (kind.Pred args) n s h = absurd (none-some at (sym h))
      by_kind kind.Rel n s h = absurd (none-some at (sym h))
      by_kind kind.Prop n s h = absurd (none-some at (sym h))
      by_kind kind.PredName n s h = absurd (none-some at (sym h))

      by : (o : Option Found) → ((f : Found) → o ≡ Some f → is_small f.num ≡ true) → refused_binder (variable_place o) at behind ≡ None
          → (is_small (num_of_found o) ≡ true) × (behind (num_of_found o) ≡ None)
      by None s h = absurd (none-some at (sym h))
      by (Some f) s h = by_kind f.kind f.num (s f refl) h

  -- a predicate at its binder, and the names behind it
  pub predicate_there : (name : List ℕ) (at : ℕ) (behind : ℕ → Option ℕ) → refused_binder (predicate_place (found_in ds ks name)) at behind ≡ None
      → (is_small (num_of_found (found_in ds ks name)) ≡ true) × (behind (num_of_found (found_in ds ks name)) ≡ None)
  predicate_there name at behind h = by (found_in ds ks name) (found_small name) h
    where
      by_kind : (k : Kind) (n : ℕ) → is_small n ≡ true → refused_binder (predicate_place (Some (record { kind = k; num = n }))) at behind ≡ None → (is_small n ≡ true) × (behind n ≡ None)
      by_kind kind.PredName n s h = (s, h)
      by_kind kind.VarName n s h = absurd (none-some at (sym h))
      by_kind (kind.Free r) n s h = absurd (none-some at (sym h))
      by_kind kind.Sort n s h = absurd (none-some at (sym h))
      by_kind (kind.Fun args result) n s h = absurd (none-some at (sym h))
      by_kind (kind.Pred args) n s h = absurd (none-some at (sym h))
      by_kind kind.Rel n s h = absurd (none-some at (sym h))
      by_kind kind.Prop n s h = absurd (none-some at (sym h))

      by : (o : Option Found) → ((f : Found) → o ≡ Some f → is_small f.num ≡ true) → refused_binder (predicate_place o) at behind ≡ None
          → (is_small (num_of_found o) ≡ true) × (behind (num_of_found o) ≡ None)
      by None s h = absurd (none-some at (sym h))
      by (Some f) s h = by_kind f.kind f.num (s f refl) h
