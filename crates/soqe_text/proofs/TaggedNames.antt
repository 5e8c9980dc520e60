-- What is found for a name in a formula by itself: what the tables have.
use Rattle.std.specs.Prelude.{ℕ, ◌≡◌, ◌==◌, Bool, true, false, cond, nat_lt, List, [], ◌∷◌, Option, Some, None, refl}
use Rattle.std.proofs.Common.{sym, ◌∙◌, ap, true≢false}
use Rattle.std.proofs.lemmas.Option.{none-some}
use Rattle.std.specs.Option.{option_or}
use Rattle.std.specs.Str.Parse.{digits_value}
use Rattle.soqe_lex.specs.Lexical.{is_number}
use Rattle.soqe_signature.specs.declared.kinds.Kind.TheVariants as kind
use Rattle.soqe_signature.specs.declared.skolems.SkolemSig.{SkolemSig}
use Rattle.soqe_term.specs.declared.term.Var.{Var}
use Rattle.soqe_signature.specs.SkolemSigs.{skolem_sort_of}
use Rattle.soqe_term.specs.Sorting.{FunSort, sym_sort}
use Rattle.soqe_signature.specs.Declarations.{Declaration, Found, lookup, pred_sorts_of}
use Rattle.soqe_form.specs.declared.form.PVar.{PVar}
use Rattle.soqe_signature.specs.Scope.{sorting_for}
use Rattle.soqe_text.specs.Meanings.{unnamed, skolem_found, tag_found, tagged_found, found_by_tag, found_in, symbol_of, symbol_in}
use Rattle.soqe_text.proofs.Entries.{fun_found, pred_found}

abbrev is_there : Option Found → Bool
is_there None = false
is_there (Some f) = elim f.kind [ kind.Fun args result ↦ true | kind.Pred args ↦ true | _ ↦ false ]

abbrev sorts_from : Option Found → Option FunSort
sorts_from None = None
sorts_from (Some f) = elim f.kind [ kind.Fun args result ↦ Some (record { args = args; result = result }) | _ ↦ None ]

abbrev num_from : Option Found → ℕ
num_from None = 0
num_from (Some f) = f.num

module _ (ks : List SkolemSig) where
  -- Where a tag gives a function, that is a Skolem function of the table; it gives no declared predicate.
  record Tags (o : Option Found) : Type 0 where
    function : (args : List ℕ) (result num : ℕ) → o ≡ Some (record { kind = kind.Fun args result; num = num })
        → skolem_sort_of ks num ≡ Some (record { args = args; result = result })
    predicate : (args : List ℕ) (num : ℕ) → o ≡ Some (record { kind = kind.Pred args; num = num }) → ⊥

  tags_none : Tags None
  tags_none = record { function = λ args result num h. absurd (none-some _ h); predicate = λ args num h. none-some _ h }

  tags_cond : (b : Bool) (x y : Option Found) → Tags x → Tags y → Tags (cond b x y)
  tags_cond true x y h k = h
  tags_cond false x y h k = k

  -- a variable or a bound predicate
  tags_other : (f : Found) → is_there (Some f) ≡ false → Tags (Some f)
  tags_other f h = record {
    function = λ args result num e. absurd (true≢false (sym (ap is_there e) ∙ h));
    predicate = λ args num e. true≢false (sym (ap is_there e) ∙ h);
  }

  tags_skolem : (n : ℕ) (r : Option FunSort) → skolem_sort_of ks n ≡ r → Tags (skolem_found n r)
  tags_skolem n None e = tags_none
  tags_skolem n (Some k) e = record {
    function = λ args result num h. ap (skolem_sort_of ks) (sym (ap num_from h)) ∙ e ∙ ap sorts_from h;
    predicate = λ args num h. none-some _ (sym (ap sorts_from h));
  }

  module _ (ds : List Declaration) where
    tags_unnamed : (count n : ℕ) (f : Found) → is_there (Some f) ≡ false → Tags (unnamed count n f)
    tags_unnamed count n f h = tags_cond (nat_lt n count) None (Some f) tags_none (tags_other f h)

    tags_tag : (tag n : ℕ) → Tags (tag_found ds ks tag n)
    tags_tag tag n = tags_cond (tag == 112) _ _ (tags_unnamed _ n _ refl) (tags_cond (tag == 102) _ _ (tags_skolem n (skolem_sort_of ks n) refl) tags_none)

    tags_behind : (bs : List ℕ) → Tags (tagged_found ds ks bs)
    tags_behind [] = tags_none
    tags_behind (b ∷ bs) =
        tags_cond (is_number (b ∷ bs)) _ _ (tags_unnamed _ (digits_value 10 (b ∷ bs)) _ refl)
        (tags_cond (is_number bs) _ _ (tags_tag b (digits_value 10 bs)) tags_none)

    tags_name : (name : List ℕ) → Tags (found_by_tag ds ks name)
    tags_name [] = tags_none
    tags_name (b ∷ bs) = tags_cond (b == 95) _ _ (tags_behind bs) tags_none

-- a function that is found has its sorts
pub function_found : (ds : List Declaration) (ks : List SkolemSig) (xs : List Var) (ps : List PVar) (name : List ℕ) (args : List ℕ) (result num : ℕ)
    → found_in ds ks name ≡ Some (record { kind = kind.Fun args result; num = num })
    → sym_sort (sorting_for ds ks xs ps) (symbol_in ds name num) ≡ Some (record { args = args; result = result })
function_found ds ks xs ps name args result num h = by (lookup ds name) refl h
  where
    by : (found : Option Found) → lookup ds name ≡ found → option_or found (found_by_tag ds ks name) ≡ Some (record { kind = kind.Fun args result; num = num })
        → sym_sort (sorting_for ds ks xs ps) (symbol_of found num) ≡ Some (record { args = args; result = result })
    by None e h = (tags_name ks ds name).function args result num h
    by (Some f) e h = fun_found ds name args result num (e ∙ h)

-- a declared predicate that is found has its argument sorts
pub predicate_there : (ds : List Declaration) (ks : List SkolemSig) (name : List ℕ) (args : List ℕ) (num : ℕ)
    → found_in ds ks name ≡ Some (record { kind = kind.Pred args; num = num }) → pred_sorts_of ds num ≡ Some args
predicate_there ds ks name args num h = by (lookup ds name) refl h
  where
    by : (found : Option Found) → lookup ds name ≡ found → option_or found (found_by_tag ds ks name) ≡ Some (record { kind = kind.Pred args; num = num })
        → pred_sorts_of ds num ≡ Some args
    by None e h = absurd ((tags_name ks ds name).predicate args num h)
    by (Some f) e h = pred_found ds name args num (e ∙ h)
