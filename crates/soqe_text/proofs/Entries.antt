-- What a look-up says of the declarations: the entry with the number that was found has the name and the kind.
use Rattle.std.specs.Prelude.{ℕ, ◌≡◌, Bool, true, false, cond, List, [], ◌∷◌, ◌++◌, Some, slice_get, refl}
use Rattle.std.proofs.Common.{sym, ◌∙◌, ap, append_assoc}
use Rattle.std.proofs.lemmas.List.Elements.{filter-append}
use Rattle.std.proofs.lemmas.Option.{none-some}
use Rattle.std.proofs.lemmas.Slice.Eq.{bytes_eq-Decides}
use Rattle.std.specs.Option.{unwrap_or}
use Rattle.std.specs.Str.{bytes_eq}
use Rattle.soqe_signature.specs.declared.kinds.Kind.TheVariants as kind
use Rattle.soqe_signature.specs.Declarations.{Declaration, Found, numbering_of, same_numbering, of_numbering, count_of, lookup, lookup_behind, fun_sort_from, fun_sort_of, pred_sorts_from, pred_sorts_of, free_sort_from, free_sort_of}
use Rattle.soqe_signature.proofs.Declared.{numbered-new}
use Rattle.soqe_number.proofs.Slices.{slice_get-append}

entry_behind : (passed ds : List Declaration) (name : List ℕ) (f : Found) → lookup_behind passed ds name ≡ Some f
    → slice_get (of_numbering (numbering_of f.kind) (passed ++ ds)) f.num ≡ Some (record { name = name; kind = f.kind })
entry_behind passed [] name f h = absurd (none-some f h)
entry_behind passed (c ∷ ds) name f h = by (bytes_eq c.name name) refl h (entry_behind (passed ++ c ∷ []) ds name f)
  where
    here : slice_get (of_numbering (numbering_of c.kind) (passed ++ c ∷ ds)) (count_of (numbering_of c.kind) passed) ≡ Some c
    here =
        ap (λ l. slice_get (of_numbering (numbering_of c.kind) l) (count_of (numbering_of c.kind) passed)) (sym (append_assoc passed (c ∷ []) ds))
        ∙ ap (λ l. slice_get l (count_of (numbering_of c.kind) passed)) (filter-append (λ d. same_numbering (numbering_of d.kind) (numbering_of c.kind)) (passed ++ c ∷ []) ds)
        ∙ slice_get-append (of_numbering (numbering_of c.kind) (passed ++ c ∷ [])) _ _ c (numbered-new passed c)

    by : (b : Bool) → bytes_eq c.name name ≡ b
        → cond b (Some (record { kind = c.kind; num = count_of (numbering_of c.kind) passed })) (lookup_behind (passed ++ c ∷ []) ds name) ≡ Some f
        → (lookup_behind (passed ++ c ∷ []) ds name ≡ Some f → slice_get (of_numbering (numbering_of f.kind) (passed ++ c ∷ [] ++ ds)) f.num ≡ Some (record { name = name; kind = f.kind }))
        → slice_get (of_numbering (numbering_of f.kind) (passed ++ c ∷ ds)) f.num ≡ Some (record { name = name; kind = f.kind })
    by true e h rest =
        let is : record { kind = c.kind; num = count_of (numbering_of c.kind) passed } ≡ f = ap (λ o. unwrap_or o f) h in
        (λ k. slice_get (of_numbering (numbering_of (sym is k).kind) (passed ++ c ∷ ds)) (sym is k).num) ∙ here
        ∙ (λ k. Some (record { name = (bytes_eq-Decides c.name name).0 e k; kind = (is k).kind }))
    by false e h rest = ap (λ l. slice_get (of_numbering (numbering_of f.kind) l) f.num) (sym (append_assoc passed (c ∷ []) ds)) ∙ rest h

-- the entry of a name that is found
pub entry_of : (ds : List Declaration) (name : List ℕ) (f : Found) → lookup ds name ≡ Some f
    → slice_get (of_numbering (numbering_of f.kind) ds) f.num ≡ Some (record { name = name; kind = f.kind })
entry_of ds name f h = entry_behind [] ds name f h

module _ (ds : List Declaration) (name : List ℕ) where
  -- a function that is found has its sorts at its number
  pub fun_found : (args : List ℕ) (result num : ℕ) → lookup ds name ≡ Some (record { kind = kind.Fun args result; num = num })
      → fun_sort_of ds num ≡ Some (record { args = args; result = result })
  fun_found args result num h = ap fun_sort_from (entry_of ds name (record { kind = kind.Fun args result; num = num }) h)

  -- a predicate that is found has its sorts at its number
  pub pred_found : (args : List ℕ) (num : ℕ) → lookup ds name ≡ Some (record { kind = kind.Pred args; num = num }) → pred_sorts_of ds num ≡ Some args
  pred_found args num h = ap pred_sorts_from (entry_of ds name (record { kind = kind.Pred args; num = num }) h)

  -- a free variable that is found has its sort at its number
  pub free_found : (sort num : ℕ) → lookup ds name ≡ Some (record { kind = kind.Free sort; num = num }) → free_sort_of ds num ≡ Some sort
  free_found sort num h = ap free_sort_from (entry_of ds name (record { kind = kind.Free sort; num = num }) h)
