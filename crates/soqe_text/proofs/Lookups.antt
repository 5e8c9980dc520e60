-- What a look-up by tables says of functions, and what is known after entries change.
use Rattle.std.specs.Prelude.{ℕ, ◌≡◌, Bool, true, false, cond, eqb, List, Option, Some, None, refl}
use Rattle.std.proofs.Common.{sym, ◌∙◌, ap, subst}
use Rattle.std.specs.Map.{lookup as entry}
use Rattle.std.specs.Option.{unwrap_or}
use Rattle.std.proofs.lemmas.Bool.{eqb-true}
use Rattle.soqe_term.specs.declared.term.Sym.{Sym}
use Rattle.soqe_term.specs.declared.term.Sym.TheVariants.{Fun, Skolem}
use Rattle.soqe_signature.specs.Declarations.{Declaration, lookup}
use Rattle.soqe_number.specs.Updates.{changed}
use Rattle.soqe_number.proofs.Equalities.{eqb_sym}
use Rattle.soqe_text.specs.declared.lookup.Meaning.{Meaning}
use Rattle.soqe_text.specs.Lookups.{found_of, IsNamedBy, Places, ByList, ByNumber, known_at, with_known, entered}
use Rattle.soqe_text.specs.Meanings.{symbol_of, symbol_in}
use Rattle.soqe_text.proofs.Bindings.{restored}

-- a function that is declared has a declared function's symbol
pub named_declared : (ds : List Declaration) (name : List ℕ) (m : Meaning) → lookup ds name ≡ Some (found_of m) → IsNamedBy (λ n. Fun n) m → IsNamedBy (symbol_in ds name) m
named_declared ds name m h named = subst (λ (s : ℕ → Sym). IsNamedBy s m) (sym (ap symbol_of h)) named

-- a function that is not declared has a Skolem function's symbol
pub named_tagged : (ds : List Declaration) (name : List ℕ) (m : Meaning) → lookup ds name ≡ None → IsNamedBy (λ n. Skolem n) m → IsNamedBy (symbol_in ds name) m
named_tagged ds name m h named = subst (λ (s : ℕ → Sym). IsNamedBy s m) (sym (ap symbol_of h)) named

module _ {X : Type 0} where
  unwrapped : (b c : Bool) (to : Option X) (o : Option (Option X)) → b ≡ c → unwrap_or (cond b (Some to) o) None ≡ cond c to (unwrap_or o None)
  unwrapped true true to o e = refl
  unwrapped false false to o e = refl
  unwrapped true false to o e = cc
  unwrapped false true to o e = cc

  -- what is known after one number was entered
  pub entered-set : (old new : List (ℕ × Option X)) (n : ℕ) (to : Option X) → ((q : ℕ) → entry (eqb q) new ≡ cond (eqb n q) (Some to) (entry (eqb q) old))
      → entered new ≡ changed (entered old) n to
  unfolding entered
  entered-set old new n to h = λ i q. (ap (λ o. unwrap_or o None) (h q) ∙ unwrapped (eqb n q) (eqb q n) to (entry (eqb q) old) (eqb_sym n q)) i

  changed_back : (f : ℕ → Option X) (n : ℕ) (x : Option X) → changed (changed f n x) n (f n) ≡ f
  changed_back f n x = λ i m. by m (eqb m n) refl i
    where
      by : (m : ℕ) (b : Bool) → eqb m n ≡ b → cond b (f n) (cond b x (f m)) ≡ f m
      by m true e = ap f (sym (eqb-true m n e))
      by m false e = refl

  -- what was made known is taken back
  pub taken_back : (p : Places X) (n : ℕ) (x old : Option X) → old ≡ known_at p n → with_known (with_known p n x) n old ≡ p
  taken_back (ByList xs) n x old h = ap ByList (restored xs n x old None h)
  taken_back (ByNumber f) n x old h = ap (λ o. ByNumber (changed (changed f n x) n o)) h ∙ ap ByNumber (changed_back f n x)
