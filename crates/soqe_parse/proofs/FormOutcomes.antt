-- A text that falls into tokens has a formula by itself or a place of its fault: as for problems (Outcomes), either the
-- machine lives through all tokens, or there is a first one that leads to its dead state.
use Rattle.std.proofs.Common.{◌≡◌, ℕ, zero, suc, ◌+◌, ◌≤◌, ◌<◌, List, [], length, map, Option, Some, None, refl, ap, subst, ◌⊎◌, inl, inr, arith, add-one}
use Rattle.std.proofs.lemmas.List.{take_all}
use Rattle.std.proofs.lemmas.Option.{slice_get_cases}
use Rattle.soqe_lex.specs.declared.token.Token.{Token}
use Rattle.soqe_lex.specs.Lexical.{Lexed}
use Rattle.soqe_syntax.specs.declared.piece.Span.{Span}
use Rattle.soqe_syntax.specs.declared.piece.Piece.{Piece}
use Rattle.soqe_syntax.specs.Grammar.{Tree}
use Rattle.soqe_syntax.specs.Pieces.{piece_of}
use Rattle.soqe_parse.specs.Machine.{State, Want, Dead, run, parse}
use Rattle.soqe_parse.specs.Formulas.{HasForm, IsFormFaultIn, IsFormFaultAt, FormOrFault}
use Rattle.soqe_parse.proofs.Places.{front}
use Rattle.soqe_parse.proofs.FormPlaces.{dead-token, stopped-byte, early-end, form-found}

dead-or-living : (x : State) → (x ≡ Dead) ⊎ (x ≡ Dead → ⊥)
dead-or-living Dead = inl refl
dead-or-living _ = inr (λ e. cc)

module _ (bytes : List ℕ) (ts : List Token) where
  abbrev Lives : ℕ → Type 0
  Lives n = run (Want []) (front bytes n ts) ≡ Dead → ⊥

  -- The token at m is the first that leads to the dead state.
  record Dies (m : ℕ) : Type 0 where
    within : m < length ts
    before : Lives m
    dead : run (Want []) (front bytes (m + 1) ts) ≡ Dead

  lives : (n : ℕ) → n ≤ length ts → Lives n ⊎ ((m : ℕ) × Dies m)
  lives zero h = inl (λ e. cc)
  lives (suc n) h =
      elim (lives n (omega arith)) [
        | inr d ↦ inr d
        | inl l ↦ elim (dead-or-living (run (Want []) (front bytes (suc n) ts))) [
          | inr l' ↦ inl l'
          | inl e ↦ inr (n, record { within = omega arith; before = l; dead = rw add-one e })
        ]
      ]

  token-fault : (stop : Option ℕ) (m : ℕ) → Dies m → (at : ℕ) × IsFormFaultIn bytes ts stop at
  token-fault stop m d =
      elim (slice_get_cases ts m).1 [
        | inl x ↦ (x.0.start, dead-token bytes ts stop m x.0 x.2 d.before d.dead)
        | inr x ↦ absurd (omega (arith, x.0, d.within))
      ]

  all-pieces : front bytes (length ts) ts ≡ map (piece_of bytes) ts
  all-pieces = ap (map (piece_of bytes)) (take_all (length ts) ts (omega arith))

  abbrev Outcome : Type 0
  Outcome = ((p : Tree Span) × HasForm bytes p) ⊎ ((at : ℕ) × IsFormFaultAt bytes at)

  at-end : Lexed 0 bytes ts None → (run (Want []) (map (piece_of bytes) ts) ≡ Dead → ⊥) → (r : Option (Tree Span)) → parse (map (piece_of bytes) ts) ≡ r → Outcome
  at-end l living None e = inr (length bytes, record { tokens = ts; stop = None; lexed = l; fault = early-end bytes ts living e })
  at-end l living (Some p) e = inl (p, form-found bytes ts p l e)

  lived : (stop : Option ℕ) → Lexed 0 bytes ts stop → Lives (length ts) → Outcome
  lived (Some at) l v =
      let living = subst (λ (x : List Piece). run (Want []) x ≡ Dead → ⊥) all-pieces v in
      inr (at, record { tokens = ts; stop = Some at; lexed = l; fault = stopped-byte bytes ts at living })
  lived None l v =
      let living = subst (λ (x : List Piece). run (Want []) x ≡ Dead → ⊥) all-pieces v in
      at-end l living (parse (map (piece_of bytes) ts)) refl

  outcome : (stop : Option ℕ) → Lexed 0 bytes ts stop → Outcome
  outcome stop l =
      elim (lives (length ts) (omega arith)) [
        | inl v ↦ lived stop l v
        | inr d ↦ (let f = token-fault stop d.0 d.1 in inr (f.0, record { tokens = ts; stop = stop; lexed = l; fault = f.1 }))
      ]

pub form_or_fault : FormOrFault
form_or_fault bytes ts stop l = outcome bytes ts stop l
