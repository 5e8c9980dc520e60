-- A text that falls into tokens has a problem or a place of its fault.
--
-- Either the machine lives through all tokens, or there is a first one that leads to its dead state (`lives`). In the
-- first case what stops the tokens, or what the machine answers at their end, decides.
use Rattle.std.proofs.Common.{◌≡◌, ℕ, zero, suc, ◌+◌, ◌≤◌, ◌<◌, List, [], length, map, Option, Some, None, refl, ap, subst, ◌⊎◌, inl, inr, arith, add-one}
use Rattle.std.proofs.lemmas.List.{take_all}
use Rattle.std.proofs.lemmas.Option.{slice_get_cases}
use Rattle.soqe_lex.specs.declared.token.Token.{Token}
use Rattle.soqe_lex.specs.Lexical.{Lexed}
use Rattle.soqe_syntax.specs.declared.piece.Span.{Span}
use Rattle.soqe_syntax.specs.declared.piece.Piece.{Piece}
use Rattle.soqe_syntax.specs.Grammar.{Problem}
use Rattle.soqe_syntax.specs.Pieces.{piece_of, HasProblem}
use Rattle.soqe_parse.specs.Items.{State, Between, Dead, run, parse}
use Rattle.soqe_parse.specs.Faults.{IsFaultIn, IsFaultAt}
use Rattle.soqe_parse.specs.Laws.{ProblemOrFault}
use Rattle.soqe_parse.proofs.Places.{front, dead-token, stopped-byte, early-end, problem-found}

dead-or-living : (x : State) → (x ≡ Dead) ⊎ (x ≡ Dead → ⊥)
dead-or-living Dead = inl refl
dead-or-living _ = inr (λ e. cc)

module _ (bytes : List ℕ) (ts : List Token) where
  abbrev Lives : ℕ → Type 0
  Lives n = run (Between []) (front bytes n ts) ≡ Dead → ⊥

  -- The token at m is the first that leads to the dead state.
  record Dies (m : ℕ) : Type 0 where
    within : m < length ts
    before : Lives m
    dead : run (Between []) (front bytes (m + 1) ts) ≡ Dead

  lives : (n : ℕ) → n ≤ length ts → Lives n ⊎ ((m : ℕ) × Dies m)
  lives zero h = inl (λ e. cc)
  lives (suc n) h =
      elim (lives n (omega arith)) [
        | inr d ↦ inr d
        | inl l ↦ elim (dead-or-living (run (Between []) (front bytes (suc n) ts))) [
          | inr l' ↦ inl l'
          | inl e ↦ inr (n, record { within = omega arith; before = l; dead = rw add-one e })
        ]
      ]

  token-fault : (stop : Option ℕ) (m : ℕ) → Dies m → (at : ℕ) × IsFaultIn bytes ts stop at
  token-fault stop m d =
      elim (slice_get_cases ts m).1 [
        | inl x ↦ (x.0.start, dead-token bytes ts stop m x.0 x.2 d.before d.dead)
        | inr x ↦ absurd (omega (arith, x.0, d.within))
      ]

  all-pieces : front bytes (length ts) ts ≡ map (piece_of bytes) ts
  all-pieces = ap (map (piece_of bytes)) (take_all (length ts) ts (omega arith))

  abbrev Outcome : Type 0
  Outcome = ((p : Problem Span) × HasProblem bytes p) ⊎ ((at : ℕ) × IsFaultAt bytes at)

  at-end : Lexed 0 bytes ts None → (run (Between []) (map (piece_of bytes) ts) ≡ Dead → ⊥) → (r : Option (Problem Span)) → parse (map (piece_of bytes) ts) ≡ r → Outcome
  at-end l living None e = inr (length bytes, record { tokens = ts; stop = None; lexed = l; fault = early-end bytes ts living e })
  at-end l living (Some p) e = inl (p, problem-found bytes ts p l e)

  lived : (stop : Option ℕ) → Lexed 0 bytes ts stop → Lives (length ts) → Outcome
  lived (Some at) l v =
      let living = subst (λ (x : List Piece). run (Between []) x ≡ Dead → ⊥) all-pieces v in
      inr (at, record { tokens = ts; stop = Some at; lexed = l; fault = stopped-byte bytes ts at living })
  lived None l v =
      let living = subst (λ (x : List Piece). run (Between []) x ≡ Dead → ⊥) all-pieces v in
      at-end l living (parse (map (piece_of bytes) ts)) refl

  outcome : (stop : Option ℕ) → Lexed 0 bytes ts stop → Outcome
  outcome stop l =
      elim (lives (length ts) (omega arith)) [
        | inl v ↦ lived stop l v
        | inr d ↦ (let f = token-fault stop d.0 d.1 in inr (f.0, record { tokens = ts; stop = stop; lexed = l; fault = f.1 }))
      ]

pub problem_or_fault : ProblemOrFault
problem_or_fault bytes ts stop l = outcome bytes ts stop l
