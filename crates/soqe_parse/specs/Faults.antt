-- Where a text stops being the beginning of a problem.
use Rattle.std.specs.Prelude.{◌≡◌, ℕ, ◌+◌, List, ◌++◌, length, take, map, slice_get, Option, Some, None}
use Rattle.soqe_lex.specs.declared.token.Token.{Token}
use Rattle.soqe_lex.specs.Lexical.{Lexed}
use Rattle.soqe_syntax.specs.declared.piece.Span.{Span}
use Rattle.soqe_syntax.specs.declared.piece.Piece.{Piece}
use Rattle.soqe_syntax.specs.Grammar.{Problem, HasProblemShape}
use Rattle.soqe_syntax.specs.Pieces.{piece_of}

-- Pieces that some problem begins with.
pub record IsViable (ps : List Piece) : Type 0 where
  pub more : List Piece
  pub problem : Problem Span
  pub shape : HasProblemShape (ps ++ more) problem

-- The fault of a text's tokens, with the first byte that begins no token, where there is one: the first token after
-- which no problem goes on, else that byte, else the end of the text, which comes too early.
pub data IsFaultIn (bytes : List ℕ) (tokens : List Token) (stop : Option ℕ) : ℕ → Type 0 where
  at_token : {at : ℕ} (n : ℕ) (token : Token) → slice_get tokens n ≡ Some token → token.start ≡ at
      → IsViable (map (piece_of bytes) (take n tokens)) → (IsViable (map (piece_of bytes) (take (n + 1) tokens)) → ⊥) → IsFaultIn bytes tokens stop at
  at_byte : {at : ℕ} → stop ≡ Some at → IsViable (map (piece_of bytes) tokens) → IsFaultIn bytes tokens stop at
  at_end : {at : ℕ} → stop ≡ None → at ≡ length bytes → IsViable (map (piece_of bytes) tokens)
      → ((problem : Problem Span) → HasProblemShape (map (piece_of bytes) tokens) problem → ⊥) → IsFaultIn bytes tokens stop at

-- The text has its syntax fault at this offset.
pub record IsFaultAt (bytes : List ℕ) (at : ℕ) : Type 0 where
  pub tokens : List Token
  pub stop : Option ℕ
  pub lexed : Lexed 0 bytes tokens stop
  pub fault : IsFaultIn bytes tokens stop at
