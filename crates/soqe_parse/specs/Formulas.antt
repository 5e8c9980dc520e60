-- Formulas by themselves: the shape of a text, and where a text stops being the beginning of a formula.
use Rattle.std.specs.Prelude.{◌≡◌, ◌⊎◌, ℕ, ◌+◌, List, ◌++◌, length, take, map, slice_get, Option, Some, None}
use Rattle.soqe_lex.specs.declared.token.Token.{Token}
use Rattle.soqe_lex.specs.Lexical.{Lexed}
use Rattle.soqe_syntax.specs.declared.piece.Span.{Span}
use Rattle.soqe_syntax.specs.declared.piece.Piece.{Piece}
use Rattle.soqe_syntax.specs.Grammar.{Tree, HasShape}
use Rattle.soqe_syntax.specs.Pieces.{piece_of}

-- The text falls into tokens whose pieces have the shape of the formula.
pub record HasForm (bytes : List ℕ) (tree : Tree Span) : Type 0 where
  pub tokens : List Token
  pub lexed : Lexed 0 bytes tokens None
  pub shape : HasShape (map (piece_of bytes) tokens) tree

-- Pieces that some formula begins with.
pub record IsFormViable (ps : List Piece) : Type 0 where
  pub more : List Piece
  pub tree : Tree Span
  pub shape : HasShape (ps ++ more) tree

-- The fault of a text's tokens, with the first byte that begins no token, where there is one: the first token after
-- which no formula goes on, else that byte, else the end of the text, which comes too early.
pub data IsFormFaultIn (bytes : List ℕ) (tokens : List Token) (stop : Option ℕ) : ℕ → Type 0 where
  at_token : {at : ℕ} (n : ℕ) (token : Token) → slice_get tokens n ≡ Some token → token.start ≡ at
      → IsFormViable (map (piece_of bytes) (take n tokens)) → (IsFormViable (map (piece_of bytes) (take (n + 1) tokens)) → ⊥) → IsFormFaultIn bytes tokens stop at
  at_byte : {at : ℕ} → stop ≡ Some at → IsFormViable (map (piece_of bytes) tokens) → IsFormFaultIn bytes tokens stop at
  at_end : {at : ℕ} → stop ≡ None → at ≡ length bytes → IsFormViable (map (piece_of bytes) tokens)
      → ((tree : Tree Span) → HasShape (map (piece_of bytes) tokens) tree → ⊥) → IsFormFaultIn bytes tokens stop at

-- The text of a formula has its syntax fault at this offset.
pub record IsFormFaultAt (bytes : List ℕ) (at : ℕ) : Type 0 where
  pub tokens : List Token
  pub stop : Option ℕ
  pub lexed : Lexed 0 bytes tokens stop
  pub fault : IsFormFaultIn bytes tokens stop at

-- A text has at most one formula.
abbrev pub OneForm : Type 0
OneForm = (bytes : List ℕ) (s t : Tree Span) → HasForm bytes s → HasForm bytes t → s ≡ t

-- A text with a syntax fault has no formula.
abbrev pub FaultOrForm : Type 0
FaultOrForm = (bytes : List ℕ) (at : ℕ) (t : Tree Span) → IsFormFaultAt bytes at → HasForm bytes t → ⊥

-- A formula's text has its syntax fault at one offset.
abbrev pub OneFormPlace : Type 0
OneFormPlace = (bytes : List ℕ) (at other : ℕ) → IsFormFaultAt bytes at → IsFormFaultAt bytes other → at ≡ other

-- A text that falls into tokens has a formula or a syntax fault.
abbrev pub FormOrFault : Type 0
FormOrFault = (bytes : List ℕ) (tokens : List Token) (stop : Option ℕ) → Lexed 0 bytes tokens stop → ((t : Tree Span) × HasForm bytes t) ⊎ ((at : ℕ) × IsFormFaultAt bytes at)
