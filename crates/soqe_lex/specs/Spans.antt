-- Where the tokens of a text stand.
use Rattle.std.specs.Prelude.{◌≡◌, ℕ, ◌≤◌, ◌<◌, List, [], ◌∷◌, length, slice_range, Option, Some, None}
use Rattle.soqe_lex.specs.declared.token.Token.{Token}
use Rattle.soqe_lex.specs.Lexical.{kind_of}

-- The token has a byte, stands in the text, and its bytes are a token of its kind.
pub record IsWithin (bytes : List ℕ) (token : Token) : Type 0 where
  pub some : token.start < token.end
  pub within : token.end ≤ length bytes
  pub kind : kind_of (slice_range bytes token.start token.end) ≡ Some token.kind

-- No token begins before the offset, or before the end of the token in front of it.
abbrev pub InOrderFrom : ℕ → List Token → Type 0
InOrderFrom at [] = Unit {0}
InOrderFrom at (token ∷ tokens) = (at ≤ token.start) × InOrderFrom token.end tokens

-- Each token ends at or before the next one begins.
abbrev pub InOrder : List Token → Type 0
InOrder tokens = InOrderFrom 0 tokens

-- the end of the last token, or the offset where there is none
abbrev pub last_end : ℕ → List Token → ℕ
last_end at [] = at
last_end at (token ∷ tokens) = last_end token.end tokens

-- The byte at which the tokens stop, if there is one, stands behind them and in the text.
abbrev pub StopsBehind : List ℕ → List Token → Option ℕ → Type 0
StopsBehind bytes tokens None = Unit {0}
StopsBehind bytes tokens (Some stop) = (last_end 0 tokens ≤ stop) × (stop < length bytes)
