-- Why a text has no tokens.
use Rattle.std.specs.Prelude.{ℕ, List, Some, Result, Err}
use Rattle.soqe_lex.specs.declared.token.Token.{Token}
use Rattle.soqe_lex.specs.Lexical.{Lexed}
use Rattle.soqe_text.specs.declared.lexing.TextFault.{TextFault}
use Rattle.soqe_text.specs.declared.lexing.TextFault.TheVariants as fault

-- The text falls into tokens up to the byte at an offset, which begins none.
pub record IsLexedBefore (bytes : List ℕ) (at : ℕ) : Type 0 where
  pub tokens : List Token
  pub lexed : Lexed 0 bytes tokens (Some at)

-- what holds of the place of a syntax fault
abbrev pub OnTextSyntax : {T : Type 0} → Result T TextFault → (ℕ → Type 0) → Type 0
OnTextSyntax (Err (fault.Syntax at)) P = P at
OnTextSyntax _ P = Unit {0}

-- names and sorts are not refused
abbrev pub IsSyntaxOrMemory : {T : Type 0} → Result T TextFault → Type 0
IsSyntaxOrMemory (Err (fault.Names at)) = ⊥
IsSyntaxOrMemory (Err (fault.Sorts at)) = ⊥
IsSyntaxOrMemory _ = Unit {0}
