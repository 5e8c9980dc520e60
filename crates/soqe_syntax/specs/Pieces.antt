-- The piece that a token is, and the shape of a text.
use Rattle.std.specs.Prelude.{ℕ, true, false, cond, List, map, codes, None, slice_range}
use Rattle.std.specs.Str.{bytes_eq}
use Rattle.soqe_lex.specs.declared.token.Token.{Token}
use Rattle.soqe_lex.specs.declared.token.TokenKind.TheVariants as kind
use Rattle.soqe_lex.specs.Lexical.{Lexed}
use Rattle.soqe_syntax.specs.declared.piece.Span.{Span}
use Rattle.soqe_syntax.specs.declared.piece.Quantifier.TheVariants as quantifier
use Rattle.soqe_syntax.specs.declared.piece.Operator.TheVariants as operator
use Rattle.soqe_syntax.specs.declared.piece.Head.TheVariants as head
use Rattle.soqe_syntax.specs.declared.piece.Piece.{Piece}
use Rattle.soqe_syntax.specs.declared.piece.Piece.TheVariants as piece
use Rattle.soqe_syntax.specs.Grammar.{Problem, HasProblemShape}

-- the place of a token
abbrev pub span_of : Token → Span
span_of t = record { start = t.start; end = t.end }

-- the piece of a sign
unfoldable pub mark_piece : List ℕ → Span → Piece
mark_piece text at =
    cond (bytes_eq text (codes "(")) piece.Open
    (cond (bytes_eq text (codes ")")) piece.Close
    (cond (bytes_eq text (codes ",")) piece.Comma
    (cond (bytes_eq text (codes ".")) piece.Dot
    (cond (bytes_eq text (codes ":")) piece.Colon
    (cond (bytes_eq text (codes ";")) piece.Semicolon
    (cond (bytes_eq text (codes "~")) piece.Tilde
    (cond (bytes_eq text (codes "&")) (piece.Sign operator.And)
    (cond (bytes_eq text (codes "|")) (piece.Sign operator.Or)
    (cond (bytes_eq text (codes "->")) (piece.Sign operator.Imp)
    (cond (bytes_eq text (codes "<->")) (piece.Sign operator.Iff)
    (cond (bytes_eq text (codes "=")) (piece.Equals false at)
    (cond (bytes_eq text (codes "!=")) (piece.Equals true at)
    (cond (bytes_eq text (codes "[")) piece.OpenSquare
    (cond (bytes_eq text (codes "]")) piece.CloseSquare
    (cond (bytes_eq text (codes "<")) piece.Less
    (cond (bytes_eq text (codes ">")) piece.Greater
    (cond (bytes_eq text (codes ":=")) piece.Assign piece.Yields)))))))))))))))))

-- the piece of a keyword
unfoldable pub keyword_piece : List ℕ → Piece
keyword_piece text =
    cond (bytes_eq text (codes "true")) (piece.Constant true)
    (cond (bytes_eq text (codes "false")) (piece.Constant false)
    (cond (bytes_eq text (codes "all")) (piece.Binder quantifier.All)
    (cond (bytes_eq text (codes "ex")) (piece.Binder quantifier.Ex)
    (cond (bytes_eq text (codes "all2")) (piece.Binder2 quantifier.All)
    (cond (bytes_eq text (codes "ex2")) (piece.Binder2 quantifier.Ex)
    (cond (bytes_eq text (codes "sort")) (piece.Begin head.Sort)
    (cond (bytes_eq text (codes "fun")) (piece.Begin head.Fun)
    (cond (bytes_eq text (codes "pred")) (piece.Begin head.Pred)
    (cond (bytes_eq text (codes "var")) (piece.Begin head.Var)
    (cond (bytes_eq text (codes "goal")) (piece.Begin head.Goal)
    (cond (bytes_eq text (codes "rel")) (piece.Begin head.Rel)
    (cond (bytes_eq text (codes "prop")) (piece.Begin head.Prop)
    (cond (bytes_eq text (codes "nom")) (piece.Begin head.Nom)
    (cond (bytes_eq text (codes "axiom")) (piece.Begin head.Axiom)
    (cond (bytes_eq text (codes "theory")) (piece.Begin head.Theory)
    (cond (bytes_eq text (codes "minimize")) (piece.Begin head.Minimize)
    (cond (bytes_eq text (codes "vary")) (piece.Begin head.Vary)
    (cond (bytes_eq text (codes "level")) (piece.Begin head.Level) piece.Fixpoint))))))))))))))))))

-- the piece of a token with its text
abbrev pub piece_with : List ℕ → Token → Piece
piece_with text token = elim token.kind [
  | kind.Ordinary ↦ piece.Name (span_of token)
  | kind.Keyword ↦ keyword_piece text
  | kind.Tagged ↦ piece.Name (span_of token)
  | kind.Number ↦ piece.Number (span_of token)
  | kind.Mark ↦ mark_piece text (span_of token)
]

-- the piece of a token of a text
abbrev pub piece_of : List ℕ → Token → Piece
piece_of bytes token = piece_with (slice_range bytes token.start token.end) token

-- The text falls into tokens whose pieces have the shape of the problem.
pub record HasProblem (bytes : List ℕ) (problem : Problem Span) : Type 0 where
  pub tokens : List Token
  pub lexed : Lexed 0 bytes tokens None
  pub shape : HasProblemShape (map (piece_of bytes) tokens) problem

-- a name's text
abbrev pub text_at : List ℕ → Span → List ℕ
text_at bytes s = slice_range bytes s.start s.end
