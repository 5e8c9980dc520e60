-- An ordinary name is a token of that kind, and no other text is one.
use Rattle.std.proofs.Common.{◌≡◌, ◌↔◌, ℕ, ◌==◌, Bool, true, false, cond, not, ◌&&◌, List, [], ◌∷◌, Option, Some, None, refl}
use Rattle.std.specs.List.{list_all}
use Rattle.std.specs.Char.{is_ascii_digit, is_ascii_alphabetic}
use Rattle.soqe_lex.specs.declared.token.TokenKind.{TokenKind}
use Rattle.soqe_lex.specs.declared.token.TokenKind.TheVariants.{Ordinary, Keyword, Tagged, Number, Mark}
use Rattle.soqe_lex.specs.Lexical.{is_number, is_tagged, is_mark, kind_of}
use Rattle.soqe_name.specs.Names.{is_word, is_keyword, is_ordinary}

another : (digit number line tagged mark : Bool) → cond digit (cond number (Some Number) None) (cond line (cond tagged (Some Tagged) None) (cond mark (Some Mark) None)) ≡ Some Ordinary → ⊥
another true true line tagged mark e = absurd cc
another true false line tagged mark e = absurd cc
another false number true true mark e = absurd cc
another false number true false mark e = absurd cc
another false number false tagged true e = absurd cc
another false number false tagged false e = absurd cc

by_tests : (letter words keyword : Bool) (other : Option TokenKind) → (other ≡ Some Ordinary → ⊥)
    → ((letter && words && not keyword) ≡ true) ↔ (cond letter (cond words (Some (cond keyword Keyword Ordinary)) None) other ≡ Some Ordinary)
by_tests true true true other differs = (λ e. absurd cc, λ e. absurd cc)
by_tests true true false other differs = (λ e. refl, λ e. refl)
by_tests true false keyword other differs = (λ e. absurd cc, λ e. absurd cc)
by_tests false words keyword other differs = (λ e. absurd cc, λ e. absurd (differs e))

pub ordinary_kind : (text : List ℕ) → (is_ordinary text ≡ true) ↔ (kind_of text ≡ Some Ordinary)
unfolding kind_of
ordinary_kind [] = (λ e. absurd cc, λ e. absurd cc)
ordinary_kind (b ∷ bs) =
    by_tests (is_ascii_alphabetic b) (list_all is_word bs) (is_keyword (b ∷ bs)) _ (another (is_ascii_digit b) (is_number (b ∷ bs)) (b == 95) (is_tagged bs) (is_mark (b ∷ bs)))
