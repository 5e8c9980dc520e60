-- A tag with a number is a tagged name, which is read as what the tag and the number stand for.
use Rattle.std.proofs.Common.{◌≡◌, ℕ, zero, suc, ◌<◌, ◌^◌, Bool, true, false, cond, ◌&&◌, nat_lt, ◌==◌, List, [], ◌∷◌, ◌++◌, length, get_or, Some, None, codes, refl, ◌∙◌, ap, sym, arith, true≢false, inr}
use Rattle.std.specs.List.{list_all}
use Rattle.std.specs.Char.{is_ascii_digit, digit_value}
use Rattle.std.specs.Fmt.{decimal}
use Rattle.std.specs.Str.Parse.{digits_value, AllDigits}
use Rattle.std.proofs.lemmas.Bool.{cond-true, cond-false, lt-ltb, and_from, or_left, or_right, ne_eqb, not_from_false}
use Rattle.std.proofs.lemmas.Bool.Decides.{nat_tests}
use Rattle.std.proofs.lemmas.Fmt.{decimal_is_IsNumeral, decimal_digit, first_decimal}
use Rattle.soqe_lex.specs.Lexical.{has_no_leading_zero, is_number, is_tag, is_tagged, kind_of}
use Rattle.soqe_lex.specs.declared.token.TokenKind.TheVariants.{Tagged}
use Rattle.soqe_lex.proofs.Numbers.{other_first}
use Rattle.soqe_signature.specs.declared.kinds.Kind.TheVariants as kind
use Rattle.soqe_signature.specs.declared.kinds.NameKind.TheVariants as numbering
use Rattle.soqe_signature.specs.declared.skolems.SkolemSig.{SkolemSig}
use Rattle.soqe_signature.specs.Declarations.{Declaration, count_of}
use Rattle.soqe_text.specs.Meanings.{unnamed, tag_found, tagged_found}
use Rattle.soqe_show.specs.Printed.{Text}
use Rattle.soqe_show.specs.Placed.{IsWord}

digit_is : (c : ℕ) → digit_value c < 10 → is_ascii_digit c ≡ true
digit_is c h = grind (arith, nat_tests, h)

digits_are : (bs : List ℕ) → AllDigits 10 bs → list_all is_ascii_digit bs ≡ true
digits_are [] h = refl
digits_are (b ∷ bs) h = and_from (is_ascii_digit b) (list_all is_ascii_digit bs) (digit_is b h.0) (digits_are bs h.1)

plain_from : (bs : List ℕ) → 0 < length bs → 48 < get_or bs 0 0 → has_no_leading_zero bs ≡ true
plain_from [] some h = absurd (omega (arith, some))
plain_from (b ∷ []) some h = refl
plain_from (b ∷ c ∷ bs) some h = not_from_false (b == 48) (ne_eqb b 48 (λ e. absurd (omega (arith, e, h))))

plain_decimal : (n : ℕ) → n < 2 ^ 64 → has_no_leading_zero (decimal n) ≡ true
plain_decimal zero small = ap has_no_leading_zero (decimal_digit 0 (omega arith))
plain_decimal (suc n) small = plain_from (decimal (suc n)) (decimal_is_IsNumeral (suc n) small).0.0 (first_decimal (suc n) (omega arith) small)

-- what is written for a number is one, with its value
pub decimal_number : (n : ℕ) → n < 2 ^ 64 → is_number (decimal n) ≡ true
decimal_number n small =
    let numeral = decimal_is_IsNumeral n small in
    and_from (has_no_leading_zero (decimal n) && list_all is_ascii_digit (decimal n)) (nat_lt (digits_value 10 (decimal n)) (2 ^ 64))
    (and_from (has_no_leading_zero (decimal n)) (list_all is_ascii_digit (decimal n)) (plain_decimal n small) (digits_are (decimal n) numeral.0.1))
    (ap (λ m. nat_lt m (2 ^ 64)) numeral.1 ∙ lt-ltb n (2 ^ 64) small)

pub decimal_value : (n : ℕ) → n < 2 ^ 64 → digits_value 10 (decimal n) ≡ n
decimal_value n small = (decimal_is_IsNumeral n small).1

-- ---- tagged names are words

tagged_word : (bs : Text) → is_tagged bs ≡ true → IsWord (95 ∷ bs)
unfolding kind_of
tagged_word bs h = inr (ap (λ (b : Bool). cond b (Some Tagged) None) h)

number_tagged : (bs : Text) → is_number bs ≡ true → is_tagged bs ≡ true
number_tagged [] h = absurd (true≢false (sym h))
number_tagged (b ∷ bs) h = or_left (is_number (b ∷ bs)) _ h

tag_tagged : (tag : ℕ) (bs : Text) → is_tag tag ≡ true → is_number bs ≡ true → is_tagged (tag ∷ bs) ≡ true
tag_tagged tag bs h k = or_right (is_number (tag ∷ bs)) _ (and_from (is_tag tag) (is_number bs) h k)

pub variable_word : (n : ℕ) → n < 2 ^ 64 → IsWord (codes "_" ++ decimal n)
variable_word n small = tagged_word (decimal n) (number_tagged (decimal n) (decimal_number n small))

pub predicate_word : (n : ℕ) → n < 2 ^ 64 → IsWord (codes "_p" ++ decimal n)
predicate_word n small = tagged_word (112 ∷ decimal n) (tag_tagged 112 (decimal n) refl (decimal_number n small))

pub skolem_word : (n : ℕ) → n < 2 ^ 64 → IsWord (codes "_f" ++ decimal n)
skolem_word n small = tagged_word (102 ∷ decimal n) (tag_tagged 102 (decimal n) refl (decimal_number n small))

-- ---- what they stand for

module _ (ds : List Declaration) (ks : List SkolemSig) where
  number_found : (bs : Text) → is_number bs ≡ true
      → tagged_found ds ks bs ≡ unnamed (count_of numbering.Variable ds) (digits_value 10 bs) (record { kind = kind.VarName; num = digits_value 10 bs })
  number_found [] h = absurd (true≢false (sym h))
  number_found (b ∷ bs) h = cond-true _ _ _ h

  tag_is : (tag : ℕ) (bs : Text) → is_ascii_digit tag ≡ false → is_number bs ≡ true → tagged_found ds ks (tag ∷ bs) ≡ tag_found ds ks tag (digits_value 10 bs)
  tag_is tag bs h k = cond-false _ _ _ (other_first tag bs h) ∙ cond-true _ _ _ k

  pub variable_tagged : (n : ℕ) → n < 2 ^ 64 → tagged_found ds ks (decimal n) ≡ unnamed (count_of numbering.Variable ds) n (record { kind = kind.VarName; num = n })
  variable_tagged n small =
      number_found (decimal n) (decimal_number n small)
      ∙ ap (λ m. unnamed (count_of numbering.Variable ds) m (record { kind = kind.VarName; num = m })) (decimal_value n small)

  pub tag_with : (tag n : ℕ) → is_ascii_digit tag ≡ false → n < 2 ^ 64 → tagged_found ds ks (tag ∷ decimal n) ≡ tag_found ds ks tag n
  tag_with tag n h small = tag_is tag (decimal n) h (decimal_number n small) ∙ ap (tag_found ds ks tag) (decimal_value n small)
