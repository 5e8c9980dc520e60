-- Where the tokens of a text stand: what is left of the text at a token is the text from the token's offset on.
use Rattle.std.proofs.Common.{◌≡◌, ℕ, ◌+◌, ◌-◌, ◌≤◌, ◌<◌, List, [], ◌∷◌, length, take, drop, Option, Some, None, refl, sym, ap, ◌∙◌, arith, length-drop}
use Rattle.std.specs.List.{prefix_len, All}
use Rattle.std.proofs.lemmas.List.{drop-drop}
use Rattle.std.proofs.lemmas.List.Elements.{All-cons}
use Rattle.std.proofs.lemmas.List.Sums.{prefix_len-le-length}
use Rattle.soqe_lex.specs.declared.token.TokenKind.{TokenKind}
use Rattle.soqe_lex.specs.declared.token.Token.{Token}
use Rattle.soqe_lex.specs.Lexical.{kind_of, IsLongest, is_remark, Lexed, end, blank, comment, token, fault}
use Rattle.soqe_lex.specs.Spans.{IsWithin, InOrderFrom, InOrder, last_end, StopsBehind}
use Rattle.soqe_lex.proofs.Lexing.{has_bytes}

-- what the text has from an offset on
record IsRest (text : List ℕ) (at : ℕ) (bytes : List ℕ) : Type 0 where
  within : at ≤ length text
  same : bytes ≡ drop at text

left : (text : List ℕ) (at : ℕ) (bytes : List ℕ) → IsRest text at bytes → length bytes + at ≡ length text
left text at bytes r = let e : length bytes ≡ length (drop at text) = ap length r.same in omega (arith, e, length-drop at text, r.within)

later : (text : List ℕ) (at : ℕ) (bytes : List ℕ) (n : ℕ) → n ≤ length bytes → IsRest text at bytes → IsRest text (at + n) (drop n bytes)
later text at bytes n le r = record { within = omega (arith, le, left text at bytes r); same = ap (drop n) r.same ∙ drop-drop n at text }

after_comment : (text : List ℕ) (at b : ℕ) (bs : List ℕ) → IsRest text at (b ∷ bs) → IsRest text (at + 1 + prefix_len is_remark bs) (drop (prefix_len is_remark bs) bs)
after_comment text at b bs r = later text (at + 1) bs (prefix_len is_remark bs) (prefix_len-le-length is_remark bs) (later text at (b ∷ bs) 1 (omega arith) r)

token-within : (text : List ℕ) (at : ℕ) (bytes : List ℕ) (n : ℕ) (kind : TokenKind) → IsRest text at bytes → IsLongest bytes n kind
    → IsWithin text (record { kind = kind; start = at; end = at + n })
token-within text at bytes n kind r h = record {
  some = omega (arith, has_bytes bytes n kind h);
  within = omega (arith, h.within, left text at bytes r);
  kind =
      let e : (at + n) - at ≡ n = omega arith in
      ap (λ (m : ℕ). kind_of (take m (drop at text))) e ∙ ap (λ (xs : List ℕ). kind_of (take n xs)) (sym r.same) ∙ h.token;
}

all_within : (text : List ℕ) {at : ℕ} {bytes : List ℕ} {ts : List Token} {stop : Option ℕ} → IsRest text at bytes → Lexed at bytes ts stop → All (IsWithin text) ts
all_within text r end k d lt = absurd (omega (arith, lt))
all_within text r (blank {at = at} {b = b} {bs = bs} h l) k d lt = all_within text (later text at (b ∷ bs) 1 (omega arith) r) l k d lt
all_within text r (comment {at = at} {b = b} {bs = bs} h l) k d lt = all_within text (after_comment text at b bs r) l k d lt
all_within text r (token {at = at} {bytes = bytes} {ts = ts} n kind h l) k d lt =
    All-cons (IsWithin text) _ ts (token-within text at bytes n kind r h) (all_within text (later text at bytes n h.within r) l) k d lt
all_within text r (fault h) k d lt = absurd (omega (arith, lt))

earlier : (m n : ℕ) (ts : List Token) → m ≤ n → InOrderFrom n ts → InOrderFrom m ts
earlier m n [] le o = tt
earlier m n (t ∷ ts) le o = (omega (arith, le, o.0), o.1)

in_order_from : {at : ℕ} {bytes : List ℕ} {ts : List Token} {stop : Option ℕ} → Lexed at bytes ts stop → InOrderFrom at ts
in_order_from end = tt
in_order_from (blank {at = at} {ts = ts} h l) = earlier at (at + 1) ts (omega arith) (in_order_from l)
in_order_from (comment {at = at} {bs = bs} {ts = ts} h l) = earlier at (at + 1 + prefix_len is_remark bs) ts (omega arith) (in_order_from l)
in_order_from (token n kind h l) = (omega arith, in_order_from l)
in_order_from (fault h) = tt

-- the byte that stops the tokens stands behind them and behind the offset
unfoldable StopsFrom : List ℕ → ℕ → List Token → Option ℕ → Type 0
StopsFrom text at ts None = Unit {0}
StopsFrom text at ts (Some stop) = (last_end at ts ≤ stop) × (stop < length text)

last-earlier : (m n : ℕ) (ts : List Token) → m ≤ n → last_end m ts ≤ last_end n ts
last-earlier m n [] le = le
last-earlier m n (t ∷ ts) le = omega arith

stops-earlier : (text : List ℕ) (m n : ℕ) (ts : List Token) (stop : Option ℕ) → m ≤ n → StopsFrom text n ts stop → StopsFrom text m ts stop
unfolding StopsFrom
stops-earlier text m n ts None le s = tt
stops-earlier text m n ts (Some stop) le s = (omega (arith, last-earlier m n ts le, s.0), s.1)

stops-token : (text : List ℕ) (at n : ℕ) (kind : TokenKind) (ts : List Token) (stop : Option ℕ) → StopsFrom text (at + n) ts stop
    → StopsFrom text at (record { kind = kind; start = at; end = at + n } ∷ ts) stop
unfolding StopsFrom
stops-token text at n kind ts None s = tt
stops-token text at n kind ts (Some stop) s = s

stops_from : (text : List ℕ) {at : ℕ} {bytes : List ℕ} {ts : List Token} {stop : Option ℕ} → IsRest text at bytes → Lexed at bytes ts stop → StopsFrom text at ts stop
unfolding StopsFrom
stops_from text r end = tt
stops_from text r (blank {at = at} {b = b} {bs = bs} {ts = ts} {stop = stop} h l) = stops-earlier text at (at + 1) ts stop (omega arith) (stops_from text (later text at (b ∷ bs) 1 (omega arith) r) l)
stops_from text r (comment {at = at} {b = b} {bs = bs} {ts = ts} {stop = stop} h l) =
    stops-earlier text at (at + 1 + prefix_len is_remark bs) ts stop (omega arith) (stops_from text (after_comment text at b bs r) l)
stops_from text r (token {at = at} {bytes = bytes} {ts = ts} {stop = stop} n kind h l) = stops-token text at n kind ts stop (stops_from text (later text at bytes n h.within r) l)
stops_from text r (fault {at = at} {bytes = bytes} h) = (omega arith, omega (arith, h.some, left text at bytes r))

whole : (text : List ℕ) → IsRest text 0 text
whole text = record { within = omega arith; same = refl }

pub within : (text : List ℕ) (ts : List Token) (stop : Option ℕ) → Lexed 0 text ts stop → All (IsWithin text) ts
within text ts stop l = all_within text (whole text) l

pub in_order : (text : List ℕ) (ts : List Token) (stop : Option ℕ) → Lexed 0 text ts stop → InOrder ts
in_order text ts stop l = in_order_from l

pub stops_behind : (text : List ℕ) (ts : List Token) (stop : Option ℕ) → Lexed 0 text ts stop → StopsBehind text ts stop
unfolding StopsFrom
stops_behind text ts None l = tt
stops_behind text ts (Some stop) l = stops_from text (whole text) l
