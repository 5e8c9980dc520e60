-- What a tally knows while it counts, and that the number it tells is the least that is neither kept out nor counted.
use Rattle.std.proofs.Common.{◌≡◌, ℕ, ◌<◌, ◌≤◌, ◌+◌, ◌-◌, Bool, true, false, cond, eqb, not, ◌||◌, List, length, refl, sym, ◌∙◌, ap, subst, arith, ⊎_elim}
use Rattle.std.specs.Prelude.{slice_index}
use Rattle.std.proofs.lemmas.Bool.{cases_lt, eqb-true, both_ways}
use Rattle.soqe_number.proofs.Choices.{bool_cases}
use Rattle.soqe_number.specs.Unused.{member}
use Rattle.soqe_number.specs.declared.unkept.Unkept.{Unkept}
use Rattle.soqe_number.specs.declared.tally.Tally.{Tally}
use Rattle.soqe_number.specs.Marks.{marked, IsLeastWithout}
use Rattle.soqe_number.specs.Counts.{counted, times}
use Rattle.soqe_number.specs.Unkept.{IsLeastBeside}
use Rattle.soqe_number.proofs.Counted.{not_zero, times-member}
use Rattle.soqe_number.proofs.FirstUnkept.{or_second}
use Rattle.soqe_number.specs.Tallies.{IsNext, Gains, Loses, IsEmpty, IsLeastBy, Passes, IsRight, IsRightIfKnown, Knows, Leaves, Finds}

-- ---- the least number

-- where no number below n is free to be taken, and n is, n is the least
least_at : (u : Unkept) (t : Tally) (n : ℕ) → marked u.kept n ≡ false → counted t.counts n ≡ 0
    → ((k : ℕ) → k < n → marked u.kept k ≡ false → counted t.counts k ≡ 0 → ⊥) → IsLeastWithout (λ m. marked u.kept m || not (eqb (counted t.counts m) 0)) n
least_at u t n kept count none = record {
  fails = λ i. kept i || not (eqb (count i) 0);
  below = λ k l. or_second (marked u.kept k) (not (eqb (counted t.counts k) 0)) (λ e. not_zero (counted t.counts k) (none k l e));
}

-- the first of the freed numbers
pub least-freed : (u : Unkept) (t : Tally) (n : ℕ) → member n t.freed ≡ true → ((m : ℕ) → member m t.freed ≡ true → n ≤ m) → IsLeastBy u t n
least-freed u t n there first o h =
    let is = h.freed n there in
    least_at u t n is.1 is.2 (λ k l e z. let more = first k (h.passed k (omega (arith, is.0)) e z) in omega arith)

-- the next unkept number, where none is freed
pub least-next : (u : Unkept) (s t : Tally) (n : ℕ) → ((m : ℕ) → member m s.freed ≡ false) → Passes u s t → IsNext u t n → IsLeastBy u s n
least-next u s t n none p next o h =
    let shape = p.shape o h in
    let here : marked u.kept n ≡ false = ap (marked u.kept) (sym next.number) ∙ o.fail t.next next.within in
    least_at u s n here (ap (λ c. counted c n) (sym p.counts) ∙ next.free)
    (λ k l e z.
    let before = o.first t.next k next.within (subst (λ m. k < m) (sym next.number) l) e in
    let low : k < t.bound = subst (λ m. m < t.bound) before.2 (shape.behind before.0 before.1) in
    both_ways (member k s.freed) (none k) (ap (member k) (sym p.freed) ∙ shape.passed k low e (ap (λ c. counted c k) p.counts ∙ z)))

-- the least number found by trying all
pub least-tried : (u : Unkept) (s t : Tally) (n : ℕ) → Passes u s t → IsLeastWithout (λ m. marked u.kept m || not (eqb (counted t.counts m) 0)) n → IsLeastBy u s n
least-tried u s t n p least o h = subst (λ c. IsLeastWithout (λ m. marked u.kept m || not (eqb (counted c m) 0)) n) p.counts least

-- ---- the bound moves on

pub passes-none : (u : Unkept) (t : Tally) → Passes u t t
passes-none u t = record { shape = λ o h. h; counts = refl; freed = refl; known = refl }

-- one unkept number that is counted
pub passes-one : (u : Unkept) (t s : Tally) (n : ℕ) → t.next < length u.others → n ≡ slice_index u.others t.next → (counted t.counts n ≡ 0 → ⊥)
    → s.counts ≡ t.counts → s.freed ≡ t.freed → s.is_known ≡ t.is_known → t.bound ≤ s.bound → n < s.bound → ((k : ℕ) → k < s.bound → t.bound ≤ k → k < n + 1)
    → s.next ≡ t.next + 1 → Passes u t s
passes-one u t s n within is used counts freed known more up which next = record {
  shape = λ o h. record {
    passed = λ k l e z.
        let z : counted t.counts k ≡ 0 = ap (λ c. counted c k) (sym counts) ∙ z in
        let low : k < t.bound → member k s.freed ≡ true = λ l. ap (member k) freed ∙ h.passed k l e z in
        ⊎_elim low
        (λ le.
        let l : k < n + 1 = which k l le in
        ⊎_elim
        (λ lt. let before = o.first t.next k within (subst (λ m. k < m) is lt) e in low (subst (λ m. m < t.bound) before.2 (h.behind before.0 before.1)))
        (λ ge. let here : k ≡ n = omega (arith, ge, l) in absurd (used (ap (counted t.counts) (sym here) ∙ z)))
        (cases_lt k n))
        (cases_lt k t.bound);
    freed = λ k m.
        let is = h.freed k (ap (member k) (sym freed) ∙ m) in
        (omega (arith, is.0, more), is.1, ap (λ c. counted c k) counts ∙ is.2);
    behind = λ j l. ⊎_elim (λ lt. let low = h.behind j lt in omega (arith, low, more))
        (λ ge. let at : j ≡ t.next = omega (arith, ge, l, next) in subst (λ m. m < s.bound) (is ∙ ap (slice_index u.others) (sym at)) up)
        (cases_lt j t.next);
  };
  counts = counts;
  freed = freed;
  known = known;
}

pub passes-both : (u : Unkept) (a b c : Tally) → Passes u a b → Passes u b c → Passes u a c
passes-both u a b c h k = record {
  shape = λ o s. k.shape o (h.shape o s);
  counts = k.counts ∙ h.counts;
  freed = k.freed ∙ h.freed;
  known = k.known ∙ h.known;
}

-- ---- counts that grow and fall

pub gains-none : (p : ℕ → ℕ) (t : Tally) → ((n : ℕ) → p n ≡ 0) → Gains p t t
gains-none p t z = record { shape = λ u h. h; counts = λ n. let e = z n in omega (arith, e); known = refl }

pub gains-both : (p q r : ℕ → ℕ) (a b c : Tally) → ((n : ℕ) → r n ≡ p n + q n) → Gains p a b → Gains q b c → Gains r a c
gains-both p q r a b c e h k = record {
  shape = λ u s. k.shape u (h.shape u s);
  counts = λ n. let x = e n in let y = h.counts n in let z = k.counts n in omega (arith, x, y, z);
  known = k.known ∙ h.known;
}

off : (b : Bool) (m : Bool) → cond b false m ≡ true → b ≡ false
off true m h = let h : false ≡ true = h in cc
off false m h = refl

on : (b : Bool) (m : Bool) → b ≡ false → m ≡ true → cond b false m ≡ true
on true m e h = cc
on false m e h = h

kept_by : (b m : Bool) → cond b false m ≡ true → m ≡ true
kept_by true m h = let h : false ≡ true = h in cc
kept_by false m h = h

more_than : (b : Bool) (more c : ℕ) → b ≡ false → cond b more 0 + c ≡ c
more_than true more c e = cc
more_than false more c e = let sum : 0 + c ≡ c = omega arith in sum

-- a number that is counted is no longer freed
pub gains-one : (s t : Tally) (n more : ℕ) → 0 < more → ((m : ℕ) → member m t.freed ≡ cond (eqb m n) false (member m s.freed)) → ((m : ℕ) → counted t.counts m ≡ cond (eqb m n) more 0 + counted s.counts m)
    → t.bound ≡ s.bound → t.next ≡ s.next → t.is_known ≡ s.is_known → Gains (λ m. cond (eqb m n) more 0) s t
gains-one s t n more some freed counts bound next known = record {
  shape = λ u h. record {
    passed = λ k l e z.
        let z : cond (eqb k n) more 0 + counted s.counts k ≡ 0 = sym (counts k) ∙ z in
        let here : eqb k n ≡ false =
        bool_cases (λ q. eqb k n ≡ q → q ≡ false) (eqb k n)
        (λ o q. let z : more + counted s.counts k ≡ 0 = ap (λ b. cond b more 0 + counted s.counts k) (sym q) ∙ z in absurd (omega (arith, some, z))) (λ o q. refl) refl in
        freed k ∙ on (eqb k n) (member k s.freed) here (h.passed k (subst (λ b. k < b) bound l) e (sym (more_than (eqb k n) more (counted s.counts k) here) ∙ z));
    freed = λ k m.
        let m : cond (eqb k n) false (member k s.freed) ≡ true = sym (freed k) ∙ m in
        let is = h.freed k (kept_by (eqb k n) (member k s.freed) m) in
        (subst (λ b. k < b) (sym bound) is.0, is.1, counts k ∙ more_than (eqb k n) more (counted s.counts k) (off (eqb k n) (member k s.freed) m) ∙ is.2);
    behind = λ j l. subst (λ b. slice_index u.others j < b) (sym bound) (h.behind j (subst (λ i. j < i) next l));
  };
  counts = counts;
  known = known;
}

pub loses-none : (u : Unkept) (p : ℕ → ℕ) (t : Tally) → ((n : ℕ) → p n ≡ 0) → Loses u p t t
loses-none u p t z = record { shape = λ h. h; counts = λ n. let e = z n in omega (arith, e); known = refl }

pub loses-both : (u : Unkept) (p q r : ℕ → ℕ) (a b c : Tally) → ((n : ℕ) → r n ≡ p n + q n) → Loses u p a b → Loses u q b c → Loses u r a c
loses-both u p q r a b c e h k = record {
  shape = λ s. k.shape (h.shape s);
  counts = λ n. let x = e n in let y = h.counts n in let z = k.counts n in omega (arith, x, y, z);
  known = k.known ∙ h.known;
}

less_by : (less : ℕ) (b : Bool) (c d e : ℕ) → (b ≡ true → d ≡ c) → e ≡ cond b (c - less) d → e ≡ d - cond b less 0
less_by less true c d e h k = k ∙ ap (λ a. a - less) (sym (h refl))
less_by less false c d e h k = let k : e ≡ d = k in let rest : e ≡ d - 0 = omega (arith, k) in rest

-- the counts after one became less by some
pub less-one : (old new : List (ℕ × ℕ)) (n less : ℕ) → ((m : ℕ) → counted new m ≡ cond (eqb m n) (counted old n - less) (counted old m)) → (m : ℕ) → counted new m ≡ counted old m - cond (eqb m n) less 0
less-one old new n less h m = less_by less (eqb m n) (counted old n) (counted old m) (counted new m) (λ e. ap (counted old) (eqb-true m n e)) (h m)

same_count : (less : ℕ) (b : Bool) (c d : ℕ) → b ≡ false → d ≡ 0 → d ≡ c - cond b less 0 → c ≡ 0
same_count less true c d e z h = cc
same_count less false c d e z h = omega (arith, z, h)

still_zero : (c d k : ℕ) → d ≡ c - k → c ≡ 0 → d ≡ 0
still_zero c d k h z = omega (arith, h, z)

-- a number that fell to 0 is freed
pub loses-freed : (u : Unkept) (s t : Tally) (n less : ℕ) → counted t.counts n ≡ 0 → n < s.bound → marked u.kept n ≡ false → ((m : ℕ) → member m t.freed ≡ cond (eqb m n) true (member m s.freed))
    → ((m : ℕ) → counted t.counts m ≡ counted s.counts m - cond (eqb m n) less 0) → t.bound ≡ s.bound → t.next ≡ s.next → t.is_known ≡ s.is_known → Loses u (λ m. cond (eqb m n) less 0) s t
loses-freed u s t n less none low kept freed counts bound next known = record {
  shape = λ h. record {
    passed = λ k l e z.
        freed k ∙ bool_cases (λ q. eqb k n ≡ q → cond q true (member k s.freed) ≡ true) (eqb k n) (λ o q. refl)
        (λ o q. h.passed k (subst (λ b. k < b) bound l) e (same_count less (eqb k n) (counted s.counts k) (counted t.counts k) q z (counts k))) refl;
    freed = λ k m.
        bool_cases (λ q. eqb k n ≡ q → cond q true (member k s.freed) ≡ true → (k < t.bound) × (marked u.kept k ≡ false) × (counted t.counts k ≡ 0)) (eqb k n)
        (λ o q m.
        let same = eqb-true k n q in
        subst (λ j. (j < t.bound) × (marked u.kept j ≡ false) × (counted t.counts j ≡ 0)) (sym same) (subst (λ b. n < b) (sym bound) low, kept, none))
        (λ o q m. let is = h.freed k m in (subst (λ b. k < b) (sym bound) is.0, is.1, still_zero (counted s.counts k) (counted t.counts k) (cond (eqb k n) less 0) (counts k) is.2))
        refl (sym (freed k) ∙ m);
    behind = λ j l. subst (λ b. slice_index u.others j < b) (sym bound) (h.behind j (subst (λ i. j < i) next l));
  };
  counts = counts;
  known = known;
}

-- a number that did not fall to 0, or is not passed
pub loses-one : (u : Unkept) (s t : Tally) (n less : ℕ) → (counted t.counts n ≡ 0 → n < s.bound → marked u.kept n ≡ false → ⊥) → t.freed ≡ s.freed
    → ((m : ℕ) → counted t.counts m ≡ counted s.counts m - cond (eqb m n) less 0) → t.bound ≡ s.bound → t.next ≡ s.next → t.is_known ≡ s.is_known → Loses u (λ m. cond (eqb m n) less 0) s t
loses-one u s t n less not_freed freed counts bound next known = record {
  shape = λ h. record {
    passed = λ k l e z.
        ap (member k) freed ∙ bool_cases (λ q. eqb k n ≡ q → member k s.freed ≡ true) (eqb k n)
        (λ o q.
        let same = eqb-true k n q in
        absurd (not_freed (ap (counted t.counts) (sym same) ∙ z) (subst (λ j. j < s.bound) same (subst (λ b. k < b) bound l)) (ap (marked u.kept) (sym same) ∙ e)))
        (λ o q. h.passed k (subst (λ b. k < b) bound l) e (same_count less (eqb k n) (counted s.counts k) (counted t.counts k) q z (counts k))) refl;
    freed = λ k m.
        let is = h.freed k (ap (member k) (sym freed) ∙ m) in
        (subst (λ b. k < b) (sym bound) is.0, is.1, still_zero (counted s.counts k) (counted t.counts k) (cond (eqb k n) less 0) (counts k) is.2);
    behind = λ j l. subst (λ b. slice_index u.others j < b) (sym bound) (h.behind j (subst (λ i. j < i) next l));
  };
  counts = counts;
  known = known;
}

-- ---- tallies of lists

pub right-left : (u : Unkept) (ns ms ls : List ℕ) (s t : Tally) → Loses u (λ n. times n ns) s t → ((n : ℕ) → times n ms ≡ times n ns + times n ls) → IsRight u ms s → IsRight u ls t
right-left u ns ms ls s t h e r = record {
  shape = h.shape r.shape;
  counts = λ n. let x = h.counts n in let y = r.counts n in let z = e n in omega (arith, x, y, z);
}

-- a tally of no numbers that is called known, and then counts a list
pub right-from_empty : (ns : List ℕ) (s t : Tally) → IsEmpty s → Gains (λ n. times n ns) (record s { is_known = true }) t → (u : Unkept) → IsRight u ns t
right-from_empty ns s t e g u =
    let h = e.shape u in
    record {
      shape = g.shape u (record { passed = h.passed; freed = h.freed; behind = h.behind });
      counts = λ n. let x = g.counts n in let y = e.counts n in omega (arith, x, y);
    }

-- a tally that is not known is right if it is known
pub unknown : (u : Unkept) (ns : List ℕ) (t : Tally) → t.is_known ≡ false → IsRightIfKnown u ns t
unknown u ns t off on = absurd (both_ways t.is_known off on)

pub knows-already : (ns : List ℕ) (t : Tally) → t.is_known ≡ true → Knows ns t t
knows-already ns t on = record { is = λ u h. h on }

pub knows-now : (ns : List ℕ) (s t : Tally) → ((u : Unkept) → IsRight u ns t) → Knows ns s t
knows-now ns s t right = record { is = λ u h. right u }

pub leaves-unknown : (u : Unkept) (ns : List ℕ) (s t : Tally) → t.is_known ≡ false → Leaves u ns s t
leaves-unknown u ns s t off = record { is = λ ms ls e h on. absurd (both_ways t.is_known off on) }

pub leaves-counted : (u : Unkept) (ns ks : List ℕ) (s t : Tally) → ks ≡ ns → s.is_known ≡ true → Loses u (λ n. times n ks) s t → Leaves u ns s t
leaves-counted u ns ks s t same on loses = record {
  is = λ ms ls e h _. right-left u ks ms ls s t loses (λ n. e n ∙ ap (λ l. times n l + times n ls) (sym same)) (h on);
}

-- ---- the number of a binder

-- the number that a right tally tells is the least beside those that it counts
pub beside-right : (u : Unkept) (ns : List ℕ) (t : Tally) (n : ℕ) → IsRight u ns t → IsLeastBy u t n → IsLeastBeside u ns n
beside-right u ns t n right least o =
    subst (λ p. IsLeastWithout p n) (λ i m. marked u.kept m || (ap (λ c. not (eqb c 0)) (right.counts m) ∙ times-member m ns) i) (least o right.shape)

-- it is found by the tally, or without it
pub finds-known : (u : Unkept) (ns : List ℕ) (a b c : Tally) (n : ℕ) → Knows ns a b → IsLeastBy u b n → Passes u b c → Finds u ns a c n
finds-known u ns a b c n knows least passes = record {
  least = λ h. beside-right u ns b n (knows.is u h) least;
  right = λ o h on.
      let right = knows.is u h in
      record { shape = passes.shape o right.shape; counts = λ m. ap (λ d. counted d m) passes.counts ∙ right.counts m };
}

pub finds-beside : (u : Unkept) (ns ms : List ℕ) (t : Tally) (n : ℕ) → ms ≡ ns → IsLeastBeside u ms n → Finds u ns t t n
finds-beside u ns ms t n same least = record {
  least = λ h. subst (λ l. IsLeastBeside u l n) same least;
  right = λ o h. h;
}
