-- Choices by a test, and what a conjunction or a disjunction says of its parts, beside std's lemmas on Bool.
use Rattle.std.proofs.Common.{◌≡◌, Bool, true, false, cond, not, ◌||◌, ◌&&◌, refl}
use Rattle.std.proofs.lemmas.Bool.{and_parts, or_parts}

-- a fact at each outcome of a choice
pub by_cases : {A : Type 0} (P : A → Type 0) (b : Bool) (u v : A) → (b ≡ true → P u) → (b ≡ false → P v) → P (cond b u v)
by_cases P true u v f g = f refl
by_cases P false u v f g = g refl

-- a fact at each outcome of a test
pub bool_cases : (P : Bool → Type 0) (b : Bool) → (b ≡ true → P true) → (b ≡ false → P false) → P b
bool_cases P true f g = f refl
bool_cases P false f g = g refl

pub and_first : (b c : Bool) → (b && c) ≡ true → b ≡ true
and_first b c h = (and_parts b c h).0

pub and_second : (b c : Bool) → (b && c) ≡ true → c ≡ true
and_second b c h = (and_parts b c h).1

-- a conjunction that fails though its first part holds
pub and_fails : (b c : Bool) → b ≡ true → (b && c) ≡ false → c ≡ false
and_fails true c e h = h
and_fails false c e h = let e : false ≡ true = e in cc

-- a disjunction that holds though its first part fails
pub or_holds : (b c : Bool) → b ≡ false → (b || c) ≡ true → c ≡ true
or_holds true c e h = let e : true ≡ false = e in cc
or_holds false c e h = h

pub or_none_first : (b c : Bool) → (b || c) ≡ false → b ≡ false
or_none_first b c h = (or_parts b c h).0

pub or_none_second : (b c : Bool) → (b || c) ≡ false → c ≡ false
or_none_second b c h = (or_parts b c h).1

pub not_or : (b c : Bool) → not (b || c) ≡ (not b && not c)
not_or true c = refl
not_or false c = refl

pub not_and : (b c : Bool) → not (b && c) ≡ (not b || not c)
not_and true c = refl
not_and false c = refl

pub not_twice : (b : Bool) → not (not b) ≡ b
not_twice true = refl
not_twice false = refl

-- two tests that hold together are one
pub same_test : (b c : Bool) → (b ≡ true → c ≡ true) → (c ≡ true → b ≡ true) → b ≡ c
same_test true true f g = refl
same_test true false f g = let e : false ≡ true = f refl in cc
same_test false true f g = g refl
same_test false false f g = refl
