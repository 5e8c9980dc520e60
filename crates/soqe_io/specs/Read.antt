-- What reading does to a source and to what takes the bytes in.
use Rattle.std.specs.Prelude.{◌≡◌, ◌≤◌, ◌++◌, ℕ, List, Option, length}
use Rattle.std.specs.Io.KnownBytes.{Consumes}

-- so many bytes went from a source to an intake
pub record HasRead {T : Type 0} (HasTaken : T → List ℕ → Type 0) (before after : Option (List ℕ)) (old new : T) (count : ℕ) : Type 0 where
  pub read : List ℕ
  pub lost : Consumes before after read
  pub long : length read ≡ count
  pub taken : (bytes : List ℕ) → HasTaken old bytes → HasTaken new (bytes ++ read)

-- a source lost at most so many bytes
pub record IsReadWithin (limit : ℕ) (before after : Option (List ℕ)) : Type 0 where
  pub read : List ℕ
  pub lost : Consumes before after read
  pub short : length read ≤ limit
