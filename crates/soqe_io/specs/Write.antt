-- What a failed write leaves.
use Rattle.std.specs.Prelude.{◌<◌, ℕ, List, Option, length, take}
use Rattle.std.specs.Io.KnownBytes.{Appends}

-- a sink took a proper prefix of a text
pub record IsCutShort (text : List ℕ) (before after : Option (List ℕ)) : Type 0 where
  pub count : ℕ
  pub proper : count < length text
  pub taken : Appends before after (take count text)
