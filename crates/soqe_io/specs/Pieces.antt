-- The pieces in which bytes are read and written.
use Rattle.std.specs.Prelude.{ℕ, ◌<◌, ◌≤◌}

-- the most bytes of one read and of one write
abbrev pub most_of_piece : ℕ
most_of_piece = 4096

-- so many bytes may be asked for, or handed over, at one call
abbrev pub IsPiece : ℕ → Type 0
IsPiece count = (0 < count) × (count ≤ most_of_piece)
