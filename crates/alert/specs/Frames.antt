-- The twelve bytes of a frame.
-- Assumes nothing.
use Rattle.std.specs.Prelude.{ℕ, ◌/◌, ◌%◌, List, [], ◌∷◌}

-- words as bytes, the low byte of each first
abbrev pub frame_bytes : List ℕ → List ℕ
frame_bytes [] = []
frame_bytes (word ∷ more) = word % 256 ∷ word / 256 ∷ frame_bytes more
