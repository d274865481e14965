-- How bytes are spelled in upper-case hexadecimal.
-- Assumes nothing.
use Rattle.std.specs.Prelude.{◌≡◌, ℕ, ◌<◌, List}
use Rattle.std.specs.List.{AllByRecursion, flat_map}
use Rattle.text.specs.Writing.{hex_text}

-- a message is spelled byte after byte
abbrev pub spelled : List ℕ → List ℕ
spelled bytes = flat_map hex_text bytes

-- the line spells some bytes
abbrev pub Hexadecimal : List ℕ → Type 0
Hexadecimal line = (bytes : List ℕ) × AllByRecursion (λ b. b < 256) bytes × (line ≡ spelled bytes)
