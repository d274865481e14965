-- What is left of a line after some bytes, where the whole line spells bytes.
-- Assumes nothing.
use Rattle.std.proofs.Common.{◌≡◌, ℕ, ◌<◌, List, [], ◌∷◌, ◌++◌, length, get_or, refl, ap, arith, length-append}
use Rattle.text.specs.Writing.{hex_text}
use Rattle.pec_vectors.specs.Hexadecimal.{Hexadecimal, spelled}

-- what follows spelled bytes in a line that spells bytes spells bytes too
pub rest_hexadecimal : (bytes rest : List ℕ) → Hexadecimal (spelled bytes ++ rest) → Hexadecimal rest
rest_hexadecimal [] rest h = h
rest_hexadecimal (b ∷ bytes) rest ([], all, e) = absurd (omega (arith, ap length e))
rest_hexadecimal (b ∷ bytes) rest (m ∷ more, all, e) = rest_hexadecimal bytes rest (more, all.1, cc)

-- a line of bytes that is not empty begins with the two digits of a byte
pub no_pair : (high low : ℕ) (rest : List ℕ) → ((b : ℕ) → b < 256 → (high ∷ low ∷ []) ≡ hex_text b → ⊥) → Hexadecimal (high ∷ low ∷ rest) → ⊥
no_pair high low rest no_byte ([], all, e) = absurd (omega (arith, ap length e))
no_pair high low rest no_byte (m ∷ more, all, e) = no_byte m all.0 cc

-- a line of one character spells none
pub no_single : (line : List ℕ) → length line ≡ 1 → Hexadecimal line → ⊥
no_single line one ([], all, e) = omega (arith, ap length e)
no_single line one (m ∷ more, all, e) = omega (arith, simp length-append at (ap length e))

-- a piece of two characters
pub pair_is : (pair : List ℕ) → length pair ≡ 2 → pair ≡ get_or pair 0 0 ∷ get_or pair 1 0 ∷ []
pair_is [] two = absurd (omega arith)
pair_is (x ∷ []) two = absurd (omega arith)
pair_is (x ∷ y ∷ []) two = refl
pair_is (x ∷ y ∷ z ∷ more) two = absurd (omega arith)
