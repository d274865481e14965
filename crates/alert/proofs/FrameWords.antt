-- The bytes of words.
-- Assumes nothing.
use Rattle.std.proofs.Common.{◌≡◌, ℕ, suc, ◌/◌, ◌%◌, ◌<◌, List, [], ◌∷◌, ◌++◌, length, get_or, refl, arith}
use Rattle.std.specs.List.{flat_map}
use Rattle.alert.specs.Frames.{frame_bytes}

-- pairs that are the two bytes of each word are the bytes of the words, one pair after another
pub bytes_of_pairs : (words : List ℕ) (pairs : List (List ℕ)) → length pairs ≡ length words
    → ((k : ℕ) → k < length words → get_or pairs k [] ≡ get_or words k 0 % 256 ∷ get_or words k 0 / 256 ∷ []) → flat_map (λ pair. pair) pairs ≡ frame_bytes words
bytes_of_pairs [] [] n at = refl
bytes_of_pairs [] (pair ∷ pairs) n at = absurd (omega arith)
bytes_of_pairs (word ∷ words) [] n at = absurd (omega arith)
bytes_of_pairs (word ∷ words) (pair ∷ pairs) n at =
    let first = at 0 (omega arith) in
    let rest = bytes_of_pairs words pairs (omega arith) (λ k h. at (suc k) (omega arith)) in
    λ i. first i ++ rest i
