-- The lines of a text.
use Rattle.std.specs.Prelude.{◌≡◌, ℕ, ◌+◌, ◌<◌, Bool, cond, not, List, [], ◌∷◌, length, take, drop, ◌==◌}
use Rattle.std.specs.List.{prefix_len}

-- puts a byte in front of the first line, or of a new line where there is none
abbrev pub onto_first : ℕ → List (List ℕ) → List (List ℕ)
onto_first b [] = (b ∷ []) ∷ []
onto_first b (l ∷ ls) = (b ∷ l) ∷ ls

-- the lines of a text: a line ends at 0Ah, which is no part of it; a last piece without it is a line if it has a byte
abbrev pub lines_of : List ℕ → List (List ℕ)
lines_of [] = []
lines_of (b ∷ bs) = cond (b == 10) ([] ∷ lines_of bs) (onto_first b (lines_of bs))

-- a byte that does not end a line
abbrev pub in_line : ℕ → Bool
in_line b = not (b == 10)

-- how many bytes stand before the first line end, or before the end of the text
abbrev pub line_length : List ℕ → ℕ
line_length bs = prefix_len in_line bs

-- a text is its first line and the rest: the line's bytes and those past its end, which are fewer
pub record Splits (text line rest : List ℕ) : Type 0 where
  pub lines : lines_of text ≡ line ∷ lines_of rest
  pub front : line ≡ take (line_length text) text
  pub back : rest ≡ drop (line_length text + 1) text
  pub shorter : length rest < length text
