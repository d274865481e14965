-- The whole sheet.
use Rattle.std.specs.Prelude.{ℕ, ◌+◌, Bool, true, false, cond, List, [], ◌∷◌, ◌++◌, None, Ok, Err, codes, decimal, Option, Result}
use Rattle.text.specs.Lines.{lines_of}
use Rattle.sheet_line.specs.Forms.{line_of}
use Rattle.sheet.specs.Answers.{answer_of, next_card}
use Rattle.sheet.specs.Parts.{in_turn}
use Rattle.sheet.specs.Printing.{printed}
use Rattle.sheet.specs.declared.answers.Answer.{Answer}
use Rattle.sheet.specs.declared.answers.Answer.TheVariants as answer
use Rattle.sheet.specs.declared.answers.PlacedCard.{PlacedCard}
use Rattle.sheet.specs.declared.answers.Refusal.{Refusal}
use Rattle.sheet.specs.declared.answers.Refusal.TheVariants as refusal

-- the answers to some lines, one after the other, where a card may be set before them
abbrev pub answers : Option PlacedCard → List (List ℕ) → List (Result Answer Refusal)
answers p [] = []
answers p (l ∷ ls) = answer_of (line_of l) p ∷ answers (next_card (line_of l) p) ls

-- what is printed of them, where the first is the n-th line
abbrev pub printed_from : ℕ → Option PlacedCard → List (List ℕ) → List ℕ
printed_from n p [] = []
printed_from n p (l ∷ ls) = printed n l (answer_of (line_of l) p) ++ printed_from (n + 1) (next_card (line_of l) p) ls

-- a limit that is set
abbrev pub is_set : Result Answer Refusal → Bool
is_set (Ok answer.Note) = false
is_set (Ok (answer.Card p)) = false
is_set (Ok (answer.Limit s)) = true
is_set (Err e) = false

-- a limit that is refused by a number
abbrev pub is_refused : Result Answer Refusal → Bool
is_refused (Ok a) = false
is_refused (Err (refusal.Card e)) = false
is_refused (Err (refusal.Limit l e)) = true
is_refused (Err (refusal.Misfit m)) = false

-- a line that is not understood: it has none of the forms, or it is a limit without a card
abbrev pub is_misfit : Result Answer Refusal → Bool
is_misfit (Ok a) = false
is_misfit (Err (refusal.Card e)) = false
is_misfit (Err (refusal.Limit l e)) = false
is_misfit (Err (refusal.Misfit m)) = true

-- 1 where a test holds
abbrev pub one_if : Bool → ℕ
one_if b = cond b 1 0

-- how many answers pass a test
abbrev pub how_many : (Result Answer Refusal → Bool) → List (Result Answer Refusal) → ℕ
how_many p [] = 0
how_many p (a ∷ rest) = one_if (p a) + how_many p rest

-- the last line
abbrev pub last_line : ℕ → ℕ → ℕ → List ℕ
last_line set refused misfits =
    in_turn (codes "limits set " ∷ decimal set ∷ codes ", refused " ∷ decimal refused ∷ codes ", lines not understood " ∷ decimal misfits ∷ codes "\n" ∷ [])

-- the last line of some answers
abbrev pub tally_line : List (Result Answer Refusal) → List ℕ
tally_line all = last_line (how_many is_set all) (how_many is_refused all) (how_many is_misfit all)

-- what is printed of the whole: a line for each line, and the tally; no card is set at the start
abbrev pub printed_sheet : List ℕ → List ℕ
printed_sheet input = printed_from 1 None (lines_of input) ++ tally_line (answers None (lines_of input))
