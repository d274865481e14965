-- The pieces that a line is made of, each read from the front of what is left of the line.
use Rattle.std.specs.Prelude.{ℕ, suc, ◌+◌, ◌-◌, ◌*◌, max, Bool, cond, List, [], ◌∷◌, length, drop, Some, None, Ok, Err, Option, Result, ◌==◌, nat_eq}
use Rattle.std.specs.List.{common_prefix_len}
use Rattle.text.specs.Digits.{hex_digit}
use Rattle.sheet_line.specs.declared.expected.Expected.{Expected}
use Rattle.sheet_line.specs.declared.expected.Expected.TheVariants.{HexDigit}
use Rattle.sheet_line.specs.declared.pieces.Stop.{Stop}
use Rattle.sheet_line.specs.declared.pieces.Read.{Read}
use Rattle.sheet_line.specs.declared.pieces.Named.{Named}

-- what a piece gives: its meaning and the rest of the line, or where the line stops to fit
abbrev pub Given : Type 0 → Type 0
Given A = Result (A × List ℕ) Stop

-- the same of what the code returns
abbrev pub seen : {A : Type 0} → Result (Read A) Stop → Given A
seen (Ok r) = Ok (r.value, r.rest.now)
seen (Err s) = Err s

-- one piece and then another: what comes first may stop the line
abbrev pub then : {A B : Type 0} → Given A → (A → List ℕ → Result B Stop) → Result B Stop
then (Ok (a, rest)) f = f a rest
then (Err s) f = Err s

-- the line stops to fit with as many bytes left
abbrev pub stop : {A : Type 0} → ℕ → Expected → Result A Stop
stop n e = Err (record { left = n; expected = e })

-- a word and its meaning
abbrev pub named : {A : Type 0} → Named A → List ℕ × A
named w = (w.text.now, w.means)

-- a word stands at the front
abbrev pub stands : List ℕ → List ℕ → Bool
stands word bs = common_prefix_len nat_eq bs word == length word

-- the first of some words that stands at the front, and what follows it
abbrev pub found : {A : Type 0} → List (List ℕ × A) → List ℕ → Option (A × List ℕ)
found [] bs = None
found (w ∷ ws) bs = cond (stands w.0 bs) (Some (w.1, drop (length w.0) bs)) (found ws bs)

-- how many bytes at the front begin one of some words
abbrev pub nearest : {A : Type 0} → List (List ℕ × A) → List ℕ → ℕ
nearest [] bs = 0
nearest (w ∷ ws) bs = max (common_prefix_len nat_eq bs w.0) (nearest ws bs)

-- what was found, or else where the bytes begin none of the words
abbrev pub found_or_stop : {A : Type 0} → Option (A × List ℕ) → ℕ → Expected → Given A
found_or_stop (Some r) n e = Ok r
found_or_stop None n e = stop n e

-- one of some words, none of which begins another
abbrev pub one_of : {A : Type 0} → Expected → List (List ℕ × A) → List ℕ → Given A
one_of e words bs = found_or_stop (found words bs) (length bs - nearest words bs) e

-- what follows a byte, where it stands at the front
abbrev pub after_byte : ℕ → List ℕ → Option (List ℕ)
after_byte b [] = None
after_byte b (c ∷ cs) = cond (c == b) (Some cs) None

-- a hexadecimal digit, where a byte has the value of one
abbrev pub digit_or_stop : Option ℕ → List ℕ → Given ℕ
digit_or_stop (Some d) rest = Ok (d, rest)
digit_or_stop None rest = stop (suc (length rest)) HexDigit

-- a hexadecimal digit
abbrev pub hex_at : List ℕ → Given ℕ
hex_at [] = stop 0 HexDigit
hex_at (b ∷ bs) = digit_or_stop (hex_digit b) bs

-- an address: two hexadecimal digits, the high one first
abbrev pub address_at : List ℕ → Given ℕ
address_at bs = then (hex_at bs) (λ high bs. then (hex_at bs) (λ low rest. Ok (16 * high + low, rest)))
