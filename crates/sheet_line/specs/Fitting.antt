-- Which lines fit a form, as texts put together; and which place is that of the first byte that fits nothing.
-- Assumes nothing.
use Rattle.std.specs.Prelude.{◌≡◌, ℕ, ◌+◌, ◌*◌, ◌≤◌, true, ◌⊎◌, List, [], ◌∷◌, ◌++◌, length, take, drop, Some, Ok, Err, Result}
use Rattle.direct.specs.Registers.{register_quantity}
use Rattle.text.specs.Digits.{is_digit, hex_digit}
use Rattle.sheet_line.specs.Forms.{decimals}
use Rattle.sheet_line.specs.Names.{keywords, blank, kinds, current_limits, registers}
use Rattle.sheet_line.specs.declared.line.Line.{Line}
use Rattle.sheet_line.specs.declared.line.Misfit.{Misfit}
use Rattle.sheet_line.specs.declared.names.Keyword.{Keyword}
use Rattle.sheet_line.specs.declared.names.Keyword.TheVariants as keyword

-- a text of a first part, which means something, and then one of a second part, which may depend on that
abbrev pub After : {A : Type 0} → (A → List ℕ → Type 0) → (A → List ℕ → Type 0) → List ℕ → Type 0
After {A} first second bs = (a : A) × (t : List ℕ) × (m : List ℕ) × first a t × second a m × (bs ≡ t ++ m)

-- the text is one of some words, with its meaning
abbrev pub Word : {A : Type 0} → List (List ℕ × A) → A → List ℕ → Type 0
Word [] a t = ⊥
Word (w ∷ ws) a t = ((w.0 ≡ t) × (w.1 ≡ a)) ⊎ Word ws a t

-- the text is two hexadecimal digits, and means the byte that they write
abbrev pub Address : ℕ → List ℕ → Type 0
Address a t =
    (x : ℕ) × (y : ℕ) × (high : ℕ) × (low : ℕ) × (hex_digit x ≡ Some high) × (hex_digit y ≡ Some low) × (a ≡ 16 * high + low) × (t ≡ x ∷ y ∷ [])

-- every byte is a decimal digit
abbrev pub EveryDigit : List ℕ → Type 0
EveryDigit [] = Unit {0}
EveryDigit (b ∷ bs) = (is_digit b ≡ true) × EveryDigit bs

-- 1 to `most` decimal digits
abbrev pub Digits : ℕ → List ℕ → Type 0
Digits most t = EveryDigit t × (1 ≤ length t) × (length t ≤ most)

-- 1 to 12 digits, and optionally a point and 1 to k digits
abbrev pub Magnitude : ℕ → List ℕ → Type 0
Magnitude k bs = (w : List ℕ) × Digits 12 w × ((bs ≡ w) ⊎ ((f : List ℕ) × Digits k f × (bs ≡ w ++ 46 ∷ f)))

-- the same, optionally with `-` in front
abbrev pub Value : ℕ → List ℕ → Type 0
Value k bs = ((m : List ℕ) × Magnitude k m × (bs ≡ 45 ∷ m)) ⊎ Magnitude k bs

-- KIND CL RESISTOR
abbrev pub Settings : List ℕ → Type 0
Settings = After (Word kinds) (λ _. After (Word blank) (λ _. After (Word current_limits) (λ _. After (Word blank) (λ _. Digits 9))))

-- what follows the keyword and a blank: ADDRESS and the settings, or NAME and VALUE
abbrev pub Tail : Keyword → List ℕ → Type 0
Tail keyword.Card = After Address (λ _. After (Word blank) (λ _. Settings))
Tail keyword.Limit = After (Word registers) (λ r. After (Word blank) (λ _. Value (decimals (register_quantity r))))

-- a card line or a limit line
abbrev pub Formed : List ℕ → Type 0
Formed = After (Word keywords) (λ k. After (Word blank) (λ _. Tail k))

-- an empty line, or one that starts with #
abbrev pub Note : List ℕ → Type 0
Note [] = Unit {0}
Note (b ∷ bs) = b ≡ 35

-- a line of some form
abbrev pub Fits : List ℕ → Type 0
Fits bs = Note bs ⊎ Formed bs

-- both end, or both go on with the same byte
abbrev pub SameNext : List ℕ → List ℕ → Type 0
SameNext [] [] = Unit {0}
SameNext [] (y ∷ ys) = ⊥
SameNext (x ∷ xs) [] = ⊥
SameNext (x ∷ xs) (y ∷ ys) = x ≡ y

-- p is the place of the first byte that fits nothing, the end of the line counting as a byte: what stands before it begins a
-- line that fits, and no line that fits begins so and has the same byte at p
pub record FirstMisfit (bs : List ℕ) (p : ℕ) : Type 0 where
  pub within : p ≤ length bs
  pub goes_on : (u : List ℕ) × Fits (take p bs ++ u)
  pub no_other : (u : List ℕ) → Fits (take p bs ++ u) → SameNext (drop p bs) u → ⊥

-- a line that was taken apart fits, and a misfit has its place
abbrev pub Placed : List ℕ → Result Line Misfit → Type 0
Placed bs (Ok l) = Fits bs
Placed bs (Err m) = FirstMisfit bs m.place
