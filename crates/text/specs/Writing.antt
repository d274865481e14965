-- What is written of a number and of bytes, and what an append does.
use Rattle.std.specs.Prelude.{◌≡◌, ℕ, zero, suc, ◌+◌, ◌/◌, ◌%◌, ◌^◌, Bool, true, false, cond, List, [], ◌∷◌, ◌++◌, ℤ, pos, Ok, Err, decimal, Result, int_lt, nat_lt, unsigned_abs}
use Rattle.std.specs.List.{flat_map}

-- `new` is `old` followed by some beginning of `text`
abbrev pub Begun : List ℕ → List ℕ → List ℕ → Type 0
Begun old text new = (part : List ℕ) × (left : List ℕ) × (text ≡ part ++ left) × (new ≡ old ++ part)

-- after `old` stands all of `text`; where memory was wanting, some beginning of it
abbrev pub Appends : {T E : Type 0} → Result T E → List ℕ → List ℕ → List ℕ → Type 0
Appends (Ok x) old text new = new ≡ old ++ text
Appends (Err e) old text new = Begun old text new

-- the byte of a hexadecimal digit, its letters in upper case
abbrev pub hex_letter : ℕ → ℕ
hex_letter d = cond (nat_lt d 10) (48 + d) (55 + d)

-- a byte as two hexadecimal digits
abbrev pub hex_text : ℕ → List ℕ
hex_text n = hex_letter (n / 16) ∷ hex_letter (n % 16) ∷ []

-- a word as four hexadecimal digits
abbrev pub hex_word : ℕ → List ℕ
hex_word n = hex_text (n / 256) ++ hex_text (n % 256)

-- the last k decimal digits of a number, zeros included
abbrev pub last_digits : ℕ → ℕ → List ℕ
last_digits zero n = []
last_digits (suc k) n = last_digits k (n / 10) ++ (48 + n % 10) ∷ []

-- a number in units of its last of k decimals: the whole part, a point, k digits
abbrev pub fixed : ℕ → ℕ → List ℕ
fixed k n = decimal (n / 10 ^ k) ++ 46 ∷ last_digits k n

-- `-` where a number is below zero
abbrev pub minus : Bool → List ℕ
minus true = 45 ∷ []
minus false = []

-- the same with its sign
abbrev pub signed_fixed : ℕ → ℤ → List ℕ
signed_fixed k z = minus (int_lt z (pos 0)) ++ fixed k (unsigned_abs z)

-- bytes in hexadecimal, a blank before each
abbrev pub spaced : List ℕ → List ℕ
spaced bytes = flat_map (λ b. 32 ∷ hex_text b) bytes
