-- The numbers that a line ends in.
use Rattle.std.specs.Prelude.{ℕ, ◌+◌, ◌-◌, ◌*◌, ◌^◌, cond, List, length, take, drop, ℤ, pos, neg_ℤ, Some, None, Ok, Err, Option, Result, ◌==◌, nat_lt}
use Rattle.text.specs.Digits.{digits_at_front, number_of}
use Rattle.sheet_line.specs.Pieces.{stop, after_byte}
use Rattle.sheet_line.specs.declared.expected.Expected.{Expected}
use Rattle.sheet_line.specs.declared.expected.Expected.TheVariants.{Digit, DigitOrMinus, DigitPointOrEnd, PointOrEnd, DigitOrEnd, End}
use Rattle.sheet_line.specs.declared.pieces.Stop.{Stop}

-- a number taken further, unless the line stops to fit
abbrev pub each : {A B : Type 0} → (A → B) → Result A Stop → Result B Stop
each f (Ok a) = Ok (f a)
each f (Err s) = Err s

-- what may follow n digits that end the line, where at most `most` may come
abbrev pub after_digits : ℕ → ℕ → Expected
after_digits most n = cond (nat_lt n most) DigitOrEnd End

-- what may follow n digits before a point
abbrev pub after_whole : ℕ → Expected
after_whole n = cond (nat_lt n 12) DigitPointOrEnd PointOrEnd

-- n digits stand at the front: they have to be some, and all that is left
abbrev pub all_digits : ℕ → ℕ → List ℕ → Result ℕ Stop
all_digits most n bs =
    cond (n == 0) (stop (length bs) Digit) (cond (nat_lt n (length bs)) (stop (length bs - n) (after_digits most n)) (Ok (number_of bs)))

-- a number of 1 to `most` digits that ends the line
abbrev pub number_to_end : ℕ → List ℕ → Result ℕ Stop
number_to_end most bs = all_digits most (digits_at_front most bs) bs

-- 1 to k digits after a point, in units of the k-th
abbrev pub fraction_to_end : ℕ → List ℕ → Result ℕ Stop
fraction_to_end k bs = each (λ n. n * 10 ^ (k - length bs)) (number_to_end k bs)

-- what follows a point, or the place where a point could have stood
abbrev pub after_point : ℕ → ℕ → ℕ → ℕ → Option (List ℕ) → Result ℕ Stop
after_point k n whole left (Some bs) = each (λ f. whole * 10 ^ k + f) (fraction_to_end k bs)
after_point k n whole left None = stop left (after_whole n)

-- after n digits that write a whole number: the end of the line, or a point and the digits after it
abbrev pub point_or_end : ℕ → ℕ → ℕ → List ℕ → Result ℕ Stop
point_or_end k n whole bs = cond (length bs == 0) (Ok (whole * 10 ^ k)) (after_point k n whole (length bs) (after_byte 46 bs))

-- n digits stand at the front: they have to be some, and what may follow them has to follow
abbrev pub whole_part : ℕ → Expected → ℕ → List ℕ → Result ℕ Stop
whole_part k first n bs = cond (n == 0) (stop (length bs) first) (point_or_end k n (number_of (take n bs)) (drop n bs))

-- 1 to 12 digits and, where the line goes on, a point and 1 to k digits: in units of the k-th
abbrev pub magnitude_to_end : ℕ → Expected → List ℕ → Result ℕ Stop
magnitude_to_end k first bs = whole_part k first (digits_at_front 12 bs) bs

-- what follows `-`, or the whole where there is none
abbrev pub with_sign : ℕ → List ℕ → Option (List ℕ) → Result ℤ Stop
with_sign k bs (Some digits) = each (λ n. neg_ℤ (pos n)) (magnitude_to_end k Digit digits)
with_sign k bs None = each pos (magnitude_to_end k DigitOrMinus bs)

-- the same with or without `-` in front
abbrev pub value_to_end : ℕ → List ℕ → Result ℤ Stop
value_to_end k bs = with_sign k bs (after_byte 45 bs)
