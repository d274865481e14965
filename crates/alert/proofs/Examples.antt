-- Small cases of the definitions.
-- Assumes nothing.
use Rattle.std.proofs.Common.{◌≡◌, ℕ, true, false, List, [], ◌∷◌, refl, lit<}
use Rattle.alert.specs.Alerts.{asserts, covers}
use Rattle.alert.specs.Bits.{has_bit}
use Rattle.alert.specs.Boxes.{armed_again, new_box, noted}
use Rattle.alert.specs.Frames.{frame_bytes}
use Rattle.alert.specs.Printing.{five_digits}
use Rattle.alert.specs.declared.alerts.AlertRecord.{AlertRecord}
use Rattle.alert.specs.declared.conditions.Conditions as c
use Rattle.alert.proofs.Sets.{none}

-- the sets {}, {1}, {16} and {1, 16}
abbrev no_condition : c.Conditions
no_condition = record { bits = 0; few = lit< tt }

abbrev one : c.Conditions
one = record { bits = 2; few = lit< tt }

abbrev sixteen : c.Conditions
sixteen = record { bits = 65536; few = lit< tt }

abbrev one_and_sixteen : c.Conditions
one_and_sixteen = record { bits = 65538; few = lit< tt }

-- the record of a set of which nothing is answered, and of one of which all is
abbrev unanswered : c.Conditions → AlertRecord
unanswered s = record { latched = s; answered = no_condition; within = λ d h. absurd (none d h) }

abbrev all_answered : c.Conditions → AlertRecord
all_answered s = record { latched = s; answered = s; within = λ d h. h }

-- a mask of FFFFh covers 15, and does not cover 16
mask_covers_15 : covers 0xffff 15 ≡ true
unfolding has_bit
mask_covers_15 = refl

mask_spares_16 : covers 0xffff 16 ≡ false
mask_spares_16 = refl

-- a latched condition asserts, unless it is masked or answered
latched_asserts : asserts (unanswered one) 0 ≡ true
unfolding asserts has_bit
latched_asserts = refl

masked_is_silent : asserts (unanswered one) 2 ≡ false
unfolding asserts has_bit
masked_is_silent = refl

sixteen_asserts : asserts (unanswered one_and_sixteen) 0xffff ≡ true
unfolding asserts has_bit
sixteen_asserts = refl

answered_is_silent : asserts (all_answered one_and_sixteen) 0 ≡ false
unfolding asserts has_bit
answered_is_silent = refl

-- an armed box takes the frame of a pull, keeps it at the next, and takes again once armed
abbrev ones : List ℕ
ones = 1 ∷ 1 ∷ 1 ∷ 1 ∷ 1 ∷ 1 ∷ 1 ∷ 1 ∷ 1 ∷ 1 ∷ 1 ∷ 1 ∷ []

abbrev twos : List ℕ
twos = 2 ∷ 2 ∷ 2 ∷ 2 ∷ 2 ∷ 2 ∷ 2 ∷ 2 ∷ 2 ∷ 2 ∷ 2 ∷ 2 ∷ []

box_waits : noted new_box false ones ≡ new_box
box_waits = refl

box_takes : (noted new_box true ones).bytes ≡ ones
box_takes = refl

box_keeps : noted (noted new_box true ones) true twos ≡ noted new_box true ones
box_keeps = refl

box_takes_again : (noted (armed_again (noted new_box true ones)) true twos).bytes ≡ twos
box_takes_again = refl

-- six words in twelve bytes, low byte first
frame_of_six : frame_bytes (0x0102 ∷ 0x0304 ∷ 0x0506 ∷ 0x0708 ∷ 0x090a ∷ 0x0b0c ∷ []) ≡ (2 ∷ 1 ∷ 4 ∷ 3 ∷ 6 ∷ 5 ∷ 8 ∷ 7 ∷ 10 ∷ 9 ∷ 12 ∷ 11 ∷ [])
frame_of_six = refl

-- the set of 1 and 16 is printed 10002
printed : five_digits one_and_sixteen ≡ (49 ∷ 48 ∷ 48 ∷ 48 ∷ 50 ∷ [])
printed = refl
