-- The black box: what arming and the box rule make of it.
-- Assumes nothing.
use Rattle.std.specs.Prelude.{ℕ, Bool, true, false, List, replicate}
use Rattle.alert.specs.declared.boxes.BlackBox.{BlackBox}
use Rattle.alert.specs.declared.boxes.BoxState.{BoxState}
use Rattle.alert.specs.declared.boxes.BoxState.TheVariants.{Armed, Taken}

-- whether the next pull is taken
abbrev pub is_armed : BoxState → Bool
is_armed Armed = true
is_armed Taken = false

-- a box as it is built: armed, with twelve zero bytes
abbrev pub new_box : BlackBox
new_box = record { state = Armed; bytes = replicate 12 0 }

-- the box armed, with the bytes that it had
abbrev pub armed_again : BlackBox → BlackBox
armed_again b = record { state = Armed; bytes = b.bytes }

-- the box rule: armed, and its station pulling, the box takes the frame and is armed no more; otherwise it stays
abbrev pub noted : BlackBox → Bool → List ℕ → BlackBox
noted b pulling frame = kept b.state pulling
  where
    kept : BoxState → Bool → BlackBox
    kept Armed true = record { state = Taken; bytes = frame }
    kept Armed false = b
    kept Taken true = b
    kept Taken false = b
