use Rattle.std.proofs.Common.{◌≡◌, ◌+◌, ◌^◌, ◌<◌, ◌≤◌, ◌++◌, length, drop, decimal}
use Rattle.text.proofs.Appending.{front_digits}
use Rattle.text.proofs.writing.decimal_digits.Given as goal

abbrev pub invariant-loop-left : goal.invariant-loop-left
invariant-loop-left l =
    (length l.buffer ≡ 20) × (l.start < 20) × (l.left < 10 ^ (l.start + 1)) × (l.left ≤ l.n) × (front_digits l.left ++ drop l.start l.buffer ≡ decimal l.n)

abbrev pub decreases-loop-left : goal.decreases-loop-left
decreases-loop-left l = l.left
