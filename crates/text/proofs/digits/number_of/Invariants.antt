use Rattle.std.proofs.Common.{◌≡◌, ◌^◌, ◌<◌, take}
use Rattle.text.specs.Digits.{number_of}
use Rattle.text.proofs.digits.number_of.Given as goal

abbrev pub invariant-loop-digit : goal.invariant-loop-digit
invariant-loop-digit l = record { so_far : l.number ≡ number_of (take l.digit-index l.digits); bound : l.number < 10 ^ l.digit-index }
