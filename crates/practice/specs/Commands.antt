-- The commands of the station for practice, and which bytes stand for them.
-- Assumes nothing.
use Rattle.std.specs.Prelude.{◌≡◌, ℕ, None, Result, MatchResult}
use Rattle.segment.specs.Requesting.{common_form}
use Rattle.segment.specs.declared.faults.StationFault.{StationFault}
use Rattle.practice.specs.Practice.{AsUnknown}
use Rattle.practice.specs.declared.commands.Command.{Command}
use Rattle.practice.specs.declared.commands.Command.TheVariants.{Clear, Mask, BlackBox}

-- the byte that stands for a command
abbrev pub number_of : Command → ℕ
number_of Clear = 0x03
number_of Mask = 0xd8
number_of BlackBox = 0xe0

-- the result is the command that the byte stands for, or it is refused as unknown, and no station owes it
abbrev pub Named : ℕ → Result Command StationFault → Type 0
Named number r = MatchResult r (λ command. number_of command ≡ number) (λ fault. AsUnknown fault × (common_form number ≡ None))
