-- The code so far is that of the bytes so far.
use Rattle.std.proofs.Common.{◌≡◌, take}
use Rattle.smbus.specs.PacketErrorCode.{code_from}
use Rattle.smbus.proofs.packet_error_code.continued.Given as goal

abbrev pub invariant-loop-byte : goal.invariant-loop-byte
invariant-loop-byte l = l.code ≡ code_from l.running (take l.byte-index l.bytes)
