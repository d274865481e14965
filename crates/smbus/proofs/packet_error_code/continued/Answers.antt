-- One byte more, and all of them; the laws of codes say the rest.
use Rattle.std.proofs.Common.{◌≡◌, sym, ◌∙◌, arith}
use Rattle.smbus.specs.PacketErrorCode.{code_from}
use Rattle.smbus.proofs.Codes.{code_caught, code_joined, code_zero}
use Rattle.smbus.proofs.packet_error_code.continued.Goals as goal
use Rattle.std.proofs.lemmas.List.{take_all}

pub returns : goal.returns
returns c =
    let start = c.args.running in
    let bytes = c.args.bytes.now in
    let whole : c.loop-byte.code ≡ code_from start bytes = grind (arith, take_all) in
    record {
      value = whole;
      joined = λ front e. whole ∙ sym (code_joined 0 front bytes start e);
      zero = code_zero start bytes _ whole;
      caught = λ changed d e. code_caught start bytes changed _ d whole e;
    }
