-- The code of the second half goes on from that of the first, and the laws of codes say the rest.
use Rattle.std.proofs.Common.{sym, ap, ◌∙◌}
use Rattle.smbus.specs.PacketErrorCode.{code_from}
use Rattle.smbus.proofs.Codes.{code_caught, code_joined, code_zero}
use Rattle.smbus.proofs.exported.in_halves.Goals as goal

pub returns : goal.returns
returns c =
    let start = c.args.running in
    let bytes = c.args.bytes.now in
    let halves = c.split_at.result in
    let joined = code_joined start halves.0.now halves.1.now _ (sym c.continued.ensures.value) in
    let value = c.continued-2.ensures.value ∙ sym joined ∙ ap (code_from start) (sym c.split_at.ensures.by_index.0) in
    record { value = value; zero = code_zero start bytes _ value; caught = λ changed d e. code_caught start bytes changed _ d value e }
