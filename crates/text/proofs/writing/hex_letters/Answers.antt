use Rattle.std.proofs.Common.{arith, rules}
use Rattle.text.proofs.Reading.{hex_reads}
use Rattle.text.proofs.writing.hex_letters.Goals as goal

pub returns : goal.returns
returns c = record { value = search rules; reads = hex_reads c.args.byte (omega arith) }
