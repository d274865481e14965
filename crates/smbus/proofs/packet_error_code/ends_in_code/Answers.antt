-- The last byte is the code, and a law of codes says the rest.
use Rattle.std.proofs.Common.{rules}
use Rattle.smbus.proofs.Codes.{ends_caught}
use Rattle.smbus.proofs.packet_error_code.ends_in_code.Goals as goal

pub returns-clause-caught : goal.returns-clause-caught
returns-clause-caught c = λ changed d t. ends_caught c.args.packet.now changed d (search rules)
