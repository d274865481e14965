-- The index is below 256, and what stands there is the step.
use Rattle.std.proofs.Common.{ℕ, ◌∷◌, get_or, sym, ap, ◌∙◌, arith}
use Rattle.smbus.specs.PacketErrorCode.{code_from, remainders}
use Rattle.smbus.proofs.Codes.{code_joined}
use Rattle.smbus.proofs.Steps.{step_of_table}
use Rattle.smbus.proofs.table.byte_step.Goals as goal

pub returns : goal.returns
returns c =
    let running = c.args.running in
    let byte = c.args.byte in
    let value = ap (λ (n : ℕ). get_or remainders n 0) c.from.ensures ∙ step_of_table running byte (omega arith) (omega arith) in
    record {
      value = value;
      joined = λ start front rest e. code_joined start front (byte ∷ rest) running e ∙ ap (λ (n : ℕ). code_from n rest) (sym value);
    }
