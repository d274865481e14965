use Rattle.std.proofs.Common.{◌-◌, ◌/◌, ◌%◌, decimal, sym, rules}
use Rattle.std.proofs.Output.{has_written_append, has_written_of_eq}
use Rattle.text.specs.Writing.{fixed}
use Rattle.text.proofs.Printing.{fixed_step}
use Rattle.text.proofs.display.+write_scaled.Goals as goal

pub returns : goal.returns
returns g t c plain ok =
    let front = fixed (c.args.decimals - 1) (c.args.units / 10) in
    has_written_of_eq _ _ _ _ c.write-2.new.self (sym (fixed_step c.args.decimals c.args.units c.if-decimals-eq0.false))
    (has_written_append _ _ front c.write_scaled.new.f (decimal (c.args.units % 10)) _ (search rules) (search rules))
