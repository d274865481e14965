use Rattle.std.proofs.Common.{rules, ◌≡◌, Some, w64, to_z, of_z, append-nil}
use Rattle.std.specs.Fmt.{styled_digits_output}
use Rattle.text.specs.Writing.{hex_text}
use Rattle.text.proofs.Printing.{hex_byte_text}
use Rattle.sheet.specs.Printing.{limit_asked}
use Rattle.sheet.proofs.Shown.{writes_whole}
use Rattle.sheet.proofs.printing.AskedDisplay.fmt.Goals as goal

pub returns-clause-writes : goal.returns-clause-writes
unfolding limit_asked
returns-clause-writes g c =
    let value = c.args.self.now.0.value in
    let code : styled_digits_output c.in_radix.result c.laid_out.result ≡ Some (hex_text c.code-code.result) = search (rules, hex_byte_text, c.in_radix.ensures, c.laid_out.ensures) in
    let same : to_z w64 (of_z w64 value) ≡ value = search rules in
    writes_whole _ _ _ _ _ _ c.write.ensures.writes (rw (code, c.code-code.ensures, same, c.quantity.ensures, append-nil))
