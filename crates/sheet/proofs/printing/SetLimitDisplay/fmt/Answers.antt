use Rattle.std.proofs.Common.{rules, ◌≡◌, Some, w64, to_z, of_z, append-nil}
use Rattle.std.specs.Fmt.{styled_digits_output}
use Rattle.text.specs.Writing.{hex_word}
use Rattle.text.proofs.Printing.{hex_word_text}
use Rattle.sheet.proofs.Shown.{writes_whole}
use Rattle.sheet.proofs.printing.SetLimitDisplay.fmt.Goals as goal

pub returns-clause-writes : goal.returns-clause-writes
returns-clause-writes g c =
    let setting = c.args.self.now.setting in
    let word : styled_digits_output c.in_radix.result c.laid_out.result ≡ Some (hex_word setting.word) = search (rules, hex_word_text, c.in_radix.ensures, c.laid_out.ensures) in
    let value : to_z w64 (of_z w64 setting.stands_for) ≡ setting.stands_for = search rules in
    writes_whole _ _ _ _ _ _ c.writeln.ensures.writes (rw (word, value, c.quantity.ensures, c.bytes-bytes.ensures, append-nil))
