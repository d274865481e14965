use Rattle.std.proofs.Common.{vec_items}
use Rattle.std.specs.Iterator.Adapters.{enumerate_source, enumerate_count}
use Rattle.text.specs.Lines.{lines_of}
use Rattle.sheet.specs.Answers.{placed}
use Rattle.sheet.proofs.Turns.{Sofar}
use Rattle.sheet.proofs.sheet.sheet_of.Given as goal

abbrev pub invariant-loop-before : goal.invariant-loop-before
invariant-loop-before l = Sofar (lines_of l.input) (lines_of (enumerate_source l.before-iterator).rest.now) (vec_items l.text) (enumerate_count l.before-iterator) (placed l.monitor) l.tally.set l.tally.refused l.tally.misfits
