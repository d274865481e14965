-- The right side's entries follow those of the left.
use Rattle.std.proofs.Common.{◌≡◌, length, ap, ◌∙◌, arith, length-append, length-drop}
use Rattle.segment.proofs.Buffers.{over_join_part, over_length, rest_whole}
use Rattle.segment_join.proofs.joins.JoinSegment.write_entries.Goals as goal

pub returns-then-self : goal.returns-then-self
returns-then-self g c =
    let s = c.args.self.now in
    let l = g.L.Segment.entries s.left in
    let r = g.R.Segment.entries s.right in
    let into = c.args.into.now in
    let first = c.write_entries-start.ensures in
    let second = c.write_entries.ensures in
    let middle = c.write_entries-start.new.into in
    let kept : length middle ≡ length into = ap length first.items ∙ over_length l into in
    let sum = length-append l r in
    let left = ap length (rest_whole middle c.write_entries-start.result) ∙ length-drop c.write_entries-start.result middle in
    rw c.if-self.true (record {
      count = omega (arith, first.count, second.count, kept, sum, left);
      items = over_join_part l r into middle c.write_entries.new.into c.write_entries-start.result first.count first.items second.items;
    })
