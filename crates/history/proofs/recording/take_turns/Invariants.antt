-- The turns so far are taken, and there is memory for the others.
use Rattle.std.proofs.Common.{◌≡◌, ◌-◌, ◌≤◌, map, length, take, vec_items, vec_capacity}
use Rattle.history.specs.Histories.{OwnMade}
use Rattle.history.specs.Memory.{Blank, TurnsTaken}
use Rattle.history.specs.Recorded.{OwnRun, call_part, newest_first}
use Rattle.history.proofs.recording.take_turns.Given as goal

abbrev pub invariant-loop-call : goal.invariant-loop-call
invariant-loop-call g l =
    (map call_part (vec_items l.turns) ≡ take l.call-index l.calls)
    × (length l.calls ≤ vec_capacity l.turns)
    × Blank (length l.calls - l.call-index) (length (g.S.Segment.entries l.segment)) (length l.reply) (vec_items l.blanks)
    × TurnsTaken (g.S.Segment.joining l.initial.segment) (g.S.Segment.entries l.initial.segment) l.initial.reply (vec_items l.turns) l.reply (g.S.Segment.entries l.segment)
    × OwnRun (OwnMade g.S.Segment.samples g.S.Segment.transfers g.S.Segment.answers g.S.Segment.entries) l.initial.segment l.initial.reply (newest_first (vec_items l.turns)) l.segment
    × (g.S.Segment.joining l.segment ≡ g.S.Segment.joining l.initial.segment)
