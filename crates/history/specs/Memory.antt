-- How a run fills the memory that it got before its first call.
-- Assumes nothing.
use Rattle.std.specs.Prelude.{◌≡◌, ℕ, List, length, vec_len, All, Option}
use Rattle.alert.specs.declared.entries.Entry.{Entry}
use Rattle.segment.specs.declared.segments.JoinAnswer.{JoinAnswer}
use Rattle.history.specs.Histories.{Chain, Made}
use Rattle.history.specs.Law.{shown_at}
use Rattle.history.specs.Recorded.{call_of, moment_of, newest_first, shown_now}
use Rattle.history.specs.declared.moments.Moment.{Moment}
use Rattle.history.specs.declared.moments.Turn.{Turn}

-- the moment has places for so many entries and so many bytes of reply
abbrev pub Roomy : ℕ → ℕ → Moment → Type 0
Roomy stations bytes m = (vec_len m.entries ≡ stations) × (vec_len m.reply ≡ bytes)

-- so many moments, each with places for so many entries and bytes
abbrev pub Blank : ℕ → ℕ → ℕ → List Moment → Type 0
Blank count stations bytes moments = (length moments ≡ count) × All (Roomy stations bytes) moments

-- a turn taken: its call is made, and its answer and what shows then are written down
pub record TurnTaken (joining : Option JoinAnswer) (xs : List Entry) (before : List ℕ) (taken : Turn) (after : List ℕ) (ys : List Entry) : Type 0 where
  pub made : Made joining (call_of taken.call) taken.answer xs before after ys
  pub shown : moment_of taken.after ≡ shown_now ys after

-- turns taken one after the other, the oldest first
pub record TurnsTaken (joining : Option JoinAnswer) (xs : List Entry) (before : List ℕ) (taken : List Turn) (after : List ℕ) (ys : List Entry) : Type 0 where
  pub chain : Chain joining (shown_now xs before) (newest_first taken)
  pub end : shown_at (shown_now xs before) (newest_first taken) ≡ shown_now ys after
