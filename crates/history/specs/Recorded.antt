-- The history that a run returns as data, and what it says of the run.
-- Assumes nothing.
use Rattle.std.specs.Prelude.{◌≡◌, ℕ, List, [], ◌∷◌, ◌++◌, map, reverse, vec_items, Option}
use Rattle.alert.specs.declared.entries.Entry.{Entry}
use Rattle.segment.specs.Segments.{Built, some_pull}
use Rattle.segment.specs.declared.segments.JoinAnswer.{JoinAnswer}
use Rattle.history.specs.Histories as histories
use Rattle.history.specs.Histories.{Chain}
use Rattle.history.specs.Law.{Law, shown_at}
use Rattle.history.specs.Turns as turn
use Rattle.history.specs.Turns.{Called, alert_read, ask, sample, transfer}
use Rattle.history.specs.declared.calls.Answer.{Answer}
use Rattle.history.specs.declared.calls.Call.{Call}
use Rattle.history.specs.declared.calls.Call.TheVariants.{Sample, Transfer, AlertRead, Ask}
use Rattle.history.specs.declared.moments.History.{History}
use Rattle.history.specs.declared.moments.Moment.{Moment}
use Rattle.history.specs.declared.moments.Turn.{Turn}

-- ---- the data, read as turns and moments

-- a call, with what it writes as a list
abbrev pub call_of : Call → Called
call_of (Sample a w) = sample a w
call_of (Transfer a written wanted) = transfer a written.now wanted
call_of (AlertRead wanted) = alert_read wanted
call_of (Ask q) = ask q

-- the call of a turn
abbrev pub call_part : Turn → Call
call_part t = t.call

-- what shows at a moment, as lists
abbrev pub moment_of : Moment → turn.Moment
moment_of m = record { entries = vec_items m.entries; low = m.low; reply = vec_items m.reply }

-- a turn
abbrev pub turn_of : Turn → turn.Turn
turn_of t = record { call = call_of t.call; answer = t.answer; after = moment_of t.after }

-- turns that are written down the oldest first, as a history has them, the newest first
abbrev pub newest_first : List Turn → List turn.Turn
newest_first turns = reverse (map turn_of turns)

-- the turns of a history that is returned
abbrev pub turns_of : History → List turn.Turn
turns_of h = newest_first (vec_items h.turns)

-- what showed before the first of them
abbrev pub start_of : History → turn.Moment
start_of h = moment_of h.start

-- what shows of a segment with these entries and this reply buffer
abbrev pub shown_now : List Entry → List ℕ → turn.Moment
shown_now xs reply = record { entries = xs; low = some_pull xs; reply = reply }

-- ---- what a run promises of it

-- the calls were made in their order, from the entries xs and the reply buffer `before` to ys and `after`, and each turn says what
-- was answered and what showed then
pub record Recorded (joining : Option JoinAnswer) (xs : List Entry) (before : List ℕ) (calls : List Call) (h : History) (after : List ℕ) (ys : List Entry) : Type 0 where
  pub start : start_of h ≡ shown_now xs before
  pub calls_made : map call_part (vec_items h.turns) ≡ calls
  pub chain : Chain joining (start_of h) (turns_of h)
  pub end : shown_at (start_of h) (turns_of h) ≡ shown_now ys after

-- the turns of the run go on from a history k that ended as the run began: together they are a history, and the law holds of it
abbrev pub GoesOn : Option JoinAnswer → History → Type 0
GoesOn joining h =
    (built : turn.Moment) (k : List turn.Turn) → histories.History joining built k → shown_at built k ≡ start_of h
    → histories.History joining built (turns_of h ++ k) × Law built (turns_of h ++ k)

-- the law holds of the run of a segment as built, at every moment
abbrev pub Lawful : List Entry → History → Type 0
Lawful xs h = Built xs → Law (start_of h) (turns_of h)

-- ---- the stations' own rules

-- the reply buffer at the end of the turns
abbrev pub reply_at : List ℕ → List turn.Turn → List ℕ
reply_at before [] = before
reply_at before (t ∷ h) = t.after.reply

-- each turn goes from a state to the next by the own rules of the segment, whose states are S
abbrev pub OwnRun : {S : Type 0} → (Called → Answer → S → List ℕ → List ℕ → S → Type 0) → S → List ℕ → List turn.Turn → S → Type 0
OwnRun own s before [] t = t ≡ s
OwnRun {S} own s before (u ∷ h) t = (m : S) × OwnRun own s before h m × own u.call u.answer m (reply_at before h) u.after.reply t
