-- What a history is: turns that follow one another as the calls' effects say, from a segment as built on.
-- Assumes nothing.
use Rattle.std.specs.Prelude.{◌≡◌, ℕ, List, [], ◌∷◌, Option, Result}
use Rattle.alert.specs.declared.conditions.Conditions.{Conditions}
use Rattle.alert.specs.declared.entries.Entry.{Entry}
use Rattle.segment.specs.Segments as segment
use Rattle.segment.specs.Winning.{Won}
use Rattle.segment.specs.declared.faults.SegmentFault.{SegmentFault}
use Rattle.segment.specs.declared.samples.Sample.{Sample}
use Rattle.segment.specs.declared.segments.JoinAnswer.{JoinAnswer}
use Rattle.history.specs.Law.{shown_at}
use Rattle.history.specs.Turns.{Called, Moment, Turn, alert_read, ask, sample, transfer}
use Rattle.history.specs.declared.calls.Answer.{Answer}
use Rattle.history.specs.declared.calls.Answer.TheVariants as answer
use Rattle.history.specs.declared.calls.Answer.TheVariants.{Sampled, Replied, Present, Low, Joined}
use Rattle.history.specs.declared.calls.Question.{Question}
use Rattle.history.specs.declared.calls.Question.TheVariants.{Address, Entries, Line, Join}

-- the answer to a question, on a segment whose join answers so
abbrev pub answer_to : Option JoinAnswer → Question → List Entry → Answer
answer_to joining (Address a) xs = Present (segment.stands a xs)
answer_to joining Entries xs = answer.Entries
answer_to joining Line xs = Low (segment.some_pull xs)
answer_to joining Join xs = Joined joining

-- a call with its answer, and its effect on the entries and on the reply buffer
abbrev pub Made : Option JoinAnswer → Called → Answer → List Entry → List ℕ → List ℕ → List Entry → Type 0
Made joining (sample a w) answer xs before after ys = (r : Result Conditions SegmentFault) × (answer ≡ Sampled r) × segment.Sampled a xs r ys × (after ≡ before)
Made joining (transfer a written wanted) answer xs before after ys =
    (r : Result (ℕ × Conditions) SegmentFault) × (answer ≡ Replied r) × segment.Transferred a written wanted xs before r after ys
Made joining (alert_read wanted) answer xs before after ys =
    (r : Result (ℕ × Conditions) SegmentFault) × (answer ≡ Replied r) × segment.ReadsAlert wanted xs before r after ys
Made joining (ask q) answer xs before after ys = (answer ≡ answer_to joining q xs) × (ys ≡ xs) × (after ≡ before)

-- the line is low where some station pulls
abbrev pub Lined : Moment → Type 0
Lined m = m.low ≡ segment.some_pull m.entries

-- the turn follows the moment m
abbrev pub Follows : Option JoinAnswer → Moment → Turn → Type 0
Follows joining m t = Made joining t.call t.answer m.entries m.reply t.after.reply t.after.entries × Lined t.after

-- each turn follows the moment before it, the newest turn first
abbrev pub Chain : Option JoinAnswer → Moment → List Turn → Type 0
Chain joining built [] = Unit {0}
Chain joining built (t ∷ h) = Chain joining built h × Follows joining (shown_at built h) t

-- a history: it begins with a segment as built, and each turn follows the moment before it
abbrev pub History : Option JoinAnswer → Moment → List Turn → Type 0
History joining built h = segment.Built built.entries × Lined built × Chain joining built h

-- ---- the stations' own rules

-- a call, by the own rules of a segment whose states are S
abbrev pub OwnMade : {S : Type 0} → (S → ℕ → Sample → Result Conditions SegmentFault → S → Type 0)
    → (S → ℕ → List ℕ → ℕ → List ℕ → Result (ℕ × Conditions) SegmentFault → List ℕ → S → Type 0) → (S → ℕ → S → Type 0) → (S → List Entry)
    → Called → Answer → S → List ℕ → List ℕ → S → Type 0
OwnMade samples transfers answers entries (sample a w) answer s before after t = (r : Result Conditions SegmentFault) × (answer ≡ Sampled r) × samples s a w r t
OwnMade samples transfers answers entries (transfer a written wanted) answer s before after t =
    (r : Result (ℕ × Conditions) SegmentFault) × (answer ≡ Replied r) × transfers s a written wanted before r after t
OwnMade samples transfers answers entries (alert_read wanted) answer s before after t =
    (r : Result (ℕ × Conditions) SegmentFault) × (answer ≡ Replied r) × Won (answers s) (segment.lowest_pulling (entries s)) r s t
OwnMade samples transfers answers entries (ask q) answer s before after t = t ≡ s
