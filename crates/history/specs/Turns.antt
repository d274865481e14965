-- A turn of a history: a call and its answer, what was done by it, and what shows at its end.
-- Assumes nothing.
use Rattle.std.specs.Prelude.{ℕ, ◌/◌, Bool, true, false, cond, ◌&&◌, List, Some, None, Ok, Err, Option, ◌==◌, slice_index}
use Rattle.alert.specs.declared.conditions.Conditions.{Conditions}
use Rattle.alert.specs.declared.entries.Entry.{Entry}
use Rattle.request.specs.Requests.{taken_apart}
use Rattle.request.specs.declared.requests.Request.{Request}
use Rattle.segment.specs.Faults.{no_conditions, segment_raised}
use Rattle.segment.specs.Requesting.{is_clear, mask_word}
use Rattle.segment.specs.declared.samples.Sample.{Sample}
use Rattle.history.specs.declared.calls.Answer.{Answer}
use Rattle.history.specs.declared.calls.Answer.TheVariants.{Sampled, Replied, Present, Entries, Low, Joined}
use Rattle.history.specs.declared.calls.Question.{Question}

-- a call: what is asked of a segment
pub data Called : Type 0 where
  sample : ℕ → Sample → Called  -- a sample to an address
  transfer : ℕ → List ℕ → ℕ → Called  -- a transfer to an address: what is written, and how many bytes are wanted
  alert_read : ℕ → Called  -- an alert read: how many bytes are wanted
  ask : Question → Called  -- a question, which changes nothing

-- what shows at a moment: an entry for each station, whether the line is low, and the reply buffer
pub record Moment : Type 0 where
  pub entries : List Entry
  pub low : Bool
  pub reply : List ℕ

-- a call, its answer, and what shows at its end
pub record Turn : Type 0 where
  pub call : Called
  pub answer : Answer
  pub after : Moment

-- ---- what a call did, read off it and its answer

-- the set that an answer reports
abbrev pub reported : Answer → Conditions
reported (Sampled (Ok set)) = set
reported (Sampled (Err fault)) = segment_raised fault
reported (Replied (Ok answer)) = answer.1
reported (Replied (Err fault)) = segment_raised fault
reported (Present b) = no_conditions
reported Entries = no_conditions
reported (Low b) = no_conditions
reported (Joined o) = no_conditions

-- whether a transfer or an alert read was accepted
abbrev pub accepted : Answer → Bool
accepted (Sampled r) = false
accepted (Replied (Ok answer)) = true
accepted (Replied (Err fault)) = false
accepted (Present b) = false
accepted Entries = false
accepted (Low b) = false
accepted (Joined o) = false

-- whether the written bytes are a clear
abbrev pub clear_written : Option Request → Bool
clear_written None = false
clear_written (Some q) = is_clear q

-- the word that the written bytes write to the mask, if they do
abbrev pub mask_written : Option Request → Option ℕ
mask_written None = None
mask_written (Some q) = mask_word q

-- the set that a call reported at the address s
abbrev pub reports : ℕ → Called → Answer → Conditions
reports s (sample a w) answer = cond (a == s) (reported answer) no_conditions
reports s (transfer a written wanted) answer = cond (a == s) (reported answer) no_conditions
reports s (alert_read wanted) answer = no_conditions
reports s (ask q) answer = no_conditions

-- whether it was an accepted clear at the address s
abbrev pub clears : ℕ → Called → Answer → Bool
clears s (sample a w) answer = false
clears s (transfer a written wanted) answer = a == s && (accepted answer && clear_written (taken_apart written))
clears s (alert_read wanted) answer = false
clears s (ask q) answer = false

-- the word of an accepted mask write at the address s
abbrev pub writes : ℕ → Called → Answer → Option ℕ
writes s (sample a w) answer = None
writes s (transfer a written wanted) answer = cond (a == s && accepted answer) (mask_written (taken_apart written)) None
writes s (alert_read wanted) answer = None
writes s (ask q) answer = None

-- the address that answered an alert read: the reply begins with address × 2
abbrev pub answers : Called → Answer → List ℕ → Option ℕ
answers (sample a w) answer reply = None
answers (transfer a written wanted) answer reply = None
answers (alert_read wanted) answer reply = cond (accepted answer) (Some (slice_index reply 0 / 2)) None
answers (ask q) answer reply = None

-- the set that the turn reported at an address, empty where it reported none
unfoldable pub reported_at : ℕ → Turn → Conditions
reported_at s t = reports s t.call t.answer

-- whether the turn was an accepted clear at an address
unfoldable pub clears_at : ℕ → Turn → Bool
clears_at s t = clears s t.call t.answer

-- the word of an accepted mask write at an address
unfoldable pub mask_written_at : ℕ → Turn → Option ℕ
mask_written_at s t = writes s t.call t.answer

-- the address that answered an alert read
unfoldable pub answered_by : Turn → Option ℕ
answered_by t = answers t.call t.answer t.after.reply
