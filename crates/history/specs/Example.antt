-- An example history as data: two joined stations, 10h and 20h, and every kind of call and of answer once.
-- Assumes nothing.
use Rattle.std.specs.Prelude.{ℕ, ◌^◌, Bool, true, false, T, List, [], ◌∷◌, ◌++◌, replicate, Some, Ok, Err, Option, nat_lt}
use Rattle.std.proofs.Common.{refl, lit<, lit≤}
use Rattle.std.proofs.lemmas.Bool.{eqb-false}
use Rattle.smbus.specs.declared.address.Address as smbus
use Rattle.alert.specs.Boxes.{new_box}
use Rattle.alert.specs.Entries.{entry_of}
use Rattle.alert.specs.declared.alerts.AlertRecord.{AlertRecord}
use Rattle.alert.specs.declared.boxes.BlackBox.{BlackBox}
use Rattle.alert.specs.declared.boxes.BoxState.{BoxState}
use Rattle.alert.specs.declared.boxes.BoxState.TheVariants.{Armed, Taken}
use Rattle.alert.specs.declared.conditions.Conditions.{Conditions}
use Rattle.alert.specs.declared.entries.Entry.{Entry}
use Rattle.alert.specs.declared.frames.Frame.{Frame}
use Rattle.alert.proofs.Sets.{none}
use Rattle.segment.specs.Faults.{no_conditions}
use Rattle.segment.specs.declared.faults.SegmentFault.TheVariants.{NoStation, NothingWritten, ShortBuffer, AlertCounts, NobodyPulls, Station}
use Rattle.segment.specs.declared.faults.StationFault.TheVariants.{UnknownCommand, WordOutOfRange}
use Rattle.segment.specs.declared.samples.Sample.{Sample}
use Rattle.segment.specs.declared.segments.JoinAnswer as join
use Rattle.segment.specs.declared.segments.JoinAnswer.TheVariants as join_answer
use Rattle.history.specs.Turns.{Called, Moment, Turn, alert_read, ask, sample, transfer}
use Rattle.history.specs.declared.calls.Answer.{Answer}
use Rattle.history.specs.declared.calls.Answer.TheVariants as answer
use Rattle.history.specs.declared.calls.Answer.TheVariants.{Sampled, Replied, Present, Low, Joined}
use Rattle.history.specs.declared.calls.Question.TheVariants.{Address, Entries, Line, Join}

-- ---- parts

-- the set of conditions with these bits
abbrev pub set : (bits : ℕ) → T (nat_lt bits (2 ^ 17)) → Conditions
set bits few = record { bits = bits; few = lit< few }

-- a set latched, of which nothing is answered
abbrev pub waiting : Conditions → AlertRecord
waiting latched = record { latched = latched; answered = no_conditions; within = λ c h. absurd (none c h) }

-- a set latched, all of it answered
abbrev pub all_answered : Conditions → AlertRecord
all_answered latched = record { latched = latched; answered = latched; within = λ c h. h }

-- a frame of twelve equal bytes
abbrev pub frame : ℕ → Frame
frame byte = record { bytes = replicate 12 byte }

-- a black box with such a frame
abbrev pub box : BoxState → ℕ → BlackBox
box state byte = record { state = state; bytes = replicate 12 byte }

-- the two addresses
abbrev pub left : smbus.Address
left = record { byte = 0x10; lawful = (lit≤ tt, lit≤ tt, eqb-false _ _ refl) }

abbrev pub right : smbus.Address
right = record { byte = 0x20; lawful = (lit≤ tt, lit≤ tt, eqb-false _ _ refl) }

-- ---- the entries of 10h: as built, with condition 4 raised, with condition 1 raised too, answered, cleared
abbrev pub left_built : Entry
left_built = entry_of left (waiting no_conditions) 0 (frame 1) new_box

abbrev pub left_raised : Entry
left_raised = entry_of left (waiting (set 0x10 tt)) 0 (frame 2) (box Taken 2)

abbrev pub left_refused : Entry
left_refused = entry_of left (waiting (set 0x12 tt)) 0 (frame 2) (box Taken 2)

abbrev pub left_answered : Entry
left_answered = entry_of left (all_answered (set 0x12 tt)) 0 (frame 2) (box Taken 2)

abbrev pub left_cleared : Entry
left_cleared = entry_of left (waiting no_conditions) 0 (frame 2) (box Armed 2)

-- ---- the entries of 20h, whose mask covers condition 5: as built, with 5 raised, with the mask written to 0, answered
abbrev pub right_built : Entry
right_built = entry_of right (waiting no_conditions) 0x20 (frame 1) new_box

abbrev pub right_masked : Entry
right_masked = entry_of right (waiting (set 0x20 tt)) 0x20 (frame 3) new_box

abbrev pub right_pulling : Entry
right_pulling = entry_of right (waiting (set 0x20 tt)) 0 (frame 3) (box Taken 3)

abbrev pub right_answered : Entry
right_answered = entry_of right (all_answered (set 0x20 tt)) 0 (frame 3) (box Taken 3)

-- ---- the reply buffer: at the start, after the reads of the mask and of the box, and after the two alert reads
abbrev pub blank : List ℕ
blank = replicate 13 0

abbrev pub mask_read : List ℕ
mask_read = 0x20 ∷ replicate 12 0

abbrev pub box_read : List ℕ
box_read = 12 ∷ replicate 12 2

abbrev pub left_read : List ℕ
left_read = 0x20 ∷ replicate 12 2

abbrev pub right_read : List ℕ
right_read = 0x40 ∷ 0x2d ∷ replicate 11 2

-- ---- the history

-- what shows: the two entries, whether the line is low, and the reply buffer
abbrev pub moment : Entry → Entry → Bool → List ℕ → Moment
moment left right low reply = record { entries = left ∷ right ∷ []; low = low; reply = reply }

-- a call, its answer, and what shows then
abbrev pub turn : Called → Answer → Moment → Turn
turn call answer after = record { call = call; answer = answer; after = after }

-- one sample; what a station makes of it is its own
abbrev pub readings : Sample
readings = record { vin = 0; vout = 0; iin = 0; vaux = 0; temperature = 0; pins = 0 }

-- what the join answers
abbrev pub joining : Option join.JoinAnswer
joining = Some join_answer.Joined

-- the two stations as built
abbrev pub start : Moment
start = moment left_built right_built false blank

-- the four questions, the newest first, as in all these lists
abbrev pub questions : List Turn
questions =
    turn (ask Join) (Joined joining) start
    ∷ turn (ask Line) (Low false) start
    ∷ turn (ask Entries) answer.Entries start
    ∷ turn (ask (Address 0x10)) (Present true) start
    ∷ []

-- samples: accepted by 10h, refused by it, to no station, and accepted by 20h, whose mask covers what it raises
abbrev pub samples : List Turn
samples =
    turn (sample 0x20 readings) (Sampled (Ok (set 0x20 tt))) (moment left_raised right_masked true blank)
    ∷ turn (sample 0x30 readings) (Sampled (Err NoStation)) (moment left_raised right_built true blank)
    ∷ turn (sample 0x10 readings) (Sampled (Err (Station WordOutOfRange))) (moment left_raised right_built true blank)
    ∷ turn (sample 0x10 readings) (Sampled (Ok (set 0x10 tt))) (moment left_raised right_built true blank)
    ∷ []

-- transfers: a read of the mask, a write of it that starts a pull, a read of the black box, an unknown command, and those that
-- the segment refuses, for there is no station, nothing is written, or more is wanted than the reply buffer holds
abbrev pub transfers : List Turn
transfers =
    turn (transfer 0x10 (0xe0 ∷ []) 14) (Replied (Err ShortBuffer)) (moment left_refused right_pulling true box_read)
    ∷ turn (transfer 0x10 [] 0) (Replied (Err NothingWritten)) (moment left_refused right_pulling true box_read)
    ∷ turn (transfer 0x30 (0x03 ∷ []) 0) (Replied (Err NoStation)) (moment left_refused right_pulling true box_read)
    ∷ turn (transfer 0x10 (0x55 ∷ []) 0) (Replied (Err (Station (UnknownCommand (set 2 tt))))) (moment left_refused right_pulling true box_read)
    ∷ turn (transfer 0x10 (0xe0 ∷ []) 13) (Replied (Ok (13, no_conditions))) (moment left_raised right_pulling true box_read)
    ∷ turn (transfer 0x20 (0xd8 ∷ 0 ∷ 0 ∷ []) 0) (Replied (Ok (0, no_conditions))) (moment left_raised right_pulling true mask_read)
    ∷ turn (transfer 0x20 (0xd8 ∷ []) 2) (Replied (Ok (2, no_conditions))) (moment left_raised right_masked true mask_read)
    ∷ []

-- alert reads: of three bytes, answered by 10h, answered by 20h with the code, and answered by nobody; and a clear
abbrev pub alert_reads : List Turn
alert_reads =
    turn (transfer 0x10 (0x03 ∷ []) 0) (Replied (Ok (0, no_conditions))) (moment left_cleared right_answered false right_read)
    ∷ turn (alert_read 1) (Replied (Err NobodyPulls)) (moment left_answered right_answered false right_read)
    ∷ turn (alert_read 2) (Replied (Ok (2, no_conditions))) (moment left_answered right_answered false right_read)
    ∷ turn (alert_read 1) (Replied (Ok (1, no_conditions))) (moment left_answered right_pulling true left_read)
    ∷ turn (alert_read 3) (Replied (Err AlertCounts)) (moment left_refused right_pulling true box_read)
    ∷ []

-- all of them, the newest first
abbrev pub turns : List Turn
turns = alert_reads ++ (transfers ++ (samples ++ questions))
