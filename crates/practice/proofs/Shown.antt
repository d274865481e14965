-- What the station's own rule says of an entry is what every station shows.
-- Assumes nothing.
use Rattle.std.proofs.Common.{◌≡◌, ℕ, false, cond, eqb, List, length, Some, None, Ok, Err, Result, sym, refl, ap, ◌∙◌, subst}
use Rattle.alert.specs.Alerts.{AfterRaise}
use Rattle.alert.specs.Boxes.{armed_again}
use Rattle.alert.specs.Conditions.{Only}
use Rattle.alert.specs.Entries.{Boxed, address_of, mask_of, with_alert, with_frame}
use Rattle.alert.specs.declared.alerts.AlertRecord.{AlertRecord}
use Rattle.alert.specs.declared.boxes.BlackBox.{BlackBox}
use Rattle.alert.specs.declared.conditions.Conditions.{Conditions}
use Rattle.alert.specs.declared.entries.Entry.{Entry}
use Rattle.alert.specs.declared.frames.Frame.{Frame}
use Rattle.alert.proofs.Pulling.{boxed}
use Rattle.request.specs.Judging.{Judgement}
use Rattle.request.specs.declared.judging.Access.TheVariants.{Send, Read, WriteWord}
use Rattle.request.specs.declared.refusals.RequestRefusal.{RequestRefusal}
use Rattle.request.specs.declared.refusals.RequestRefusal.TheVariants.{Counts, Code}
use Rattle.request.specs.declared.requests.DataBytes.{DataBytes}
use Rattle.request.specs.declared.requests.Request.{Request}
use Rattle.segment.specs.Faults.{OfTransfer, raised_by}
use Rattle.segment.specs.Requesting as host
use Rattle.segment.specs.Requesting.{AsStationFault, is_clear, mask_word, word_of_data}
use Rattle.segment.specs.Stations as station
use Rattle.segment.specs.Stations.{AfterTransfer, Effect, Raised, Rejected, Transferred, else}
use Rattle.segment.specs.declared.faults.StationFault.{StationFault}
use Rattle.segment.specs.declared.faults.StationFault.TheVariants.{UnknownCommand, WrongCounts, WrongCode, UnlawfulData, WordOutOfRange, MissingPin}
use Rattle.practice.specs.Practice.{Accepted, AsUnknown, Answered, Concluded, Refused, Served, asked, ruled}
use Rattle.practice.proofs.Judgements.{by_command, judged_block, judged_send, judged_word, request_of}

-- a set latched, perhaps another frame, and the box rule
pub raised : (set : Conditions) (frame : Frame) (x y : Entry) → AfterRaise set x.alert y.alert
    → y ≡ ruled (with_frame (with_alert x y.alert) frame) → Raised set x y
raised set frame x y sets is =
    record {
      address = ap (λ (e : Entry). e.address) is;
      sets = sets;
      mask = ap (λ (e : Entry). e.mask) is;
      boxed = boxed (with_frame (with_alert x y.alert) frame) y is;
    }

-- an alert read answered
pub answered : (x y : Entry) → Answered x y → station.Answered x y
answered x y h =
    record {
      address = ap (λ (e : Entry). e.address) h.1;
      sets = h.0;
      mask = ap (λ (e : Entry). e.mask) h.1;
      boxed = boxed (with_alert x y.alert) y h.1;
    }

-- ---- refused transfers

-- a fault of a transfer, with condition 1 alone
abbrev LawfulFault : StationFault → Type 0
LawfulFault fault = OfTransfer fault × Only 1 (raised_by fault)

unknown_lawful : (fault : StationFault) → AsUnknown fault → LawfulFault fault
unknown_lawful (UnknownCommand set) only = (tt, only)
unknown_lawful (WrongCounts set) only = absurd only
unknown_lawful (WrongCode set) only = absurd only
unknown_lawful (UnlawfulData set) only = absurd only
unknown_lawful WordOutOfRange only = absurd only
unknown_lawful MissingPin only = absurd only

request_lawful : (refusal : RequestRefusal) (fault : StationFault) → AsStationFault refusal fault → LawfulFault fault
request_lawful Counts (WrongCounts set) only = (tt, only)
request_lawful Counts (UnknownCommand set) only = absurd only
request_lawful Counts (WrongCode set) only = absurd only
request_lawful Counts (UnlawfulData set) only = absurd only
request_lawful Counts WordOutOfRange only = absurd only
request_lawful Counts MissingPin only = absurd only
request_lawful Code (WrongCode set) only = (tt, only)
request_lawful Code (UnknownCommand set) only = absurd only
request_lawful Code (WrongCounts set) only = absurd only
request_lawful Code (UnlawfulData set) only = absurd only
request_lawful Code WordOutOfRange only = absurd only
request_lawful Code MissingPin only = absurd only

module _ (x z y : Entry) (before after : List ℕ) where
  rejected : (fault : StationFault) → LawfulFault fault → after ≡ before → z ≡ x → Concluded (Err fault) z y → Rejected fault x before after y
  rejected fault lawful same still ended =
      let at_x : Concluded (Err fault) x y = subst (λ (e : Entry). Concluded (Err fault) e y) still ended in
      record { kind = lawful.0; only = lawful.1; raised = raised (raised_by fault) x.frame x y at_x.0 at_x.1; reply = same }

  -- a refusal of any lawful sort
  pub refused : (q : Request) (Sort : StationFault → Type 0) → ((fault : StationFault) → Sort fault → LawfulFault fault)
      → (r : Result (ℕ × Conditions) StationFault) → Refused Sort r → after ≡ before → z ≡ x → Concluded r z y → Effect q x before r after y
  refused q Sort lawful (Ok answer) sort same still ended = absurd sort
  refused q Sort lawful (Err fault) sort same still ended = rejected fault (lawful fault sort) same still ended

  -- ---- accepted transfers

  -- an accepted transfer, by what it made of the entry before the box rule
  pub performed : (q : Request) (r : Result (ℕ × Conditions) StationFault) → Accepted (length before) r → z.address ≡ x.address
      → AfterTransfer (is_clear q) x.alert z.alert → mask_of z ≡ else (mask_of x) (mask_word q)
      → z.blackbox ≡ cond (is_clear q) (armed_again x.blackbox) x.blackbox → Concluded r z y → Effect q x before r after y
  performed q (Err fault) accepted address sets mask box is = absurd accepted
  performed q (Ok answer) accepted address sets mask box is =
      record {
        length = accepted.0;
        silent = accepted.1;
        address = ap (λ (e : Entry). e.address) is ∙ address;
        sets = subst (λ (a : AlertRecord). AfterTransfer (is_clear q) x.alert a) (sym (ap (λ (e : Entry). e.alert) is)) sets;
        mask = ap (λ (e : Entry). e.mask) is ∙ mask;
        boxed = subst (λ (b : BlackBox). Boxed b y) box (boxed z y is);
      }

-- an accepted answer is one to the host
accepted : (wanted : ℕ) (r : Result (ℕ × Conditions) StationFault) → Accepted wanted r → host.Accepted r
accepted wanted (Ok answer) h = tt
accepted wanted (Err fault) h = absurd h

-- a refused answer is one to the host
refused_as : (refusal : RequestRefusal) (r : Result (ℕ × Conditions) StationFault) → Refused (AsStationFault refusal) r → host.RefusedAs refusal r
refused_as refusal (Ok answer) h = absurd h
refused_as refusal (Err fault) h = h

-- ---- transfers

module _ (x z y : Entry) (before after : List ℕ) (r : Result (ℕ × Conditions) StationFault) where
  -- what the rule says of a judgement shows the effect, and what is owed
  abbrev Shows : Request → Judgement → Type 0
  Shows q j = Served (Some j) q.command x before r after z → Concluded r z y → Effect q x before r after y × host.Served j q x (length before) r after

  shows_refusal : (q : Request) (refusal : RequestRefusal) → Shows q (Err refusal)
  shows_refusal q refusal h ended = (refused x z y before after q (AsStationFault refusal) (request_lawful refusal) r h.0 h.1 h.2 ended, refused_as refusal r h.0)

  shows_clear : (d : DataBytes) → Shows (request_of 0x03 d) (Ok Send)
  shows_clear d h ended = (
    performed x z y before after (request_of 0x03 d) r h.0 (ap (λ (e : Entry). e.address) h.1.2) h.1.1 (ap (λ (e : Entry). e.mask) h.1.2) (ap (λ (e : Entry). e.blackbox) h.1.2) ended,
    accepted (length before) r h.0,
  )

  -- a read changes nothing, whether of the mask or of the black box
  shows_read : (q : Request) → is_clear q ≡ false → mask_word q ≡ None → Shows q (Ok Read)
  shows_read q not_clear no_word h ended = (
    performed x z y before after q r h.0 (ap (λ (e : Entry). e.address) h.1.1) (rw not_clear (ap (λ (e : Entry). e.alert) h.1.1))
        (rw no_word (ap (λ (e : Entry). e.mask) h.1.1)) (rw not_clear (ap (λ (e : Entry). e.blackbox) h.1.1)) ended,
    (accepted (length before) r h.0, h.1.0),
  )

  shows_write : (d : DataBytes) (w : ℕ) → word_of_data d ≡ Some w → Shows (request_of 0xd8 d) (Ok (WriteWord w))
  shows_write d w is h ended = (
    performed x z y before after (request_of 0xd8 d) r h.0 (ap (λ (e : Entry). e.address) h.1.1) (ap (λ (e : Entry). e.alert) h.1.1)
        (rw is (ap (λ (e : Entry). e.mask) h.1.1)) (ap (λ (e : Entry). e.blackbox) h.1.1) ended,
    accepted (length before) r h.0,
  )

  -- the whole rule, at a command with its data
  abbrev OfCommand : ℕ → Type 0
  OfCommand k = (d : DataBytes) → Served (asked (request_of k d) (address_of x) (length before)) k x before r after z → Concluded r z y → Transferred (request_of k d) x before r after y

  at_other : (k : ℕ) → eqb k 0x03 ≡ false → eqb k 0xd8 ≡ false → eqb k 0xe0 ≡ false → OfCommand k
  at_other k no3 nod8 noe0 d =
      rw (no3, nod8, noe0) (λ h ended. (refused x z y before after (request_of k d) AsUnknown unknown_lawful r h.0 h.1 h.2 ended, tt))

  transferred_at : (k : ℕ) → OfCommand k
  transferred_at =
      by_command OfCommand
      (λ d. judged_send (address_of x) 0x03 (length before) (Shows (request_of 0x03 d)) (shows_refusal (request_of 0x03 d)) d (shows_clear d))
      (λ d. judged_word (address_of x) 0xd8 (length before) (Shows (request_of 0xd8 d)) (shows_refusal (request_of 0xd8 d)) d
      (λ none whole. shows_read (request_of 0xd8 d) refl (ap word_of_data none)) (shows_write d))
      (λ d. judged_block (address_of x) 0xe0 (length before) (Shows (request_of 0xe0 d)) (shows_refusal (request_of 0xe0 d)) d
      (λ whole. shows_read (request_of 0xe0 d) refl refl))
      at_other

  -- a transfer by the station's own rule
  pub transferred : (q : Request) → Served (asked q (address_of x) (length before)) q.command x before r after z → Concluded r z y → Transferred q x before r after y
  transferred q h ended = transferred_at q.command q.data_bytes h ended
