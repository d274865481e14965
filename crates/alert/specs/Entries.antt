-- The entry of a station: its parts, when it pulls, and how it is built.
-- Assumes nothing.
use Rattle.std.specs.Prelude.{◌≡◌, ℕ, Bool, true, List}
use Rattle.smbus.specs.declared.address.Address.{Address}
use Rattle.alert.specs.Alerts.{asserts}
use Rattle.alert.specs.Boxes.{is_armed, new_box, noted}
use Rattle.alert.specs.Conditions.{Empty}
use Rattle.alert.specs.declared.conditions.Conditions as c
use Rattle.alert.specs.declared.alerts.AlertRecord.{AlertRecord}
use Rattle.alert.specs.declared.boxes.BlackBox.{BlackBox}
use Rattle.alert.specs.declared.frames.Frame.{Frame}
use Rattle.alert.specs.declared.entries.Entry.{Entry}

-- ---- its parts

-- an entry of these parts
abbrev pub entry_of : Address → AlertRecord → ℕ → Frame → BlackBox → Entry
entry_of address alert mask frame blackbox = record { address = address; alert = alert; mask = mask; frame = frame; blackbox = blackbox }

-- the address of its station
abbrev pub address_of : Entry → ℕ
address_of e = e.address.byte

-- the conditions raised since the last clear
abbrev pub latched : Entry → c.Conditions
latched e = e.alert.latched

-- those that were latched when the station last answered an alert read
abbrev pub answered : Entry → c.Conditions
answered e = e.alert.answered

-- the mask word
abbrev pub mask_of : Entry → ℕ
mask_of e = e.mask

-- the twelve bytes of the current frame
abbrev pub frame_of : Entry → List ℕ
frame_of e = e.frame.bytes

-- the twelve bytes of the black box
abbrev pub box_of : Entry → List ℕ
box_of e = e.blackbox.bytes

-- whether the black box is armed
abbrev pub armed : Entry → Bool
armed e = is_armed e.blackbox.state

-- the entry with another alert record, mask, frame or box, and all else as it was
abbrev pub with_alert : Entry → AlertRecord → Entry
with_alert e alert = entry_of e.address alert e.mask e.frame e.blackbox

abbrev pub with_mask : Entry → ℕ → Entry
with_mask e mask = entry_of e.address e.alert mask e.frame e.blackbox

abbrev pub with_frame : Entry → Frame → Entry
with_frame e frame = entry_of e.address e.alert e.mask frame e.blackbox

abbrev pub with_box : Entry → BlackBox → Entry
with_box e blackbox = entry_of e.address e.alert e.mask e.frame blackbox

-- ---- the alert line, and the black box

-- whether the station pulls the alert line
unfoldable pub pulls : Entry → Bool
pulls e = asserts e.alert e.mask

-- the station pulls the alert line
abbrev pub Pulls : Entry → Type 0
Pulls e = pulls e ≡ true

-- the box rule has been applied to the entry, whose box was `before` until then
abbrev pub Boxed : BlackBox → Entry → Type 0
Boxed before e = e.blackbox ≡ noted before (pulls e) (frame_of e)

-- as built: nothing is answered, and the box is a new one to which the box rule has been applied
abbrev pub AsBuilt : Entry → Type 0
AsBuilt e = Empty (answered e) × Boxed new_box e
