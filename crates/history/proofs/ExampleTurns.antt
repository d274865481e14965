-- The example is a history: each of its turns follows the moment before it.
-- Assumes nothing.
use Rattle.std.proofs.Common.{◌≡◌, ℕ, [], ◌∷◌, ◌++◌, Ok, Err, refl, inl, inr, arith}
use Rattle.smbus.specs.PacketErrorCode.{byte_step}
use Rattle.alert.specs.Alerts.{asserts}
use Rattle.alert.specs.Bits.{has_bit}
use Rattle.alert.specs.Entries.{pulls}
use Rattle.alert.proofs.Sets.{either, only}
use Rattle.request.specs.declared.requests.DataBytes.TheVariants.{Nothing, Two}
use Rattle.segment.specs.Faults.{no_conditions}
use Rattle.segment.specs.Stations.{Answered, Performed, Raised, Rejected}
use Rattle.segment.specs.declared.faults.SegmentFault.TheVariants.{NoStation, NothingWritten, ShortBuffer, AlertCounts, NobodyPulls, Station}
use Rattle.segment.specs.declared.faults.StationFault.TheVariants.{UnknownCommand, WordOutOfRange}
use Rattle.segment.proofs.Empties.{none_in}
use Rattle.history.specs.Example.{alert_reads, box_read, joining, left_answered, left_built, left_cleared, left_raised, left_refused, questions, right_answered, right_built, right_masked, right_pulling, samples, set, start, transfers, turns}
use Rattle.history.specs.Histories.{Chain, History}
use Rattle.history.specs.Law.{shown_at}
use Rattle.history.proofs.Extending.{chain_more}

-- ---- what the stations made of the calls

apart : ◌≡◌ {A = ℕ} 0x10 0x20 → ⊥
apart e = omega arith

left_raises : Raised (set 0x10 tt) left_built left_raised
unfolding pulls asserts has_bit
left_raises = record { address = refl; sets = (λ c. either 0 0x10 c, refl); mask = refl; boxed = refl }

right_raises : Raised (set 0x20 tt) right_built right_masked
unfolding pulls asserts has_bit
right_raises = record { address = refl; sets = (λ c. either 0 0x20 c, refl); mask = refl; boxed = refl }

left_rejects : Rejected (UnknownCommand (set 2 tt)) left_raised [] [] left_refused
unfolding pulls asserts has_bit
left_rejects = record {
  kind = tt;
  only = only 1;
  raised = record { address = refl; sets = (λ c. either 0x10 2 c, refl); mask = refl; boxed = refl };
  reply = refl;
}

mask_shown : Performed (record { command = 0xd8; data_bytes = Nothing }) right_masked 2 (2, no_conditions) right_masked
unfolding pulls asserts has_bit
mask_shown = record { length = refl; silent = none_in; address = refl; sets = refl; mask = refl; boxed = refl }

mask_written : Performed (record { command = 0xd8; data_bytes = Two 0 0 }) right_masked 0 (0, no_conditions) right_pulling
unfolding pulls asserts has_bit
mask_written = record { length = refl; silent = none_in; address = refl; sets = refl; mask = refl; boxed = refl }

box_shown : Performed (record { command = 0xe0; data_bytes = Nothing }) left_raised 13 (13, no_conditions) left_raised
unfolding pulls asserts has_bit
box_shown = record { length = refl; silent = none_in; address = refl; sets = refl; mask = refl; boxed = refl }

left_clears : Performed (record { command = 0x03; data_bytes = Nothing }) left_answered 0 (0, no_conditions) left_cleared
unfolding pulls asserts has_bit
left_clears = record { length = refl; silent = none_in; address = refl; sets = (none_in, none_in); mask = refl; boxed = refl }

left_answers : Answered left_refused left_answered
unfolding pulls asserts has_bit
left_answers = record { address = refl; sets = (refl, refl); mask = refl; boxed = refl }

right_answers : Answered right_pulling right_answered
unfolding pulls asserts has_bit
right_answers = record { address = refl; sets = (refl, refl); mask = refl; boxed = refl }

-- ---- the turns

asked : Chain joining start questions
unfolding pulls asserts has_bit
asked = ((((tt, ((refl, refl, refl), refl)), ((refl, refl, refl), refl)), ((refl, refl, refl), refl)), ((refl, refl, refl), refl))

sampled : Chain joining (shown_at start questions) samples
unfolding pulls asserts has_bit
sampled = (
  (
    (
      (tt, ((Ok (set 0x10 tt), refl, inr (inl (refl, (Ok (set 0x10 tt), refl, left_raises), (refl, tt))), refl), refl)),
      ((Err (Station WordOutOfRange), refl, inr (inl (refl, (Err WordOutOfRange, refl, (tt, refl)), (refl, tt))), refl), refl),
    ),
    ((Err NoStation, refl, inl (refl, refl, refl), refl), refl),
  ),
  ((Ok (set 0x20 tt), refl, inr (inr (apart, refl, inl (refl, (Ok (set 0x20 tt), refl, right_raises), tt))), refl), refl),
)

transferred : Chain joining (shown_at start (samples ++ questions)) transfers
unfolding pulls asserts has_bit byte_step
transferred = (
  (
    (
      (
        (
          (
            (tt, ((Ok (2, no_conditions), refl, inr (inr (apart, refl, inl (refl, (Ok (2, no_conditions), 0x20 ∷ 0 ∷ [], refl, (mask_shown, (tt, refl)), refl), tt)))), refl)),
            ((Ok (0, no_conditions), refl, inr (inr (apart, refl, inl (refl, (Ok (0, no_conditions), [], refl, (mask_written, tt), refl), tt)))), refl),
          ),
          ((Ok (13, no_conditions), refl, inr (inl (refl, (Ok (13, no_conditions), box_read, refl, (box_shown, (tt, refl)), refl), (refl, tt)))), refl),
        ),
        ((Err (Station (UnknownCommand (set 2 tt))), refl, inr (inl (refl, (Err (UnknownCommand (set 2 tt)), [], refl, (left_rejects, tt), refl), (refl, tt)))), refl),
      ),
      ((Err NoStation, refl, inl (refl, (refl, refl), refl)), refl),
    ),
    ((Err NothingWritten, refl, inr (inl (refl, ((refl, refl), refl), (refl, tt)))), refl),
  ),
  ((Err ShortBuffer, refl, inr (inl (refl, ((refl, refl), refl), (refl, tt)))), refl),
)

read : Chain joining (shown_at start (transfers ++ (samples ++ questions))) alert_reads
unfolding pulls asserts has_bit byte_step
read = (
  (
    (
      (
        (tt, ((Err AlertCounts, refl, ((refl, refl), refl)), refl)),
        ((Ok (1, no_conditions), refl, ((refl, none_in), refl, inl (refl, left_answers, (refl, tt)))), refl),
      ),
      ((Ok (2, no_conditions), refl, ((refl, none_in), refl, inr (apart, refl, inl (refl, right_answers, tt)))), refl),
    ),
    ((Err NobodyPulls, refl, ((refl, refl), refl)), refl),
  ),
  ((Ok (0, no_conditions), refl, inr (inl (refl, (Ok (0, no_conditions), [], refl, (left_clears, tt), refl), (refl, tt)))), refl),
)

pub example : History joining start turns
unfolding pulls asserts has_bit
example = (
  ((refl, (refl, tt)), ((none_in, refl), ((none_in, refl), tt))),
  refl,
  chain_more joining start (transfers ++ (samples ++ questions)) alert_reads
      (chain_more joining start (samples ++ questions) transfers (chain_more joining start questions samples asked sampled) transferred)
      read,
)
