-- A turn that follows a moment makes of each entry what the law is proved from, and so every history keeps the law.
-- Assumes nothing.
use Rattle.std.proofs.Common.{◌≡◌, ℕ, List, [], ◌∷◌, Option, sym, refl, subst}
use Rattle.alert.specs.declared.entries.Entry.{Entry}
use Rattle.segment.specs.Segments.{Each, Unlike}
use Rattle.segment.specs.declared.segments.JoinAnswer.{JoinAnswer}
use Rattle.history.specs.Histories.{Follows, History, Made}
use Rattle.history.specs.Law.{Answers, Law, shown_at}
use Rattle.history.specs.Turns.{Called, Moment, Turn, alert_read, answered_by, ask, clears_at, mask_written_at, reported_at, sample, transfer}
use Rattle.history.specs.declared.calls.Answer.{Answer}
use Rattle.history.specs.declared.calls.Question.{Question}
use Rattle.history.proofs.AlertReads.{read_step}
use Rattle.history.proofs.Endings.{apart}
use Rattle.history.proofs.Law.{law}
use Rattle.history.proofs.Moves.{DidNothing}
use Rattle.history.proofs.Samples.{sample_step}
use Rattle.history.proofs.Steps.{Moved, Stepped, unlike}
use Rattle.history.proofs.Touching.{Step, all_left, turn}
use Rattle.history.proofs.Transfers.{transfer_step}

ask_step : (q : Question) (answer : Answer) (after : Moment) (xs ys : List Entry) → ys ≡ xs → Step (turn (ask q) answer after) xs ys
unfolding answered_by clears_at reported_at mask_written_at
ask_step q answer after xs ys same = (subst (Each (Moved t) xs) (sym same) (all_left t did nobody xs), tt)
  where
    t : Turn
    t = turn (ask q) answer after

    did : (s : ℕ) → DidNothing s t
    did s = record { clears = refl; reports = refl; writes = refl }

    nobody : (s : ℕ) → ¬ (Answers s t)
    nobody s e = apart (cc)

-- ---- a turn, and a history

pub followed : (joining : Option JoinAnswer) (m : Moment) (t : Turn) → Unlike m.entries → Follows joining m t → Step t m.entries t.after.entries
followed joining m t differ follows = go t.call t.answer follows.0
  where
    xs : List Entry
    xs = m.entries

    ys : List Entry
    ys = t.after.entries

    go : (call : Called) (answer : Answer) → Made joining call answer xs m.reply t.after.reply ys → Step (turn call answer t.after) xs ys
    go (sample a w) answer (r, is, shown, kept) =
        subst (λ (z : Answer). Step (turn (sample a w) z t.after) xs ys) (sym is) (sample_step a w t.after r xs ys differ shown)
    go (transfer a written wanted) answer (r, is, shown) =
        subst (λ (z : Answer). Step (turn (transfer a written wanted) z t.after) xs ys) (sym is)
        (transfer_step a written wanted t.after r m.reply xs ys differ shown)
    go (alert_read wanted) answer (r, is, shown) =
        subst (λ (z : Answer). Step (turn (alert_read wanted) z t.after) xs ys) (sym is) (read_step wanted t.after r m.reply xs ys differ shown)
    go (ask q) answer (is, same, kept) = ask_step q answer t.after xs ys same

pub stepped : (joining : Option JoinAnswer) (built : Moment) (h : List Turn) → History joining built h → Stepped built h
stepped joining built [] (as_built, lined, chain) = (as_built.0, as_built.1, lined)
stepped joining built (t ∷ h) (as_built, lined, (chain, follows)) =
    let run = stepped joining built h (as_built, lined, chain) in
    let step = followed joining (shown_at built h) t (unlike built h run) follows in
    (run, step.0, step.1, follows.1)

-- every history keeps the law
pub law_of : (joining : Option JoinAnswer) (built : Moment) (h : List Turn) → History joining built h → Law built h
law_of joining built h run = law built h (stepped joining built h run)
