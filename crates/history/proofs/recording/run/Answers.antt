-- The turns follow what showed first; every history keeps the law.
use Rattle.std.proofs.Common.{◌≡◌, ℕ, List, ◌++◌, vec_items, Option, sym, refl, subst}
use Rattle.alert.specs.declared.entries.Entry.{Entry}
use Rattle.segment.specs.Segments.{Built}
use Rattle.segment.specs.declared.segments.JoinAnswer.{JoinAnswer}
use Rattle.history.specs.Histories.{Chain, History, Lined}
use Rattle.history.specs.Law.{shown_at}
use Rattle.history.specs.Recorded.{moment_of, newest_first, shown_now}
use Rattle.history.specs.Turns.{Moment, Turn}
use Rattle.history.proofs.Extending.{extended}
use Rattle.history.proofs.Following.{law_of}
use Rattle.history.proofs.recording.run.Goals as goal

-- turns that follow what shows of a segment as built are a history
begins : (joining : Option JoinAnswer) (xs : List Entry) (before : List ℕ) (m : Moment) (h : List Turn) → m ≡ shown_now xs before → Built xs → Chain joining m h → History joining m h
begins joining xs before m h e built chain =
    (subst (λ (k : Moment). Built k.entries) (sym e) built, subst Lined (sym e) refl, chain)

pub returns : goal.returns
returns g c =
    let s = c.args.segment.now in
    let joining = g.S.Segment.joining s in
    let xs = g.S.Segment.entries s in
    let before = c.args.reply.now in
    let begun = c.show.ensures in
    let turns = newest_first (vec_items c.take_turns-turns.result) in
    let taken = c.take_turns-turns.ensures in
    let chain = subst (λ (m : Moment). Chain joining m turns) (sym begun) taken.taken.chain in
    record {
      recorded = record {
        start = begun;
        calls_made = taken.calls;
        chain = chain;
        end = subst (λ (m : Moment). shown_at m turns ≡ shown_now (g.S.Segment.entries c.take_turns-turns.new.segment) c.take_turns-turns.new.reply) (sym begun) taken.taken.end;
      };
      law = λ built. law_of joining (moment_of c.show.new.moment) turns (begins joining xs before (moment_of c.show.new.moment) turns begun built chain);
      extends = λ built k past ends.
          let whole = extended joining built k turns past (subst (λ (m : Moment). Chain joining m turns) (sym ends) chain) in
          (whole, law_of joining built (turns ++ k) whole);
      own = taken.own;
      joint = taken.joint;
    }
