-- The rule of a transfer shows what every station shows.
use Rattle.std.proofs.Common.{refl}
use Rattle.practice.proofs.Shown.{transferred}
use Rattle.practice.proofs.stations.PracticeStationStation.transfer.Goals as goal

pub returns : goal.returns
returns c =
    let x = c.args.self.now.entry in
    let between = c.serve-answer.new.entry in
    let y = c.conclude.new.entry in
    let served = c.serve-answer.ensures in
    let ended = c.conclude.ensures in
    record {
      own = ((refl, refl), (between, served, ended));
      effects = transferred x between y c.args.reply.now c.serve-answer.new.reply c.serve-answer.result c.args.request served ended;
    }
