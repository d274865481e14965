-- The rule of a sample shows what every station shows.
use Rattle.practice.proofs.Shown.{raised}
use Rattle.practice.proofs.stations.PracticeStationStation.sample.Goals as goal
use Rattle.std.proofs.Common.{refl}

pub returns : goal.returns
returns c =
    let set = c.take.result in
    let x = c.args.self.now.entry in
    let y = c.take.new.entry in
    let rule = c.take.ensures in
    record { own = ((refl, refl), rule); effects = raised set y.frame x y rule.1 rule.3 }
