use Rattle.history.proofs.ExampleTurns.{example}
use Rattle.history.proofs.example.shown.Goals as goal

pub returns : goal.returns
returns c = example
