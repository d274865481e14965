use Rattle.text.proofs.writing.+push_scaled.Given as goal

abbrev pub decreases-push_scaled : goal.decreases-push_scaled
decreases-push_scaled l = l.decimals
