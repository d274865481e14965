use Rattle.text.proofs.display.+write_scaled.Given as goal

abbrev pub decreases-write_scaled : goal.decreases-write_scaled
decreases-write_scaled g l = l.decimals
