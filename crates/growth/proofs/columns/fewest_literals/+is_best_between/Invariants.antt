use Rattle.growth.proofs.columns.fewest_literals.+is_best_between.Given as goal

abbrev pub decreases-is_best_between : goal.decreases-is_best_between
decreases-is_best_between l = l.depth
