use Rattle.growth.proofs.columns.literal_search.LiteralSearch.+visit.Given as goal

abbrev pub decreases-visit : goal.decreases-visit
decreases-visit l = l.depth
