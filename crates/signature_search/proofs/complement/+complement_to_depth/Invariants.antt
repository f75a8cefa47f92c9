use Rattle.signature_search.proofs.complement.+complement_to_depth.Given as goal

abbrev pub decreases-complement_to_depth : goal.decreases-complement_to_depth
decreases-complement_to_depth l = l.depth
