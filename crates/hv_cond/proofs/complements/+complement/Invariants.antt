use Rattle.hv_cond.proofs.complements.+complement.Given as goal

abbrev pub decreases-complement : goal.decreases-complement
decreases-complement l = l.a.index
