-- The works of the clock.
use Rattle.std.specs.Prelude.{ℕ}
use Rattle.hv_cond_bench.specs.declared.works.Work.{Work}
use Rattle.hv_cond_bench.specs.declared.works.Work.TheVariants.{Pairs, Queens, Chain, ChainByAnd, Same, Deep}

-- the greatest number that a work takes
abbrev pub limit : Work → ℕ
limit Pairs = 1000
limit Queens = 8
limit Chain = 200000
limit ChainByAnd = 4000
limit Same = 1000
limit Deep = 4096
