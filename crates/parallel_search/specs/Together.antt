-- What two workers did together.
use Rattle.std.specs.Prelude.{nat_lt, cond, Option, Some, None, ◌++◌}
use Rattle.steal_pool.specs.declared.deeds.Deeds.{Deeds}
use Rattle.steal_pool.specs.declared.deeds.Solution.{Solution}

abbrev pub cheaper_of : Option Solution → Option Solution → Option Solution
cheaper_of None other = other
cheaper_of (Some s) None = Some s
cheaper_of (Some s) (Some t) = cond (nat_lt t.cost s.cost) (Some t) (Some s)

-- what two did
abbrev pub both : Deeds → Deeds → Deeds
both d e = record { journal = d.journal ++ e.journal; left = d.left ++ e.left; best = cheaper_of d.best e.best }
