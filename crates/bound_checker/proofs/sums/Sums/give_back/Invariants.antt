use Rattle.std.proofs.Common.{◌≡◌, ◌+◌, false, cond, length, []}
use Rattle.bound_checker.specs.Sums.{CarriesSome, AreToCome, HaveSum}
use Rattle.bound_checker.proofs.sums.Sums.give_back.Given as goal

abbrev pub invariant-loop-more : goal.invariant-loop-more
invariant-loop-more l = record {
  carries : CarriesSome l.model l.b l.self;
  come : AreToCome l.model l.rest l.self.amounts;
  sum : HaveSum l.fn.amounts l.fn.self.amounts l.rest l.self.amounts;
  none : l.more ≡ false → l.rest ≡ [];
}

abbrev pub decreases-loop-more : goal.decreases-loop-more
decreases-loop-more l = length l.rest + cond l.more 1 0
