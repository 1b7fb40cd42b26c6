use Rattle.std.proofs.Common.{◌≡◌, ◌+◌, false, cond, length, [], List}
use Rattle.zero_one_rows.specs.declared.program.Row.{Row}
use Rattle.proof_trees.specs.Multipliers.{Multipliers}
use Rattle.bound_checker.specs.declared.prices.Change.{Change}
use Rattle.bound_checker.specs.Sums.{CarriesSome}
use Rattle.bound_checker.specs.Prices.{Holds, HoldsSome}
use Rattle.bound_checker.proofs.prices.Prices.clear.Given as goal

abbrev pub invariant-loop-more : goal.invariant-loop-more
invariant-loop-more l = record {
  carries : CarriesSome l.model l.b l.self.sums;
  holds : (first ms : Multipliers Row) (k : List Change) → Holds l.model l.b first k ms l.fn.self → HoldsSome l.model l.b first k l.self;
  none : l.more ≡ false → l.self.sums.amounts ≡ [];
}

abbrev pub decreases-loop-more : goal.decreases-loop-more
decreases-loop-more l = length l.self.sums.amounts + cond l.more 1 0
