use Rattle.std.proofs.Common.{◌≡◌, ◌++◌}
use Rattle.bay_views.specs.Upto.{upto}
use Rattle.bay_views.specs.Stacks.{stack_label}
use Rattle.bay_views.proofs.stacks.write_side.Given as goal

abbrev pub invariant-loop-n : goal.invariant-loop-n
invariant-loop-n l = l.out ≡ l.fn.out ++ upto (stack_label l.sheet l.groups l.i l.deck) l.n
