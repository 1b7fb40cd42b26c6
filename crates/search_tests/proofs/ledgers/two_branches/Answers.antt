use Rattle.std.proofs.Common.{[], ◌∷◌}
use Rattle.search_tests.proofs.Samples.{whole_left}
use Rattle.search_tests.proofs.ledgers.two_branches.Goals as goal

pub gather_both-requires : goal.gather_both-requires
gather_both-requires c = whole_left (c.add_two_branches.new.low ∷ c.add_two_branches.new.top ∷ []) c.in_ok-left.left _ c.in_ok-left.ensures c.in_ok-add_two_branches.ensures
