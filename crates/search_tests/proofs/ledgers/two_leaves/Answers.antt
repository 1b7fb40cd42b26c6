use Rattle.std.proofs.Common.{[], ◌∷◌}
use Rattle.search_tests.proofs.Samples.{whole_left}
use Rattle.search_tests.proofs.ledgers.two_leaves.Goals as goal

pub gather_both-requires : goal.gather_both-requires
gather_both-requires c = whole_left (c.add_two_leaves.new.low ∷ c.add_two_leaves.new.top ∷ []) c.new.result [] c.new.ensures c.in_ok-add_two_leaves.ensures
