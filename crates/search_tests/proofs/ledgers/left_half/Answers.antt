use Rattle.std.proofs.Common.{[], ◌∷◌}
use Rattle.search_tests.proofs.Samples.{whole_left}
use Rattle.search_tests.proofs.ledgers.left_half.Goals as goal

pub gather_one-requires : goal.gather_one-requires
gather_one-requires c = whole_left (c.add_left_half.new.journal ∷ []) c.in_ok-left.left _ c.in_ok-left.ensures c.in_ok-add_left_half.ensures
