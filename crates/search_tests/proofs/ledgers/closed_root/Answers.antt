use Rattle.std.proofs.Common.{[], ◌∷◌}
use Rattle.search_tests.proofs.Samples.{whole_left}
use Rattle.search_tests.proofs.ledgers.closed_root.Goals as goal

pub gather_one-requires : goal.gather_one-requires
gather_one-requires c = whole_left (c.add_closed_root.new.journal ∷ []) c.new.result [] c.new.ensures c.in_ok-add_closed_root.ensures
