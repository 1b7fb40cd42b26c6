use Rattle.search_tests.proofs.Samples.{begun, whole_of}
use Rattle.search_tests.proofs.ledgers.gather_one.Goals as goal

pub gather-requires : goal.gather-requires
gather-requires c = record { whole = whole_of _ _ c.args.left (begun _ _ c.args.journal c.new-journals.ensures c.in_ok-push.ensures) c.requires }
