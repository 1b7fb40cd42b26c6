use Rattle.search_tests.proofs.Samples.{begun, went_on, whole_of}
use Rattle.search_tests.proofs.ledgers.gather_both.Goals as goal

pub gather-requires : goal.gather-requires
gather-requires c = record { whole = whole_of _ _ c.args.left (went_on _ _ c.args.low c.args.top (begun _ _ c.args.low c.new-journals.ensures c.in_ok-push.ensures) c.in_ok-push-2.ensures) c.requires }
