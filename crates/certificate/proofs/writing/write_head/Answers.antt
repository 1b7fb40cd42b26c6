use Rattle.certificate.proofs.Texts.{then_five}
use Rattle.certificate.proofs.writing.write_head.Goals as goal

pub returns : goal.returns
returns c = then_five _ _ _ _ _ _ _ _ _ _ _ c.in_ok-write_title.ensures c.in_ok-write_outcome.ensures c.in_ok-write_rehandles.ensures c.in_ok-write_bound.ensures c.in_ok-write_nodes.ensures
