use Rattle.std.proofs.Common.{[], refl}
use Rattle.std.proofs.lemmas.Result.{on_ok_weaker}
use Rattle.search_tests.proofs.Samples.{begun, one_of, closed_root}
use Rattle.search_tests.proofs.ledgers.add_closed_root.Goals as goal

pub returns : goal.returns
returns c = on_ok_weaker c.add.result (λ e. closed_root _ [] e.0 (one_of _ _ (begun _ _ e.0 c.requires e.1)) refl (e.2, e.3)) c.add.ensures
