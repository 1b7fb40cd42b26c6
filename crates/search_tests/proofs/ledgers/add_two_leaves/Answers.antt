use Rattle.std.proofs.Common.{[], refl}
use Rattle.std.proofs.lemmas.Result.{on_ok_weaker}
use Rattle.search_tests.proofs.Samples.{begun, went_on, two_of, two_leaves}
use Rattle.search_tests.proofs.ledgers.add_two_leaves.Goals as goal

pub returns : goal.returns
returns c =
    let zero = c.in_ok-add.ensures in
    let one = c.in_ok-add-2.ensures in
    on_ok_weaker c.add-3.result
    (λ root. two_leaves c.args.x _ [] root.0 one.0 zero.0 (two_of _ _ _ _ (begun _ _ zero.0 c.requires.low zero.1) (went_on _ _ one.0 root.0 (begun _ _ one.0 c.requires.top one.1) root.1)) refl (root.2, root.3) (one.2, one.3) (zero.2, zero.3)) c.add-3.ensures
