use Rattle.std.proofs.Common.{[], ◌∷◌, true, refl}
use Rattle.std.proofs.lemmas.Result.{on_ok_weaker}
use Rattle.search_tests.proofs.Samples.{begun, went_on, one_of, left_half}
use Rattle.search_tests.proofs.ledgers.add_left_half.Goals as goal

pub returns : goal.returns
returns c =
    let zero = c.in_ok-add.ensures in
    on_ok_weaker c.add-2.result
    (λ root. left_half c.args.x _ ((true ∷ []) ∷ []) root.0 zero.0 (one_of _ _ (went_on _ _ zero.0 root.0 (begun _ _ zero.0 c.requires zero.1) root.1)) refl (root.2, root.3) (zero.2, zero.3)) c.add-2.ensures
