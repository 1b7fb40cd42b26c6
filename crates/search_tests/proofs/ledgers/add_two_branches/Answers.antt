use Rattle.std.proofs.Common.{[], ◌∷◌, true, false, refl}
use Rattle.std.proofs.lemmas.Result.{on_ok_weaker}
use Rattle.search_tests.proofs.Samples.{begun, went_on, two_of, two_branches}
use Rattle.search_tests.proofs.ledgers.add_two_branches.Goals as goal

pub returns : goal.returns
returns c =
    let last = c.in_ok-add.ensures in
    let one = c.in_ok-add-2.ensures in
    let zero = c.in_ok-add-3.ensures in
    on_ok_weaker c.add-4.result
    (λ root. two_branches c.args.x.now _ ((false ∷ true ∷ []) ∷ []) root.0 one.0 zero.0 last.0
    (two_of _ _ _ _ (went_on _ _ last.0 one.0 (begun _ _ last.0 c.requires.low last.1) one.1) (went_on _ _ zero.0 root.0 (begun _ _ zero.0 c.requires.top zero.1) root.1)) refl
    (root.2, root.3) (one.2, one.3) (zero.2, zero.3) (last.2, last.3)) c.add-4.ensures
