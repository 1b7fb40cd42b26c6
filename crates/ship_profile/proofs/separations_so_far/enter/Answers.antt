use Rattle.std.proofs.Common.{◌∙◌}
use Rattle.std.specs.BTreeSet.{contains}
use Rattle.ship_profile.specs.ClassPairs.{pair_order, pair_of}
use Rattle.ship_profile.proofs.PairLookups.{in_either_order}
use Rattle.ship_profile.proofs.separations_so_far.enter.Goals as goal

pub returns : goal.returns
returns c = λ e.
    let first = c.in_ok-insert.ensures.updates.0 (pair_of e) in
    let second = c.in_ok-insert-2.ensures.updates.0 (pair_of e) in
    second ∙ rw (first, c.copy.ensures, c.copy-2.ensures, c.copy-3.ensures, c.copy-4.ensures) (in_either_order c.args.d.now e (contains pair_order c.args.pairs.now (pair_of e)))
