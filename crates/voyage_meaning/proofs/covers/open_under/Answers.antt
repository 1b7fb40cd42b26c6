use Rattle.std.proofs.Common.{Some, true, false}
use Rattle.std.specs.Prelude.{◌≡◌, slice_get}
use Rattle.voyage_meaning.proofs.CoversHold.{not_open, least_open}
use Rattle.voyage_meaning.proofs.covers.open_under.Goals as goal

pub returns-in-None : goal.returns-in-None
returns-in-None c = λ n x. c.in-None.ensures.is n x.on

pub returns-then-at : goal.returns-then-at
returns-then-at c =
    let at = c.at.ensures in
    let set = c.if-at.true in
    let e : slice_get c.args.off.now c.in-Some.k ≡ Some true = cc in
    least_open c.args.ship.now c.args.off.now c.args.stack c.in-Some.k c.in-Some.ensures.is c.in-Some.ensures.back e

pub returns-else-at : goal.returns-else-at
returns-else-at c =
    let at = c.at.ensures in
    let set = c.if-at.false in
    let e : slice_get c.args.off.now c.in-Some.k ≡ Some false = cc in
    not_open c.args.ship.now c.args.off.now c.args.stack c.in-Some.k c.in-Some.ensures.back e
