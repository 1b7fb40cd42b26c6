use Rattle.std.proofs.Common.{ap, Bool, Ok}
use Rattle.bound_checker.specs.Prices.{Holds}
use Rattle.bound_checker.proofs.Waiting.{moves_none}
use Rattle.bound_checker.proofs.Raising.{holds_none}
use Rattle.bound_checker.proofs.prices.Prices.clear.Goals as goal

pub returns : goal.returns
returns c = λ first ms k holds.
    let h = c.loop-more.invariant.holds first ms k holds in
    holds_none c.args.model.now c.args.b.now first h.0 k c.loop-more.self (c.loop-more.invariant.none c.loop-more-test.false) h.1

pub loop-more-preserved : goal.loop-more-preserved
loop-more-preserved c =
    let i = c.loop-more.invariant in
    let start : Holds c.args.model.now c.args.b.now i.carries.0 c.loop-more.self.changes.items i.carries.0 c.loop-more.self = record { carries = i.carries.1; moves = moves_none c.args.model.now i.carries.0 c.loop-more.self.changes.items } in
    let some = c.in_ok-more.ensures.holds i.carries.0 i.carries.0 c.loop-more.self.changes.items start in
    record {
      carries = (some.0, some.1.carries);
      holds = λ first ms k h. (let a = i.holds first ms k h in c.in_ok-more.ensures.holds first a.0 k a.1);
      none = λ e. c.in_ok-more.ensures.none (ap (λ (b : Bool). Ok b) e);
    }
