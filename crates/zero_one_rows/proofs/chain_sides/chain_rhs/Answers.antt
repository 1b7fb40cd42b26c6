use Rattle.std.proofs.Common.{◌≡◌, ◌+◌, ◌*◌, ℕ, List, sum, take, take_all, arith, ap, ◌∙◌}
use Rattle.std.specs.List.{sum_by}
use borrow.Author.Differences.{ints}
use Rattle.zero_one_rows.specs.Gains.{best_gain}
use Rattle.zero_one_rows.proofs.Signed.{unsigned_side}
use Rattle.zero_one_rows.proofs.chain_sides.chain_rhs.Goals as goal

pub returns : goal.returns
returns c =
    let whole : take c.loop-load.load-index c.args.loads.now ≡ c.args.loads.now = take_all c.loop-load.load-index c.args.loads.now c.loop-load-test.false in
    let each : ℕ → ℕ = best_gain c.args.columns c.args.height c.args.price in
    let total : c.loop-load.total ≡ sum c.args.loads.now = c.loop-load.invariant.total ∙ ap sum whole in
    let kept : c.loop-load.kept ≡ c.args.price * c.args.columns + sum_by each c.args.loads.now = c.loop-load.invariant.kept ∙ ap (λ (xs : List ℕ). c.args.price * c.args.columns + sum_by each xs) whole in
    omega (arith, ints, total, kept, unsigned_side c.args.loads.now c.args.columns c.args.height c.args.price, c.loop-load.invariant.total_low, c.loop-load.invariant.kept_low, c.requires.few)
