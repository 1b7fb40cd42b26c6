use Rattle.std.proofs.Common.{◌≡◌, ◌++◌, arith}
use Rattle.stow_data.specs.Ship.{tier_halves}
use Rattle.stow_data.proofs.Made.{tier_more}
use Rattle.stow_data.proofs.tables.push_stack_halves.Goals as goal

pub loop-tier-preserved : goal.loop-tier-preserved
loop-tier-preserved c =
    let made : c.push_tier_halves.new.table ≡ c.loop-tier.table ++ tier_halves c.args.number c.args.stack.now c.loop-tier.tier = grind (arith, c.in_ok-push_tier_halves.ensures) in
    tier_more (tier_halves c.args.number c.args.stack.now) c.args.table.now c.loop-tier.table _ c.loop-tier.tier c.loop-tier.invariant made
