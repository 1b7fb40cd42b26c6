use Rattle.std.proofs.Common.{ap, arith}
use Rattle.stow_data.specs.declared.geometry.Half.{Half}
use Rattle.row_sums.proofs.Tiers.{tiers_low}
use Rattle.row_sums.proofs.families.block_at.Goals as goal

pub block_parts-requires : goal.block_parts-requires
block_parts-requires c = omega (arith, ap (λ (h : Half). h.tier) c.half_at-half.ensures, tiers_low c.args.ship.now c.obeys_rules.ensures c.args.h)
