use Rattle.std.proofs.Common.{◌≤◌, ◌^◌, ℕ, sym, subst}
use Rattle.bound_checker.proofs.Raising.{amounts_low}
use Rattle.bound_checker.proofs.prices.Prices.raise.Goals as goal

pub changed-requires : goal.changed-requires
changed-requires c = subst (λ (n : ℕ). n ≤ 2 ^ 40) (sym c.at.ensures) (amounts_low c.args.model.now c.args.b.now c.requires.carries.0 c.args.self.now.sums c.requires.carries.1 c.args.raise.now.row)
