use Rattle.std.proofs.Common.{arith, below_more, sym, ◌∙◌, subst}
use Rattle.std.proofs.lemmas.Option.{same_Some, slice_get_within}
use Rattle.stow_data.specs.declared.geometry.Separation.{Separation}
use Rattle.stowage_rules.specs.Faults.{AreTooNear}
use Rattle.stowage_rules.proofs.separation.first_unseparated.Goals as goal

pub loop-e-preserved : goal.loop-e-preserved
loop-e-preserved c = below_more _ _ c.loop-e.invariant (λ p q x. c.in_default.ensures p q (subst (λ (r : Separation). AreTooNear c.args.ship.now c.args.cargo.now c.args.plan.now r p q) (same_Some x.rule c.separation.result.now (sym x.is_rule ∙ c.separation.ensures)) x.too_near))

pub returns : goal.returns
returns c = λ e p q x. c.loop-e.invariant e (omega (arith, slice_get_within c.args.ship.now.separations e x.rule x.is_rule)) p q x
