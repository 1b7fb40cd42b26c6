use Rattle.std.proofs.Common.{◌≡◌, ◌+◌, All, true, List, Some, drop, refl, sym, subst, ◌∙◌, ap, arith}
use Rattle.std.proofs.lemmas.List.{drop_all}
use Rattle.proof_trees.specs.Multipliers.{Multipliers}
use Rattle.zero_one_rows.specs.declared.program.Row.{Row}
use Rattle.zero_one_rows.specs.Rows.{whole}
use Rattle.certificate.specs.declared.tree.Record.{Record}
use Rattle.node_work.specs.DualStates.{AreNamed}
use Rattle.node_work.specs.Starts.{priced, prices_along, InRange}
use Rattle.node_work.proofs.Folds.{rest_cons}
use Rattle.node_work.proofs.Leading.{ranged_on, priced_on}
use Rattle.node_work.proofs.dual_state.DualState.follow.Goals as goal

pub go_on-requires-clause-rows : goal.go_on-requires-clause-rows
go_on-requires-clause-rows c =
    subst (λ (r : Record). All (λ x. (whole c.args.model.now).has x.row ≡ true) r.raises) (sym c.record.ensures)
    (subst (λ (rs : List Record). AreNamed c.args.model.now rs) (rest_cons c.args.trail.now c.loop-k.k c.get.result.now (omega (arith, c.loop-k-test.true, c.len-k-end.ensures)) c.get.ensures) c.loop-k.invariant.named).0

pub go_on-requires-clause-range : goal.go_on-requires-clause-range
go_on-requires-clause-range c =
    let h = subst (λ (rs : List Record). InRange c.loop-k.self.gauge.multipliers rs) (rest_cons c.args.trail.now c.loop-k.k c.get.result.now (omega (arith, c.loop-k-test.true, c.len-k-end.ensures)) c.get.ensures) c.loop-k.invariant.range in
    subst (λ (r : Record). (ms : Multipliers Row) × (priced c.loop-k.self.gauge.multipliers r ≡ Some ms)) (sym c.record.ensures) (h.0, h.1)

pub loop-k-preserved : goal.loop-k-preserved
loop-k-preserved c =
    let i = c.loop-k.invariant in
    let priced_so : priced c.loop-k.self.gauge.multipliers c.get.result.now ≡ Some c.go_on.new.self.gauge.multipliers = ap (priced c.loop-k.self.gauge.multipliers) (sym c.record.ensures) ∙ c.in_ok-go_on.ensures.priced in
    let cons = rest_cons c.args.trail.now c.loop-k.k c.get.result.now (omega (arith, c.loop-k-test.true, c.len-k-end.ensures)) c.get.ensures in
    record {
      dual_state = c.in_ok-go_on.ensures.dual_state;
      named = (subst (λ (rs : List Record). AreNamed c.args.model.now rs) cons i.named).1;
      range = ranged_on c.loop-k.self.gauge.multipliers c.go_on.new.self.gauge.multipliers c.get.result.now (drop (c.loop-k.k + 1) c.args.trail.now) priced_so (subst (λ (rs : List Record). InRange c.loop-k.self.gauge.multipliers rs) cons i.range);
      along = priced_on c.loop-k.self.gauge.multipliers c.go_on.new.self.gauge.multipliers c.get.result.now (drop (c.loop-k.k + 1) c.args.trail.now) priced_so
          ∙ sym (ap (prices_along c.loop-k.self.gauge.multipliers) cons) ∙ i.along;
    }

pub loop-k-init : goal.loop-k-init
loop-k-init c = record { dual_state = c.requires.dual_state; named = c.requires.rows; range = c.requires.range; along = refl }

pub returns-clause-prices : goal.returns-clause-prices
returns-clause-prices c = sym (ap (prices_along c.loop-k.self.gauge.multipliers) (drop_all c.loop-k.k c.args.trail.now (omega (arith, c.loop-k-test.false, c.len-k-end.ensures)))) ∙ c.loop-k.invariant.along
