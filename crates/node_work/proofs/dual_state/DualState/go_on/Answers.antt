use Rattle.std.proofs.Common.{◌≡◌, true, All, List, Option, Vec, Global, [], length, sym, subst, ◌∙◌, ap}
use Rattle.std.specs.Prelude.{IfSome}
use Rattle.zero_one_rows.specs.declared.program.Raise.{Raise}
use Rattle.zero_one_rows.specs.declared.program.Row.{Row}
use Rattle.zero_one_rows.specs.Rows.{whole}
use Rattle.proof_trees.specs.Boxes.{Box}
use Rattle.proof_trees.specs.Multipliers.{Multipliers}
use Rattle.node_work.specs.declared.stages.Stage.{Stage}
use Rattle.node_work.specs.DualStates.{Staged}
use Rattle.node_work.proofs.Leading.{still_staged}
use Rattle.node_work.proofs.dual_state.DualState.go_on.Goals as goal

pub returns-clause-dual_state : goal.returns-clause-dual_state
returns-clause-dual_state c =
    let m = c.args.model.now in
    let us = c.begin.new.self.gauge.multipliers in
    record {
      voyage = c.in_ok-reraise.ensures.voyage ∙ c.begin.ensures.dual_state.voyage;
      whole = ap (λ (b : Box). length b) c.in_ok-reraise.ensures.known ∙ c.begin.ensures.dual_state.whole;
      staged = still_staged m c.take-stages.result c.lengthened.result us c.reraise.new.gauge.multipliers c.as_slice-raises.result.now c.len-before.result
          (subst (λ (o : Option (Vec Stage Global)). IfSome o (λ v. Staged m [] v.items us)) (sym c.take-stages.ensures.value) c.begin.ensures.dual_state.staged) c.lengthened.ensures
          (c.len-before.ensures ∙ ap (λ (ms : Multipliers Row). length ms) c.multipliers.ensures)
          (subst (λ (rs : List Raise). All (λ (x : Raise). (whole m).has x.row ≡ true) rs) (sym (c.as_slice-raises.ensures ∙ c.in_ok-list.ensures)) c.requires.rows) c.in_ok-reraise.ensures.raised;
    }
