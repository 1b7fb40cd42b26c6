use Rattle.std.proofs.Common.{◌≡◌, true, All, List, ◌++◌, Option, Vec, Global, [], Some, length, map, sym, subst, ◌∙◌, ap}
use Rattle.std.specs.Prelude.{IfSome}
use Rattle.zero_one_rows.specs.declared.program.Raise.{Raise}
use Rattle.zero_one_rows.specs.declared.program.Row.{Row}
use Rattle.zero_one_rows.specs.Variables.{Voyage}
use Rattle.zero_one_rows.specs.Rows.{whole}
use Rattle.proof_trees.specs.Boxes.{Box}
use Rattle.proof_trees.specs.Multipliers.{Multipliers, raised_all}
use Rattle.certificate.specs.Entries.{same_row, raise_of}
use Rattle.dual_bound.specs.Rising.{Ends}
use Rattle.node_work.specs.declared.stages.Stage.{Stage}
use Rattle.node_work.specs.DualStates.{Staged}
use Rattle.node_work.proofs.Leading.{still_staged, rows_of}
use Rattle.node_work.proofs.dual_state.DualState.raise.Goals as goal

pub returns-clause-dual_state : goal.returns-clause-dual_state
returns-clause-dual_state c =
    let raised = c.raise-end.ensures.raised in
    let m = c.args.model.now in
    let us = c.args.self.now.gauge.multipliers in
    let made : c.as_slice.result.now ≡ raised.made = c.as_slice.ensures ∙ raised.added ∙ ap (λ (rs : List Raise). rs ++ raised.made) c.requires.none in
    record {
      voyage = c.raise-end.ensures.same.0 ∙ c.requires.dual_state.voyage;
      whole = ap (λ (b : Box). length b) c.raise-end.ensures.same.1 ∙ c.requires.dual_state.whole;
      staged = still_staged m c.take-stages.result c.lengthened.result us c.raise-end.new.self.multipliers c.as_slice.result.now c.len-before.result
          (subst (λ (o : Option (Vec Stage Global)). IfSome o (λ v. Staged m [] v.items us)) (sym c.take-stages.ensures.value) c.requires.dual_state.staged) c.lengthened.ensures
          (c.len-before.ensures ∙ ap (λ (ms : Multipliers Row). length ms) c.multipliers.ensures)
          (subst (λ (rs : List Raise). All (λ (x : Raise). (whole m).has x.row ≡ true) rs) (sym made) (subst (λ (v : Voyage). All (λ (x : Raise). (whole v).has x.row ≡ true) raised.made) c.requires.dual_state.voyage (rows_of c.args.self.now.gauge.voyage raised.made raised.rows)))
          (ap (λ (rs : List Raise). raised_all same_row (Some us) (map raise_of rs)) made ∙ raised.to);
    }

pub returns-clause-ends : goal.returns-clause-ends
returns-clause-ends c = subst (λ (m : Voyage). Ends m c.args.self.now.gauge.box c.raise-end.new.self.multipliers c.args.cut c.raise-end.result) c.requires.dual_state.voyage c.raise-end.ensures.ends
