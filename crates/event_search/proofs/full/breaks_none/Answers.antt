use Rattle.std.proofs.Common.{rules, ◌≡◌, ℕ, Bool, true, false, Some, slice_get}
use Rattle.zero_one_rows.specs.declared.program.Row.{Row as Rows}
use Rattle.proof_trees.specs.Boxes.{violated}
use Rattle.zero_one_rows.specs.Rows.{whole}
use Rattle.zero_one_rows.specs.Counted.{base_rows}
use Rattle.stow_data.proofs.Ranges.{any_from_Range}
use Rattle.event_search.proofs.Fixed.{told_kept}
use Rattle.event_search.proofs.full.breaks_none.Goals as goal

pub returns : goal.returns
returns c =
    let breaks : Bool → ℕ → Type 0 = λ answer k. (r : Rows) → slice_get (base_rows c.args.model.now) k ≡ Some r → answer ≡ violated (whole c.args.model.now) c.args.b.now r in
    told_kept c.args.model.now c.args.b.now (base_rows c.args.model.now) c.any.result c.base_rows.result c.base_rows.ensures
    (any_from_Range _ _ _ _ (breaks true) (breaks false) c.any.ensures.ran (λ x q k. search rules) (λ x q k. search rules))
