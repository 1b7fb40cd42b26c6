use Rattle.std.proofs.Common.{rules, arith, ◌≡◌, ℕ, Bool, true, false, None, slice_index_or, sym, ◌∙◌}
use Rattle.std.specs.Option.{is_some}
use Rattle.std.proofs.lemmas.Option.{get_or_from_slice_get}
use Rattle.zero_one_rows.specs.Variables.{variables}
use Rattle.stow_data.proofs.Ranges.{all_from_Range}
use Rattle.event_search.proofs.Fixed.{told_fixed}
use Rattle.event_search.proofs.full.fixes_all.Goals as goal

pub returns : goal.returns
returns c =
    let is_set : Bool → ℕ → Type 0 = λ answer k. is_some (slice_index_or c.args.b.now k None) ≡ answer in
    told_fixed c.args.b.now c.all.result _ c.vars.result c.vars.ensures.number
    (all_from_Range _ _ _ _ (is_set true) (is_set false) c.all.ensures.ran (λ x q k. search (rules, get_or_from_slice_get)) (λ x q k. search (rules, get_or_from_slice_get)))
