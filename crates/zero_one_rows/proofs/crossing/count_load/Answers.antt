use Rattle.std.proofs.Common.{◌≡◌, ◌<◌, ◌∙◌, List, Bool, arith, ap, sym, length, get_or}
use Rattle.std.proofs.lemmas.List.Sums.{count_by_more_yes, count_by_more_no}
use Rattle.std.proofs.lemmas.Option.{get_or_from_slice_get}
use Rattle.stow_data.specs.declared.cargoes.Container.{Container}
use Rattle.stow_data.specs.Plans.{no_container}
use Rattle.zero_one_rows.specs.Crossing.{is_of_load}
use Rattle.zero_one_rows.proofs.crossing.count_load.Goals as goal
use Rattle.zero_one_rows.proofs.crossing.count_load.Goals.{then-is_of_load, else-is_of_load}

pub loop-c-preserved : goal.loop-c-preserved
loop-c-preserved c =
    let cs : List Container = c.args.cargo.now.containers in
    let t : Container → Bool = is_of_load c.args.long c.args.load c.args.dest in
    let lt : c.loop-c.c < length cs = omega (arith, c.loop-c-test.true, c.len-c-end.ensures) in
    let same : t (get_or cs c.loop-c.c no_container) ≡ c.is_of_load.result = ap t (get_or_from_slice_get cs c.loop-c.c c.container.result.now no_container c.container.ensures) ∙ sym c.is_of_load.ensures in
    elim c.if-is_of_load.branch [
      | then-is_of_load w ↦ omega (arith, w.count-is, c.loop-c.invariant, count_by_more_yes t cs c.loop-c.c no_container lt (same ∙ w.if-is_of_load.true))
      | else-is_of_load w ↦ omega (arith, w.count-is, c.loop-c.invariant, count_by_more_no t cs c.loop-c.c no_container lt (same ∙ w.if-is_of_load.false))
    ]
