use Rattle.std.proofs.Common.{◌≡◌, ◌+◌, ◌<◌, ◌∙◌, ℕ, ap, arith, sym, subst, length, take, get_or, length-set}
use Rattle.std.specs.Prelude.{slice_index}
use Rattle.std.proofs.lemmas.List.{length-take}
use Rattle.std.proofs.lemmas.Option.{get_or_from_slice_get, slice_get_within}
use Rattle.stow_data.specs.declared.cargoes.Container.{Container}
use Rattle.stow_data.proofs.KindLemmas.{loads_few, row_raised, row_kept}
use Rattle.stow_data.proofs.kind_finder.loads_of.Goals as goal
use Rattle.stow_data.proofs.kind_finder.loads_of.Goals.{then-container-call, else-container-call}

pub overflow_add-count : goal.overflow_add-count
overflow_add-count c =
    let low : c.kind.inside.0 < length c.loop-index.row = slice_get_within c.loop-index.row c.kind.inside.0 c.at.result.now c.at.ensures in
    let here : slice_index c.loop-index.row c.kind.inside.0 ≡ c.at.result.now = get_or_from_slice_get c.loop-index.row c.kind.inside.0 c.at.result.now 0 c.at.ensures in
    let counts = c.loop-index.invariant.counts c.kind.inside.0 (omega (arith, low, c.loop-index.invariant.each_kind)) in
    let few = loads_few c.args.call c.kind.inside.0 (take c.loop-index.index c.args.containers.now) (take c.loop-index.index c.args.each.now) in
    omega (arith, here, counts, few, length-take c.loop-index.index c.args.containers.now, c.loop-index-test.true, c.requires.few)

pub loop-index-preserved : goal.loop-index-preserved
loop-index-preserved c = record {
  each_kind = elim c.if-container-call.branch [ then-container-call w ↦ ap length (w.row-is ∙ w.set.ensures) ∙ (length-set c.loop-index.row w.kind.inside.0 (w.at.result.now + 1) ∙ c.loop-index.invariant.each_kind) | else-container-call w ↦ ap length w.row-is ∙ c.loop-index.invariant.each_kind ];
  counts = elim c.if-container-call.branch [
    | then-container-call w ↦
        (let low : w.kind.inside.0 < length c.loop-index.row = slice_get_within c.loop-index.row w.kind.inside.0 w.at.result.now w.at.ensures in
        row_raised c.args.call c.loop-index.index c.args.kinds c.args.containers.now c.args.each.now c.index-containers-index.result w.kind.inside.0 w.at.result.now c.loop-index.row c.if-container-call.row c.loop-index-test.true c.requires.same_length c.index-containers-index.is
        (subst (λ (z : ℕ). z ≡ get_or c.args.each.now c.loop-index.index z) (sym w.kind.view_is) w.index-each-index.is) c.loop-index.invariant.each_kind (omega (arith, low, c.loop-index.invariant.each_kind)) c.loop-index.invariant.counts
        (sym (ap (λ (z : Container). z.load) c.container.view_is) ∙ w.if-container-call.true) (sym (get_or_from_slice_get c.loop-index.row w.kind.inside.0 w.at.result.now 0 w.at.ensures)) (w.row-is ∙ w.set.ensures))
    | else-container-call w ↦
        row_kept c.args.call c.loop-index.index c.args.kinds c.args.containers.now c.args.each.now c.index-containers-index.result c.loop-index.row c.if-container-call.row c.loop-index-test.true c.requires.same_length c.index-containers-index.is c.loop-index.invariant.counts
        (λ e. w.if-container-call.false (ap (λ (z : Container). z.load) c.container.view_is ∙ e)) w.row-is
  ];
}
