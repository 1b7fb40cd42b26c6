use Rattle.std.proofs.Common.{◌≡◌, ℕ, subst, Some, length, ap, ◌∙◌, arith}
use Rattle.std.proofs.lemmas.Option.{get_or_from_slice_get, slice_get_within}
use Rattle.stow_data.specs.declared.cargoes.Container.{Container}
use Rattle.stow_data.specs.Ship.{places}
use Rattle.plan_files.specs.DepartureFile.{IsTold, groups}
use Rattle.plan_files.proofs.Composing.{groups_below}
use Rattle.plan_files.proofs.Gathered.{filled, empty}
use Rattle.plan_files.proofs.cell_groups.cell_groups.Goals as goal
use Rattle.plan_files.proofs.cell_groups.cell_groups.Goals.{in-Some+in_ok-cell_group+in_ok-push, in_default}

pub cell_group-requires-clause-told : goal.cell_group-requires-clause-told
cell_group-requires-clause-told c =
    let P : Container → Type 0 = λ x. IsTold c.args.bookings.now c.args.arrived.now x.origin in
    subst P (get_or_from_slice_get c.args.cargo.now.containers c.in-Some.c c.container-container.result.now c.container-container.result.now c.container-container.ensures)
    (c.requires.told c.in-Some.c c.container-container.result.now (slice_get_within c.args.cargo.now.containers c.in-Some.c c.container-container.result.now c.container-container.ensures))

pub loop-number-preserved : goal.loop-number-preserved
loop-number-preserved c = elim c.match-at.branch [
  | in-Some+in_ok-cell_group+in_ok-push w ↦ rw w.list-is (filled c.args.ship.now c.args.cargo.now c.args.bookings.now c.args.arrived.now c.args.plan.now c.loop-number.number w.in-Some.c w.container-container.result.now c.loop-number.list w.push.new.self w.in_ok-cell_group.field-0 c.loop-number.invariant
      (c.at.ensures ∙ ap (λ o. Some o) w.in-Some.is) w.container-container.ensures w.in_ok-cell_group.ensures w.in_ok-push.ensures)
  | in_default w ↦ rw w.list-is (empty c.args.ship.now c.args.cargo.now c.args.bookings.now c.args.arrived.now c.args.plan.now c.loop-number.number c.loop-number.list c.loop-number.invariant w.in_default.ensures)
]

pub returns : goal.returns
unfolding groups
returns c =
    let end : c.loop-number.number ≡ length (places c.args.ship.now) = omega (arith, c.places-number-end.ensures.number, c.loop-number-test.false, c.loop-number.auto.number-end) in
    c.loop-number.invariant ∙ ap (λ (n : ℕ). groups_below c.args.ship.now c.args.cargo.now c.args.bookings.now c.args.arrived.now c.args.plan.now n) end
