use Rattle.std.proofs.Common.{◌∙◌, ℕ, ap, arith}
use Rattle.std.specs.List.{insert}
use Rattle.crane_lists.specs.Sharing.{place_for}
use Rattle.crane_lists.proofs.Making.{inserted, place_low}
use Rattle.crane_lists.proofs.rounds.enter.Goals as goal

pub insert-requires : goal.insert-requires
insert-requires c =
    let at = c.place_for-place.ensures in
    let low = place_low c.args.ship.now c.args.tasks.now c.args.j c.as_slice.result.now in
    let same = c.as_slice.ensures.len in
    omega (arith, at, low, same)

pub returns : goal.returns
returns c = c.in_ok-insert.ensures.items ∙ (ap (λ (p : ℕ). insert c.args.round.now.items p c.args.j) (c.place_for-place.ensures ∙ ap (place_for c.args.ship.now c.args.tasks.now c.args.j) c.as_slice.ensures.value) ∙ inserted c.args.ship.now c.args.tasks.now c.args.j c.args.round.now.items)
