use Rattle.std.proofs.Common.{◌≡◌, ◌<◌, ◌≤◌, ◌∙◌, ℕ, arith, ap, sym, subst, length, slice_index_or}
use Rattle.stow_data.specs.Ship.{Ship}
use Rattle.zero_one_rows.specs.Rows.{separation, no_separation}
use Rattle.zero_one_rows.specs.Counted.{near_by}
use Rattle.zero_one_rows.specs.Levels.{count_for}
use Rattle.zero_one_rows.proofs.Counting.{flat_count}
use Rattle.zero_one_rows.proofs.ByLevel.{count_of_separation}
use Rattle.zero_one_rows.proofs.counts.count_near.Goals as goal

pub loop-e-preserved : goal.loop-e-preserved
loop-e-preserved g c =
    let inside : c.loop-e.e < length g.m.ship.separations = subst (λ (s : Ship). c.loop-e.e < length s.separations) c.requires (omega (arith, c.loop-e-test.true, c.separations-e-end.ensures)) in
    let level : c.level_of.result ≡ (separation g.m c.loop-e.e).level = c.level_of.ensures ∙ ap (λ (s : Ship). (slice_index_or s.separations c.loop-e.e no_separation).level) c.requires in
    let here : c.at-count.result ≡ length (near_by g.m c.loop-e.e) = c.at-count.ensures ∙ ap (count_for c.of-counts.result) level ∙ c.of-counts.ensures.counts c.loop-e.e inside ∙ sym (count_of_separation g.m c.loop-e.e) in
    let size : c.at-count.result ≤ 9000000 = subst (λ (n : ℕ). n ≤ 9000000) (sym c.at-count.ensures) (c.of-counts.ensures.size c.level_of.result) in
    let more = flat_count (near_by g.m) c.loop-e.e in
    record { number = omega (arith, c.loop-e.invariant.number, here, more); low = omega (arith, c.loop-e.invariant.low, size) }
