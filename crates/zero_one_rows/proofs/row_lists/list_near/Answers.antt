use Rattle.std.proofs.Common.{◌≡◌, ◌<◌, ◌∙◌, ◌++◌, List, arith, ap, sym, subst, length, map, slice_index_or}
use Rattle.stow_data.specs.Ship.{Ship}
use Rattle.zero_one_rows.specs.Rows.{separation, no_separation}
use Rattle.zero_one_rows.specs.Counted.{near_by}
use Rattle.zero_one_rows.specs.Levels.{pairs_for}
use Rattle.zero_one_rows.specs.declared.row_lists.NearPair.{NearPair}
use Rattle.zero_one_rows.proofs.Added.{flat_more}
use Rattle.zero_one_rows.proofs.ByLevel.{with_index, pairs_of_separation}
use Rattle.zero_one_rows.proofs.row_lists.list_near.Goals as goal

pub loop-e-preserved : goal.loop-e-preserved
loop-e-preserved g c =
    let inside : c.loop-e.e < length g.m.ship.separations = subst (λ (s : Ship). c.loop-e.e < length s.separations) c.requires (omega (arith, c.loop-e-test.true, c.separations-e-end.ensures)) in
    let level : c.level_of.result ≡ (separation g.m c.loop-e.e).level = c.level_of.ensures ∙ ap (λ (s : Ship). (slice_index_or s.separations c.loop-e.e no_separation).level) c.requires in
    let here : map (with_index c.loop-e.e) c.at.result.now ≡ near_by g.m c.loop-e.e = ap (map (with_index c.loop-e.e)) (c.at.ensures ∙ ap (pairs_for c.in_ok-pairs.pairs) level ∙ c.in_ok-pairs.ensures c.loop-e.e inside) ∙ sym (pairs_of_separation g.m c.loop-e.e) in
    c.in_ok-push_separation.ensures ∙ ap (λ (xs : List NearPair). c.loop-e.list ++ xs) here ∙ ap (λ (xs : List NearPair). xs ++ near_by g.m c.loop-e.e) c.loop-e.invariant ∙ sym (flat_more (near_by g.m) c.loop-e.e)
