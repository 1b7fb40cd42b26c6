use Rattle.std.proofs.Common.{rules, ◌≡◌, ◌++◌, ◌∷◌, [], List, codes, ap, ◌∙◌}
use Rattle.std.proofs.lemmas.List.{append_assoc}
use Rattle.edifact_segments.specs.declared.segments.Segment.{Segment}
use Rattle.plan_files.specs.DepartureSegments.{cell_segment, mea, temperature_segments, loc, rff, eqd, goods_segments}
use Rattle.plan_files.specs.DepartureFile.{group_segments, number_at, port_of}
use Rattle.plan_files.proofs.Composing.{pushed}
use Rattle.plan_files.proofs.cell_groups.group_segments.Goals as goal

pub returns : goal.returns
unfolding group_segments
returns c =
    let number = number_at c.args.ship.now c.args.p in
    let booking = c.args.booking.now in
    let load = loc (codes "9") (port_of c.args.cargo.now c.args.container.now.load) in
    let discharge = loc (codes "11") (port_of c.args.cargo.now c.args.container.now.dest) in
    let container = eqd c.args.container.now.id booking.iso booking.empty in
    let goods = goods_segments booking.class booking.unno in
    let e1 : c.push.new.self ≡ cell_segment number ∷ [] = search rules in
    let e2 : c.push-2.new.self ≡ c.push.new.self ++ mea booking.vgm c.args.container.now.kg ∷ [] = search rules in
    let e3 : c.push_temperature.new.list ≡ c.push-2.new.self ++ temperature_segments booking.temperature = search rules in
    let e4 : c.push-3.new.self ≡ c.push_temperature.new.list ++ load ∷ [] = search rules in
    let e5 : c.push-4.new.self ≡ c.push-3.new.self ++ discharge ∷ [] = search rules in
    let e6 : c.push-5.new.self ≡ c.push-4.new.self ++ rff ∷ [] = search rules in
    let e7 : c.push-6.new.self ≡ c.push-5.new.self ++ container ∷ [] = search rules in
    let e8 : c.push_goods.new.list ≡ c.push-6.new.self ++ goods = search rules in
    e8
    ∙ pushed container _ _ goods e7
    ∙ pushed rff _ _ (container ∷ goods) e6
    ∙ pushed discharge _ _ (rff ∷ container ∷ goods) e5
    ∙ pushed load _ _ (discharge ∷ rff ∷ container ∷ goods) e4
    ∙ ap (λ (x : List Segment). x ++ load ∷ discharge ∷ rff ∷ container ∷ goods) e3
    ∙ append_assoc c.push-2.new.self (temperature_segments booking.temperature) (load ∷ discharge ∷ rff ∷ container ∷ goods)
    ∙ pushed (mea booking.vgm c.args.container.now.kg) _ _ (temperature_segments booking.temperature ++ load ∷ discharge ∷ rff ∷ container ∷ goods) e2
    ∙ ap (λ (x : List Segment). x ++ (mea booking.vgm c.args.container.now.kg ∷ temperature_segments booking.temperature ++ load ∷ discharge ∷ rff ∷ container ∷ goods)) e1
