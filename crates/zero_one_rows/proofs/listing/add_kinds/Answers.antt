use Rattle.std.proofs.Common.{◌≡◌, ◌∙◌, ◌≤◌, List, ap, subst, arith, length}
use Rattle.std.specs.Prelude.{slice_index_or}
use Rattle.stow_data.specs.Ship.{Ship, places}
use Rattle.stow_data.specs.declared.kind_list.Kind.{Kind}
use Rattle.zero_one_rows.specs.Variables.{calls, kind, no_kind}
use Rattle.zero_one_rows.specs.Offering.{offered}
use Rattle.zero_one_rows.specs.Enumerated.{at_lifts}
use Rattle.zero_one_rows.proofs.Offered.{few_offered}
use Rattle.zero_one_rows.proofs.Added.{adds_flat, lifts_same}
use Rattle.zero_one_rows.proofs.listing.add_kinds.Goals as goal

pub add_lifts-requires-clause-few : goal.add_lifts-requires-clause-few
add_lifts-requires-clause-few g c =
    let few : length (places g.m.ship) ≤ 3000 = subst (λ (s : Ship). length (places s) ≤ 3000) c.requires.0 c.obeys_rules.ensures.few_places in
    let here = ap length c.at-places.ensures in
    omega (arith, here, few_offered g.m c.args.put c.loop-g.g few)

pub loop-g-preserved : goal.loop-g-preserved
loop-g-preserved g c =
    let same : c.kind_at.result.now ≡ kind g.m c.loop-g.g = c.kind_at.ensures ∙ ap (λ (ks : List Kind). slice_index_or ks c.loop-g.g no_kind) c.requires.1.1.1.0 in
    record {
      adds = adds_flat c.args.listing.now c.loop-g.listing c.add_lifts.new.listing (λ k. at_lifts (calls g.m) c.args.put k (kind g.m k).dest (offered g.m c.args.put k)) c.loop-g.g c.loop-g.invariant.adds
          (lifts_same c.loop-g.listing c.add_lifts.new.listing c.args.last _ _ (calls g.m) c.args.put c.loop-g.g _ _ c.requires.1.0 (ap (λ (k : Kind). k.dest) same) c.at-places.ensures c.in_ok-add_lifts.ensures.adds);
      most = omega (arith, c.loop-g.invariant.most, c.in_ok-add_lifts.ensures.most);
    }
