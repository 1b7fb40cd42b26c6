use Rattle.std.proofs.Common.{◌≡◌, ◌∙◌, arith, refl, ap, length}
use Rattle.stow_data.specs.Shipment.{Cargo}
use Rattle.zero_one_rows.specs.Enumerated.{at_put}
use Rattle.zero_one_rows.proofs.Added.{adds_flat, listing_whole}
use Rattle.zero_one_rows.proofs.listing.list_variables.Goals as goal

pub loop-put-preserved : goal.loop-put-preserved
loop-put-preserved g c = record {
  adds = adds_flat _ c.loop-put.listing c.add_kinds.new.listing (at_put g.m) c.loop-put.put c.loop-put.invariant.adds c.in_ok-add_kinds.ensures.adds;
  most = omega (arith, c.loop-put.invariant.most, c.in_ok-add_kinds.ensures.most);
}

pub returns : goal.returns
returns g c =
    let all : c.loop-put.put ≡ c.calls-last.result = omega (arith, c.loop-put-test.false, c.loop-put.auto.put-end) in
    listing_whole g.m c.loop-put.put _ c.loop-put.listing (all ∙ (c.calls-last.ensures.number ∙ ap (λ (z : Cargo). length z.rotation) c.requires.1.0)) refl c.new.ensures c.loop-put.invariant.adds
