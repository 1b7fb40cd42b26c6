use Rattle.std.proofs.Common.{◌≡◌, ◌≤◌, ◌∙◌, ap, subst, length}
use Rattle.stow_data.specs.Shipment.{Cargo, IsCargo}
use Rattle.zero_one_rows.specs.Variables.{calls}
use Rattle.dual_bound.proofs.Offering.{best_of_lengths}
use Rattle.dual_bound.proofs.offers.best_of_both.Goals as goal

pub returns : goal.returns
returns c =
    let last : c.calls-last.result ≡ calls c.args.model.now = c.calls-last.ensures.number ∙ ap (λ (k : Cargo). length k.rotation) c.cargo.ensures in
    let few : calls c.args.model.now ≤ 12 = (subst IsCargo c.cargo.ensures c.calls-last.ensures.rules).calls_to in
    best_of_lengths c.args.model.now c.args.b.now c.args.costs.now.reduced.items c.args.gaps.now c.args.pairs.now c.calls-last.result c.best_offer-short.result.gain c.best_offer-long.result.gain c.larger_offer.result.gain
    c.requires.pairs c.requires.gaps last few c.larger_offer.ensures c.best_offer-short.ensures c.best_offer-long.ensures
