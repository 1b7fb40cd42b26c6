use Rattle.std.proofs.Common.{length, subst, sym}
use Rattle.stow_data.specs.Shipment.{IsShipped}
use Rattle.stow_data.specs.Plans.{Plan}
use Rattle.stowage_rules.specs.Plan.{IsWellFormed}
use Rattle.greedy_loader.specs.Kept.{AreTops, AreWeights, AreLaden, AreEarliest, AreClassed}
use Rattle.greedy_loader.proofs.Putting.{each_is, formed_put}
use Rattle.greedy_loader.proofs.layout.Layout.put.Goals as goal

pub note-requires-clause-can : goal.note-requires-clause-can
note-requires-clause-can c = c.requires.can c.place-place.result c.container-x.result.now c.place-place.ensures c.container-x.ensures

pub weigh-requires-clause-can : goal.weigh-requires-clause-can
weigh-requires-clause-can c = c.requires.can c.place-place.result c.container-x.result.now c.place-place.ensures c.container-x.ensures

pub weigh-requires-clause-kg : goal.weigh-requires-clause-kg
weigh-requires-clause-kg c = (each_is (IsShipped (length c.args.cargo.now.rotation)) c.args.cargo.now.containers c.args.c c.container-x.result.now c.obeys_rules.ensures.each_shipped c.container-x.ensures).kg_to

pub raise-requires-clause-can : goal.raise-requires-clause-can
raise-requires-clause-can c = c.requires.can c.place-place.result c.container-x.result.now c.place-place.ensures c.container-x.ensures

pub lade-requires-clause-can : goal.lade-requires-clause-can
lade-requires-clause-can c = c.requires.can c.place-place.result c.container-x.result.now c.place-place.ensures c.container-x.ensures

pub advance-requires-clause-can : goal.advance-requires-clause-can
advance-requires-clause-can c = c.requires.can c.place-place.result c.container-x.result.now c.place-place.ensures c.container-x.ensures

pub returns-clause-kept : goal.returns-clause-kept
returns-clause-kept c =
    let can = c.requires.can c.place-place.result c.container-x.result.now c.place-place.ensures c.container-x.ensures in
    record {
      formed = subst (λ (z : Plan). IsWellFormed c.args.ship.now c.args.cargo.now z) (sym c.set.ensures) (formed_put c.args.ship.now c.args.cargo.now c.args.self.now.plan c.args.p c.args.c c.place-place.result c.container-x.result.now c.requires.kept.formed can);
      each_stack = c.weigh.ensures.each_stack;
      each_stack_too = c.raise.ensures.each_stack;
      each_cover = c.lade.ensures.each_cover;
      each_cover_too = c.advance.ensures.each_cover;
      weights = subst (λ (z : Plan). AreWeights c.args.ship.now c.args.cargo.now z c.weigh.new.weights) (sym c.set.ensures) c.weigh.ensures.weights;
      tops = subst (λ (z : Plan). AreTops c.args.ship.now c.args.cargo.now z c.raise.new.tops) (sym c.set.ensures) c.raise.ensures.tops;
      laden = subst (λ (z : Plan). AreLaden c.args.ship.now z c.lade.new.laden) (sym c.set.ensures) c.lade.ensures.laden;
      earliest = subst (λ (z : Plan). AreEarliest c.args.ship.now c.args.cargo.now z c.advance.new.earliest) (sym c.set.ensures) c.advance.ensures.earliest;
      classed = subst (λ (z : Plan). AreClassed c.args.ship.now c.args.cargo.now z c.note.new.classed) (sym c.set.ensures) c.in_ok-note.ensures;
    }
