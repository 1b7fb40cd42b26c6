use Rattle.std.proofs.Common.{◌≡◌, ◌+◌, ◌∙◌, ℕ, ap, arith, length, subst, sym}
use Rattle.std.proofs.lemmas.Bool.{both_ways}
use Rattle.arrayvec.specs.ArrayVec.{ArrayVec}
use Rattle.stow_data.specs.Ship.{places}
use Rattle.stowage_rules.specs.Places.{AreOfClass}
use Rattle.stowage_rules.proofs.OfClass.{gathered_more, gathered_same}
use Rattle.stowage_rules.proofs.classes.places_of_class.Goals as goal
use Rattle.stowage_rules.proofs.classes.places_of_class.Goals.{then-has_class, else-has_class}

pub loop-p-preserved : goal.loop-p-preserved
loop-p-preserved c = elim c.if-has_class.branch [
  | then-has_class w ↦
      let e = ap (λ (v : ArrayVec ℕ). v.items) w.found-is ∙ w.push.ensures.items in
      record {
        gathered = subst (AreOfClass c.args.cargo.now c.args.plan.now c.args.class.now (c.loop-p.p + 1)) (sym e) (gathered_more c.args.cargo.now c.args.plan.now c.args.class.now c.loop-p.p c.loop-p.found.items c.loop-p.invariant.gathered (c.has_class.ensures.0 w.if-has_class.true));
        few = rw w.found-is (omega (arith, w.push.ensures.len));
      }
  | else-has_class w ↦ record {
    gathered = rw w.found-is (gathered_same c.args.cargo.now c.args.plan.now c.args.class.now c.loop-p.p c.loop-p.found.items c.loop-p.invariant.gathered (λ x. both_ways c.has_class.result w.if-has_class.false (c.has_class.ensures.1 x)));
    few = rw w.found-is (omega arith);
  }
]

pub returns : goal.returns
returns c =
    let all : c.loop-p.p ≡ length (places c.args.ship.now) = omega (arith, c.loop-p-test.false, c.places-p-end.ensures.number) in
    subst (λ (n : ℕ). AreOfClass c.args.cargo.now c.args.plan.now c.args.class.now n c.loop-p.found.items) all c.loop-p.invariant.gathered
