use Rattle.std.proofs.Common.{◌≡◌, ◌+◌, ◌++◌, [], ◌∷◌, ℕ, List, Option, take, ap, sym, subst, ◌∙◌}
use Rattle.std.proofs.lemmas.List.{take_more, take_all}
use Rattle.stowage_rules.specs.Faults.{OfHalf}
use Rattle.voyage_meaning.specs.Refusals.{Finds}
use Rattle.voyage_meaning.specs.Stacks.{IsFilledOn, IsFilledOnAny}
use Rattle.voyage_meaning.proofs.Finding.{finds_lesser}
use Rattle.voyage_meaning.proofs.OnStacks.{none_of_none, any_more, from_front, from_last}
use Rattle.voyage_meaning.proofs.standing.first_on_stacks.Goals as goal

pub loop-stack-init : goal.loop-stack-init
loop-stack-init c = none_of_none c.args.ship.now c.args.plan.now

pub first_in_stack-requires-clause-is_stack : goal.first_in_stack-requires-clause-is_stack
first_in_stack-requires-clause-is_stack c = c.requires.are_stacks c.stack-item.result (c.loop-stack.stack-index, c.loop-stack-test.true, sym c.stack-item.is)

pub loop-stack-preserved : goal.loop-stack-preserved
loop-stack-preserved c =
    let i = c.loop-stack.stack-index in
    let xs = c.args.stacks.now in
    let more : take (i + 1) xs ≡ take i xs ++ c.stack-item.result ∷ [] = take_more xs i c.stack-item.result c.loop-stack-test.true ∙ ap (λ (z : ℕ). take i xs ++ z ∷ []) (sym c.stack-item.is) in
    subst (λ (o : Option ℕ). Finds (OfHalf c.args.ship.now (IsFilledOnAny c.args.ship.now c.args.plan.now (take (i + 1) xs))) o) (sym c.lesser_of-first.ensures)
    (finds_lesser (OfHalf c.args.ship.now (IsFilledOnAny c.args.ship.now c.args.plan.now (take i xs))) (OfHalf c.args.ship.now (IsFilledOn c.args.ship.now c.args.plan.now c.stack-item.result)) (OfHalf c.args.ship.now (IsFilledOnAny c.args.ship.now c.args.plan.now (take (i + 1) xs))) c.loop-stack.first c.first_in_stack.result
    (from_front c.args.ship.now c.args.plan.now (take i xs) (take (i + 1) xs) c.stack-item.result more)
    (from_last c.args.ship.now c.args.plan.now (take i xs) (take (i + 1) xs) c.stack-item.result more)
    (any_more c.args.ship.now c.args.plan.now (take i xs) (take (i + 1) xs) c.stack-item.result more)
    c.loop-stack.invariant c.first_in_stack.ensures)

pub returns : goal.returns
returns c = subst (λ (ys : List ℕ). Finds (OfHalf c.args.ship.now (IsFilledOnAny c.args.ship.now c.args.plan.now ys)) c.loop-stack.first) (take_all c.loop-stack.stack-index c.args.stacks.now c.loop-stack-test.false) c.loop-stack.invariant
