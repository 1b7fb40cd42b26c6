use Rattle.std.specs.Prelude.{◌↔◌, ◌≡◌, ◌<◌, ℕ, List, true, AllPairs, Contains}
use Rattle.plan_lifts.specs.Spread.{has}
use Rattle.plan_lifts.specs.Lifted.{IsListed}
use Rattle.plan_lifts.proofs.LiftsHold.{both_ok}
use Rattle.plan_lifts.proofs.listing.list_of.Goals as goal

pub returns : goal.returns
returns c = both_ok
    (λ (list : List ℕ). AllPairs (λ a b. a < b) list)
    (λ (list : List ℕ). (k : ℕ) → Contains list k ↔ (has c.in_ok-marked.marked k ≡ true))
    (λ (list : List ℕ). IsListed c.args.plan.now (has c.args.set.now) list)
    c.numbers_of.result
    (λ list rising marked. record { rising = rising; stands = λ k. (λ x. (c.in_ok-marked.ensures.marks k).0 ((marked k).0 x), λ x. (marked k).1 ((c.in_ok-marked.ensures.marks k).1 x)) })
    c.numbers_of.ensures.rising c.numbers_of.ensures.marked
