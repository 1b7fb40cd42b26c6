use Rattle.std.proofs.Common.{◌≡◌, ◌∙◌, ◌-◌, ℕ, List, [], ap, arith, length, sym, subst}
use Rattle.std.specs.Prelude.{slice_get, slice_index_or, Contains, Some}
use Rattle.std.proofs.lemmas.Option.{get_or_from_slice_get}
use Rattle.stow_data.specs.Ship.{places}
use Rattle.stow_data.specs.Plans.{Plan}
use Rattle.stowage_rules.specs.Plan.{Holds}
use Rattle.zero_one_rows.specs.Variables.{Voyage}
use Rattle.model_bridge.specs.Stays.{plan_after, began}
use Rattle.model_bridge.proofs.Tables.{given_long}
use Rattle.model_bridge.proofs.Sailings.{as_many, named_known, formed, known}
use Rattle.model_bridge.proofs.Begun.{if_ok, next_is}
use Rattle.model_bridge.proofs.begins.next_begins.Goals as goal

pub at-requires : goal.at-requires
at-requires c =
    let m : Voyage = record { ship = c.args.ship.now; cargo = c.args.cargo.now } in
    let same = as_many m c.requires.arrival c.args.plans.now c.args.lists.now c.requires.lifted in
    omega (arith, same, c.requires.first, c.requires.last)

pub named-requires : goal.named-requires
named-requires c = λ k h.
    let m : Voyage = record { ship = c.args.ship.now; cargo = c.args.cargo.now } in
    let e : c.call.inside.0 - 1 ≡ c.args.call - 1 = ap (λ (z : ℕ). z - 1) c.call.view_is in
    let is : slice_get c.args.lists.now (c.args.call - 1) ≡ Some c.at.result.now = subst (λ (z : ℕ). slice_get c.args.lists.now z ≡ Some c.at.result.now) e c.at.ensures in
    let item : slice_index_or c.args.lists.now (c.args.call - 1) [] ≡ c.at.result.now = get_or_from_slice_get c.args.lists.now (c.args.call - 1) c.at.result.now [] is in
    named_known m c.requires.arrival c.args.plans.now c.args.lists.now c.requires.lifted (c.args.call - 1) k (omega (arith, c.requires.first, c.requires.last)) (subst (λ (xs : List ℕ). Contains xs k) (sym item) h)

pub begins_after-requires-clause-each_place : goal.begins_after-requires-clause-each_place
begins_after-requires-clause-each_place c =
    let m : Voyage = record { ship = c.args.ship.now; cargo = c.args.cargo.now } in
    let e : c.call.inside.0 - 1 ≡ c.args.call - 1 = ap (λ (z : ℕ). z - 1) c.call.view_is in
    let same : c.plan_after-before.result.now ≡ plan_after c.args.cargo.now c.args.plans.now (c.args.call - 1) = subst (λ (z : ℕ). c.plan_after-before.result.now ≡ plan_after c.args.cargo.now c.args.plans.now z) e c.plan_after-before.ensures in
    ap length same ∙ (formed m c.requires.arrival c.args.plans.now c.args.lists.now c.requires.lifted (c.args.call - 1) (omega (arith, c.requires.last))).each_place

pub begins_after-requires-clause-each : goal.begins_after-requires-clause-each
begins_after-requires-clause-each c =
    let m : Voyage = record { ship = c.args.ship.now; cargo = c.args.cargo.now } in
    let e : c.call.inside.0 - 1 ≡ c.args.call - 1 = ap (λ (z : ℕ). z - 1) c.call.view_is in
    let same : c.plan_after-before.result.now ≡ plan_after c.args.cargo.now c.args.plans.now (c.args.call - 1) = subst (λ (z : ℕ). c.plan_after-before.result.now ≡ plan_after c.args.cargo.now c.args.plans.now z) e c.plan_after-before.ensures in
    ap length c.requires.before ∙ given_long (began c.args.cargo.now c.args.plans.now c.args.lists.now (c.args.call - 1)) (length (places c.args.ship.now))
    ∙ sym (ap length same ∙ (formed m c.requires.arrival c.args.plans.now c.args.lists.now c.requires.lifted (c.args.call - 1) (omega (arith, c.requires.last))).each_place)

pub begins_after-requires-clause-known : goal.begins_after-requires-clause-known
begins_after-requires-clause-known c = λ p k h.
    let m : Voyage = record { ship = c.args.ship.now; cargo = c.args.cargo.now } in
    let e : c.call.inside.0 - 1 ≡ c.args.call - 1 = ap (λ (z : ℕ). z - 1) c.call.view_is in
    let same : c.plan_after-before.result.now ≡ plan_after c.args.cargo.now c.args.plans.now (c.args.call - 1) = subst (λ (z : ℕ). c.plan_after-before.result.now ≡ plan_after c.args.cargo.now c.args.plans.now z) e c.plan_after-before.ensures in
    let low = known m c.requires.arrival c.args.plans.now c.args.lists.now c.requires.lifted (c.args.call - 1) p k (omega (arith, c.requires.last)) (subst (λ (x : Plan). Holds x p k) same h) in
    omega (arith, low, c.in_ok-lifted.ensures.each)

pub returns : goal.returns
returns c =
    let e : c.call.inside.0 - 1 ≡ c.args.call - 1 = ap (λ (z : ℕ). z - 1) c.call.view_is in
    let same : c.plan_after-before.result.now ≡ plan_after c.args.cargo.now c.args.plans.now (c.args.call - 1) = subst (λ (z : ℕ). c.plan_after-before.result.now ≡ plan_after c.args.cargo.now c.args.plans.now z) e c.plan_after-before.ensures in
    let item : slice_get c.args.lists.now (c.args.call - 1) ≡ Some c.at.result.now = subst (λ (z : ℕ). slice_get c.args.lists.now z ≡ Some c.at.result.now) e c.at.ensures in
    let made = next_is c.args.ship.now c.args.cargo.now c.args.plans.now c.args.lists.now c.args.call c.plan_after-before.result.now c.in_ok-lifted.lifted c.at.result.now c.args.began.now c.requires.first same item c.in_ok-lifted.ensures.names c.requires.before in
    if_ok _ _ c.begins_after.result (λ next is. is ∙ made) c.begins_after.ensures
