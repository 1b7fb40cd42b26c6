-- What lies lower in the columns of a place comes before it by number, in its stack.
use Rattle.std.specs.Prelude.{◌≡◌, ◌↔◌, IsTrue, Bool, List, length, ℕ, ◌<◌, ◌≤◌, ◌+◌, Option, Some, None, MatchOption, slice_get}
use Rattle.std.proofs.Common.{inr, sym, ◌∙◌, ap, subst, arith, ◌⊎◌, ⊎_elim}
use Rattle.std.proofs.lemmas.Bool.{cases_order, cases_eq}
use Rattle.std.proofs.lemmas.Option.{same_Some}
use Rattle.stow_data.specs.declared.geometry.Place.{Place}
use Rattle.stow_data.specs.declared.cargoes.Container.{Container}
use Rattle.stow_data.specs.Ship.{Ship, places, StandsOn}
use Rattle.stow_data.specs.Shipment.{Cargo}
use Rattle.stow_data.specs.Plans.{Plan}
use Rattle.stow_data.proofs.InOrder.{higher_is_later}
use Rattle.stowage_rules.specs.Faults.{IsLeast}
use Rattle.stowage_rules.proofs.Rising.{rising}
use Rattle.greedy_loader.specs.Kept.{AreEarliest}
use Rattle.greedy_loader.specs.Rule.{NoneEarlierUnder, IsChoice, IsOpen, IsOpenAt, IsCleanAt, IsClean, NoneEarlierAt}

-- a place that isn't before this one by number isn't lower in a column of it
pub none_past : (ship : Ship) (cargo : Cargo) (plan : Plan) (call p q : ℕ) (place : Place) → slice_get (places ship) p ≡ Some place → p ≤ q → NoneEarlierAt ship cargo plan call place q
none_past ship cargo plan call p q place is l d lower y stands below =
    absurd (let before : q < p = higher_is_later ship p q place lower is stands.is_place (sym below.same_stack) below.lower_tier in omega arith)

-- nor is one that isn't behind a place of another stack
pub none_before : (ship : Ship) (cargo : Cargo) (plan : Plan) (call p r q : ℕ) (place here : Place) → slice_get (places ship) p ≡ Some place → slice_get (places ship) r ≡ Some here → r < p → (here.stack ≡ place.stack → ⊥) → q ≤ r → NoneEarlierAt ship cargo plan call place q
none_before ship cargo plan call p r q place here is at l other m d lower y stands below = absurd (⊎_elim
    (λ (e : q ≡ r). other (ap (λ (z : Place). z.stack) (same_Some here lower (sym at ∙ (ap (slice_get (places ship)) (sym e) ∙ stands.is_place))) ∙ below.same_stack))
    (λ (o : (q < r) ⊎ (r < q)). ⊎_elim
    (λ (a : q < r).
    let low : lower.stack ≤ here.stack = rising ship q r lower here a stands.is_place at in
    let high : here.stack ≤ place.stack = rising ship r p here place l at is in
    let same : lower.stack ≡ place.stack = below.same_stack in
    other (omega arith))
    (λ (a : r < q). absurd (omega arith)) o)
    (cases_order q r))

pub clean_place : (ship : Ship) (cargo : Cargo) (plan : Plan) (x : Container) (p : ℕ) (place : Place) → slice_get (places ship) p ≡ Some place → IsClean ship cargo plan x p → IsOpenAt ship cargo plan x place × IsCleanAt ship cargo plan x.dest place
clean_place ship cargo plan x p place is at = subst (λ (z : Place). IsOpenAt ship cargo plan x z × IsCleanAt ship cargo plan x.dest z) (same_Some at.place place (sym at.is_place ∙ is)) (at.is_open, at.is_clean)

-- where no place is clean, the first open one is the choice
pub choice_of : (ship : Ship) (cargo : Cargo) (plan : Plan) (x : Container) (o : Option ℕ) → ((q : ℕ) → IsClean ship cargo plan x q → ⊥) → MatchOption o ((q : ℕ) → IsOpen ship cargo plan x q → ⊥) (λ p. IsLeast (IsOpen ship cargo plan x) p) → IsChoice ship cargo plan x o
choice_of ship cargo plan x None none h = h
choice_of ship cargo plan x (Some p) none h = inr (none, h)

-- one place more, from the top down
pub lower_more : (P : ℕ → Type 0) (p n steps : ℕ) → n + 1 + steps ≡ p → P n → ((q : ℕ) → p ≤ q + steps → P q) → (q : ℕ) → p ≤ q + (steps + 1) → P q
lower_more P p n steps e here all q l = ⊎_elim
    (λ (s : q ≡ n). subst P (sym s) here)
    (λ (ne : q ≡ n → ⊥). all q (omega (arith, ne)))
    (cases_eq q n)

-- nothing under the cover leaves before where the earliest destination says so
pub clean_under : (ship : Ship) (cargo : Cargo) (plan : Plan) (earliest : List ℕ) (s k n m v : ℕ) (b : Bool) → AreEarliest ship cargo plan earliest → v ≤ length cargo.rotation → n ≡ k → slice_get earliest n ≡ Some m → StandsOn ship s k → ((j : ℕ) → StandsOn ship s j → Some k ≡ Some j) → (IsTrue b ↔ (v ≤ m)) → IsTrue b ↔ ((j : ℕ) → StandsOn ship s j → NoneEarlierUnder ship cargo plan v j)
clean_under ship cargo plan earliest s k n m v b are l e at on only says =
    let was = are k m v (ap (slice_get earliest) (sym e) ∙ at) l in (
      λ h j u. subst (λ (z : ℕ). NoneEarlierUnder ship cargo plan v z) (same_Some k j (only j u)) (was.0 (says.0 h)),
      λ all. says.1 (was.1 (all k on)),
    )
