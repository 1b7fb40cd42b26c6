-- The places rise by stack, then by tier.
use Rattle.std.proofs.Common.{◌≡◌, ℕ, ◌<◌, ◌≤◌, ◌+◌, List, [], ◌∷◌, arith, sym, ◌∙◌, ap, subst, ◌⊎◌, inl, inr, ⊎_elim, length, Some}
use Rattle.std.specs.Prelude.{slice_get, flat_map}
use Rattle.std.specs.List.{enumerate_from, range_with_len}
use Rattle.std.proofs.lemmas.Bool.{cases_order}
use Rattle.std.proofs.lemmas.Option.{none-some, same_Some, slice_get_within}
use Rattle.stow_data.specs.declared.geometry.Stack.{Stack}
use Rattle.stow_data.specs.declared.geometry.Place.{Place}
use Rattle.stow_data.specs.Ship.{Ship, places, spans, stack_places}
use Rattle.stow_data.proofs.Members.{flat_at, map_at, member_of, numbered}
use Rattle.stow_data.proofs.InOrder.{split_get, higher_is_later}
use Rattle.stowage_rules.specs.Tiers.{IsBefore, IsFirstOf, AreBefore}

stack_of : (s : ℕ × Stack) (k : ℕ) (p : Place) → slice_get (stack_places s) k ≡ Some p → p.stack ≡ s.0
stack_of s k p h =
    let b = flat_at _ (range_with_len 0 s.1.tiers) p (member_of (stack_places s) k p h) in
    let c = map_at _ (spans s.1.lengths) p b.2 in ap (λ (z : Place). z.stack) c.2

stacks_from : (m : ℕ) (xs : List Stack) (k : ℕ) (p : Place) → slice_get (flat_map stack_places (enumerate_from m xs)) k ≡ Some p → m ≤ p.stack
stacks_from m xs k p h =
    let a = flat_at stack_places (enumerate_from m xs) p (member_of (flat_map stack_places (enumerate_from m xs)) k p h) in
    let n = numbered xs m a.0 a.1 in
    let b = flat_at _ (range_with_len 0 a.0.1.tiers) p a.2 in
    let c = map_at _ (spans a.0.1.lengths) p b.2 in
    let same : p.stack ≡ a.0.0 = ap (λ (z : Place). z.stack) c.2 in
    omega (arith, n.1, same)

stacks_rise : (m : ℕ) (xs : List Stack) (i j : ℕ) (x y : Place) → i < j → slice_get (flat_map stack_places (enumerate_from m xs)) i ≡ Some x → slice_get (flat_map stack_places (enumerate_from m xs)) j ≡ Some y → x.stack ≤ y.stack
stacks_rise m [] i j x y l h k = absurd (none-some x h)
stacks_rise m (s ∷ xs) i j x y l h k = ⊎_elim
    (λ (u : (i < length (stack_places (m, s))) × (slice_get (stack_places (m, s)) i ≡ Some x)).
    let at : x.stack ≡ m = stack_of (m, s) i x u.1 in ⊎_elim
    (λ (v : (j < length (stack_places (m, s))) × (slice_get (stack_places (m, s)) j ≡ Some y)). let too : y.stack ≡ m = stack_of (m, s) j y v.1 in omega arith)
    (λ (v : (n : ℕ) × (j ≡ length (stack_places (m, s)) + n) × (slice_get (flat_map stack_places (enumerate_from (m + 1) xs)) n ≡ Some y)). let far : m + 1 ≤ y.stack = stacks_from (m + 1) xs v.0 y v.2 in omega arith)
    (split_get (stack_places (m, s)) (flat_map stack_places (enumerate_from (m + 1) xs)) j y k))
    (λ (u : (n : ℕ) × (i ≡ length (stack_places (m, s)) + n) × (slice_get (flat_map stack_places (enumerate_from (m + 1) xs)) n ≡ Some x)). ⊎_elim
    (λ (v : (j < length (stack_places (m, s))) × (slice_get (stack_places (m, s)) j ≡ Some y)). absurd (omega (arith, u.1, v.0)))
    (λ (v : (n : ℕ) × (j ≡ length (stack_places (m, s)) + n) × (slice_get (flat_map stack_places (enumerate_from (m + 1) xs)) n ≡ Some y)). stacks_rise (m + 1) xs u.0 v.0 x y (omega (arith, u.1, v.1)) u.2 v.2)
    (split_get (stack_places (m, s)) (flat_map stack_places (enumerate_from (m + 1) xs)) j y k))
    (split_get (stack_places (m, s)) (flat_map stack_places (enumerate_from (m + 1) xs)) i x h)

pub rising : (ship : Ship) (p q : ℕ) (first second : Place) → p < q → slice_get (places ship) p ≡ Some first → slice_get (places ship) q ≡ Some second → first.stack ≤ second.stack
unfolding places
rising ship p q first second l a b = stacks_rise 0 ship.stacks p q first second l a b

-- of two places of a stack, the one with the lesser number isn't higher
level : (ship : Ship) (p q : ℕ) (first second : Place) → p < q → slice_get (places ship) p ≡ Some first → slice_get (places ship) q ≡ Some second → first.stack ≡ second.stack → first.tier ≤ second.tier
level ship p q first second l a b same = ⊎_elim
    (λ (e : second.tier ≡ first.tier). omega (arith, e))
    (λ (o : (second.tier < first.tier) ⊎ (first.tier < second.tier)). ⊎_elim
    (λ (h : second.tier < first.tier). absurd (let no : q < p = higher_is_later ship p q first second a b same h in omega arith))
    (λ (h : first.tier < second.tier). omega arith) o)
    (cases_order second.tier first.tier)

-- what comes before a place that is before a tier is before it too
pub before_too : (ship : Ship) (p q stack tier : ℕ) (first second : Place) → p < q → slice_get (places ship) p ≡ Some first → slice_get (places ship) q ≡ Some second → IsBefore second stack tier → IsBefore first stack tier
before_too ship p q stack tier first second l a b before =
    let up : first.stack ≤ second.stack = rising ship p q first second l a b in ⊎_elim
    (λ (h : second.stack < stack). inl (omega arith))
    (λ (h : (second.stack ≡ stack) × (second.tier < tier)). ⊎_elim
    (λ (e : first.stack ≡ second.stack). inr (e ∙ h.0, let low = level ship p q first second l a b e in omega (arith, low, h.1)))
    (λ (o : (first.stack < second.stack) ⊎ (second.stack < first.stack)). inl (⊎_elim (λ (x : first.stack < second.stack). omega (arith, h.0)) (λ (x : second.stack < first.stack). omega arith) o))
    (cases_order first.stack second.stack))
    before

-- numbers behind a place that is before a tier
pub up_to : (ship : Ship) (n stack tier : ℕ) (last : Place) → slice_get (places ship) n ≡ Some last → IsBefore last stack tier → AreBefore ship stack tier (n + 1)
up_to ship n stack tier last is before = λ p place l at. ⊎_elim
    (λ (e : p ≡ n). subst (λ (x : Place). IsBefore x stack tier) (same_Some last place (sym is ∙ (ap (slice_get (places ship)) (sym e) ∙ at))) before)
    (λ (o : (p < n) ⊎ (n < p)). before_too ship p n stack tier place last (⊎_elim (λ (x : p < n). x) (λ (x : n < p). omega arith) o) at is before)
    (cases_order p n)

-- a place that isn't before the tier, after such as are
pub first_at : (ship : Ship) (n stack tier : ℕ) (here : Place) → AreBefore ship stack tier n → slice_get (places ship) n ≡ Some here → (IsBefore here stack tier → ⊥) → IsFirstOf ship stack tier n
first_at ship n stack tier here all is not_before = λ p place at. (
  λ l. all p place l at,
  λ before. ⊎_elim
      (λ (e : p ≡ n). absurd (not_before (subst (λ (x : Place). IsBefore x stack tier) (same_Some place here (sym at ∙ (ap (slice_get (places ship)) e ∙ is))) before)))
      (λ (o : (p < n) ⊎ (n < p)). ⊎_elim (λ (x : p < n). x) (λ (x : n < p). absurd (not_before (before_too ship n p stack tier here place x is at before))) o)
      (cases_order p n),
)

pub first_past : (ship : Ship) (n stack tier : ℕ) → AreBefore ship stack tier n → length (places ship) ≤ n → IsFirstOf ship stack tier n
first_past ship n stack tier all past = λ p place at. (λ l. all p place l at, λ before. let i : p < length (places ship) = slice_get_within (places ship) p place at in omega arith)
