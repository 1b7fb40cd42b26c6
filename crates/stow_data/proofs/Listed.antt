-- Where a place and a half-cell come from.
use Rattle.std.proofs.Common.{◌≡◌, ◌≤◌, ◌*◌, ℕ, ◌<◌, Bool, false, List, [], ◌∷◌, arith, sym, ◌∙◌, ap, subst, length, Some, length-append}
use Rattle.std.specs.Prelude.{slice_get, slice_index_or, flat_map}
use Rattle.std.specs.List.{range_with_len, enumerate_from}
use Rattle.std.proofs.lemmas.List.{length-map}
use Rattle.stow_data.specs.declared.geometry.Stack.{Stack}
use Rattle.stow_data.specs.declared.geometry.Span.{Span}
use Rattle.stow_data.specs.declared.geometry.Lengths.{Lengths}
use Rattle.stow_data.specs.declared.geometry.Lengths.TheVariants.{Forty, Twenty, Mixed, ForeOnly, AftOnly}
use Rattle.stow_data.specs.declared.geometry.Place.{Place}
use Rattle.stow_data.specs.declared.geometry.Half.{Half}
use Rattle.stow_data.specs.Ship.{Ship, places, halves, spans, sides, stack_places, stack_halves, tier_places, tier_halves}
use Rattle.stow_data.proofs.Members.{Member, flat_at, map_at, range_at, member_of, numbered}

-- a place is one of its stack's
pub record IsOf (ship : Ship) (p : Place) : Type 0 where
  pub stack_at : Stack
  pub is_stack : slice_get ship.stacks p.stack ≡ Some stack_at
  pub low : p.tier < stack_at.tiers
  pub span : Member p.span (spans stack_at.lengths)
  pub plug : p.plug ≡ slice_index_or stack_at.plugs p.tier false

pub place_from : (ship : Ship) (p : ℕ) (place : Place) → slice_get (places ship) p ≡ Some place → IsOf ship place
unfolding places
place_from ship p place h =
    let a = flat_at _ (enumerate_from 0 ship.stacks) place (member_of (places ship) p place h) in
    let b = flat_at _ (range_with_len 0 a.0.1.tiers) place a.2 in
    let c = map_at _ (spans a.0.1.lengths) place b.2 in
    let n = numbered ship.stacks 0 a.0 a.1 in
    let same : n.0 ≡ a.0.0 = omega (arith, n.1) in
    let number : place.stack ≡ a.0.0 = ap (λ (z : Place). z.stack) c.2 in
    let tier : place.tier ≡ b.0 = ap (λ (z : Place). z.tier) c.2 in
    record {
      stack_at = a.0.1;
      is_stack = ap (slice_get ship.stacks) (number ∙ sym same) ∙ n.2;
      low = subst (λ (z : ℕ). z < a.0.1.tiers) (sym tier) (let r = range_at 0 _ b.0 b.1 in omega (arith, r.1));
      span = subst (λ (z : Span). Member z (spans a.0.1.lengths)) (sym (ap (λ (z : Place). z.span) c.2)) c.1;
      plug = ap (λ (z : Place). z.plug) c.2 ∙ ap (λ (z : ℕ). slice_index_or a.0.1.plugs z false) (sym tier);
    }

-- a half-cell is one of its stack's
pub record IsHalfOf (ship : Ship) (h : Half) : Type 0 where
  pub stack_at : Stack
  pub is_stack : slice_get ship.stacks h.stack ≡ Some stack_at
  pub low : h.tier < stack_at.tiers
  pub side : Member h.aft (sides stack_at.lengths)

pub half_from : (ship : Ship) (k : ℕ) (half : Half) → slice_get (halves ship) k ≡ Some half → IsHalfOf ship half
unfolding halves
half_from ship k half h =
    let a = flat_at _ (enumerate_from 0 ship.stacks) half (member_of (halves ship) k half h) in
    let b = flat_at _ (range_with_len 0 a.0.1.tiers) half a.2 in
    let c = map_at _ (sides a.0.1.lengths) half b.2 in
    let n = numbered ship.stacks 0 a.0 a.1 in
    let same : n.0 ≡ a.0.0 = omega (arith, n.1) in
    let number : half.stack ≡ a.0.0 = ap (λ (z : Half). z.stack) c.2 in
    let tier : half.tier ≡ b.0 = ap (λ (z : Half). z.tier) c.2 in
    record {
      stack_at = a.0.1;
      is_stack = ap (slice_get ship.stacks) (number ∙ sym same) ∙ n.2;
      low = subst (λ (z : ℕ). z < a.0.1.tiers) (sym tier) (let r = range_at 0 _ b.0 b.1 in omega (arith, r.1));
      side = subst (λ (z : Bool). Member z (sides a.0.1.lengths)) (sym (ap (λ (z : Half). z.aft) c.2)) c.1;
    }

-- there are at most two half-cells for each place
sides_few : (l : Lengths) → length (sides l) ≤ 2 * length (spans l)
sides_few Forty = omega arith
sides_few Twenty = omega arith
sides_few Mixed = omega arith
sides_few ForeOnly = omega arith
sides_few AftOnly = omega arith

tiers_few : (n : ℕ) (s : Stack) (ts : List ℕ) → length (flat_map (tier_halves n s) ts) ≤ 2 * length (flat_map (tier_places n s) ts)
tiers_few n s [] = omega arith
tiers_few n s (t ∷ ts) =
    let now = sides_few s.lengths in
    let later = tiers_few n s ts in
    simp (length-append, length-map) (omega arith)

stacks_few : (ss : List (ℕ × Stack)) → length (flat_map stack_halves ss) ≤ 2 * length (flat_map stack_places ss)
stacks_few [] = omega arith
stacks_few (s ∷ ss) =
    let now = tiers_few s.0 s.1 (range_with_len 0 s.1.tiers) in
    let later = stacks_few ss in
    simp length-append (omega arith)

pub halves_few : (ship : Ship) → length (halves ship) ≤ 2 * length (places ship)
unfolding places halves
halves_few ship = stacks_few (enumerate_from 0 ship.stacks)
