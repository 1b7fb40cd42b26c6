-- A ship of parts that were read obeys the rules of a profile.
use Rattle.std.proofs.Common.{◌≡◌, ℕ, ◌+◌, ◌<◌, ◌≤◌, ◌^◌, true, List, [], ◌∷◌, ◌++◌, length, length-append, get_or, Ok, Err, ⊎_elim, refl, ap, arith}
use Rattle.std.specs.Prelude.{All, flat_map, Result}
use Rattle.std.specs.List.{enumerate_from}
use Rattle.std.proofs.lemmas.Bool.{lt-leb, false≢true}
use Rattle.toml.specs.Data.{Data, Items, no_items, item, Members}
use Rattle.toml.specs.Text.{has_items}
use Rattle.toml_values.specs.Values.{number_of, passing, text_that}
use Rattle.toml_values.specs.Arrays.{each_after, item_count, tables_of}
use Rattle.toml_values.proofs.ValueLaws.{bound, same_Ok, passes, text_passes, number_within}
use Rattle.stow_data.specs.declared.geometry.Stack.{Stack}
use Rattle.stow_data.specs.declared.limits.Limit.TheVariants.{Places}
use Rattle.stow_data.specs.Ship.{Ship, places, stack_places}
use Rattle.stow_data.specs.Profile.{IsStack, IsInHold, IsOnDeck, IsShip, is_name}
use Rattle.ship_profile.specs.declared.faults.ProfileKey.TheVariants as key
use Rattle.ship_profile.specs.declared.faults.ProfileFault.{ProfileFault}
use Rattle.ship_profile.specs.declared.faults.ProfileFault.TheVariants.{TooLarge}
use Rattle.ship_profile.specs.Keys.{need, may, some_tables_of, entry_after}
use Rattle.ship_profile.specs.Stacks.{stack_of, stacks_in, stacks_of, apart_after}
use Rattle.ship_profile.specs.Covers.{covers_in, covers_of}
use Rattle.ship_profile.specs.Separations.{separations_in, separations_of}
use Rattle.ship_profile.specs.ShipText.{ship_of, unless_large}
use Rattle.ship_profile.proofs.Bound.{need_is, may_is, all_map}
use Rattle.ship_profile.proofs.Columns.{stacks_are}
use Rattle.ship_profile.proofs.Apart.{are_apart}
use Rattle.ship_profile.proofs.Named.{covers_are, is_cover, named_once}
use Rattle.ship_profile.proofs.Classes.{separations_are}
use Rattle.ship_profile.proofs.Counted.{few_stacks}

pub stacks_read : (top : Members) (stacks : List Stack) → stacks_in top ≡ Ok stacks → All IsStack stacks
stacks_read top stacks h = let ds = bound (need some_tables_of key.Stack 0 top) stacks_of stacks h in stacks_are ds.value stacks ds.goes_on

counted : {X : Type 0} (read : List X → Data → Result X ProfileFault) (before : List X) (ds : Items) (xs : List X) → each_after read before ds ≡ Ok xs → length before + item_count ds ≡ length xs
unfolding each_after
counted {X} read before no_items xs h = let same = ap (length {A = X}) (same_Ok before xs h) in omega arith
counted {X} read before (item d ds) xs h =
    let one = bound (read before d) _ xs h in
    let more = counted read (before ++ one.value ∷ []) ds xs one.goes_on in
    omega (arith, more, length-append before (one.value ∷ []))

has_some : (ds : Items) → has_items ds ≡ true → 1 ≤ item_count ds
has_some no_items h = absurd (false≢true h)
has_some (item d ds) h = omega arith

some_tables : (d : Data) (ds : Items) → some_tables_of d ≡ Ok ds → 1 ≤ item_count ds
some_tables d ds h = let t = bound (tables_of d) (passing has_items) ds h in has_some ds (passes has_items t.value ds t.goes_on)

some_stack : (top : Members) (stacks : List Stack) → stacks_in top ≡ Ok stacks → 1 ≤ length stacks
some_stack top stacks h =
    let ds = bound (need some_tables_of key.Stack 0 top) stacks_of stacks h in
    let some = need_is some_tables_of (λ ds. 1 ≤ item_count ds) some_tables key.Stack 0 top ds.value ds.is in
    let all = counted (entry_after key.Stack (λ index _ entry. stack_of index entry)) [] ds.value stacks ds.goes_on in
    omega (arith, some, all)

few_of : (s : Stack) → IsStack s → s.tiers ≤ 98
few_of s h = ⊎_elim (λ (p : IsInHold s). omega (arith, p.1)) (λ (p : IsOnDeck s). omega (arith, p.1)) h.part

pub few_tiers : (stacks : List Stack) → All IsStack stacks → All (λ s. s.tiers ≤ 98) stacks
few_tiers stacks h = all_map IsStack (λ s. s.tiers ≤ 98) stacks few_of h

-- the parts of a ship, as a text gives them
pub record AreRead (top : Members) (ship : Ship) : Type 0 where
  pub named : need (text_that is_name) key.Name 0 top ≡ Ok ship.name
  pub step : may (number_of 1 10000) 1000 key.WeightStep 0 top ≡ Ok ship.weight_step
  pub stacks : stacks_in top ≡ Ok ship.stacks
  pub apart : apart_after [] ship.stacks ≡ Ok tt
  pub covers : covers_in ship.stacks top ≡ Ok ship.covers
  pub separations : separations_in top ≡ Ok ship.separations

pub ship_of_parts : (top : Members) (ship : Ship) → AreRead top ship → ship_of top ≡ unless_large ship
unfolding ship_of
ship_of_parts top ship h = rw (h.named, h.step, h.stacks, h.apart, h.covers, h.separations) refl

pub large : (ship : Ship) (value : ℕ) → value ≡ length (flat_map stack_places (enumerate_from 0 ship.stacks)) → 3000 < value → unless_large ship ≡ Err (TooLarge Places value)
unfolding unless_large places
large ship value is lt = rw (← is, lt-leb value 3000 lt) refl

pub made : (top : Members) (ship : Ship) (value : ℕ) → AreRead top ship → length ship.covers < 2 ^ 32 → length ship.separations < 2 ^ 32 → value ≡ length (flat_map stack_places (enumerate_from 0 ship.stacks)) → value ≤ 3000 → IsShip ship
unfolding places
made top ship value h few_covers few_separations is le =
    let stacks = stacks_read top ship.stacks h.stacks in
    let cover_entries = bound (may tables_of no_items key.Cover 0 top) (covers_of ship.stacks) ship.covers h.covers in
    let covers = covers_are ship.stacks cover_entries.value ship.covers cover_entries.goes_on in
    let separation_entries = bound (may tables_of no_items key.Separate 0 top) separations_of ship.separations h.separations in
    let separations = separations_are separation_entries.value ship.separations separation_entries.goes_on in
    let step = may_is (number_of 1 10000) 1000 (λ n. (1 ≤ n) × (n ≤ 10000)) (omega arith, omega arith) (number_within 1 10000) key.WeightStep 0 top ship.weight_step h.step in
    let count = few_stacks 0 ship.stacks (all_map IsStack (λ s. 1 ≤ s.tiers) ship.stacks (λ s p. p.has_tiers) stacks) in
    record {
      named = need_is (text_that is_name) (λ (t : List ℕ). is_name t ≡ true) (text_passes is_name) key.Name 0 top ship.name h.named;
      step_from = step.0;
      step_to = step.1;
      has_stacks = some_stack top ship.stacks h.stacks;
      each_stack = stacks;
      apart = are_apart ship.stacks tt h.apart;
      each_cover = λ k d lt. is_cover ship (get_or ship.covers k d) stacks (covers.each k d lt);
      named_once = named_once ship.covers covers.once;
      each_separation = separations.each;
      pairs_once = separations.pairs_once;
      few_places = omega (arith, is);
      few_stacks = omega (arith, is, count);
      few_covers = few_covers;
      few_separations = few_separations;
    }
