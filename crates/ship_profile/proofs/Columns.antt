-- The tiers of a stack that was read, and the stack.
use Rattle.std.proofs.Common.{◌≡◌, ℕ, ◌+◌, ◌-◌, ◌*◌, ◌%◌, ◌≤◌, Bool, true, ◌&&◌, ◌||◌, List, [], ◌∷◌, length, Ok, ◌⊎◌, ⊎_elim, inl, inr, subst, sym, arith}
use Rattle.std.specs.Prelude.{All, ◌==◌, nat_le, slice_index}
use Rattle.std.specs.List.{list_all}
use Rattle.std.proofs.lemmas.Bool.{false≢true, leb-true, eqb-true}
use Rattle.std.proofs.lemmas.List.{length-map}
use Rattle.std.proofs.lemmas.List.Elements.{All-nil}
use Rattle.toml.specs.Data.{Data, Items, Members}
use Rattle.toml_values.specs.Values.{◌>>=◌, array_of, number_of, passing}
use Rattle.toml_values.specs.Arrays.{each_of}
use Rattle.toml_values.proofs.ValueLaws.{bound, same_Ok, passes, number_within}
use Rattle.stow_data.specs.declared.geometry.Stack.{Stack}
use Rattle.stow_data.specs.Profile.{IsStack}
use Rattle.ship_profile.specs.declared.faults.ProfileKey.TheVariants as key
use Rattle.ship_profile.specs.declared.faults.ProfileFault.TheVariants.{GapInStack}
use Rattle.ship_profile.specs.Keys.{need, may, unless}
use Rattle.ship_profile.specs.Stacks.{is_even, is_hold_tier, is_deck_tier, are_tiers, tiers_of, rises_from, bay_of, column_of, lengths_of, plugs_of, is_among, stack_of, stacks_of}
use Rattle.ship_profile.proofs.Bound.{unless_is, need_is, both, either, entries_keep, passed, All-push}

-- the tiers of a stack
pub record IsColumn (tiers : List ℕ) : Type 0 where
  pub some : 1 ≤ length tiers
  pub even : slice_index tiers 0 % 2 ≡ 0
  pub part : ((2 ≤ slice_index tiers 0) × (slice_index tiers 0 + 2 * (length tiers - 1) ≤ 78)) ⊎ ((80 ≤ slice_index tiers 0) × (slice_index tiers 0 + 2 * (length tiers - 1) ≤ 98))

-- the highest of tiers that rise passes the test that each passes
rises_within : (p : ℕ → Bool) (top : ℕ) → ((t : ℕ) → p t ≡ true → t ≤ top) → (t : ℕ) (ts : List ℕ) → rises_from t (t ∷ ts) ≡ true → list_all p (t ∷ ts) ≡ true → t + 2 * length ts ≤ top
unfolding rises_from
rises_within p top f t [] r h = let b = both (p t) true h in let le = f t b.0 in omega arith
rises_within p top f t (u ∷ ts) r h =
    let b = both (p t) (list_all p (u ∷ ts)) h in
    let q = both (t == t) (rises_from (t + 2) (u ∷ ts)) r in
    let s = both (u == t + 2) (rises_from (t + 2 + 2) ts) q.1 in
    let e = eqb-true u (t + 2) s.0 in
    let more = rises_within p top f u ts (subst (λ (n : ℕ). rises_from n (u ∷ ts) ≡ true) (sym e) q.1) b.1 in
    omega (arith, e, more)

hold_to : (t : ℕ) → is_hold_tier t ≡ true → t ≤ 78
hold_to t h = leb-true t 78 (both (nat_le 2 t) (nat_le t 78) h).1

deck_to : (t : ℕ) → is_deck_tier t ≡ true → t ≤ 98
deck_to t h = leb-true t 98 (both (nat_le 80 t) (nat_le t 98) h).1

pub column_from : (tiers : List ℕ) → are_tiers tiers ≡ true → rises_from (slice_index tiers 0) tiers ≡ true → IsColumn tiers
column_from [] h r = absurd (false≢true h)
column_from (t ∷ ts) h r =
    let a = both (nat_le 1 (length (t ∷ ts)) && list_all is_even (t ∷ ts)) (list_all is_hold_tier (t ∷ ts) || list_all is_deck_tier (t ∷ ts)) h in
    let b = both (nat_le 1 (length (t ∷ ts))) (list_all is_even (t ∷ ts)) a.0 in
    let e = both (is_even t) (list_all is_even ts) b.1 in
    record {
      some = omega arith;
      even = eqb-true (t % 2) 0 e.0;
      part = ⊎_elim
          (λ (k : list_all is_hold_tier (t ∷ ts) ≡ true). let le = rises_within is_hold_tier 78 hold_to t ts r k in let low = leb-true 2 t (both (nat_le 2 t) (nat_le t 78) (both (is_hold_tier t) (list_all is_hold_tier ts) k).0).0 in inl (low, omega arith))
          (λ (k : list_all is_deck_tier (t ∷ ts) ≡ true). let le = rises_within is_deck_tier 98 deck_to t ts r k in let low = leb-true 80 t (both (nat_le 80 t) (nat_le t 98) (both (is_deck_tier t) (list_all is_deck_tier ts) k).0).0 in inr (low, omega arith))
          (either (list_all is_hold_tier (t ∷ ts)) (list_all is_deck_tier (t ∷ ts)) a.1);
    }

pub few_in : (tiers : List ℕ) → IsColumn tiers → length tiers ≤ 98
few_in tiers h = ⊎_elim (λ (p : (2 ≤ slice_index tiers 0) × (slice_index tiers 0 + 2 * (length tiers - 1) ≤ 78)). omega (arith, h.some, p.1)) (λ (p : (80 ≤ slice_index tiers 0) × (slice_index tiers 0 + 2 * (length tiers - 1) ≤ 98)). omega (arith, h.some, p.1)) h.part

tiers_read : (d : Data) (tiers : List ℕ) → tiers_of d ≡ Ok tiers → are_tiers tiers ≡ true
tiers_read d tiers h =
    let list = bound (array_of d >>= each_of (number_of 2 98)) (passing are_tiers) tiers h in
    passes are_tiers list.value tiers list.goes_on

pub tiers_are : (index : ℕ) (entry : Members) (tiers : List ℕ) → need tiers_of key.Tiers index entry ≡ Ok tiers → are_tiers tiers ≡ true
tiers_are index entry tiers h = need_is tiers_of (λ ts. are_tiers ts ≡ true) tiers_read key.Tiers index entry tiers h

pub some_tier : (tiers : List ℕ) → are_tiers tiers ≡ true → 1 ≤ length tiers
some_tier tiers h = leb-true 1 (length tiers) (both (nat_le 1 (length tiers)) (list_all is_even tiers) (both _ (list_all is_hold_tier tiers || list_all is_deck_tier tiers) h).0).0

pub column_is : (index : ℕ) (entry : Members) (tiers : List ℕ) → column_of index entry ≡ Ok tiers → IsColumn tiers
unfolding column_of
column_is index entry tiers h =
    let read = bound (need tiers_of key.Tiers index entry) _ tiers h in
    let rising = bound (unless (rises_from (slice_index read.value 0) read.value) (GapInStack index)) _ tiers read.goes_on in
    subst IsColumn (same_Ok read.value tiers rising.goes_on) (column_from read.value (tiers_are index entry read.value read.is) (unless_is _ (GapInStack index) rising.value rising.is))

-- an even bay
pub record IsBay (bay : ℕ) : Type 0 where
  pub even : bay % 2 ≡ 0
  pub from : 2 ≤ bay
  pub to : bay ≤ 998

bay_is : (d : Data) (bay : ℕ) → bay_of d ≡ Ok bay → IsBay bay
bay_is d bay h =
    let n = bound (number_of 2 998 d) (passing is_even) bay h in
    let within = number_within 2 998 d n.value n.is in
    let even = passes is_even n.value bay n.goes_on in
    let same = passed is_even n.value bay n.goes_on in
    record { even = eqb-true (bay % 2) 0 even; from = omega (arith, within.0, same); to = omega (arith, within.1, same) }

pub stack_is : (index : ℕ) (entry : Members) (s : Stack) → stack_of index entry ≡ Ok s → IsStack s
unfolding stack_of
stack_is index entry s h =
    let bay = bound (need bay_of key.Bay index entry) _ s h in
    let row = bound (need (number_of 0 99) key.Row index entry) _ s bay.goes_on in
    let tiers = bound (column_of index entry) _ s row.goes_on in
    let lengths = bound (need lengths_of key.Lengths index entry) _ s tiers.goes_on in
    let limit = bound (need (number_of 1 1000000) key.LimitKg index entry) _ s lengths.goes_on in
    let plugs = bound (may (plugs_of tiers.value) [] key.Plugs index entry) _ s limit.goes_on in
    let column = column_is index entry tiers.value tiers.is in
    let bay_in = need_is bay_of IsBay bay_is key.Bay index entry bay.value bay.is in
    let row_in = need_is (number_of 0 99) (λ n. (0 ≤ n) × (n ≤ 99)) (number_within 0 99) key.Row index entry row.value row.is in
    let limit_in = need_is (number_of 1 1000000) (λ n. (1 ≤ n) × (n ≤ 1000000)) (number_within 1 1000000) key.LimitKg index entry limit.value limit.is in
    subst IsStack (same_Ok _ s plugs.goes_on) record {
      bay_even = bay_in.even;
      bay_from = bay_in.from;
      bay_to = bay_in.to;
      row_to = row_in.1;
      has_tiers = column.some;
      tiers_even = column.even;
      part = column.part;
      limit_from = limit_in.0;
      limit_to = limit_in.1;
      plug_each = length-map tiers.value (is_among plugs.value);
    }

-- each stack obeys the rules
pub stacks_are : (ds : Items) (stacks : List Stack) → stacks_of ds ≡ Ok stacks → All IsStack stacks
stacks_are ds stacks h = entries_keep key.Stack (λ index _ entry. stack_of index entry) (All IsStack) (λ index before m x p r. All-push IsStack before x p (stack_is index m x r)) (All-nil IsStack) ds stacks h
