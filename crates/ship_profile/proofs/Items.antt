-- The entries of an array of tables, read one after the other.
use Rattle.std.proofs.Common.{◌≡◌, ◌≢◌, ℕ, ◌+◌, ◌<◌, ◌≤◌, Err, Ok, List, [], ◌∷◌, ◌++◌, length, get_or, drop, refl, sym, ap, ◌∙◌, length-append}
use Rattle.std.specs.Prelude.{Result}
use Rattle.toml.specs.Data.{Members}
use Rattle.toml.specs.View.{view, items_view}
use Rattle.toml.specs.declared.value.Value.{Value}
use Rattle.toml_values.specs.Arrays.{each_after}
use Rattle.toml_values.proofs.ArrayLaws.{goes_on, stops, is_read}
use Rattle.ship_profile.specs.declared.faults.ProfileKey.{ProfileKey}
use Rattle.ship_profile.specs.declared.faults.ProfileFault.{ProfileFault}
use Rattle.ship_profile.specs.declared.faults.ProfileFault.TheVariants.{NoMemory}
use Rattle.ship_profile.specs.Keys.{entry_at, entry_after, entries}

-- the reading of all entries goes on from this one
pub record IsAtEntry {X : Type 0} (key : ProfileKey) (entry_of : ℕ → List X → Members → Result X ProfileFault) (vs : List Value) (i index : ℕ) (before : List X) : Type 0 where
  pub counted : index ≡ length before + 1
  pub same : each_after (entry_after key entry_of) before (items_view (drop i vs)) ≡ entries key entry_of (items_view vs)

pub first_entry : {X : Type 0} (key : ProfileKey) (entry_of : ℕ → List X → Members → Result X ProfileFault) (vs : List Value) → IsAtEntry key entry_of vs 0 1 []
first_entry key entry_of vs = record { counted = refl; same = refl }

pub entry_on : {X : Type 0} (key : ProfileKey) (entry_of : ℕ → List X → Members → Result X ProfileFault) (vs : List Value) (i index : ℕ) (before : List X) (v : Value) (x : X) → i < length vs → v ≡ get_or vs i v
    → entry_at key (entry_of index before) (view v) ≡ Ok x → IsAtEntry key entry_of vs i index before → IsAtEntry key entry_of vs (i + 1) (index + 1) (before ++ x ∷ [])
entry_on key entry_of vs i index before v x lt is h so_far = record {
  counted = ap (λ n. n + 1) (so_far.counted ∙ sym (length-append before (x ∷ [])));
  same = goes_on (entry_after key entry_of) before vs i v x (entries key entry_of (items_view vs)) lt is (ap (λ n. entry_at key (entry_of n before) (view v)) (sym so_far.counted) ∙ h) so_far.same;
}

pub entry_stops : {X : Type 0} (e : ProfileFault) (key : ProfileKey) (entry_of : ℕ → List X → Members → Result X ProfileFault) (vs : List Value) (i index : ℕ) (before : List X) (v : Value) → i < length vs → v ≡ get_or vs i v
    → (e ≢ NoMemory → entry_at key (entry_of index before) (view v) ≡ Err e) → IsAtEntry key entry_of vs i index before → e ≢ NoMemory → entries key entry_of (items_view vs) ≡ Err e
entry_stops e key entry_of vs i index before v lt is h so_far ne =
    stops (entry_after key entry_of) before vs i v e (entries key entry_of (items_view vs)) lt is (ap (λ n. entry_at key (entry_of n before) (view v)) (sym so_far.counted) ∙ h ne) so_far.same

pub entries_end : {X : Type 0} (key : ProfileKey) (entry_of : ℕ → List X → Members → Result X ProfileFault) (vs : List Value) (i index : ℕ) (before : List X) → length vs ≤ i → IsAtEntry key entry_of vs i index before → entries key entry_of (items_view vs) ≡ Ok before
entries_end key entry_of vs i index before le so_far = is_read (entry_after key entry_of) before vs i (entries key entry_of (items_view vs)) le so_far.same
