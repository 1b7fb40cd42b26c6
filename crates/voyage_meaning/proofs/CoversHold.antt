-- A cover over or under a stack, of which there is one at most.
use Rattle.std.specs.Prelude.{◌≡◌, ℕ, Bool, true, false, List, Some, slice_get}
use Rattle.std.proofs.Common.{arith, sym, ◌∙◌, ap}
use Rattle.std.proofs.lemmas.Bool.{true≢false}
use Rattle.std.proofs.lemmas.Option.{same_Some}
use Rattle.stow_data.specs.Ship.{Ship, LiesUnder, StandsOn}
use Rattle.stowage_rules.specs.Faults.{IsLeast}
use Rattle.voyage_meaning.specs.Refusals.{IsShutOver, IsOpenUnder}

-- a flag isn't both
pub not_both : (off : List Bool) (k : ℕ) → slice_get off k ≡ Some true → slice_get off k ≡ Some false → ⊥
not_both off k a b = true≢false (same_Some true false (sym a ∙ b))

pub not_shut : (ship : Ship) (off : List Bool) (stack k : ℕ) → ((n : ℕ) → LiesUnder ship stack n → Some k ≡ Some n) → slice_get off k ≡ Some true → (n : ℕ) → IsShutOver ship off stack n → ⊥
not_shut ship off stack k back e n x = not_both off n (ap (slice_get off) (sym (same_Some k n (back n x.under))) ∙ e) x.is_on

pub least_shut : (ship : Ship) (off : List Bool) (stack k : ℕ) → LiesUnder ship stack k → ((n : ℕ) → LiesUnder ship stack n → Some k ≡ Some n) → slice_get off k ≡ Some false → IsLeast (IsShutOver ship off stack) k
least_shut ship off stack k is back e = record { holds = record { under = is; is_on = e }; none_below = λ n l x. let same : k ≡ n = same_Some k n (back n x.under) in omega arith }

pub not_open : (ship : Ship) (off : List Bool) (stack k : ℕ) → ((n : ℕ) → StandsOn ship stack n → Some k ≡ Some n) → slice_get off k ≡ Some false → (n : ℕ) → IsOpenUnder ship off stack n → ⊥
not_open ship off stack k back e n x = not_both off n x.is_off (ap (slice_get off) (sym (same_Some k n (back n x.on))) ∙ e)

pub least_open : (ship : Ship) (off : List Bool) (stack k : ℕ) → StandsOn ship stack k → ((n : ℕ) → StandsOn ship stack n → Some k ≡ Some n) → slice_get off k ≡ Some true → IsLeast (IsOpenUnder ship off stack) k
least_open ship off stack k is back e = record { holds = record { on = is; is_off = e }; none_below = λ n l x. let same : k ≡ n = same_Some k n (back n x.on) in omega arith }
