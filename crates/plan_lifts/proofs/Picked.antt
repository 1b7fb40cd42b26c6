-- A set of which each flag is told.
use Rattle.std.specs.Prelude.{◌≡◌, ◌↔◌, ℕ, ◌<◌, Bool, true, List, Result, Ok, Err, IfOk, IsTrue, length}
use Rattle.std.proofs.Common.{arith}
use Rattle.plan_lifts.specs.Spread.{has}
use Rattle.plan_lifts.proofs.LiftsHold.{has_inside}

-- the set has the places of which its flags tell
pub told : {E : Type 0} (r : Result (List Bool) E) (n : ℕ) (P : ℕ → Type 0) (Q : List Bool → Type 0) → IfOk r Q → IfOk r (λ set. length set ≡ n) → ((set : List Bool) → Q set → (p : ℕ) → p < n → IsTrue (has set p) ↔ P p) → ((p : ℕ) → P p → p < n) → IfOk r (λ set. (p : ℕ) → (has set p ≡ true) ↔ P p)
told (Ok set) n P Q answers each tells inside = λ p. (
  λ h. (tells set answers p (let l : p < length set = has_inside set p h in omega (arith, l, each))).0 h,
  λ x. (tells set answers p (inside p x)).1 x,
)
told (Err e) n P Q answers each tells inside = tt
