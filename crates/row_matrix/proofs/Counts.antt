-- How many rows wait.
use Rattle.std.proofs.Common.{◌≡◌, ℕ, zero, suc, ◌+◌, ◌<◌, ◌≤◌, Bool, true, false, List, [], ◌∷◌, length, set, arith, refl}
use Rattle.row_matrix.specs.Waiting.{waits_at, waiting_in}

pub waiting_most : (ws : List Bool) → waiting_in ws ≤ length ws
waiting_most [] = omega arith
waiting_most (true ∷ ws) = omega (arith, waiting_most ws)
waiting_most (false ∷ ws) = omega (arith, waiting_most ws)

pub waiting_set : (ws : List Bool) (r : ℕ) → waits_at ws r ≡ true → waiting_in (set ws r false) + 1 ≡ waiting_in ws
waiting_set [] r e = absurd (grind arith)
waiting_set (true ∷ ws) zero e = refl
waiting_set (false ∷ ws) zero e = absurd (grind arith)
waiting_set (true ∷ ws) (suc r) e = omega (arith, waiting_set ws r e)
waiting_set (false ∷ ws) (suc r) e = waiting_set ws r e

-- one more waits
pub waiting_more : (ws : List Bool) (r : ℕ) → r < length ws → waits_at ws r ≡ false → waiting_in (set ws r true) ≡ waiting_in ws + 1
waiting_more [] r lt e = absurd (omega arith)
waiting_more (false ∷ ws) zero lt e = refl
waiting_more (true ∷ ws) zero lt e = absurd (grind arith)
waiting_more (true ∷ ws) (suc r) lt e = omega (arith, waiting_more ws r (omega arith) e)
waiting_more (false ∷ ws) (suc r) lt e = waiting_more ws r (omega arith) e

-- none waits
pub none_waits : (ws : List Bool) → waiting_in ws ≡ 0 → (r : ℕ) → waits_at ws r ≡ false
none_waits [] e r = refl
none_waits (true ∷ ws) e r = absurd (omega arith)
none_waits (false ∷ ws) e zero = refl
none_waits (false ∷ ws) e (suc r) = none_waits ws e r

pub none_beyond : (ws : List Bool) → ((r : ℕ) → r < length ws → waits_at ws r ≡ false) → (r : ℕ) → waits_at ws r ≡ false
none_beyond [] h r = refl
none_beyond (w ∷ ws) h zero = h 0 (omega arith)
none_beyond (w ∷ ws) h (suc r) = none_beyond ws (λ i lt. h (suc i) (omega arith)) r

-- all wait
pub all_wait : (ws : List Bool) → ((r : ℕ) → r < length ws → waits_at ws r ≡ true) → waiting_in ws ≡ length ws
all_wait [] h = refl
all_wait (true ∷ ws) h = omega (arith, all_wait ws (λ i lt. h (suc i) (omega arith)))
all_wait (false ∷ ws) h = absurd (let e : false ≡ true = h 0 (omega arith) in cc)
