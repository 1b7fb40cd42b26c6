-- What is drawn is in its range.
use Rattle.std.proofs.Common.{ℕ, ◌+◌, ◌-◌, ◌<◌, ◌≤◌, arith}
use Rattle.stow_gen.specs.Draws.{below, next, lot}

below_is : (n state : ℕ) → 0 < n → below n state < n
unfolding below
below_is n state h = grind arith

-- the calls and the weight of a container are in the ranges that are drawn
pub record InRange (load dest kg : ℕ) : Type 0 where
  pub load_from : 1 ≤ load
  pub load_to : load ≤ 5
  pub later : load < dest
  pub dest_to : dest ≤ 6
  pub kg_to : kg ≤ 25000

pub lot_in_range : (state : ℕ) → InRange (lot state).load (lot state).dest (lot state).kg
unfolding lot
lot_in_range state =
    let a = below_is 5 (next state) (omega arith) in
    let b = below_is (6 - (1 + below 5 (next state))) (next (next state)) (omega arith) in
    let c = below_is 5 (next (next (next state))) (omega arith) in
    record { load_from = omega arith; load_to = omega arith; later = omega arith; dest_to = omega (arith, a, b); kg_to = omega (arith, c) }
