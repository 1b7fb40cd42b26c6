-- The sum of a tariff.
use Rattle.std.proofs.Common.{ℕ, ◌≤◌, arith}
use Rattle.std.specs.Prelude.{sum}
use Rattle.std.proofs.lemmas.List.Sums.{sum_by-le}
use Rattle.stow_data.specs.Shipment.{Cargo, IsCargo}

pub sum_low : (cargo : Cargo) → IsCargo cargo → sum cargo.tariff ≤ 11000
sum_low cargo rules =
    let most = sum_by-le (λ n. n) 1000 cargo.tariff rules.prices_to in
    let few = rules.calls_to in
    let each = rules.each_priced in
    omega (arith, most, few, each)
