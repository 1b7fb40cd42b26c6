use Rattle.std.proofs.Common.{◌≡◌, ◌≤◌, ap, ◌∙◌, arith}
use Rattle.std.specs.Prelude.{sum}
use Rattle.std.proofs.lemmas.Nat.{mul-le}
use Rattle.stow_data.specs.Cargoes.{cargo_of}
use Rattle.stow_data.proofs.Prices.{sum_low}
use Rattle.stow_data.proofs.cargoes.Cargo.limit.Goals as goal

pub overflow_mul-result : goal.overflow_mul-result
overflow_mul-result c =
    let few : c.len.result ≤ 5000 = omega (arith, c.len.ensures, c.self.invariant.few_containers) in
    let prices : c.sum_of.result ≡ sum c.self.inside.tariff = c.sum_of.ensures ∙ ap sum c.as_slice.ensures in
    let low = sum_low (cargo_of c.self.inside) c.self.invariant in
    omega (arith, mul-le c.len.result c.sum_of.result 5000 11000 few (omega (arith, prices, low)))
