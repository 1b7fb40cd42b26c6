use Rattle.std.proofs.Common.{◌≡◌, ◌∙◌, ◌+◌, ◌-◌, ◌*◌, ℕ, arith, ap, length}
use Rattle.std.specs.Prelude.{flat_map}
use Rattle.std.specs.List.{range_with_len}
use Rattle.stow_data.specs.declared.geometry.Length.TheVariants.{Twenty, Forty}
use Rattle.stow_data.specs.Ship.{Ship}
use Rattle.stow_data.specs.Shipment.{Cargo}
use Rattle.zero_one_rows.specs.Variables.{calls}
use Rattle.zero_one_rows.specs.Crossing.{tallest}
use Rattle.zero_one_rows.specs.Counted.{pairs_at, row_lists, rows_a_call, all_chains}
use Rattle.zero_one_rows.proofs.Counting.{base_count, all_count}
use Rattle.zero_one_rows.proofs.counts.count_rows.Goals as goal

pub returns-clause-base : goal.returns-clause-base
returns-clause-base g c =
    let n : c.calls-calls.result ≡ calls g.m = c.calls-calls.ensures.number ∙ ap (λ (k : Cargo). length k.rotation) c.requires.1.0 in
    let a : c.count_a_call.result ≡ rows_a_call (row_lists g.m) = c.count_a_call.ensures.number in
    let b : (c.calls-calls.result - 1) * c.count_a_call.result ≡ (calls g.m - 1) * rows_a_call (row_lists g.m) = ap (λ (z : ℕ). (z - 1) * c.count_a_call.result) n ∙ ap (λ (z : ℕ). (calls g.m - 1) * z) a in
    let p = c.count_pairs.ensures.number ∙ ap (λ (z : ℕ). length (flat_map (pairs_at g.m) (range_with_len 1 (z - 1)))) n in
    omega (arith, b, p, c.count_filled.ensures.number, base_count (row_lists g.m))

pub returns-clause-all : goal.returns-clause-all
returns-clause-all g c =
    let base = returns-clause-base g c in
    let n : c.calls-calls.result ≡ calls g.m = c.calls-calls.ensures.number ∙ ap (λ (k : Cargo). length k.rotation) c.requires.1.0 in
    let back : c.calls-calls.result - 1 + 1 ≡ c.calls-calls.result = omega (arith, c.calls-calls.ensures.number, c.calls-calls.ensures.rules.calls_from) in
    let chains : c.count_chains.result ≡ length (all_chains (calls g.m)) = c.count_chains.ensures.number ∙ ap (λ (z : ℕ). length (all_chains z)) (back ∙ n) in
    let short : c.tallest.result ≡ tallest g.m.ship Twenty = c.tallest.ensures.value ∙ ap (λ (s : Ship). tallest s Twenty) c.requires.0 in
    let long : c.tallest-2.result ≡ tallest g.m.ship Forty = c.tallest-2.ensures.value ∙ ap (λ (s : Ship). tallest s Forty) c.requires.0 in
    let tiers : c.tallest.result + c.tallest-2.result ≡ tallest g.m.ship Twenty + tallest g.m.ship Forty = omega (arith, short, long) in
    let product = ap (λ (z : ℕ). z * c.count_chains.result) tiers ∙ ap (λ (z : ℕ). (tallest g.m.ship Twenty + tallest g.m.ship Forty) * z) chains in
    omega (arith, base, product, all_count (row_lists g.m))
