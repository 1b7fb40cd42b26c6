-- What the prices of the calls come to together.
use Rattle.std.proofs.Common.{◌≡◌, ℕ, zero, suc, ◌+◌, ◌-◌, List, [], ◌∷◌, arith, refl, sym, ◌∙◌, ap, length, map, sum}
use Rattle.std.specs.Prelude.{slice_index_or, sum_by}
use Rattle.std.proofs.lemmas.List.{map-id}
use Rattle.std.proofs.lemmas.List.Sums.{sum_by-cons, sum-map}
use Rattle.stow_data.specs.Shipment.{Cargo, IsCargo, price}
use Rattle.crossing_law.proofs.Worlds.{total_to}
use Rattle.crossing_law.proofs.KindFacts.{total_front}
use Rattle.zero_one_rows.specs.Variables.{Voyage, calls}

pub total_same : (n : ℕ) (f g : ℕ → ℕ) → ((v : ℕ) → f v ≡ g v) → total_to n f ≡ total_to n g
total_same zero f g h = refl
total_same (suc n) f g h = omega (arith, total_same n f g h, h n)

sum_is : (ps : List ℕ) → sum ps ≡ sum_by (λ p. p) ps
sum_is ps = ap sum (sym (map-id ps)) ∙ sum-map (λ (p : ℕ). p) ps

pub sum_front : (p : ℕ) (ps : List ℕ) → sum (p ∷ ps) ≡ p + sum ps
sum_front p ps = sum_is (p ∷ ps) ∙ sum_by-cons (λ (q : ℕ). q) p ps ∙ ap (λ (n : ℕ). p + n) (sym (sum_is ps))

total_list : (ps : List ℕ) → total_to (length ps) (λ i. slice_index_or ps i 0) ≡ sum ps
total_list [] = refl
total_list (p ∷ ps) =
    let f : ℕ → ℕ = λ i. slice_index_or (p ∷ ps) i 0 in
    let rest : total_to (length ps) (λ i. f (suc i)) ≡ sum ps = total_list ps in
    total_front (length ps) f ∙ ap (λ (n : ℕ). p + n) rest ∙ sym (sum_front p ps)

pub price_at : (cargo : Cargo) (i : ℕ) → price cargo (suc i) ≡ slice_index_or cargo.tariff i 0
price_at cargo i = refl

-- those of all calls but the last are the tariff's sum
pub prices_sum : (m : Voyage) → IsCargo m.cargo → total_to (calls m - 1) (λ i. price m.cargo (suc i)) ≡ sum m.cargo.tariff
prices_sum m rules =
    let many : calls m - 1 ≡ length m.cargo.tariff = omega (arith, rules.each_priced) in
    ap (λ (n : ℕ). total_to n (λ i. price m.cargo (suc i))) many ∙ total_same (length m.cargo.tariff) _ _ (λ i. price_at m.cargo i) ∙ total_list m.cargo.tariff
