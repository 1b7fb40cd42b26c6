-- Lists that rise, and the list of variables as one.
use Rattle.std.proofs.Common.{◌≡◌, ℕ, ◌<◌, ◌+◌, arith, refl, sym, ◌∙◌, ap, length}
use Rattle.std.specs.Prelude.{flat_map, map}
use Rattle.std.specs.List.{range_with_len}
use Rattle.stow_data.specs.Ship.{places}
use Rattle.stow_data.proofs.Members.{Member, flat_at, map_at}
use Rattle.zero_one_rows.specs.declared.program.Var.{Var}
use Rattle.zero_one_rows.specs.Variables.{Voyage, calls, all_kinds, is_var, variables}
use Rattle.zero_one_rows.proofs.Rising.{Rising, rising_flat, rising_map, rising_range, rising_filter}

-- by put, kind, lifted, place
pub data Precedes (a b : Var) : Type 0 where
  by_put : a.put < b.put → Precedes a b
  by_kind : a.put ≡ b.put → a.kind < b.kind → Precedes a b
  by_lifted : a.put ≡ b.put → a.kind ≡ b.kind → a.lifted < b.lifted → Precedes a b
  by_place : a.put ≡ b.put → a.kind ≡ b.kind → a.lifted ≡ b.lifted → a.place < b.place → Precedes a b

pub variables_rise : (m : Voyage) → Rising Precedes (variables m)
unfolding variables
variables_rise m = rising_filter Precedes (is_var m) _ (rising_flat Precedes (λ (x y : ℕ). x < y) _ (range_with_len 0 (calls m)) (rising_range 0 (calls m))
    (λ i j l y w p q. by_put (let e = put_of i y p in let f = put_of j w q in omega (arith, l, e, f)))
    (λ i. rising_flat Precedes (λ (x y : ℕ). x < y) _ (range_with_len 0 (length (all_kinds m))) (rising_range 0 (length (all_kinds m)))
    (λ g h l y w p q. let a = kind_of i g y p in let b = kind_of i h w q in by_kind (a.0 ∙ sym b.0) (omega (arith, l, a.1, b.1)))
    (λ g. rising_flat Precedes (λ (x y : ℕ). x < y) _ (range_with_len 0 (calls m + 1)) (rising_range 0 (calls m + 1))
    (λ v u l y w p q. let a = lifted_of i g v y p in let b = lifted_of i g u w q in by_lifted (a.0 ∙ sym b.0) (a.1 ∙ sym b.1) (omega (arith, l, a.2, b.2)))
    (λ v. rising_map Precedes (λ (x y : ℕ). x < y) (λ s. record { put = i; kind = g; lifted = v; place = s }) (range_with_len 0 (length (places m.ship))) (rising_range 0 (length (places m.ship))) (λ s t l. by_place refl refl refl l)))))
  where
    lifted_of : (i g v : ℕ) (y : Var) → Member y (map (λ (s : ℕ). record { put = i; kind = g; lifted = v; place = s }) (range_with_len 0 (length (places m.ship)))) → (y.put ≡ i) × (y.kind ≡ g) × (y.lifted ≡ v)
    lifted_of i g v y p = let d = map_at _ (range_with_len 0 (length (places m.ship))) y p in (ap (λ (z : Var). z.put) d.2, ap (λ (z : Var). z.kind) d.2, ap (λ (z : Var). z.lifted) d.2)

    kind_of : (i g : ℕ) (y : Var) → Member y (flat_map (λ v. map (λ (s : ℕ). record { put = i; kind = g; lifted = v; place = s }) (range_with_len 0 (length (places m.ship)))) (range_with_len 0 (calls m + 1))) → (y.put ≡ i) × (y.kind ≡ g)
    kind_of i g y p = let c = flat_at _ (range_with_len 0 (calls m + 1)) y p in let r = lifted_of i g c.0 y c.2 in (r.0, r.1)

    put_of : (i : ℕ) (y : Var) → Member y (flat_map (λ g. flat_map (λ v. map (λ (s : ℕ). record { put = i; kind = g; lifted = v; place = s }) (range_with_len 0 (length (places m.ship)))) (range_with_len 0 (calls m + 1))) (range_with_len 0 (length (all_kinds m)))) → y.put ≡ i
    put_of i y p = let b = flat_at _ (range_with_len 0 (length (all_kinds m))) y p in let r = kind_of i b.0 y b.2 in r.0
