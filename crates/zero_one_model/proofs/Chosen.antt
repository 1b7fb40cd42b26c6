-- The variables among which those that touch a row of each family are found.
use Rattle.std.proofs.Common.{◌≡◌, ℕ, ◌<◌, ◌+◌, ◌-◌, ◌*◌, true, List, [], ◌++◌, arith, ap, subst, length, inl, inr, ⊎_elim, ◌⊎◌}
use Rattle.std.specs.Prelude.{slice_index_or}
use Rattle.std.proofs.lemmas.Bool.{ltb-true, false≢true}
use Rattle.stow_data.specs.declared.geometry.Half.{Half}
use Rattle.stow_data.specs.Profile.{IsShip}
use Rattle.stow_data.specs.Ship.{places}
use Rattle.zero_one_rows.specs.declared.program.Row.{Row}
use Rattle.zero_one_rows.specs.declared.program.Row.TheVariants.{Flow, Start, Cell, Support, Twenty, Block, Hatch, Weight, Apart, Cross}
use Rattle.zero_one_rows.specs.declared.program.Var.{Var}
use Rattle.zero_one_rows.specs.Variables.{Voyage, all_kinds, place, var}
use Rattle.zero_one_rows.specs.Rows.{half, stack, covers, below, above, whole}
use Rattle.zero_one_model.specs.Indexed.{place_shelf, half_shelf, shelf, IsIndex, IsCandidates, Touches, NamesCells, is_keyed, first_of, second_of, other_of, half_key, place_key, below_key, above_key}
use Rattle.zero_one_model.specs.declared.index.Index.{Index}
use Rattle.zero_one_model.proofs.Sized.{second_true, halves_low, half_in, above_low, place_in}
use Rattle.zero_one_rows.proofs.Sizes.{in_range}
use Rattle.zero_one_model.proofs.Touched.{one_key, two_keys, flow_near, start_near, cell_near, support_near, twenty_near, block_near, hatch_near, weight_near, apart_near, covers_shelf}

shelf_low : (s t n : ℕ) → s < n → t < 40 → shelf s t < n * 40
shelf_low s t n l k = omega (arith, l, k)

-- the half-cells and places of a row that there is are there
pub names_cells : (m : Voyage) → IsShip m.ship → length m.cargo.arrival ≡ length (places m.ship) → (r : Row) → (whole m).has r ≡ true → NamesCells m.ship r
names_cells m rules arrival (Flow q i g) h = tt
names_cells m rules arrival (Start q p) h = subst (λ (n : ℕ). p < n) arrival (in_range m (Start q p) rules h)
names_cells m rules arrival (Cell i k) h = in_range m (Cell i k) rules h
names_cells m rules arrival (Support i k) h = in_range m (Support i k) rules h
names_cells m rules arrival (Twenty i k) h = in_range m (Twenty i k) rules h
names_cells m rules arrival (Block j k) h = in_range m (Block j k) rules h
names_cells m rules arrival (Hatch w j k d) h = in_range m (Hatch w j k d) rules h
names_cells m rules arrival (Weight i k) h = tt
names_cells m rules arrival (Apart i e p q) h = let l = in_range m (Apart i e p q) rules h in (l.1, l.2)
names_cells m rules arrival (Cross l p c) h = tt

module _ (m : Voyage) (rules : IsShip m.ship) (arrival : length m.cargo.arrival ≡ length (places m.ship)) (x : Index) (is : IsIndex m x) where
  abbrev shelves : ℕ
  shelves = length m.ship.stacks * 40

  abbrev at_key : ℕ → List ℕ
  at_key k = slice_index_or x.by_shelf k []

  half_low : (h : ℕ) → NamesCells m.ship (Cell 0 h) → half_key m.ship h < shelves
  half_low h l = shelf_low (half m h).stack (half m h).tier (length m.ship.stacks) (half_in m rules h l) (halves_low m rules h)

  place_low : (p : ℕ) → p < length (places m.ship) → place_key m.ship p < shelves
  place_low p l = let k = place_in m rules p l in shelf_low (place m p).stack (place m p).tier (length m.ship.stacks) k.0 k.1

  below_low : (h : ℕ) → NamesCells m.ship (Cell 0 h) → below_key m.ship h < shelves
  below_low h l = let t = halves_low m rules h in shelf_low (half m h).stack ((half m h).tier - 1) (length m.ship.stacks) (half_in m rules h l) (omega (arith, t))

  at_shelf : (v : ℕ) (h : Half) → covers (place m (var m v).place) h ≡ true → place_shelf (place m (var m v).place) ≡ half_shelf h
  at_shelf v h e = let c = covers_shelf (place m (var m v).place) h e in omega (arith, c.0, c.1)

  one_shelf : (r : Row) (k : ℕ) → k < shelves → ((v : ℕ) → Touches m r v → place_shelf (place m (var m v).place) ≡ k) → IsCandidates m r (at_key k ++ [])
  one_shelf r k l near = one_key m r (λ (v : Var). place_shelf (place m v.place)) shelves x.by_shelf is.by_shelf k l near

  two_shelves : (r : Row) (j k : ℕ) → j < shelves → k < shelves → ((v : ℕ) → Touches m r v → (place_shelf (place m (var m v).place) ≡ j) ⊎ (place_shelf (place m (var m v).place) ≡ k)) → IsCandidates m r (at_key j ++ other_of x.by_shelf j k)
  two_shelves r j k lj lk near = two_keys m r (λ (v : Var). place_shelf (place m v.place)) shelves x.by_shelf is.by_shelf j k lj lk near

  -- at one of two half-cells
  either : (v : ℕ) (a b : Half) → (covers (place m (var m v).place) a ≡ true) ⊎ (covers (place m (var m v).place) b ≡ true) → (place_shelf (place m (var m v).place) ≡ half_shelf a) ⊎ (place_shelf (place m (var m v).place) ≡ half_shelf b)
  either v a b h = ⊎_elim (λ (k : covers (place m (var m v).place) a ≡ true). inl (at_shelf v a k)) (λ (k : covers (place m (var m v).place) b ≡ true). inr (at_shelf v b k)) h

  -- at one of two places
  either_place : (v p q : ℕ) → ((var m v).place ≡ p) ⊎ ((var m v).place ≡ q) → (place_shelf (place m (var m v).place) ≡ place_key m.ship p) ⊎ (place_shelf (place m (var m v).place) ≡ place_key m.ship q)
  either_place v p q h = ⊎_elim (λ (k : (var m v).place ≡ p). inl (ap (λ (z : ℕ). place_shelf (place m z)) k)) (λ (k : (var m v).place ≡ q). inr (ap (λ (z : ℕ). place_shelf (place m z)) k)) h

  block_vars : (j h : ℕ) → (whole m).has (Block j h) ≡ true → IsCandidates m (Block j h) (at_key (half_key m.ship h) ++ other_of x.by_shelf (half_key m.ship h) (above_key m.ship h))
  block_vars j h has =
      let l = in_range m (Block j h) rules has in
      let up : (half m h).tier + 1 < 40 = above_low m rules h ((half m h).tier + 1) l (ltb-true ((half m h).tier + 1) (stack m (half m h).stack).tiers (second_true _ _ (second_true _ _ has))) in
      let low : above_key m.ship h < shelves = shelf_low (half m h).stack ((half m h).tier + 1) (length m.ship.stacks) (half_in m rules h l) up in
      two_shelves (Block j h) (half_key m.ship h) (above_key m.ship h) (half_low h l) low (λ v t. either v (half m h) (above (half m h)) (block_near m j h (var m v) t.other))

  -- all of them
  pub chosen : (r : Row) → is_keyed r ≡ true → (whole m).has r ≡ true → IsCandidates m r (first_of m.ship x r ++ second_of m.ship x r)
  chosen (Flow q i g) f h = one_key m (Flow q i g) (λ (v : Var). v.kind) (length (all_kinds m)) x.by_kind is.by_kind g (in_range m (Flow q i g) rules h) (λ v t. flow_near m q i g (var m v) t.other)
  chosen (Start q p) f h = one_shelf (Start q p) (place_key m.ship p) (place_low p (names_cells m rules arrival (Start q p) h)) (λ v t. ap (λ (z : ℕ). place_shelf (place m z)) (start_near m q p (var m v) t.other))
  chosen (Cell i k) f h = one_shelf (Cell i k) (half_key m.ship k) (half_low k (in_range m (Cell i k) rules h)) (λ v t. at_shelf v (half m k) (cell_near m i k (var m v) t.other))
  chosen (Support i k) f h = let l = in_range m (Support i k) rules h in two_shelves (Support i k) (half_key m.ship k) (below_key m.ship k) (half_low k l) (below_low k l) (λ v t. either v (half m k) (below (half m k)) (support_near m i k (var m v) t.other))
  chosen (Twenty i k) f h = let l = in_range m (Twenty i k) rules h in two_shelves (Twenty i k) (half_key m.ship k) (below_key m.ship k) (half_low k l) (below_low k l) (λ v t. either v (half m k) (below (half m k)) (twenty_near m i k (var m v) t.other))
  chosen (Block j k) f h = block_vars j k h
  chosen (Hatch w j k d) f h = let l = in_range m (Hatch w j k d) rules h in two_shelves (Hatch w j k d) (half_key m.ship k) (half_key m.ship d) (half_low k l.0) (half_low d l.1) (λ v t. either v (half m k) (half m d) (hatch_near m w j k d (var m v) t.other))
  chosen (Weight i k) f h = one_key m (Weight i k) (λ (v : Var). (place m v.place).stack) (length m.ship.stacks) x.by_stack is.by_stack k (in_range m (Weight i k) rules h) (λ v t. weight_near m i k (var m v) t.other)
  chosen (Apart i e p q) f h = let l = in_range m (Apart i e p q) rules h in two_shelves (Apart i e p q) (place_key m.ship p) (place_key m.ship q) (place_low p l.1) (place_low q l.2) (λ v t. either_place v p q (apart_near m i e p q (var m v) t.other))
  chosen (Cross l p c) f h = absurd (false≢true f)
