-- Bays don't overlap, each cell lies in its own, and cells of different places don't overlap.
use Rattle.std.proofs.Common.{◌≡◌, ℕ, zero, suc, ◌+◌, ◌-◌, ◌*◌, ◌/◌, ◌%◌, ◌<◌, ◌≤◌, ◌==◌, Bool, true, false, cond, ◌||◌, List, [], ◌∷◌, length, refl, sym, subst, ap, ◌∙◌, arith, inl, inr}
use Rattle.std.specs.Prelude.{◌≢◌, ◌⊎◌, slice_index_or}
use Rattle.std.specs.List.{list_any, position_or_len}
use Rattle.std.proofs.Math.Nat.{mul-le-mul_right}
use Rattle.std.proofs.lemmas.Nat.{div-add-mod'}
use Rattle.std.proofs.lemmas.Bool.{eqb-true, true≢false}
use Rattle.std.proofs.lemmas.Bool.Decides.{nat_tests}
use Rattle.std.proofs.lemmas.List.Sums.{passes_at_first}
use Rattle.std.proofs.lemmas.List.Folds.{list_any-append}
use Rattle.baplie.specs.declared.parts.CellGroup.{CellGroup}
use Rattle.stow_report.specs.Listings.{IsCell}
use Rattle.bay_views.specs.declared.sheets.Sheet.{Sheet}
use Rattle.bay_views.specs.Bays.{has, long_bays, home_of, homes, evens, number_if, drawn_bays}
use Rattle.bay_views.specs.Frames.{column, columns, left_of, top_of, bay_width, bay_height}
use Rattle.bay_views.specs.Sheets.{sheet_of, place_of, per_line, bay_left, bay_top}
use Rattle.bay_views.specs.Cells.{cell_at, half_of, width_of}
use Rattle.bay_views.specs.Layout.{Rectangle, Holds, AreDisjoint, LeftOf, RightOf, Above, Below, bay_frame, box_of, cell_box, bay_place, AreApart, ShareNothing, ByBay, ByRow, ByTier, IsDrawn, LiesInBay}
use Rattle.bay_views.proofs.FramesHold.{HoldsCell, frame_holds, column_below, columns_differ, bottom_within, stands_above, either}

-- ## Bays

step : (m n w : ℕ) → m < n → m * w + w ≤ n * w
step m n w lt = let h : (m + 1) * w ≤ n * w = mul-le-mul_right w (omega arith) in let e : (m + 1) * w ≡ m * w + w = omega arith in omega (arith, h, e)

quotients_differ : (i j p : ℕ) → i ≢ j → i % p ≡ j % p → i / p ≢ j / p
quotients_differ i j p ne e = λ same. ne (sym (div-add-mod' i p) ∙ (rw (same, e) (div-add-mod' j p)))

abbrev frame_at : ℕ → ℕ → ℕ → ℕ → ℕ → Rectangle
frame_at p w h t i = record { left = 10 + i % p * w; top = t + i / p * h; width = w; height = h }

beside : (p w h t i j : ℕ) → (i % p < j % p) ⊎ (j % p < i % p) → AreDisjoint (frame_at p w h t i) (frame_at p w h t j)
beside p w h t i j (inl lt) = LeftOf (let s = step (i % p) (j % p) w lt in omega (arith, s))
beside p w h t i j (inr lt) = RightOf (let s = step (j % p) (i % p) w lt in omega (arith, s))

below : (p w h t i j : ℕ) → (i / p < j / p) ⊎ (j / p < i / p) → AreDisjoint (frame_at p w h t i) (frame_at p w h t j)
below p w h t i j (inl lt) = Above (let s = step (i / p) (j / p) h lt in omega (arith, s))
below p w h t i j (inr lt) = Below (let s = step (j / p) (i / p) h lt in omega (arith, s))

frames_apart : (p w h t i j : ℕ) → i ≢ j → AreDisjoint (frame_at p w h t i) (frame_at p w h t j)
frames_apart p w h t i j ne = go (i % p == j % p) refl
  where
    go : (b : Bool) → (i % p == j % p) ≡ b → AreDisjoint (frame_at p w h t i) (frame_at p w h t j)
    go true e = below p w h t i j (either (i / p) (j / p) (quotients_differ i j p ne (eqb-true (i % p) (j % p) e)))
    go false e = beside p w h t i j (either (i % p) (j % p) (grind (arith, nat_tests)))

pub bays_apart : (s : Sheet) (i j : ℕ) → i ≢ j → AreDisjoint (bay_frame s i) (bay_frame s j)
bays_apart s i j ne = frames_apart (per_line s) (bay_width s.frame) (bay_height s.frame) s.top i j ne

-- ## The bay of a cell

record IsHome (home bay : ℕ) : Type 0 where
  behind : bay ≤ home + 1
  before : home ≤ bay + 1
  even : home % 2 ≡ 0
  own : (bay % 2 == 0) ≡ true → home ≡ bay

home_by : (e a b c : Bool) (bay : ℕ) → (bay % 2 == 0) ≡ e → (bay % 4 == 1) ≡ c → IsHome (cond e bay (cond a (bay + 1) (cond b (bay - 1) (cond c (bay + 1) (bay - 1))))) bay
home_by true a b c bay e q = record { behind = omega arith; before = omega arith; even = grind (arith, nat_tests); own = λ t. refl }
home_by false true b c bay e q = record { behind = omega arith; before = omega arith; even = grind (arith, nat_tests); own = λ t. absurd (true≢false (sym t ∙ e)) }
home_by false false true c bay e q = record { behind = omega arith; before = omega arith; even = grind (arith, nat_tests); own = λ t. absurd (true≢false (sym t ∙ e)) }
home_by false false false true bay e q = record { behind = omega arith; before = omega arith; even = grind (arith, nat_tests); own = λ t. absurd (true≢false (sym t ∙ e)) }
home_by false false false false bay e q = record { behind = omega arith; before = omega arith; even = grind (arith, nat_tests); own = λ t. absurd (true≢false (sym t ∙ e)) }

home_is : (longs : List ℕ) (bay : ℕ) → IsHome (home_of longs bay) bay
home_is longs bay = home_by (bay % 2 == 0) (has longs (bay + 1)) (has longs (bay - 1)) (bay % 4 == 1) bay refl refl

or_left : (n : ℕ) (r : Bool) → ((n == n) || r) ≡ true
or_left n r = go (n == n) refl
  where
    go : (t : Bool) → (n == n) ≡ t → (t || r) ≡ true
    go true e = refl
    go false e = absurd (grind (arith, nat_tests))

or_right : (t r : Bool) → r ≡ true → (t || r) ≡ true
or_right true r e = refl
or_right false r e = e

homes_have : (longs : List ℕ) (gs : List CellGroup) (k : ℕ) (g : CellGroup) → k < length gs → slice_index_or gs k g ≡ g → has (homes longs gs) (home_of longs g.bay) ≡ true
homes_have longs [] k g lt at = absurd (omega arith)
homes_have longs (x ∷ gs) zero g lt at =
    subst (λ (y : CellGroup). ((home_of longs x.bay == home_of longs y.bay) || has (homes longs gs) (home_of longs y.bay)) ≡ true) at (or_left (home_of longs x.bay) (has (homes longs gs) (home_of longs x.bay)))
homes_have longs (x ∷ gs) (suc k) g lt at = or_right (home_of longs x.bay == home_of longs g.bay) (has (homes longs gs) (home_of longs g.bay)) (homes_have longs gs k g (omega arith) at)

evens_have : (P : ℕ → Bool) (n k : ℕ) → k < n → P (2 * k) ≡ true → has (evens P n) (2 * k) ≡ true
unfolding evens
evens_have P zero k lt e = absurd (omega arith)
evens_have P (suc n) k lt e = list_any-append (λ m. m == 2 * k) (evens P n) (number_if (P (2 * n)) (2 * n)) ∙ go (λ less. evens_have P n k less e) (k == n) refl
  where
    go : (k < n → has (evens P n) (2 * k) ≡ true) → (t : Bool) → (k == n) ≡ t → (has (evens P n) (2 * k) || has (number_if (P (2 * n)) (2 * n)) (2 * k)) ≡ true
    go before true at = or_right (has (evens P n) (2 * k)) (has (number_if (P (2 * n)) (2 * n)) (2 * k)) (rw (← eqb-true k n at, e) (or_left (2 * k) false))
    go before false at = rw (before (grind (arith, nat_tests))) refl

pub first_within : {X : Type 0} (p : X → Bool) (xs : List X) → list_any p xs ≡ true → position_or_len p xs < length xs
first_within p [] e = absurd (true≢false (sym e))
first_within p (x ∷ xs) e = go (first_within p xs) (p x) refl e
  where
    go : (list_any p xs ≡ true → position_or_len p xs < length xs) → (t : Bool) → p x ≡ t → (t || list_any p xs) ≡ true → position_or_len p (x ∷ xs) < length (x ∷ xs)
    go rest true is so = rw is (omega arith)
    go rest false is so = rw is (let h = rest so in omega (arith, h))

home_drawn : (groups : List CellGroup) (g : CellGroup) → IsDrawn groups g → has (drawn_bays groups) (home_of (long_bays groups) g.bay) ≡ true
home_drawn groups g (cells, c) =
    let home = home_of (long_bays groups) g.bay in
    let is = home_is (long_bays groups) g.bay in
    let small : g.bay < 1000 = (subst IsCell c.2 (cells c.0 g c.1)).0 in
    let twice : 2 * (home / 2) ≡ home = let e = is.even in omega arith in
    let lies = homes_have (long_bays groups) groups c.0 g c.1 c.2 in
    subst (λ (n : ℕ). has (drawn_bays groups) n ≡ true) twice (evens_have (has (homes (long_bays groups) groups)) 501 (home / 2) (let b = is.before in omega arith) (rw twice lies))

place_within : (ports : ℕ) (groups : List CellGroup) (g : CellGroup) → IsDrawn groups g → bay_place (sheet_of ports groups) g < length (drawn_bays groups)
place_within ports groups g d = first_within (λ bay. bay == home_of (long_bays groups) g.bay) (drawn_bays groups) (home_drawn groups g d)

-- the bays of two cells in one place are one
same_home : (bays : List ℕ) (m n : ℕ) → has bays m ≡ true → has bays n ≡ true → position_or_len (λ b. b == m) bays ≡ position_or_len (λ b. b == n) bays → m ≡ n
same_home bays m n p q e =
    let at = passes_at_first (λ b. b == m) bays 0 (first_within (λ b. b == m) bays p) in
    let other = passes_at_first (λ b. b == n) bays 0 (first_within (λ b. b == n) bays q) in
    sym (eqb-true (slice_index_or bays (position_or_len (λ b. b == m) bays) 0) m at) ∙ ap (λ k. slice_index_or bays k 0) e ∙ eqb-true (slice_index_or bays (position_or_len (λ b. b == n) bays) 0) n other

-- ## Cells

half_width : (home bay : ℕ) → IsHome home bay → half_of home bay + width_of bay ≤ 56
half_width home bay is = go (bay % 2 == 0) (bay == home + 1) refl refl
  where
    go : (e a : Bool) → (bay % 2 == 0) ≡ e → (bay == home + 1) ≡ a → cond a 28 0 + cond e 56 28 ≤ 56
    go true true e a = let o = is.own e in absurd (grind (arith, nat_tests))
    go true false e a = omega arith
    go false true e a = omega arith
    go false false e a = omega arith

right_in : (x c n half width : ℕ) → c < n → half + width ≤ 56 → x + (34 + 56 * c) + half + width ≤ x + (56 * n + 60)
right_in x c n half width lt le = omega arith

left_in : (x l h : ℕ) → x ≤ x + l + h
left_in x l h = omega arith

top_in : (x t : ℕ) → x ≤ x + t
top_in x t = omega arith

bottom_in : (x t n : ℕ) → t + 24 ≤ n → x + t + 24 ≤ x + n
bottom_in x t n le = omega arith

within_in : (s : Sheet) (home : ℕ) (g : CellGroup) → HoldsCell s.frame g → IsHome home g.bay → Holds (bay_frame s (place_of s home)) (box_of (cell_at s home g))
within_in s home g k is = record {
  left = left_in (bay_left s (place_of s home)) (left_of s.frame g.row) (half_of home g.bay);
  right = right_in (bay_left s (place_of s home)) (column s.frame g.row) (columns s.frame) (half_of home g.bay) (width_of g.bay) (column_below s.frame g k) (half_width home g.bay is);
  top = top_in (bay_top s (place_of s home)) (top_of s.frame g.tier);
  bottom = bottom_in (bay_top s (place_of s home)) (top_of s.frame g.tier) (bay_height s.frame) (bottom_within s.frame g k);
}

pub lies_in_bay : (ports : ℕ) (groups : List CellGroup) (g : CellGroup) → IsDrawn groups g → LiesInBay (sheet_of ports groups) g
lies_in_bay ports groups g d =
    (place_within ports groups g d, within_in (sheet_of ports groups) (home_of (long_bays groups) g.bay) g (frame_holds groups g d.1) (home_is (long_bays groups) g.bay))

-- what lies in frames apart lies apart
held_apart : (f o a b : Rectangle) → Holds f a → Holds o b → AreDisjoint f o → AreDisjoint a b
held_apart f o a b h k (LeftOf le) = LeftOf (let p = h.right in let q = k.left in omega arith)
held_apart f o a b h k (RightOf le) = RightOf (let p = k.right in let q = h.left in omega arith)
held_apart f o a b h k (Above le) = Above (let p = h.bottom in let q = k.top in omega arith)
held_apart f o a b h k (Below le) = Below (let p = k.bottom in let q = h.top in omega arith)

-- two halves of one bay
halves : (home m n : ℕ) → IsHome home m → IsHome home n → m + 2 ≤ n → half_of home m + width_of m ≤ half_of home n
halves home m n a b le = go (m == home + 1) (m % 2 == 0) (n == home + 1) refl refl refl
  where
    go : (h e k : Bool) → (m == home + 1) ≡ h → (m % 2 == 0) ≡ e → (n == home + 1) ≡ k → cond h 28 0 + cond e 56 28 ≤ cond k 28 0
    go true e k p q r = let x = b.behind in absurd (grind (arith, nat_tests))
    go false e false p q r = let x = b.behind in let y = a.before in absurd (grind (arith, nat_tests))
    go false true true p q r = let o = a.own q in absurd (grind (arith, nat_tests))
    go false false true p q r = omega arith

left_half : (x c d h w k : ℕ) → c ≡ d → h + w ≤ k → x + (34 + 56 * c) + h + w ≤ x + (34 + 56 * d) + k
left_half x c d h w k e le = omega arith

left_column : (x c d h w k : ℕ) → c < d → h + w ≤ 56 → x + (34 + 56 * c) + h + w ≤ x + (34 + 56 * d) + k
left_column x c d h w k lt le = omega arith

above_tier : (x t u : ℕ) → t + 24 ≤ u → x + t + 24 ≤ x + u
above_tier x t u le = omega arith

-- two cells of one bay
module _ (s : Sheet) (home : ℕ) (a b : CellGroup) (k : HoldsCell s.frame a) (l : HoldsCell s.frame b) (p : IsHome home a.bay) (q : IsHome home b.bay) where
  abbrev Apart : Type 0
  Apart = AreDisjoint (box_of (cell_at s home a)) (box_of (cell_at s home b))

  by_columns : (column s.frame a.row < column s.frame b.row) ⊎ (column s.frame b.row < column s.frame a.row) → Apart
  by_columns (inl lt) = LeftOf (left_column (bay_left s (place_of s home)) (column s.frame a.row) (column s.frame b.row) (half_of home a.bay) (width_of a.bay) (half_of home b.bay) lt (half_width home a.bay p))
  by_columns (inr lt) = RightOf (left_column (bay_left s (place_of s home)) (column s.frame b.row) (column s.frame a.row) (half_of home b.bay) (width_of b.bay) (half_of home a.bay) lt (half_width home b.bay q))

  by_rows : a.row ≢ b.row → Apart
  by_rows ne = by_columns (columns_differ s.frame a b k l ne)

  by_halves : a.row ≡ b.row → AreApart a.bay b.bay → Apart
  by_halves e (inl le) = LeftOf (left_half (bay_left s (place_of s home)) (column s.frame a.row) (column s.frame b.row) (half_of home a.bay) (width_of a.bay) (half_of home b.bay) (ap (column s.frame) e) (halves home a.bay b.bay p q le))
  by_halves e (inr le) = RightOf (left_half (bay_left s (place_of s home)) (column s.frame b.row) (column s.frame a.row) (half_of home b.bay) (width_of b.bay) (half_of home a.bay) (ap (column s.frame) (sym e)) (halves home b.bay a.bay q p le))

  by_bays : AreApart a.bay b.bay → Apart
  by_bays far = go (a.row == b.row) refl
    where
      go : (t : Bool) → (a.row == b.row) ≡ t → Apart
      go true e = by_halves (eqb-true a.row b.row e) far
      go false e = by_rows (grind (arith, nat_tests))

  by_tiers : AreApart a.tier b.tier → Apart
  by_tiers (inl le) = Below (above_tier (bay_top s (place_of s home)) (top_of s.frame b.tier) (top_of s.frame a.tier) (stands_above s.frame a b k l le))
  by_tiers (inr le) = Above (above_tier (bay_top s (place_of s home)) (top_of s.frame a.tier) (top_of s.frame b.tier) (stands_above s.frame b a l k le))

  in_one_bay : ShareNothing a b → Apart
  in_one_bay (ByBay far) = by_bays far
  in_one_bay (ByRow ne) = by_rows ne
  in_one_bay (ByTier far) = by_tiers far

abbrev AreDrawnApart : Sheet → CellGroup → CellGroup → Type 0
AreDrawnApart s a b = AreDisjoint (cell_box s a) (cell_box s b)

pub cells_apart : (ports : ℕ) (groups : List CellGroup) (a b : CellGroup) → IsDrawn groups a → IsDrawn groups b → ShareNothing a b → AreDrawnApart (sheet_of ports groups) a b
cells_apart ports groups a b d e far = go (bay_place (sheet_of ports groups) a == bay_place (sheet_of ports groups) b) refl
  where
    go : (t : Bool) → (bay_place (sheet_of ports groups) a == bay_place (sheet_of ports groups) b) ≡ t → AreDrawnApart (sheet_of ports groups) a b
    go true at =
        let s = sheet_of ports groups in
        let home = home_of (long_bays groups) a.bay in
        let same : home ≡ home_of (long_bays groups) b.bay = same_home (drawn_bays groups) home (home_of (long_bays groups) b.bay) (home_drawn groups a d) (home_drawn groups b e) (eqb-true (bay_place s a) (bay_place s b) at) in
        let q : IsHome home b.bay = subst (λ (n : ℕ). IsHome n b.bay) (sym same) (home_is (long_bays groups) b.bay) in
        subst (λ (n : ℕ). AreDisjoint (box_of (cell_at s home a)) (box_of (cell_at s n b))) same (in_one_bay s home a b (frame_holds groups a d.1) (frame_holds groups b e.1) (home_is (long_bays groups) a.bay) q far)
    go false at =
        let s = sheet_of ports groups in
        held_apart (bay_frame s (bay_place s a)) (bay_frame s (bay_place s b)) (cell_box s a) (cell_box s b) (lies_in_bay ports groups a d).1 (lies_in_bay ports groups b e).1 (bays_apart s (bay_place s a) (bay_place s b) (grind (arith, nat_tests)))
