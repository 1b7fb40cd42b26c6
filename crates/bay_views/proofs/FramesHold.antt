-- The frame of a message holds each of its cells.
use Rattle.std.proofs.Common.{◌≡◌, ℕ, zero, suc, ◌+◌, ◌-◌, ◌*◌, ◌%◌, ◌<◌, ◌≤◌, ◌==◌, Bool, true, false, cond, List, [], ◌∷◌, length, refl, sym, subst, ◌∙◌, arith, inl, inr}
use Rattle.std.specs.Prelude.{◌≢◌, ◌⊎◌, fold, slice_index_or, Contains, min, max, nat_lt}
use Rattle.std.proofs.lemmas.Bool.{true≢false}
use Rattle.std.proofs.lemmas.Bool.Decides.{nat_tests}
use Rattle.baplie.specs.declared.parts.CellGroup.{CellGroup}
use Rattle.bay_views.specs.declared.frames.Frame.{Frame}
use Rattle.bay_views.specs.Frames.{side_of, is_deck, bare, with_row, with_group, frame_of, columns, column, top_of, hold_begin, bay_height}

-- it has a column for the row and stands around the tier
pub record HoldsCell (f : Frame) (g : CellGroup) : Type 0 where
  pub side : side_of g.row ≤ f.side
  pub middle : (g.row == 0) ≡ true → f.middle ≡ 1
  pub deck_low : is_deck g.tier ≡ true → f.deck_low ≤ g.tier
  pub deck_top : is_deck g.tier ≡ true → g.tier ≤ f.deck_top
  pub hold_low : is_deck g.tier ≡ false → f.hold_low ≤ g.tier
  pub hold_top : is_deck g.tier ≡ false → g.tier ≤ f.hold_top

abbrev tiered : Bool → Frame → ℕ → Frame
tiered d f tier =
    cond d (record f { deck_low = min f.deck_low (tier - tier % 2); deck_top = max f.deck_top (tier + tier % 2) }) (record f { hold_low = min f.hold_low (tier - tier % 2); hold_top = max f.hold_top (tier + tier % 2) })

no_both : (d : Bool) → d ≡ true → d ≡ false → ⊥
no_both d t f = true≢false (sym t ∙ f)

middle_kept : (t : Bool) (m : ℕ) → m ≡ 1 → cond t 1 m ≡ 1
middle_kept true m e = refl
middle_kept false m e = e

held_in : (d : Bool) (f : Frame) (g : CellGroup) → is_deck g.tier ≡ d → HoldsCell (tiered d (with_row f g.row) g.tier) g
held_in true f g e = record {
  side = omega arith;
  middle = λ r. rw r refl;
  deck_low = λ t. omega arith;
  deck_top = λ t. omega arith;
  hold_low = λ h. absurd (no_both (is_deck g.tier) e h);
  hold_top = λ h. absurd (no_both (is_deck g.tier) e h);
}
held_in false f g e = record {
  side = omega arith;
  middle = λ r. rw r refl;
  deck_low = λ t. absurd (no_both (is_deck g.tier) t e);
  deck_top = λ t. absurd (no_both (is_deck g.tier) t e);
  hold_low = λ h. omega arith;
  hold_top = λ h. omega arith;
}

kept_in : (d : Bool) (f : Frame) (g h : CellGroup) → HoldsCell f h → HoldsCell (tiered d (with_row f g.row) g.tier) h
kept_in true f g h k = record {
  side = let s = k.side in omega arith;
  middle = λ r. middle_kept (g.row == 0) f.middle (k.middle r);
  deck_low = λ t. let s = k.deck_low t in omega arith;
  deck_top = λ t. let s = k.deck_top t in omega arith;
  hold_low = k.hold_low;
  hold_top = k.hold_top;
}
kept_in false f g h k = record {
  side = let s = k.side in omega arith;
  middle = λ r. middle_kept (g.row == 0) f.middle (k.middle r);
  deck_low = k.deck_low;
  deck_top = k.deck_top;
  hold_low = λ t. let s = k.hold_low t in omega arith;
  hold_top = λ t. let s = k.hold_top t in omega arith;
}

fold_keeps : (gs : List CellGroup) (f : Frame) (h : CellGroup) → HoldsCell f h → HoldsCell (fold with_group f gs) h
fold_keeps [] f h k = k
fold_keeps (g ∷ gs) f h k = fold_keeps gs (with_group f g) h (kept_in (is_deck g.tier) f g h k)

fold_holds : (gs : List CellGroup) (f : Frame) (n : ℕ) (h : CellGroup) → n < length gs → slice_index_or gs n h ≡ h → HoldsCell (fold with_group f gs) h
fold_holds [] f n h lt at = absurd (omega arith)
fold_holds (g ∷ gs) f zero h lt at = subst (λ x. HoldsCell (fold with_group f (g ∷ gs)) x) at (fold_keeps gs (with_group f g) g (held_in (is_deck g.tier) f g refl))
fold_holds (g ∷ gs) f (suc n) h lt at = fold_holds gs (with_group f g) n h (omega arith) at

pub frame_holds : (groups : List CellGroup) (g : CellGroup) → Contains groups g → HoldsCell (frame_of groups) g
frame_holds groups g c = fold_holds groups bare c.0 g c.1 c.2

-- ## Columns

abbrev column_by : Bool → Frame → ℕ → ℕ
column_by t f row = cond t (f.side - side_of row) (f.side + f.middle + side_of row - 1)

below_by : (t : Bool) (f : Frame) (row : ℕ) → (row % 2 == 0) ≡ t → side_of row ≤ f.side → ((row == 0) ≡ true → f.middle ≡ 1) → column_by t f row < columns f
below_by true f zero e s z = let m = z refl in omega arith
below_by true f (suc n) e s z = grind (arith, nat_tests)
below_by false f row e s z = grind (arith, nat_tests)

pub column_below : (f : Frame) (g : CellGroup) → HoldsCell f g → column f g.row < columns f
column_below f g k = below_by (g.row % 2 == 0) f g.row refl k.side k.middle

even_odd : (f : Frame) (r q : ℕ) → (r % 2 == 0) ≡ true → (q % 2 == 0) ≡ false → side_of r ≤ f.side → ((r == 0) ≡ true → f.middle ≡ 1) → column_by true f r < column_by false f q
even_odd f zero q e o s z = let m = z refl in grind (arith, nat_tests)
even_odd f (suc n) q e o s z = grind (arith, nat_tests)

differ_by : (t u : Bool) (f : Frame) (a b : CellGroup) → (a.row % 2 == 0) ≡ t → (b.row % 2 == 0) ≡ u → HoldsCell f a → HoldsCell f b → a.row ≢ b.row → column_by t f a.row ≢ column_by u f b.row
differ_by true true f a b e o k l ne = let s = k.side in let t = l.side in λ same. ne (grind (arith, nat_tests))
differ_by false false f a b e o k l ne = λ same. ne (grind (arith, nat_tests))
differ_by true false f a b e o k l ne = λ same. let lt = even_odd f a.row b.row e o k.side k.middle in absurd (omega arith)
differ_by false true f a b e o k l ne = λ same. let lt = even_odd f b.row a.row o e l.side l.middle in absurd (omega arith)

pub either : (m n : ℕ) → m ≢ n → (m < n) ⊎ (n < m)
either m n ne = go (nat_lt m n) refl
  where
    go : (t : Bool) → nat_lt m n ≡ t → (m < n) ⊎ (n < m)
    go true e = inl (grind (arith, nat_tests))
    go false e = inr (grind (arith, nat_tests))

pub columns_differ : (f : Frame) (a b : CellGroup) → HoldsCell f a → HoldsCell f b → a.row ≢ b.row → (column f a.row < column f b.row) ⊎ (column f b.row < column f a.row)
columns_differ f a b k l ne = either (column f a.row) (column f b.row) (differ_by (a.row % 2 == 0) (b.row % 2 == 0) f a b refl refl k l ne)

-- ## Tiers

abbrev top_by : Bool → Frame → ℕ → ℕ
top_by d f tier = cond d (54 + 12 * (f.deck_top - tier)) (hold_begin f + 12 * (f.hold_top - tier))

bottom_by : (d : Bool) (f : Frame) (g : CellGroup) → is_deck g.tier ≡ d → HoldsCell f g → top_by d f g.tier + 24 ≤ bay_height f
bottom_by true f g e k = let l = k.deck_low e in let h = k.deck_top e in omega arith
bottom_by false f g e k = let l = k.hold_low e in let h = k.hold_top e in omega arith

pub bottom_within : (f : Frame) (g : CellGroup) → HoldsCell f g → top_of f g.tier + 24 ≤ bay_height f
bottom_within f g k = bottom_by (is_deck g.tier) f g refl k

above_by : (d e : Bool) (f : Frame) (a b : CellGroup) → is_deck a.tier ≡ d → is_deck b.tier ≡ e → HoldsCell f a → HoldsCell f b → a.tier + 2 ≤ b.tier → top_by e f b.tier + 24 ≤ top_by d f a.tier
above_by true true f a b p q k l le = let h = l.deck_top q in omega arith
above_by true false f a b p q k l le = grind (arith, nat_tests)
above_by false true f a b p q k l le = let w = l.deck_low q in let h = l.deck_top q in omega arith
above_by false false f a b p q k l le = let h = l.hold_top q in omega arith

pub stands_above : (f : Frame) (a b : CellGroup) → HoldsCell f a → HoldsCell f b → a.tier + 2 ≤ b.tier → top_of f b.tier + 24 ≤ top_of f a.tier
stands_above f a b k l le = above_by (is_deck a.tier) (is_deck b.tier) f a b refl refl k l le
