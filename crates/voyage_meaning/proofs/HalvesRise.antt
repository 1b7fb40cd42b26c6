-- The half-cells rise by stack, then tier, then fore before aft.
use Rattle.std.specs.Prelude.{◌≡◌, ◌⊎◌, ℕ, ◌+◌, ◌*◌, ◌<◌, ◌≤◌, zero, suc, Bool, true, false, cond, List, [], ◌∷◌, ◌++◌, length, Some, slice_get, flat_map, map}
use Rattle.std.specs.List.{enumerate_from, range_with_len}
use Rattle.std.proofs.Common.{arith, sym, ◌∙◌, ap, subst, inl, inr, ⊎_elim}
use Rattle.std.proofs.lemmas.Bool.{cases_order}
use Rattle.std.proofs.lemmas.Option.{none-some, same_Some, slice_get_within}
use Rattle.stow_data.specs.declared.geometry.Stack.{Stack}
use Rattle.stow_data.specs.declared.geometry.Half.{Half}
use Rattle.stow_data.specs.declared.geometry.Lengths.{Lengths}
use Rattle.stow_data.specs.declared.geometry.Lengths.TheVariants.{Forty, Twenty, Mixed, ForeOnly, AftOnly}
use Rattle.stow_data.specs.Ship.{Ship, halves, sides, stack_halves, tier_halves}
use Rattle.stow_data.proofs.Members.{map_at, member_of}
use Rattle.stow_data.proofs.InOrder.{split_get}
use Rattle.stowage_rules.proofs.Items.{slice_get_in}
use Rattle.voyage_meaning.specs.Numbering.{level, IsSooner, IsFirstFrom}

-- one half-cell comes before the other by stack, then by level
record IsEarlier (p q : Half) : Type 0 where
  pub stacks : p.stack ≤ q.stack
  pub levels : p.stack ≡ q.stack → level p < level q

abbrev Rises : List Half → Type 0
Rises xs = (i j : ℕ) (x y : Half) → i < j → slice_get xs i ≡ Some x → slice_get xs j ≡ Some y → IsEarlier x y

rises_append : (xs ys : List Half) → Rises xs → Rises ys → ((i j : ℕ) (x y : Half) → slice_get xs i ≡ Some x → slice_get ys j ≡ Some y → IsEarlier x y) → Rises (xs ++ ys)
rises_append xs ys a b across i j x y l h k = ⊎_elim
    (λ (u : (i < length xs) × (slice_get xs i ≡ Some x)). ⊎_elim
    (λ (v : (j < length xs) × (slice_get xs j ≡ Some y)). a i j x y l u.1 v.1)
    (λ (v : (m : ℕ) × (j ≡ length xs + m) × (slice_get ys m ≡ Some y)). across i v.0 x y u.1 v.2)
    (split_get xs ys j y k))
    (λ (u : (m : ℕ) × (i ≡ length xs + m) × (slice_get ys m ≡ Some x)). ⊎_elim
    (λ (v : (j < length xs) × (slice_get xs j ≡ Some y)). absurd (omega (arith, u.1, v.0)))
    (λ (v : (m : ℕ) × (j ≡ length xs + m) × (slice_get ys m ≡ Some y)). b u.0 v.0 x y (omega (arith, u.1, v.1)) u.2 v.2)
    (split_get xs ys j y k))
    (split_get xs ys i x h)

-- the bit of a side
bit_small : (b : Bool) → cond b 1 0 ≤ 1
bit_small true = omega arith
bit_small false = omega arith

tier_is : (s : ℕ × Stack) (t k : ℕ) (h : Half) → slice_get (tier_halves s.0 s.1 t) k ≡ Some h → (h.stack ≡ s.0) × (h.tier ≡ t)
tier_is s t k h e =
    let c = map_at (λ (side : Bool). record { stack = s.0; tier = t; aft = side }) (sides s.1.lengths) h (member_of (tier_halves s.0 s.1 t) k h e) in
    (ap (λ (z : Half). z.stack) c.2, ap (λ (z : Half). z.tier) c.2)

one : (x : Half) → Rises (x ∷ [])
one x zero zero a b l h k = absurd (omega arith)
one x zero (suc j) a b l h k = absurd (none-some b k)
one x (suc i) j a b l h k = absurd (none-some a h)

two : (s t : ℕ) → Rises (record { stack = s; tier = t; aft = false } ∷ record { stack = s; tier = t; aft = true } ∷ [])
two s t = rises_append (record { stack = s; tier = t; aft = false } ∷ []) (record { stack = s; tier = t; aft = true } ∷ []) (one _) (one _) across
  where
    across : (i j : ℕ) (x y : Half) → slice_get (record { stack = s; tier = t; aft = false } ∷ []) i ≡ Some x → slice_get (record { stack = s; tier = t; aft = true } ∷ []) j ≡ Some y → IsEarlier x y
    across zero zero x y h k =
        let a : record { stack = s; tier = t; aft = false } ≡ x = same_Some (record { stack = s; tier = t; aft = false }) x h in
        let b : record { stack = s; tier = t; aft = true } ≡ y = same_Some (record { stack = s; tier = t; aft = true }) y k in
        let sx : s ≡ x.stack = ap (λ (z : Half). z.stack) a in
        let sy : s ≡ y.stack = ap (λ (z : Half). z.stack) b in
        let lx : 2 * t + 0 ≡ level x = ap level a in
        let ly : 2 * t + 1 ≡ level y = ap level b in
        record { stacks = omega (arith, sx, sy); levels = λ e. omega (arith, lx, ly) }
    across zero (suc j) x y h k = absurd (none-some y k)
    across (suc i) j x y h k = absurd (none-some x h)

tier_rises : (l : Lengths) (s t : ℕ) → Rises (map (λ (side : Bool). record { stack = s; tier = t; aft = side }) (sides l))
tier_rises Forty s t = two s t
tier_rises Twenty s t = two s t
tier_rises Mixed s t = two s t
tier_rises ForeOnly s t = one _
tier_rises AftOnly s t = one _

tiers_are : (s : ℕ × Stack) (a n k : ℕ) (h : Half) → slice_get (flat_map (tier_halves s.0 s.1) (range_with_len a n)) k ≡ Some h → (h.stack ≡ s.0) × (a ≤ h.tier)
tiers_are s a zero k h e = absurd (none-some h e)
tiers_are s a (suc n) k h e = ⊎_elim
    (λ (u : (k < length (tier_halves s.0 s.1 a)) × (slice_get (tier_halves s.0 s.1 a) k ≡ Some h)). let r = tier_is s a k h u.1 in (r.0, omega (arith, r.1)))
    (λ (u : (j : ℕ) × (k ≡ length (tier_halves s.0 s.1 a) + j) × (slice_get (flat_map (tier_halves s.0 s.1) (range_with_len (a + 1) n)) j ≡ Some h)). let r = tiers_are s (a + 1) n u.0 h u.2 in (r.0, omega (arith, r.1)))
    (split_get (tier_halves s.0 s.1 a) (flat_map (tier_halves s.0 s.1) (range_with_len (a + 1) n)) k h e)

tiers_rise : (s : ℕ × Stack) (a n : ℕ) → Rises (flat_map (tier_halves s.0 s.1) (range_with_len a n))
tiers_rise s a zero = λ i j x y l h k. absurd (none-some x h)
tiers_rise s a (suc n) = rises_append (tier_halves s.0 s.1 a) (flat_map (tier_halves s.0 s.1) (range_with_len (a + 1) n))
    (tier_rises s.1.lengths s.0 a)
    (tiers_rise s (a + 1) n)
    (λ i j x y h k.
    let u = tier_is s a i x h in
    let v = tiers_are s (a + 1) n j y k in
    let small = bit_small x.aft in
    record { stacks = omega (arith, u.0, v.0); levels = λ e. omega (arith, u.1, v.1, small) })

stacks_are : (m : ℕ) (xs : List Stack) (k : ℕ) (h : Half) → slice_get (flat_map stack_halves (enumerate_from m xs)) k ≡ Some h → m ≤ h.stack
stacks_are m [] k h e = absurd (none-some h e)
stacks_are m (x ∷ xs) k h e = ⊎_elim
    (λ (u : (k < length (stack_halves (m, x))) × (slice_get (stack_halves (m, x)) k ≡ Some h)). let r = tiers_are (m, x) 0 x.tiers k h u.1 in omega (arith, r.0))
    (λ (u : (j : ℕ) × (k ≡ length (stack_halves (m, x)) + j) × (slice_get (flat_map stack_halves (enumerate_from (m + 1) xs)) j ≡ Some h)). let r : m + 1 ≤ h.stack = stacks_are (m + 1) xs u.0 h u.2 in omega arith)
    (split_get (stack_halves (m, x)) (flat_map stack_halves (enumerate_from (m + 1) xs)) k h e)

stacks_rise : (m : ℕ) (xs : List Stack) → Rises (flat_map stack_halves (enumerate_from m xs))
stacks_rise m [] = λ i j x y l h k. absurd (none-some x h)
stacks_rise m (s ∷ xs) = rises_append (stack_halves (m, s)) (flat_map stack_halves (enumerate_from (m + 1) xs)) (tiers_rise (m, s) 0 s.tiers) (stacks_rise (m + 1) xs)
    (λ i j x y h k. let u = tiers_are (m, s) 0 s.tiers i x h in let v : m + 1 ≤ y.stack = stacks_are (m + 1) xs j y k in record { stacks = omega (arith, u.0); levels = λ e. absurd (omega (arith, u.0)) })

pub rising : (ship : Ship) (i j : ℕ) (x y : Half) → i < j → slice_get (halves ship) i ≡ Some x → slice_get (halves ship) j ≡ Some y → (x.stack ≤ y.stack) × (x.stack ≡ y.stack → level x < level y)
unfolding halves
rising ship i j x y l h k = let r = stacks_rise 0 ship.stacks i j x y l h k in (r.stacks, r.levels)

-- what is before a half-cell that is sooner is sooner too
pub sooner_too : (ship : Ship) (i j stack n : ℕ) (x y : Half) → i < j → slice_get (halves ship) i ≡ Some x → slice_get (halves ship) j ≡ Some y → IsSooner y stack n → IsSooner x stack n
sooner_too ship i j stack n x y l h k s =
    let r = rising ship i j x y l h k in ⊎_elim
    (λ (a : y.stack < stack). inl (omega (arith, r.0)))
    (λ (a : (y.stack ≡ stack) × (level y < n)). ⊎_elim
    (λ (e : x.stack ≡ y.stack). inr (e ∙ a.0, let low = r.1 e in omega (arith, low, a.1)))
    (λ (o : (x.stack < y.stack) ⊎ (y.stack < x.stack)). inl (⊎_elim (λ (u : x.stack < y.stack). omega (arith, a.0)) (λ (u : y.stack < x.stack). omega (arith, r.0)) o))
    (cases_order x.stack y.stack))
    s

-- up to a half-cell that is sooner all are
pub sooner_up_to : (ship : Ship) (m stack n : ℕ) (here : Half) → slice_get (halves ship) m ≡ Some here → IsSooner here stack n → (k : ℕ) (h : Half) → slice_get (halves ship) k ≡ Some h → k < m + 1 → IsSooner h stack n
sooner_up_to ship m stack n here is sooner k h at l = ⊎_elim
    (λ (e : k ≡ m). subst (λ (x : Half). IsSooner x stack n) (same_Some here h (sym is ∙ (ap (slice_get (halves ship)) (sym e) ∙ at))) sooner)
    (λ (o : (k < m) ⊎ (m < k)). sooner_too ship k m stack n h here (⊎_elim (λ (u : k < m). u) (λ (u : m < k). omega arith) o) at is sooner)
    (cases_order k m)

-- from one that isn't on none is
pub none_from : (ship : Ship) (m stack n : ℕ) (here : Half) → slice_get (halves ship) m ≡ Some here → (IsSooner here stack n → ⊥) → (k : ℕ) (h : Half) → slice_get (halves ship) k ≡ Some h → m ≤ k → IsSooner h stack n → ⊥
none_from ship m stack n here is not_sooner k h at l sooner = ⊎_elim
    (λ (e : k ≡ m). not_sooner (subst (λ (x : Half). IsSooner x stack n) (same_Some h here (sym at ∙ (ap (slice_get (halves ship)) e ∙ is))) sooner))
    (λ (o : (k < m) ⊎ (m < k)). not_sooner (sooner_too ship m k stack n here h (⊎_elim (λ (u : k < m). omega arith) (λ (u : m < k). u) o) is at sooner))
    (cases_order k m)

-- the numbers are split where both sides meet
pub first_at : (ship : Ship) (stack n low high : ℕ) → high ≤ low → low ≤ high → ((k : ℕ) (h : Half) → slice_get (halves ship) k ≡ Some h → k < low → IsSooner h stack n) → ((k : ℕ) (h : Half) → slice_get (halves ship) k ≡ Some h → high ≤ k → IsSooner h stack n → ⊥) → IsFirstFrom ship stack n low
first_at ship stack n low high a b before behind = λ k h at. (
  λ l. before k h at l,
  λ s. ⊎_elim (λ (u : k < low). u) (λ (u : low ≤ k). absurd (behind k h at (omega arith) s)) (split k low),
)
  where
    split : (k m : ℕ) → (k < m) ⊎ (m ≤ k)
    split k m = ⊎_elim (λ (e : k ≡ m). inr (omega arith)) (λ (o : (k < m) ⊎ (m < k)). ⊎_elim (λ (u : k < m). inl u) (λ (u : m < k). inr (omega arith)) o) (cases_order k m)

-- the first half-cell that isn't sooner than one is that one
pub is_number : (ship : Ship) (n k : ℕ) (half : Half) → IsFirstFrom ship half.stack (level half) n → slice_get (halves ship) k ≡ Some half → slice_get (halves ship) n ≡ Some half
is_number ship n k half first at = ⊎_elim
    (λ (e : n ≡ k). ap (slice_get (halves ship)) e ∙ at)
    (λ (o : (n < k) ⊎ (k < n)). ⊎_elim
    (λ (l : n < k). absurd (early l))
    (λ (l : k < n). absurd (self ((first k half at).0 l))) o)
    (cases_order n k)
  where
    self : IsSooner half half.stack (level half) → ⊥
    self s = ⊎_elim (λ (u : half.stack < half.stack). omega arith) (λ (u : (half.stack ≡ half.stack) × (level half < level half)). let no : level half < level half = u.1 in omega (arith, no)) s

    early : n < k → ⊥
    early l =
        let within : k < length (halves ship) = slice_get_within (halves ship) k half at in
        let in_list : n < length (halves ship) = omega arith in
        let g = slice_get_in (halves ship) n in_list in
        let r = rising ship n k g.0 half l g.1 at in
        let sooner : IsSooner g.0 half.stack (level half) = ⊎_elim
        (λ (e : g.0.stack ≡ half.stack). inr (e, r.1 e))
        (λ (o : (g.0.stack < half.stack) ⊎ (half.stack < g.0.stack)). ⊎_elim (λ (u : g.0.stack < half.stack). inl u) (λ (u : half.stack < g.0.stack). absurd (omega (arith, r.0))) o)
        (cases_order g.0.stack half.stack) in
        let no : n < n = (first n g.0 g.1).1 sooner in omega arith
