-- The sum of a number.
use Rattle.std.proofs.Common.{◌≡◌, ℕ, ◌<◌, ◌≤◌, ◌+◌, ◌-◌, ◌*◌, ◌/◌, ◌%◌, ◌==◌, Bool, true, false, cond, length, refl, sym, ◌∙◌, ap, arith}
use Rattle.std.specs.Prelude.{nat_le}
use Rattle.std.proofs.lemmas.Nat.{div-mul-add, mod-mul-add, mul-add-lt}
use Rattle.std.proofs.Math.Nat.{mul_comm}
use Rattle.stow_data.specs.declared.geometry.Half.{Half}
use Rattle.zero_one_rows.specs.Variables.{Voyage}
use Rattle.row_sums.specs.declared.sums.Sum.{Sum}
use Rattle.row_sums.specs.declared.sums.Sum.TheVariants.{Put, Lifted, Start, Occupied, OccupiedByTwenty, OccupiedByClass, Staying, LiftedFrom, PutInto, Weight}
use Rattle.row_sums.specs.declared.numbering.Numbering.{Numbering}
use Rattle.row_sums.specs.Numbers.{family, call_of, item, half_item, number, numbers, IsNumbering, IsCell, IsThere, HasRoom, NumbersTellSums}

-- half-cells fit
pub half_low : (m : Voyage) (z : Numbering) (h : Half) → IsNumbering m z → IsCell m h → half_item z h < z.width
half_low m z h n c =
    let tiers = n.tiers h.stack in
    let low : h.tier < z.tiers = omega (arith, tiers, c.tier_in) in
    let cells = n.cells in
    let inside = inside_box h.stack (length m.ship.stacks) h.tier z.tiers c.stack_in low in
    side h.aft ((h.stack * z.tiers + h.tier)) (length m.ship.stacks * z.tiers) z.width inside cells
  where
    inside_box : (a s t w : ℕ) → a < s → t < w → a * w + t < s * w
    inside_box a s t w l k = let r = mul-add-lt a w t s l k in omega (arith, r, mul_comm w s)

    side : (b : Bool) (x y w : ℕ) → x < y → y * 2 ≤ w → x * 2 + cond b 1 0 < w
    side true x y w l k = omega (arith, l, k)
    side false x y w l k = omega (arith, l, k)

-- the half-cell of an item
abbrev half_at : Numbering → ℕ → Half
half_at z n = record { stack = (n / 2) / z.tiers; tier = (n / 2) % z.tiers; aft = (n % 2) == 1 }

half_back : (z : Numbering) (h : Half) → h.tier < z.tiers → half_at z (half_item z h) ≡ h
half_back z h l = go h.aft refl
  where
    go : (b : Bool) → h.aft ≡ b → half_at z ((h.stack * z.tiers + h.tier) * 2 + cond b 1 0) ≡ h
    go true e =
        let q : ((h.stack * z.tiers + h.tier) * 2 + 1) / 2 ≡ h.stack * z.tiers + h.tier = div-mul-add (h.stack * z.tiers + h.tier) 2 1 (omega arith) in
        let r : ((h.stack * z.tiers + h.tier) * 2 + 1) % 2 ≡ 1 = mod-mul-add (h.stack * z.tiers + h.tier) 2 1 (omega arith) in
        let s : (h.stack * z.tiers + h.tier) / z.tiers ≡ h.stack = div-mul-add h.stack z.tiers h.tier l in
        let t : (h.stack * z.tiers + h.tier) % z.tiers ≡ h.tier = mod-mul-add h.stack z.tiers h.tier l in
        ap (λ (n : ℕ). record { stack = n / z.tiers; tier = n % z.tiers; aft = (((h.stack * z.tiers + h.tier) * 2 + 1) % 2) == 1 }) q
        ∙ ap (λ (n : ℕ). record { stack = n; tier = (h.stack * z.tiers + h.tier) % z.tiers; aft = (((h.stack * z.tiers + h.tier) * 2 + 1) % 2) == 1 }) s
        ∙ ap (λ (n : ℕ). record { stack = h.stack; tier = n; aft = (((h.stack * z.tiers + h.tier) * 2 + 1) % 2) == 1 }) t
        ∙ ap (λ (n : ℕ). record { stack = h.stack; tier = h.tier; aft = n == 1 }) r
        ∙ ap (λ (b : Bool). record { stack = h.stack; tier = h.tier; aft = b }) (sym e)
    go false e =
        let q : ((h.stack * z.tiers + h.tier) * 2 + 0) / 2 ≡ h.stack * z.tiers + h.tier = div-mul-add (h.stack * z.tiers + h.tier) 2 0 (omega arith) in
        let r : ((h.stack * z.tiers + h.tier) * 2 + 0) % 2 ≡ 0 = mod-mul-add (h.stack * z.tiers + h.tier) 2 0 (omega arith) in
        let s : (h.stack * z.tiers + h.tier) / z.tiers ≡ h.stack = div-mul-add h.stack z.tiers h.tier l in
        let t : (h.stack * z.tiers + h.tier) % z.tiers ≡ h.tier = mod-mul-add h.stack z.tiers h.tier l in
        ap (λ (n : ℕ). record { stack = n / z.tiers; tier = n % z.tiers; aft = (((h.stack * z.tiers + h.tier) * 2 + 0) % 2) == 1 }) q
        ∙ ap (λ (n : ℕ). record { stack = n; tier = (h.stack * z.tiers + h.tier) % z.tiers; aft = (((h.stack * z.tiers + h.tier) * 2 + 0) % 2) == 1 }) s
        ∙ ap (λ (n : ℕ). record { stack = h.stack; tier = n; aft = (((h.stack * z.tiers + h.tier) * 2 + 0) % 2) == 1 }) t
        ∙ ap (λ (n : ℕ). record { stack = h.stack; tier = h.tier; aft = n == 1 }) r
        ∙ ap (λ (b : Bool). record { stack = h.stack; tier = h.tier; aft = b }) (sym e)

-- the sum of a family, a call and an item
abbrev first_nine : Numbering → ℕ → ℕ → ℕ → Sum
first_nine z f i n = (cond (f == 0) (Put i n) (cond (f == 1) (Lifted i n) (cond (f == 2) (Start n) (cond (f == 3) (Occupied i (half_at z n)) (cond (f == 4) (OccupiedByTwenty i (half_at z n)) (cond (f == 5) (Staying i (half_at z n)) (cond (f == 6) (LiftedFrom i (half_at z n)) (cond (f == 7) (PutInto i (half_at z n)) (Weight i n)))))))))

abbrev sum_at : Numbering → ℕ → ℕ → ℕ → Sum
sum_at z f i n = cond (nat_le 9 f) (OccupiedByClass i n (f - 9)) (first_nine z f i n)

tier_low : (m : Voyage) (z : Numbering) (h : Half) → IsNumbering m z → IsCell m h → h.tier < z.tiers
tier_low m z h n c = let tiers = n.tiers h.stack in omega (arith, tiers, c.tier_in)

sum_back : (m : Voyage) (z : Numbering) (s : Sum) → IsNumbering m z → IsThere m s → sum_at z (family s) (call_of s) (item z s) ≡ s
sum_back m z (Put i g) n t = refl
sum_back m z (Lifted i g) n t = refl
sum_back m z (Start p) n t = refl
sum_back m z (Occupied i h) n t = ap (Occupied i) (half_back z h (tier_low m z h n t.item_in))
sum_back m z (OccupiedByTwenty i h) n t = ap (OccupiedByTwenty i) (half_back z h (tier_low m z h n t.item_in))
sum_back m z (Staying i h) n t = ap (Staying i) (half_back z h (tier_low m z h n t.item_in))
sum_back m z (LiftedFrom i h) n t = ap (LiftedFrom i) (half_back z h (tier_low m z h n t.item_in))
sum_back m z (PutInto i h) n t = ap (PutInto i) (half_back z h (tier_low m z h n t.item_in))
sum_back m z (Weight i k) n t = refl
sum_back m z (OccupiedByClass i p c) n t =
    let le : nat_le 9 (9 + c) ≡ true = grind arith in
    let less : (9 + c) - 9 ≡ c = omega arith in
    ap (λ (b : Bool). cond b (OccupiedByClass i p ((9 + c) - 9)) (first_nine z (9 + c) i p)) le ∙ ap (OccupiedByClass i p) less

-- an item fits
pub item_low : (m : Voyage) (z : Numbering) (s : Sum) → IsNumbering m z → IsThere m s → item z s < z.width
item_low m z (Put i g) n t = let k = n.kinds in let l = t.item_in in omega (arith, k, l)
item_low m z (Lifted i g) n t = let k = n.kinds in let l = t.item_in in omega (arith, k, l)
item_low m z (Start p) n t = let k = n.places in let l = t.item_in in omega (arith, k, l)
item_low m z (Occupied i h) n t = half_low m z h n t.item_in
item_low m z (OccupiedByTwenty i h) n t = half_low m z h n t.item_in
item_low m z (Staying i h) n t = half_low m z h n t.item_in
item_low m z (LiftedFrom i h) n t = half_low m z h n t.item_in
item_low m z (PutInto i h) n t = half_low m z h n t.item_in
item_low m z (Weight i k) n t = let w = n.stacks in let l = t.item_in in omega (arith, w, l)
item_low m z (OccupiedByClass i p c) n t = let k = n.places in let l = t.item_in.0 in omega (arith, k, l)

-- a family fits
pub family_low : (m : Voyage) (z : Numbering) (s : Sum) → IsNumbering m z → IsThere m s → family s < z.families
family_low m z (Put i g) n t = let f = n.families in omega (arith, f)
family_low m z (Lifted i g) n t = let f = n.families in omega (arith, f)
family_low m z (Start p) n t = let f = n.families in omega (arith, f)
family_low m z (Occupied i h) n t = let f = n.families in omega (arith, f)
family_low m z (OccupiedByTwenty i h) n t = let f = n.families in omega (arith, f)
family_low m z (Staying i h) n t = let f = n.families in omega (arith, f)
family_low m z (LiftedFrom i h) n t = let f = n.families in omega (arith, f)
family_low m z (PutInto i h) n t = let f = n.families in omega (arith, f)
family_low m z (Weight i k) n t = let f = n.families in omega (arith, f)
family_low m z (OccupiedByClass i p c) n t = let f = n.families in let l = t.item_in.1.low in omega (arith, f, l)

pub call_low : (m : Voyage) (z : Numbering) (s : Sum) → IsNumbering m z → IsThere m s → call_of s < z.calls
call_low m z s n t = let c = n.calls in let l = t.call_in in omega (arith, c, l)

pub has_room : HasRoom
has_room m z s n t = record { family_low = family_low m z s n t; call_low = call_low m z s n t; item_low = item_low m z s n t }

pub number_low : (m : Voyage) (z : Numbering) (s : Sum) → IsNumbering m z → IsThere m s → number z s < numbers z
number_low m z s n t = mul-add-lt (family s * z.calls + call_of s) z.width (item z s) (z.calls * z.families) (mul-add-lt (family s) z.calls (call_of s) z.families (family_low m z s n t) (call_low m z s n t)) (item_low m z s n t)

same_digits : (c w f i n g j k : ℕ) → i < c → j < c → n < w → k < w → (f * c + i) * w + n ≡ (g * c + j) * w + k → (f ≡ g) × (i ≡ j) × (n ≡ k)
same_digits c w f i n g j k li lj ln lk e =
    let rest : n ≡ k = sym (mod-mul-add (f * c + i) w n ln) ∙ ap (λ (x : ℕ). x % w) e ∙ mod-mul-add (g * c + j) w k lk in
    let q : f * c + i ≡ g * c + j = sym (div-mul-add (f * c + i) w n ln) ∙ ap (λ (x : ℕ). x / w) e ∙ div-mul-add (g * c + j) w k lk in (
      sym (div-mul-add f c i li) ∙ ap (λ (x : ℕ). x / c) q ∙ div-mul-add g c j lj,
      sym (mod-mul-add f c i li) ∙ ap (λ (x : ℕ). x % c) q ∙ mod-mul-add g c j lj,
      rest,
    )

pub tell : NumbersTellSums
tell m z s t n a b e =
    let d = same_digits z.calls z.width (family s) (call_of s) (item z s) (family t) (call_of t) (item z t) (call_low m z s n a) (call_low m z t n b) (item_low m z s n a) (item_low m z t n b) e in
    sym (sum_back m z s n a)
    ∙ ap (λ (f : ℕ). sum_at z f (call_of s) (item z s)) d.0
    ∙ ap (λ (i : ℕ). sum_at z (family t) i (item z s)) d.1
    ∙ ap (λ (k : ℕ). sum_at z (family t) (call_of t) k) d.2
    ∙ sum_back m z t n b
