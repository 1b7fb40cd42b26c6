-- Digits and the numbers that they spell.
use Rattle.std.proofs.Common.{◌≡◌, ℕ, ◌+◌, ◌*◌, ◌/◌, ◌%◌, ◌≤◌, arith, refl, ap, cond, Bool, true, false, ◌&&◌, List, [], ◌∷◌, length, Option, Some, None}
use Rattle.std.proofs.lemmas.Bool.Decides.{nat_tests}
use Rattle.stow_data.specs.Digits.{digit_of, is_digit}
use Rattle.baplie.specs.Texts.{is_cell, cell_of}

none≢some : {A : Type 0} {x : A} → None ≡ Some x → ⊥
none≢some e = cc

some-same : {A : Type 0} {x y : A} → Some x ≡ Some y → x ≡ y
some-same e = cc

-- a digit is the byte 48 and its number
digit_is : (b : ℕ) → is_digit b ≡ true → b ≡ 48 + digit_of b
digit_is b h = grind (arith, nat_tests)

digit_small : (b : ℕ) → digit_of b ≤ 9
digit_small b = omega arith

both : (p q : Bool) → (p && q) ≡ true → (p ≡ true) × (q ≡ true)
both true q h = (refl, h)
both false q h = cc

abbrev pub two_digits : ℕ → ℕ → ℕ
two_digits a b = (0 * 10 + digit_of a) * 10 + digit_of b

abbrev pub three_digits : ℕ → ℕ → ℕ → ℕ
three_digits a b c = two_digits a b * 10 + digit_of c

two-only : (a b n : ℕ) → is_digit a ≡ true → is_digit b ≡ true → two_digits a b ≡ n → (a ≡ 48 + n / 10 % 10) × (b ≡ 48 + n % 10)
two-only a b n ha hb e = (omega (arith, digit_is a ha, digit_is b hb, digit_small a, digit_small b), omega (arith, digit_is a ha, digit_is b hb, digit_small a, digit_small b))

three-only : (a b c n : ℕ) → is_digit a ≡ true → is_digit b ≡ true → is_digit c ≡ true → three_digits a b c ≡ n → (a ≡ 48 + n / 100 % 10) × (b ≡ 48 + n / 10 % 10) × (c ≡ 48 + n % 10)
three-only a b c n ha hb hc e = (omega (arith, digit_is a ha, digit_is b hb, digit_is c hc, digit_small a, digit_small b, digit_small c), omega (arith, digit_is a ha, digit_is b hb, digit_is c hc, digit_small a, digit_small b, digit_small c), omega (arith, digit_is a ha, digit_is b hb, digit_is c hc, digit_small a, digit_small b, digit_small c))

-- the seven digits of a cell
abbrev pub digits_of : ℕ → ℕ → ℕ → List ℕ
digits_of bay row tier = (48 + bay / 100 % 10) ∷ (48 + bay / 10 % 10) ∷ (48 + bay % 10) ∷ (48 + row / 10 % 10) ∷ (48 + row % 10) ∷ (48 + tier / 10 % 10) ∷ (48 + tier % 10) ∷ []

seven : (a b c d e f g bay row tier : ℕ) (t : Bool) → (is_digit a && (is_digit b && (is_digit c && (is_digit d && (is_digit e && (is_digit f && (is_digit g && true))))))) ≡ t
    → cond {A = Option (ℕ × ℕ × ℕ)} t (Some (three_digits a b c, two_digits d e, two_digits f g)) None ≡ Some (bay, row, tier) → a ∷ b ∷ c ∷ d ∷ e ∷ f ∷ g ∷ [] ≡ digits_of bay row tier
seven a b c d e f g bay row tier false h q = absurd (none≢some q)
seven a b c d e f g bay row tier true h q =
    let same : ◌≡◌ {A = ℕ × ℕ × ℕ} (three_digits a b c, two_digits d e, two_digits f g) (bay, row, tier) = some-same q in
    let ra = both (is_digit a) (is_digit b && (is_digit c && (is_digit d && (is_digit e && (is_digit f && (is_digit g && true)))))) h in
    let rb = both (is_digit b) (is_digit c && (is_digit d && (is_digit e && (is_digit f && (is_digit g && true))))) ra.1 in
    let rc = both (is_digit c) (is_digit d && (is_digit e && (is_digit f && (is_digit g && true)))) rb.1 in
    let rd = both (is_digit d) (is_digit e && (is_digit f && (is_digit g && true))) rc.1 in
    let re = both (is_digit e) (is_digit f && (is_digit g && true)) rd.1 in
    let rf = both (is_digit f) (is_digit g && true) re.1 in
    let rg = both (is_digit g) true rf.1 in
    let bays = three-only a b c bay ra.0 rb.0 rc.0 (ap (λ (p : ℕ × ℕ × ℕ). p.0) same) in
    let rows = two-only d e row rd.0 re.0 (ap (λ (p : ℕ × ℕ × ℕ). p.1) same) in
    let tiers = two-only f g tier rf.0 rg.0 (ap (λ (p : ℕ × ℕ × ℕ). p.2) same) in
    rw (← bays.0, ← bays.1, ← bays.2, ← rows.0, ← rows.1, ← tiers.0, ← tiers.1) refl

-- a text of seven digits is the only one of its cell
pub cell-only : (text : List ℕ) (bay row tier : ℕ) → length text ≡ 7 → cell_of text ≡ Some (bay, row, tier) → text ≡ digits_of bay row tier
cell-only [] bay row tier h q = absurd (omega (arith, h))
cell-only (a ∷ []) bay row tier h q = absurd (omega (arith, h))
cell-only (a ∷ b ∷ []) bay row tier h q = absurd (omega (arith, h))
cell-only (a ∷ b ∷ c ∷ []) bay row tier h q = absurd (omega (arith, h))
cell-only (a ∷ b ∷ c ∷ d ∷ []) bay row tier h q = absurd (omega (arith, h))
cell-only (a ∷ b ∷ c ∷ d ∷ e ∷ []) bay row tier h q = absurd (omega (arith, h))
cell-only (a ∷ b ∷ c ∷ d ∷ e ∷ f ∷ []) bay row tier h q = absurd (omega (arith, h))
cell-only (a ∷ b ∷ c ∷ d ∷ e ∷ f ∷ g ∷ []) bay row tier h q = seven a b c d e f g bay row tier (is_cell (a ∷ b ∷ c ∷ d ∷ e ∷ f ∷ g ∷ [])) refl q
cell-only (a ∷ b ∷ c ∷ d ∷ e ∷ f ∷ g ∷ k ∷ more) bay row tier h q = absurd (omega (arith, h))
