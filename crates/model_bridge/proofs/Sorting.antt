-- Two lists with as many of each kind, both by rising kind, are matched place by place.
use Rattle.std.proofs.Common.{◌≡◌, ℕ, ◌≤◌, List, [], ◌∷◌, pos, ◌≤ℤ◌, arith, refl, ap, inl, inr}
use Rattle.std.specs.Prelude.{◌==◌}
use Rattle.std.specs.List.{zip}
use Rattle.std.proofs.lemmas.Bool.{eq-eqb}
use borrow.Author.Differences.{ints}
use Rattle.stow_data.proofs.Members.{Member}
use Rattle.stow_data.proofs.Distinct.{Each, each_at}
use Rattle.zero_one_rows.specs.Rows.{bit}
use Rattle.model_bridge.proofs.Match.{many, IsMatched}
use Rattle.model_bridge.proofs.Members.{often_low, member_often}

-- by rising key
abbrev pub Rising : (ℕ → ℕ) → List ℕ → Type 0
Rising k [] = Unit {0}
Rising k (x ∷ xs) = Each (λ y. k x ≤ k y) xs × Rising k xs

own_kind : (k : ℕ → ℕ) (x : ℕ) → bit (k x == k x) ≡ pos 1
own_kind k x = ap bit (eq-eqb (k x) (k x) refl)

-- the first key is at most each key that stands
first_low : (k : ℕ → ℕ) (x : ℕ) (xs : List ℕ) (g : ℕ) → Rising k (x ∷ xs) → pos 1 ≤ℤ many k g (x ∷ xs) → k x ≤ g
first_low k x xs g up h = at (member_often k g (x ∷ xs) h)
  where
    at : (y : ℕ) × Member y (x ∷ xs) × (k y ≡ g) → k x ≤ g
    at (y, inl e, s) = let a : k y ≡ k x = ap k e in omega (arith, a, s)
    at (y, inr n, s) = let a : k x ≤ k y = each_at (λ z. k x ≤ k z) xs y up.0 n in omega (arith, a, s)

pub zip_matched : (ka kb : ℕ → ℕ) (P Q : ℕ → Type 0) (xa xb : List ℕ) → Each P xa → Each Q xb → Rising ka xa → Rising kb xb → ((g : ℕ) → many ka g xa ≡ many kb g xb)
    → (m : IsMatched ka kb P Q xa xb) × (m.pairs ≡ zip xa xb)
zip_matched ka kb P Q [] [] p q ua ub h = (record { pairs = []; firsts = λ w. refl; seconds = λ w. refl; each = tt }, refl)
zip_matched ka kb P Q [] (b ∷ xb) p q ua ub h = absurd (omega (arith, ints, h (kb b), own_kind kb b, often_low kb (kb b) xb))
zip_matched ka kb P Q (a ∷ xa) [] p q ua ub h = absurd (omega (arith, ints, h (ka a), own_kind ka a, often_low ka (ka a) xa))
zip_matched ka kb P Q (a ∷ xa) (b ∷ xb) p q ua ub h =
    let low : kb b ≤ ka a = first_low kb b xb (ka a) ub (omega (arith, ints, h (ka a), own_kind ka a, often_low ka (ka a) xa)) in
    let high : ka a ≤ kb b = first_low ka a xa (kb b) ua (omega (arith, ints, h (kb b), own_kind kb b, often_low kb (kb b) xb)) in
    let same : ka a ≡ kb b = omega (arith, low, high) in
    let r = zip_matched ka kb P Q xa xb p.1 q.1 ua.1 ub.1 (λ g. omega (arith, ints, h g, ap (λ (z : ℕ). bit (z == g)) same)) in
    let m = r.0 in (
      record {
        pairs = (a, b) ∷ m.pairs;
        firsts = λ w. omega (arith, ints, m.firsts w);
        seconds = λ w. omega (arith, ints, m.seconds w);
        each = ((p.0, q.0, same), m.each);
      },
      ap (λ (es : List (ℕ × ℕ)). (a, b) ∷ es) r.1,
    )
