-- How many variables are free falls with each row that forces one.
use Rattle.std.proofs.Common.{◌≡◌, ◌≢◌, ℕ, zero, suc, ◌+◌, ◌<◌, ◌≤◌, ◌⊎◌, inl, inr, Bool, true, false, cond, List, [], ◌∷◌, Option, Some, None, length, length-append, map, get_or, arith, refl, sym, ◌∙◌, ap}
use Rattle.std.specs.List.{range_with_len}
use Rattle.std.specs.Option.{is_some}
use Rattle.std.proofs.Math.Nat.{lt_of_not-le}
use Rattle.std.proofs.lemmas.List.FromFn.{length-map-range_with_len, get_or-map-range_with_len}
use Rattle.proof_trees.specs.Program.{Program}
use Rattle.proof_trees.specs.Boxes.{Box, at, forced, forced_to, violated, tight, tight_at, tightened}
use Rattle.zero_one_rows.specs.declared.program.Row.{Row}
use Rattle.zero_one_rows.specs.Variables.{Voyage, variables}
use Rattle.zero_one_rows.specs.Rows.{whole}
use Rattle.partial_plan.specs.Fixing.{free_in}
use Rattle.zero_one_rows.specs.Tightening.{ForceAll}
use Rattle.partial_plan.specs.Tightening.{Tightens}

-- what is fixed in the first box stays in the second
abbrev pub Stays : Box → Box → Type 0
Stays b c = (v : ℕ) → is_some (at b v) ≡ true → at c v ≡ at b v

rest_stays : (o p : Option Bool) (b c : Box) → Stays (o ∷ b) (p ∷ c) → Stays b c
rest_stays o p b c h v = h (suc v)

pub stays_less : (b c : Box) → length b ≡ length c → Stays b c → free_in c ≤ free_in b
stays_less [] [] len h = omega arith
stays_less [] (p ∷ c) len h = absurd (omega arith)
stays_less (o ∷ b) [] len h = absurd (omega arith)
stays_less (None ∷ b) (None ∷ c) len h = omega (arith, stays_less b c (omega arith) (rest_stays None None b c h))
stays_less (None ∷ b) (Some y ∷ c) len h = omega (arith, stays_less b c (omega arith) (rest_stays None (Some y) b c h))
stays_less (Some x ∷ b) (None ∷ c) len h = let e : None ≡ Some x = h 0 refl in cc
stays_less (Some x ∷ b) (Some y ∷ c) len h = stays_less b c (omega arith) (rest_stays (Some x) (Some y) b c h)

pub stays_same : (b c : Box) → length b ≡ length c → Stays b c → free_in b ≤ free_in c → c ≡ b
stays_same [] [] len h le = refl
stays_same [] (p ∷ c) len h le = absurd (omega arith)
stays_same (o ∷ b) [] len h le = absurd (omega arith)
stays_same (None ∷ b) (None ∷ c) len h le = ap (λ (x : Box). None ∷ x) (stays_same b c (omega arith) (rest_stays None None b c h) (omega arith))
stays_same (None ∷ b) (Some y ∷ c) len h le = absurd (omega (arith, stays_less b c (omega arith) (rest_stays None (Some y) b c h)))
stays_same (Some x ∷ b) (None ∷ c) len h le = let e : None ≡ Some x = h 0 refl in cc
stays_same (Some x ∷ b) (Some y ∷ c) len h le =
    let e : Some y ≡ Some x = h 0 refl in
    let k : c ≡ b = stays_same b c (omega arith) (rest_stays (Some x) (Some y) b c h) (omega arith) in
    cc

pub stays_falls : (b c : Box) → length b ≡ length c → Stays b c → c ≢ b → free_in c < free_in b
stays_falls b c len h other = lt_of_not-le (λ le. other (stays_same b c len h le))

lt_or_le : (a b : ℕ) → (a < b) ⊎ (b ≤ a)
lt_or_le a zero = inr (omega arith)
lt_or_le zero (suc b) = inl (omega arith)
lt_or_le (suc a) (suc b) = elim (lt_or_le a b) [ inl h ↦ inl (omega arith) | inr h ↦ inr (omega arith) ]

module _ {R : Type 0} (p : Program R) where
  some_forced : (o : Option Bool) (x y : Bool) → is_some o ≡ true → forced_to o x y ≡ o
  some_forced (Some z) x y e = refl
  some_forced None x y e = absurd (grind arith)

  past_end : {X : Type 0} (xs : List X) (v : ℕ) (d : X) → length xs ≤ v → get_or xs v d ≡ d
  past_end [] v d le = refl
  past_end (x ∷ xs) zero d le = absurd (omega arith)
  past_end (x ∷ xs) (suc v) d le = past_end xs v d (omega arith)

  pub tight_length : (b : Box) (r : R) → length b ≡ p.vars → length (tight p b r) ≡ p.vars
  tight_length b r len = by (violated p b r)
    where
      by : (c : Bool) → length (cond c b (map (λ v. tight_at p b r v) (range_with_len 0 p.vars))) ≡ p.vars
      by true = len
      by false = length-map-range_with_len (λ (v : ℕ). tight_at p b r v) 0 p.vars

  pub tight_stays : (b : Box) (r : R) → length b ≡ p.vars → Stays b (tight p b r)
  tight_stays b r len v some = by (violated p b r) (lt_or_le v p.vars)
    where
      by : (c : Bool) → (v < p.vars) ⊎ (p.vars ≤ v) → at (cond c b (map (λ v. tight_at p b r v) (range_with_len 0 p.vars))) v ≡ at b v
      by true o = refl
      by false (inl lt) = get_or-map-range_with_len (λ (w : ℕ). tight_at p b r w) 0 p.vars v v None lt (omega arith) ∙ some_forced (at b v) (forced p b r v true) (forced p b r v false) some
      by false (inr le) =
          let e : at b v ≡ None = past_end b v None (omega arith) in
          let k : is_some (at b v) ≡ false = ap is_some e in
          absurd (grind arith)

  pub tightened_length : (b : Box) (rs : List R) → length b ≡ p.vars → length (tightened p b rs) ≡ p.vars
  tightened_length b [] len = len
  tightened_length b (r ∷ rs) len = tightened_length (tight p b r) rs (tight_length b r len)

  pub free_falls : (b : Box) (rs : List R) → length b ≡ p.vars → ForceAll p b rs → free_in (tightened p b rs) + length rs ≤ free_in b
  free_falls b [] len h = omega arith
  free_falls b (r ∷ rs) len h =
      let k : length (tight p b r) ≡ p.vars = tight_length b r len in
      let falls : free_in (tight p b r) < free_in b = stays_falls b (tight p b r) (len ∙ sym k) (tight_stays b r len) h.0 in
      omega (arith, free_falls (tight p b r) rs k h.1)

-- steps keep the box whole, and where there are any, fewer variables are free
pub tightens_length : (m : Voyage) (b c : Box) (old new : List Row) → length b ≡ length (variables m) → Tightens m b c old new → length c ≡ length (variables m)
tightens_length m b c old new len h = ap (λ (x : Box). length x) h.box ∙ tightened_length (whole m) b h.rows len

pub tightens_falls : (m : Voyage) (b c : Box) (old new : List Row) → length b ≡ length (variables m) → Tightens m b c old new → length new ≢ length old → free_in c < free_in b
tightens_falls m b c old new len h other =
    let n : length new ≡ length old + length h.rows = ap (λ (xs : List Row). length xs) h.added ∙ length-append old h.rows in
    let f : free_in (tightened (whole m) b h.rows) + length h.rows ≤ free_in b = free_falls (whole m) b h.rows len h.forced in
    let e : free_in c ≡ free_in (tightened (whole m) b h.rows) = ap free_in h.box in
    omega arith
