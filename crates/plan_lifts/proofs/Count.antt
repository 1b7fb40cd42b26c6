-- Every allowed list of moves costs at least what it must lift.
use Rattle.std.specs.Prelude.{◌≡◌, ℕ, Bool, true, false, List, [], ◌∷◌, Option, Some, None, slice_set, slice_index_or, ◌||◌, ◌==◌, ◌≤◌, suc, zero, ◌+◌, cond}
use Rattle.std.proofs.Common.{refl, arith, ⊎_elim}
use Rattle.std.proofs.lemmas.Bool.{both_ways, or_cases, or_left, or_right, eq-eqb, eqb-true}
use Rattle.voyage_meaning.specs.declared.moves.Move.{Move}
use Rattle.voyage_meaning.specs.declared.moves.Move.TheVariants.{OffCover, OnCover, Lift, Put}
use Rattle.stow_data.specs.Ship.{Ship}
use Rattle.stow_data.specs.Shipment.{Cargo}
use Rattle.stow_data.specs.Plans.{Plan}
use Rattle.stowage_rules.specs.Plan.{Holds}
use Rattle.voyage_meaning.specs.Moves.{State, AllAllowed, after, lift_cost, cost_of_moves}
use Rattle.plan_lifts.specs.Least.{counted}
use Rattle.plan_lifts.proofs.Lower.{put_elsewhere, is_lifted}

cond_le : (b : Bool) (n : ℕ) → cond b n 0 ≤ n
cond_le true n = omega arith
cond_le false n = omega arith

cond_more : (a b : Bool) (n : ℕ) → (a ≡ true → b ≡ true) → cond a n 0 ≤ cond b n 0
cond_more true true n h = omega arith
cond_more true false n h = absurd (both_ways false refl (h refl))
cond_more false b n h = omega arith

-- a larger set counts more
pub counted_more : (w : Option ℕ → ℕ) (f g : ℕ → Bool) (plan : Plan) → ((p c : ℕ) → Holds plan p c → f p ≡ true → g p ≡ true) → w None ≡ 0 → counted w f plan ≤ counted w g plan
counted_more w f g [] h e = omega arith
counted_more w f g (None ∷ os) h e = omega (arith, cond_le (f 0) (w None), counted_more w (λ p. f (suc p)) (λ p. g (suc p)) os (λ p c held on. h (suc p) c held on) e)
counted_more w f g (Some c ∷ os) h e = omega (arith, cond_more (f 0) (g 0) (w (Some c)) (h 0 c refl), counted_more w (λ p. f (suc p)) (λ p. g (suc p)) os (λ p d held on. h (suc p) d held on) e)

or_drop : (p : ℕ) (b : Bool) → (suc p == 0 || b) ≡ true → b ≡ true
or_drop p b h = ⊎_elim (λ (x : (suc p == 0) ≡ true). absurd (let bad : suc p ≡ 0 = eqb-true (suc p) 0 x in omega arith)) (λ (x : b ≡ true). x) (or_cases (suc p == 0) b h)

or_pred : (p q : ℕ) (b : Bool) → (suc p == suc q || b) ≡ true → (p == q || b) ≡ true
or_pred p q b h = ⊎_elim (λ (x : (suc p == suc q) ≡ true). or_left _ _ (eq-eqb p q (let same : suc p ≡ suc q = eqb-true (suc p) (suc q) x in omega arith))) (λ (x : b ≡ true). or_right _ _ x) (or_cases (suc p == suc q) b h)

or_zero : (q : ℕ) (b : Bool) → (0 == suc q || b) ≡ true → b ≡ true
or_zero q b h = ⊎_elim (λ (x : (0 == suc q) ≡ true). absurd (let bad : 0 ≡ suc q = eqb-true 0 (suc q) x in omega arith)) (λ (x : b ≡ true). x) (or_cases (0 == suc q) b h)

-- an empty set counts nothing
none_counted : (w : Option ℕ → ℕ) (plan : Plan) → counted w (λ p. false) plan ≤ 0
none_counted w [] = omega arith
none_counted w (o ∷ os) = omega (arith, none_counted w os)

-- a place more in the set, which is then emptied
counted_with : (w : Option ℕ → ℕ) (f : ℕ → Bool) (plan : Plan) (q : ℕ) → w None ≡ 0 → counted w (λ p. (p == q) || f p) plan ≤ w (slice_index_or plan q None) + counted w f (slice_set plan q None)
counted_with w f [] q e = omega arith
counted_with w f (o ∷ os) zero e =
    omega (arith, cond_le (0 == 0 || f 0) (w o), counted_more w (λ p. suc p == 0 || f (suc p)) (λ p. f (suc p)) os (λ p c held on. or_drop p (f (suc p)) on) e)
counted_with w f (o ∷ os) (suc q) e =
    omega (arith, cond_more (0 == suc q || f 0) (f 0) (w o) (or_zero q (f 0)), counted_more w (λ p. suc p == suc q || f (suc p)) (λ p. p == q || f (suc p)) os (λ p c held on. or_pred p q (f (suc p)) on) e, counted_with w (λ p. f (suc p)) os q e)

-- a place that counts nothing is filled
counted_fill : (w : Option ℕ → ℕ) (f : ℕ → Bool) (plan : Plan) (q : ℕ) (o : Option ℕ) → w (slice_index_or plan q None) ≡ 0 → counted w f plan ≤ counted w f (slice_set plan q o)
counted_fill w f [] q o e = omega arith
counted_fill w f (x ∷ xs) zero o e = omega (arith, cond_le (f 0) (w x))
counted_fill w f (x ∷ xs) (suc q) o e = omega (arith, counted_fill w (λ p. f (suc p)) xs q o e)

-- a place that holds nothing counts nothing
empty_counts_none : (w : Option ℕ → ℕ) (plan : Plan) (q : ℕ) → w None ≡ 0 → ((c : ℕ) → Holds plan q c → ⊥) → w (slice_index_or plan q None) ≡ 0
empty_counts_none w [] q e no_one = e
empty_counts_none w (None ∷ os) zero e no_one = e
empty_counts_none w (Some c ∷ os) zero e no_one = absurd (no_one c refl)
empty_counts_none w (o ∷ os) (suc q) e no_one = empty_counts_none w os q e no_one

-- what is lifted is paid
pub lifted_costs : (ship : Ship) (cargo : Cargo) (call : ℕ) (ms : List Move) (s : State) → AllAllowed ship cargo call s ms → counted (lift_cost cargo call) (is_lifted ms) s.plan ≤ cost_of_moves cargo call s ms
lifted_costs ship cargo call [] s all = none_counted (lift_cost cargo call) s.plan
lifted_costs ship cargo call (Lift q ∷ ms) s all =
    omega (arith, counted_with (lift_cost cargo call) (is_lifted ms) s.plan q refl, lifted_costs ship cargo call ms (after cargo call s (Lift q)) all.1)
lifted_costs ship cargo call (Put c q ∷ ms) s all =
    omega (arith, counted_fill (lift_cost cargo call) (is_lifted ms) s.plan q (Some c) (empty_counts_none (lift_cost cargo call) s.plan q refl (λ d held. put_elsewhere ship cargo call s q q d c held all.0 refl)), lifted_costs ship cargo call ms (after cargo call s (Put c q)) all.1)
lifted_costs ship cargo call (OffCover k ∷ ms) s all = omega (arith, lifted_costs ship cargo call ms (after cargo call s (OffCover k)) all.1)
lifted_costs ship cargo call (OnCover k ∷ ms) s all = omega (arith, lifted_costs ship cargo call ms (after cargo call s (OnCover k)) all.1)
