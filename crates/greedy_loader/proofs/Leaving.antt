-- What leaves at a call, and what that spreads to.
use Rattle.std.proofs.Common.{◌≡◌, ℕ, zero, suc, ◌+◌, ◌<◌, ◌≤◌, Bool, true, false, List, [], ◌∷◌, length, Option, Some, None, refl, sym, ◌∙◌, ap, arith, ⊎_elim}
use Rattle.std.specs.Prelude.{slice_set}
use Rattle.std.proofs.lemmas.Bool.{both_ways, cases_eq, cases_lt}
use Rattle.std.proofs.lemmas.List.{get_or-set_other, get_or-set_same}
use Rattle.stow_data.specs.Ship.{Ship}
use Rattle.stow_data.specs.Shipment.{Cargo}
use Rattle.stow_data.specs.Plans.{Plan, held}
use Rattle.stow_data.proofs.PlanLookups.{is_held, held_is}
use Rattle.stowage_rules.specs.Plan.{Holds}
use Rattle.voyage_meaning.specs.Moves.{leaves}
use Rattle.plan_lifts.specs.Least.{IsFilled}
use Rattle.plan_lifts.specs.Spread.{has, IsLeastSpread}
use Rattle.greedy_loader.specs.Calls.{is_bound, leaving}

-- flags that are set, below n, as a test says
pub record SetTo (f : ℕ → Bool) (set : List Bool) (n : ℕ) : Type 0 where
  pub below : (q : ℕ) → q < n → has set q ≡ f q

pub set_none : (f : ℕ → Bool) (set : List Bool) → SetTo f set 0
set_none f set = record { below = λ q l. absurd (omega arith) }

pub set_more : (f : ℕ → Bool) (set : List Bool) (n : ℕ) (b : Bool) → n < length set → b ≡ f n → SetTo f set n → SetTo f (slice_set set n b) (n + 1)
set_more f set n b l is to = record {
  below = λ q m. ⊎_elim
      (λ (e : q ≡ n). ap (has (slice_set set n b)) e ∙ (get_or-set_same set n b false l ∙ (is ∙ ap f (sym e))))
      (λ (ne : q ≡ n → ⊥). get_or-set_other set n q b false ne ∙ to.below q (omega (arith, ne)))
      (cases_eq q n);
}

has_past : (set : List Bool) (q : ℕ) → length set ≤ q → has set q ≡ false
has_past [] q l = refl
has_past (b ∷ bs) zero l = absurd (omega arith)
has_past (b ∷ bs) (suc q) l = has_past bs q (omega arith)

held_past : (plan : Plan) (q : ℕ) → length plan ≤ q → held plan q ≡ None
held_past [] q l = refl
held_past (o ∷ os) zero l = absurd (omega arith)
held_past (o ∷ os) (suc q) l = held_past os q (omega arith)

pub leaving_set : (cargo : Cargo) (call : ℕ) (plan : Plan) (set : List Bool) (n : ℕ) → length set ≤ n → length plan ≡ length set → SetTo (leaving cargo call plan) set n → (q : ℕ) → has set q ≡ leaving cargo call plan q
leaving_set cargo call plan set n l same to q = ⊎_elim
    (λ (m : q < n). to.below q m)
    (λ (m : n ≤ q). has_past set q (omega arith) ∙ sym (ap (is_bound cargo call) (held_past plan q (omega arith))))
    (cases_lt q n)

bound_from : (cargo : Cargo) (call : ℕ) (o : Option ℕ) → is_bound cargo call o ≡ true → (c : ℕ) × (o ≡ Some c) × (leaves cargo call c ≡ true)
bound_from cargo call None h = absurd (both_ways false refl h)
bound_from cargo call (Some c) h = (c, refl, h)

pub leaving_from : (cargo : Cargo) (call : ℕ) (plan : Plan) (p : ℕ) → leaving cargo call plan p ≡ true → (c : ℕ) × Holds plan p c
leaving_from cargo call plan p h = let b = bound_from cargo call (held plan p) h in (b.0, is_held plan p b.0 b.1)

pub leaving_at : (cargo : Cargo) (call : ℕ) (plan : Plan) (p c : ℕ) → Holds plan p c → leaves cargo call c ≡ true → leaving cargo call plan p ≡ true
leaving_at cargo call plan p c h l = ap (is_bound cargo call) (held_is plan p (Some c) h) ∙ l

pub leaving_filled : (cargo : Cargo) (call : ℕ) (plan : Plan) (seeds : List Bool) → ((p : ℕ) → has seeds p ≡ leaving cargo call plan p) → IsFilled plan (has seeds)
leaving_filled cargo call plan seeds same p h = leaving_from cargo call plan p (sym (same p) ∙ h)

-- seeds that are the same spread the same
pub spread_by : (ship : Ship) (plan : Plan) (seeds others set : ℕ → Bool) → ((p : ℕ) → seeds p ≡ others p) → IsLeastSpread ship plan seeds set → IsLeastSpread ship plan others set
spread_by ship plan seeds others set same least = record {
  spread = record { seeded = λ p h. least.spread.seeded p (same p ∙ h); over = least.spread.over; on_cover = least.spread.on_cover };
  least = λ other s. least.least other (record { seeded = λ p h. s.seeded p (sym (same p) ∙ h); over = s.over; on_cover = s.on_cover });
}
