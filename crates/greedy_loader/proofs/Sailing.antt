-- One call after the other.
use Rattle.std.proofs.Common.{◌≡◌, ℕ, suc, ◌+◌, ◌-◌, ◌<◌, ◌≤◌, List, [], ◌∷◌, ◌++◌, length, Option, Some, None, refl, sym, ap, subst, arith, inl, inr, append_assoc}
use Rattle.std.specs.Prelude.{option_map}
use Rattle.std.proofs.lemmas.List.{append-nil, length-append}
use Rattle.stow_data.specs.Ship.{Ship}
use Rattle.stow_data.specs.Shipment.{Cargo}
use Rattle.stow_data.specs.Plans.{Plan}
use Rattle.stowage_rules.specs.Plan.{IsWellFormed}
use Rattle.stowage_rules.specs.Departure.{AreDepartures, HoldsAboard, IsDeparture}
use Rattle.greedy_loader.specs.Calls.{Departs, DepartFrom}

-- whatever the calls to come give, the plans so far come before it
abbrev pub LeadsTo : Ship → Cargo → ℕ → ℕ → Plan → List Plan → Type 0
LeadsTo ship cargo calls call before plans = (rest : Option (List Plan)) → DepartFrom ship cargo call before (calls - call) rest → DepartFrom ship cargo 1 cargo.arrival (calls - 1) (option_map (λ others. plans ++ others) rest)

nothing_before : (o : Option (List Plan)) → o ≡ option_map (λ others. [] ++ others) o
nothing_before None = refl
nothing_before (Some plans) = refl

pub leads_first : (ship : Ship) (cargo : Cargo) (calls : ℕ) (before : Plan) (plans : List Plan) → before ≡ cargo.arrival → plans ≡ [] → LeadsTo ship cargo calls 1 before plans
leads_first ship cargo calls before plans is none rest h = subst (λ (z : List Plan). DepartFrom ship cargo 1 cargo.arrival (calls - 1) (option_map (λ others. z ++ others) rest)) (sym none) (subst (DepartFrom ship cargo 1 cargo.arrival (calls - 1)) (nothing_before rest) (subst (λ (z : Plan). DepartFrom ship cargo 1 z (calls - 1) rest) is h))

one_before : (plans : List Plan) (after : Plan) (o : Option (List Plan)) → option_map (λ others. plans ++ others) (option_map (λ others. after ∷ others) o) ≡ option_map (λ others. (plans ++ after ∷ []) ++ others) o
one_before plans after None = refl
one_before plans after (Some others) = ap (λ (z : List Plan). Some z) (sym (append_assoc plans (after ∷ []) others))

pub leads_more : (ship : Ship) (cargo : Cargo) (calls call : ℕ) (before after : Plan) (plans : List Plan) → call < calls → Departs ship cargo call before (Some after) → LeadsTo ship cargo calls call before plans → LeadsTo ship cargo calls (call + 1) after (plans ++ after ∷ [])
leads_more ship cargo calls call before after plans l departs leads rest h =
    let left : suc (calls - (call + 1)) ≡ calls - call = omega (arith, l) in
    let next : call + 1 ≡ suc call = omega arith in
    let made : DepartFrom ship cargo call before (suc (calls - (call + 1))) (option_map (λ others. after ∷ others) rest) = inr (after, rest, departs, subst (λ (n : ℕ). DepartFrom ship cargo n after (calls - (call + 1)) rest) next h, refl) in
    subst (DepartFrom ship cargo 1 cargo.arrival (calls - 1)) (one_before plans after rest) (leads (option_map (λ others. after ∷ others) rest) (subst (λ (n : ℕ). DepartFrom ship cargo call before n (option_map (λ others. after ∷ others) rest)) left made))

pub leads_none : (ship : Ship) (cargo : Cargo) (calls call : ℕ) (before : Plan) (plans : List Plan) → call < calls → Departs ship cargo call before None → LeadsTo ship cargo calls call before plans → DepartFrom ship cargo 1 cargo.arrival (calls - 1) None
leads_none ship cargo calls call before plans l departs leads =
    let left : suc (calls - (call + 1)) ≡ calls - call = omega (arith, l) in
    let made : DepartFrom ship cargo call before (suc (calls - (call + 1))) None = inl (departs, refl) in
    leads None (subst (λ (n : ℕ). DepartFrom ship cargo call before n None) left made)

pub leads_all : (ship : Ship) (cargo : Cargo) (calls call : ℕ) (before : Plan) (plans : List Plan) → calls ≤ call → LeadsTo ship cargo calls call before plans → DepartFrom ship cargo 1 cargo.arrival (calls - 1) (Some plans)
leads_all ship cargo calls call before plans l leads =
    let left : 0 ≡ calls - call = omega (arith, l) in
    let made : DepartFrom ship cargo call before 0 (Some []) = refl in
    subst (λ (z : List Plan). DepartFrom ship cargo 1 cargo.arrival (calls - 1) (Some z)) (append-nil plans) (leads (Some []) (subst (λ (n : ℕ). DepartFrom ship cargo call before n (Some [])) left made))

pub departures_more : (ship : Ship) (cargo : Cargo) (call next : ℕ) (plans : List Plan) (after : Plan) → call + length plans ≡ next → AreDepartures ship cargo call plans → IsDeparture ship cargo next after → AreDepartures ship cargo call (plans ++ after ∷ [])
departures_more ship cargo call next [] after e all last = let same : next ≡ call = omega (arith, e) in (subst (λ (n : ℕ). IsDeparture ship cargo n after) same last, tt)
departures_more ship cargo call next (plan ∷ plans) after e all last = (all.0, departures_more ship cargo (suc call) next plans after (omega (arith, e)) all.1 last)

-- the voyage after the calls before this one
pub record SailsTo (ship : Ship) (cargo : Cargo) (calls call : ℕ) (before : Plan) (plans : List Plan) : Type 0 where
  pub leads : LeadsTo ship cargo calls call before plans
  pub formed : IsWellFormed ship cargo before
  pub aboard : HoldsAboard cargo (call - 1) before
  pub legal : AreDepartures ship cargo 1 plans
  pub long : length plans + 1 ≡ call

pub sailed_on : (ship : Ship) (cargo : Cargo) (calls call : ℕ) (before after next : Plan) (plans more : List Plan) → next ≡ after → more ≡ plans ++ after ∷ [] → call < calls → Departs ship cargo call before (Some after) → IsDeparture ship cargo call after → LeadsTo ship cargo calls call before plans → AreDepartures ship cargo 1 plans → length plans + 1 ≡ call → SailsTo ship cargo calls (call + 1) next more
sailed_on ship cargo calls call before after next plans more same pushed l departs legal leads all long =
    let now : call ≡ call + 1 - 1 = omega arith in
    subst (λ (z : Plan). SailsTo ship cargo calls (call + 1) z more) (sym same) (subst (λ (zs : List Plan). SailsTo ship cargo calls (call + 1) after zs) (sym pushed) (record {
      leads = leads_more ship cargo calls call before after plans l departs leads;
      formed = legal.stowed.well_formed;
      aboard = subst (λ (n : ℕ). HoldsAboard cargo n after) now legal.stowed.aboard;
      legal = departures_more ship cargo 1 call plans after (omega (arith, long)) all legal;
      long = omega (arith, length-append plans (after ∷ []), long);
    }))
