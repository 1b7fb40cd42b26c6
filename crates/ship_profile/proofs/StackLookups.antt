-- The table of the stacks, with one stack more.
use Rattle.std.proofs.Common.{◌≡◌, ℕ, ◌+◌, ◌<◌, ◌≤◌, Bool, true, false, cond, List, [], ◌∷◌, ◌++◌, length, get_or, drop, Option, Some, None, refl, ap, ◌∙◌}
use Rattle.std.specs.Prelude.{ℤ, ◌&&◌, if◌then◌else◌, unwrap_or}
use Rattle.std.specs.BTreeMap.{BTreeMap, get, is_at}
use Rattle.stow_data.specs.declared.geometry.Stack.{Stack}
use Rattle.ship_profile.specs.declared.covers.Part.{Part}
use Rattle.ship_profile.specs.declared.position.Position.{Position}
use Rattle.ship_profile.specs.Covers.{is_in, stands_at, stacks_at, stacks_from}
use Rattle.ship_profile.specs.Positions.{IsStackTable, listed_at, position_order, position_in, position_of}
use Rattle.ship_profile.proofs.PositionLookups.{at_pair, same_position}
use Rattle.ship_profile.proofs.Pairs.{stands_on, stands_elsewhere, stands_end}

-- the table leads to the stacks before one, and those from it on are still to come
pub record LeadsBefore (table : BTreeMap Position (List ℕ)) (stacks : List Stack) (i : ℕ) : Type 0 where
  pub same : (part : Part) (pair : ℤ × ℤ) → listed_at table (position_of part pair) ++ stacks_from i part (drop i stacks) pair ≡ stacks_at part stacks pair

one_on : (b : Bool) (part : Part) (pair : ℤ × ℤ) (stacks : List Stack) (i : ℕ) (s : Stack) (old new : List ℕ) → i < length stacks → s ≡ get_or stacks i s → (is_in part s && stands_at pair.0 pair.1 s) ≡ b → new ≡ cond b (old ++ i ∷ []) old
    → old ++ stacks_from i part (drop i stacks) pair ≡ stacks_at part stacks pair → new ++ stacks_from (i + 1) part (drop (i + 1) stacks) pair ≡ stacks_at part stacks pair
one_on true part pair stacks i s old new lt is here e so_far = rw e (stands_on old part stacks i s pair (stacks_at part stacks pair) lt is here so_far)
one_on false part pair stacks i s old new lt is here e so_far = rw e (stands_elsewhere old part stacks i s pair (stacks_at part stacks pair) lt is here so_far)

pub leads_on : (old new : BTreeMap Position (List ℕ)) (stacks : List Stack) (i : ℕ) (s : Stack) → i < length stacks → s ≡ get_or stacks i s
    → ((q : Position) → listed_at new q ≡ (if is_at (position_order (position_in s.bay s)) q then listed_at old q ++ i ∷ [] else listed_at old q)) → LeadsBefore old stacks i → LeadsBefore new stacks (i + 1)
leads_on old new stacks i s lt is more h = record {
  same = λ part pair. one_on (is_in part s && stands_at pair.0 pair.1 s) part pair stacks i s (listed_at old (position_of part pair)) (listed_at new (position_of part pair)) lt is refl
      (more (position_of part pair) ∙ ap (λ b. cond b (listed_at old (position_of part pair) ++ i ∷ []) (listed_at old (position_of part pair))) (at_pair part pair s)) (h.same part pair);
}

pub leads_to_all : (table : BTreeMap Position (List ℕ)) (stacks : List Stack) (i : ℕ) → length stacks ≤ i → LeadsBefore table stacks i → IsStackTable table stacks
leads_to_all table stacks i le h = record { same = λ part pair. stands_end (listed_at table (position_of part pair)) part stacks i pair (stacks_at part stacks pair) le (h.same part pair) }

-- a stack that was appended to those at a position
pub appended : (old new : BTreeMap Position (List ℕ)) (middle : Option (List ℕ)) (p q : Position) (before : List ℕ) (n : ℕ) → before ≡ listed_at old p
    → middle ≡ cond (is_at (position_order p) q) None (get position_order old q) → get position_order new q ≡ cond (is_at (position_order p) q) (Some (before ++ n ∷ [])) middle
    → listed_at new q ≡ cond (is_at (position_order p) q) (listed_at old q ++ n ∷ []) (listed_at old q)
appended old new middle p q before n were taken put = by_test (is_at (position_order p) q) refl taken put
  where
    by_test : (b : Bool) → is_at (position_order p) q ≡ b → middle ≡ cond b None (get position_order old q) → get position_order new q ≡ cond b (Some (before ++ n ∷ [])) middle → listed_at new q ≡ cond b (listed_at old q ++ n ∷ []) (listed_at old q)
    by_test true e h k = ap (λ o. unwrap_or o []) k ∙ ap (λ ns. ns ++ n ∷ []) (were ∙ ap (listed_at old) (same_position p q e))
    by_test false e h k = ap (λ o. unwrap_or o []) (k ∙ h)
