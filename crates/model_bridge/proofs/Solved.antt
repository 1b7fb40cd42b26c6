-- The box of the stays, with ship and cargo as the call gets them.
use Rattle.std.proofs.Common.{refl, ◌≡◌, ℕ, ◌<◌, ◌+◌, Bool, List, sym, ◌∙◌, ap, subst, length, Some}
use Rattle.proof_trees.specs.Boxes.{Box}
use Rattle.stow_data.specs.Ship.{Ship}
use Rattle.stow_data.specs.Shipment.{Cargo}
use Rattle.stow_data.specs.Plans.{Plan}
use Rattle.voyage_meaning.specs.Voyage.{HasCost}
use Rattle.plan_lifts.specs.Lifted.{IsLifted}
use Rattle.zero_one_rows.specs.Variables.{Voyage, variables, var, calls}
use Rattle.zero_one_rows.specs.Rows.{CrossingRowsHold}
use Rattle.model_bridge.specs.Laws.{IsProblem}
use Rattle.model_bridge.specs.Pairs.{each_kind}
use Rattle.model_bridge.specs.Sailed.{IsFull, BreaksNone}
use Rattle.model_bridge.specs.Stays.{began, begins, begin_table, begin_in, is_stay, IsWithin}
use Rattle.model_bridge.specs.Assigned.{AreStays, BreaksNoRow, Costs, IsBoxOf}
use Rattle.model_bridge.proofs.Tables.{given_long}
use Rattle.model_bridge.proofs.Sailings.{is_set, solution, costs, stay_is, within, starts_are}
use Rattle.model_bridge.proofs.Boxed.{full, base_rows, rows, cost}

pub record IsSolved (m : Voyage) (plans : List Plan) (lists : List (List ℕ)) (b : Box) (n : ℕ) : Type 0 where
  pub stays : AreStays m plans lists b
  pub is_full : IsFull m b
  pub base_rows : BreaksNone m b
  pub rows : CrossingRowsHold m → BreaksNoRow m b
  pub cost : Costs m b n

module _ (m : Voyage) (rules : IsProblem m) (ship : Ship) (cargo : Cargo) (plans : List Plan) (lists : List (List ℕ)) (n : ℕ) (same_ship : m.ship ≡ ship) (same_cargo : m.cargo ≡ cargo) (lifted : IsLifted ship cargo plans lists) (has : HasCost ship cargo plans n) where
  is : IsLifted m.ship m.cargo plans lists
  is = subst (λ (s : Ship). IsLifted s m.cargo plans lists) (sym same_ship) (subst (λ (g : Cargo). IsLifted ship g plans lists) (sym same_cargo) lifted)

  counts : HasCost m.ship m.cargo plans n
  counts = subst (λ (s : Ship). HasCost s m.cargo plans n) (sym same_ship) (subst (λ (g : Cargo). HasCost ship g plans n) (sym same_cargo) has)

  each : length plans + 1 ≡ calls m
  each = let l = counts.is_legal in l.each_call

  module _ (kinds : List ℕ) (kinds_are : kinds ≡ each_kind m) (table : List (List ℕ)) (table_is : table ≡ begin_table ship cargo plans lists (length cargo.rotation)) where
    made : table ≡ begin_table m.ship m.cargo plans lists (calls m)
    made = table_is ∙ ap (λ (s : Ship). begin_table s cargo plans lists (length cargo.rotation)) (sym same_ship) ∙ ap (λ (g : Cargo). begin_table m.ship g plans lists (length g.rotation)) (sym same_cargo)

    abbrev pub tests : ℕ → Bool
    tests v = is_stay cargo kinds plans (length table) (begin_in table) (var m v)

    pub reaches : (v : ℕ) → v < length (variables m) → IsWithin cargo kinds plans table (var m v)
    reaches v low = subst (λ (g : Cargo). IsWithin g kinds plans table (var m v)) same_cargo (within m rules.arrives plans lists is rules each kinds table kinds_are made v low)

    tests_are : (v : ℕ) → v < length (variables m) → tests v ≡ is_set m rules.arrives plans lists is rules each v
    tests_are v low =
        let long : length table ≡ calls m = ap length made ∙ given_long (begins m.ship m.cargo plans lists) (calls m) in
        ap (λ (g : Cargo). is_stay g kinds plans (length table) (begin_in table) (var m v)) (sym same_cargo)
        ∙ ap (λ (k : ℕ). is_stay m.cargo kinds plans k (begin_in table) (var m v)) long
        ∙ stay_is m rules.arrives plans lists is rules each kinds (begin_in table) kinds_are (starts_are m rules.arrives plans lists is rules each table made) v low

    pub solved : (b : Box) → IsBoxOf m tests b → IsSolved m plans lists b n
    solved b is_box =
        let fixed = λ (k : ℕ) (l : k < length (variables m)). is_box.fixed k l ∙ ap (λ (y : Bool). Some (Some y)) (tests_are k l) in
        let start : (v : ℕ) → v < length (variables m) → is_set m rules.arrives plans lists is rules each v ≡ is_stay m.cargo (each_kind m) plans (calls m) (began m.cargo plans lists) (var m v) =
        λ v l. sym (stay_is m rules.arrives plans lists is rules each (each_kind m) (began m.cargo plans lists) refl (λ i p l u. refl) v l) in
        record {
          stays = record { long = is_box.long; fixed = λ v l. fixed v l ∙ ap (λ (y : Bool). Some (Some y)) (start v l) };
          is_full = full m b (is_set m rules.arrives plans lists is rules each) is_box.long fixed;
          base_rows = base_rows m b (is_set m rules.arrives plans lists is rules each) is_box.long fixed (solution m rules.arrives plans lists is rules each);
          rows = λ crossing. rows m b (is_set m rules.arrives plans lists is rules each) is_box.long fixed (crossing (is_set m rules.arrives plans lists is rules each) (solution m rules.arrives plans lists is rules each));
          cost = cost m b (is_set m rules.arrives plans lists is rules each) is_box.long fixed n (costs m rules.arrives plans lists is rules each n counts);
        }
