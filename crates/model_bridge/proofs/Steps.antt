-- What the code makes is what the law of plans asks for.
use Rattle.std.proofs.Common.{◌≡◌, ℕ, zero, suc, ◌<◌, Bool, true, false, cond, List, [], ◌∷◌, ◌++◌, length, ℤ, ◌≤ℤ◌, refl, ◌∙◌, ap, arith, Option, Some, None, replicate}
use Rattle.std.specs.Prelude.{filter, map, flat_map, not, ◌==◌, IsSome, slice_index_or, slice_set, int_lt}
use Rattle.std.specs.List.{zip}
use Rattle.std.proofs.lemmas.Bool.{false≢true}
use borrow.Author.Differences.{ints}
use Rattle.proof_trees.specs.Program.{sum_to, where_set}
use Rattle.proof_trees.specs.Boxes.{Box, at, greatest, most}
use Rattle.stow_data.specs.Plans.{Plan, no_container, held as held_in}
use Rattle.stow_data.specs.Kinds.{kind_number}
use Rattle.stow_data.specs.Ship.{places}
use Rattle.stow_data.proofs.Distinct.{Each, each_from}
use Rattle.zero_one_rows.specs.Variables.{Voyage, variables, var}
use Rattle.zero_one_rows.specs.Rows.{base, IsSolution}
use Rattle.model_bridge.proofs.Words.{container, kind_at}
use Rattle.model_bridge.proofs.Sums.{same_sum}
use Rattle.model_bridge.proofs.Match.{total, total_append, picked, each_append, each_picked}
use Rattle.model_bridge.proofs.Members.{empties, plan_from}
use Rattle.model_bridge.proofs.Departures.{spot}
use Rattle.model_bridge.proofs.Calls.{kept, freed as freed_from, gone, each_freed}
use Rattle.model_bridge.proofs.Walk.{IsBag, IsHeldNext, each_bag}
use Rattle.model_bridge.proofs.First.{arrival_pairs, with_pair, AreOnes}
use Rattle.model_bridge.specs.Pairs.{Pairs, ones, is_one, pair_with, pair_at_arrival, listed_ones, stays, is_freed, freed, loads, loading_at, is_put, kind_of_var, each_kind, IsNextHeld, plan_of_pairs}
use Rattle.model_bridge.specs.Sailed.{IsFull, BreaksNone}
use Rattle.model_bridge.proofs.Bags.{permuted, listed_bag, listed_picked, twice_picked, each_listed, rising_from}

-- the place of each box in the list of kinds
pub kind_listed : {X : Type 0} (f : X → ℕ) (xs : List X) (c : ℕ) (d : X) → c < length xs → slice_index_or (map f xs) c 0 ≡ f (slice_index_or xs c d)
kind_listed f [] c d l = absurd (omega (arith, l))
kind_listed f (x ∷ xs) zero d l = refl
kind_listed f (x ∷ xs) (suc c) d l = kind_listed f xs c d (omega (arith, l))

module _ (m : Voyage) where
  pair_step : (b : Bool) (v : ℕ) (o : Option ℕ) (es : Pairs) → cond b (pair_with v o) [] ++ es ≡ cond b (with_pair o v es) es
  pair_step true v None es = refl
  pair_step true v (Some c) es = refl
  pair_step false v o es = refl

  pub arrivals : (vs : List ℕ) → flat_map (pair_at_arrival m) vs ≡ arrival_pairs m vs
  arrivals [] = refl
  arrivals (v ∷ vs) = ap (λ (es : Pairs). pair_at_arrival m v ++ es) (arrivals vs) ∙ pair_step ((var m v).put == 0) v (held_in m.cargo.arrival (var m v).place) (arrival_pairs m vs)

  stay_step : (b : Bool) (e : ℕ × ℕ) (es : Pairs) → cond (not b) (e ∷ es) es ≡ cond b es (e ∷ es)
  stay_step true e es = refl
  stay_step false e es = refl

  pub stayed : (j : ℕ) (es : Pairs) → filter (stays m j) es ≡ kept m j es
  stayed j [] = refl
  stayed j (e ∷ es) = ap (λ (ps : Pairs). cond (stays m j e) (e ∷ ps) ps) (stayed j es) ∙ stay_step (gone m j e.0) e (kept m j es)

  freed_step : (b : Bool) (e : ℕ × ℕ) (es : Pairs) → map (λ (p : ℕ × ℕ). p.1) (cond b (e ∷ es) es) ≡ cond b (e.1 ∷ map (λ (p : ℕ × ℕ). p.1) es) (map (λ (p : ℕ × ℕ). p.1) es)
  freed_step true e es = refl
  freed_step false e es = refl

  pub freed_are : (j : ℕ) (es : Pairs) → freed m j es ≡ freed_from m j es
  freed_are j [] = refl
  freed_are j (e ∷ es) = freed_step (is_freed m j e) e (filter (is_freed m j) es) ∙ ap (λ (cs : List ℕ). cond (is_freed m j e) (e.1 ∷ cs) cs) (freed_are j es)

  no_pairs : (n : ℕ) → replicate n None ≡ empties n
  no_pairs zero = refl
  no_pairs (suc n) = ap (λ (p : Plan). None ∷ p) (no_pairs n)

  pub plans_are : (es : Pairs) → plan_of_pairs m es ≡ plan_from (spot m) (λ (e : ℕ × ℕ). e.1) (length (places m.ship)) es
  plans_are [] = no_pairs (length (places m.ship))
  plans_are (e ∷ es) = ap (λ (p : Plan). slice_set p (var m e.0).place (Some e.1)) (plans_are es)

  module _ (b : Box) where
    pub ones_are : AreOnes m (ones b) (listed_ones m b)
    ones_are = record {
      each = each_listed (ones b) (length (variables m));
      bag = listed_bag (ones b) (length (variables m));
    }

    abbrev Known : ℕ → Type 0
    Known c = c < length m.cargo.containers

    pub next_is : (j : ℕ) (held next : Pairs) → Each (λ (e : ℕ × ℕ). e.1 < length m.cargo.containers) held → IsNextHeld m j (listed_ones m b) held next → IsHeldNext m (ones b) j held next
    next_is j held next low h =
        let n = length m.cargo.containers in
        let load : IsBag (loading_at m j) (picked (λ c. (container m c).load == j) n) = listed_picked (loads m j) n in
        let boxes_bag : IsBag h.boxes (freed_from m j held ++ picked (λ c. (container m c).load == j) n) = λ w.
        permuted (freed m j held ++ loading_at m j) h.boxes h.all_boxes w
        ∙ ap (λ (cs : List ℕ). total w (cs ++ loading_at m j)) (freed_are j held)
        ∙ omega (arith, ints, total_append w (freed_from m j held) (loading_at m j), total_append w (freed_from m j held) (picked (λ c. (container m c).load == j) n), load w) in
        let low_boxes : Each Known h.boxes = each_bag Known h.boxes _ boxes_bag (each_append Known (freed_from m j held) _
        (each_freed m j (λ (e : ℕ × ℕ). e.1 < n) Known held (λ e l g. l) low)
        (each_picked Known _ n (λ c l t. l))) in
        record {
          put = h.put;
          boxes = h.boxes;
          all_put = λ w. permuted (filter (is_put m j) (listed_ones m b)) h.put h.all_put w ∙ twice_picked (ones b) (is_put m j) (length (variables m)) w;
          all_boxes = boxes_bag;
          put_up = rising_from (kind_of_var m) (λ v. (var m v).kind) (λ v. Unit {0}) (λ v u. refl) h.put (each_from _ h.put (λ v k. tt)) h.put_up;
          boxes_up = rising_from (λ c. slice_index_or (each_kind m) c 0) (kind_at m) Known (λ c l. kind_listed (kind_number m.ship.weight_step m.cargo.containers) m.cargo.containers c no_container l) h.boxes low_boxes h.boxes_up;
          is = h.is ∙ ap (λ (ps : Pairs). ps ++ zip h.put h.boxes) (stayed j held);
        }

    value : (o : Option Bool) (z : ℤ) → IsSome o → greatest o z ≡ where_set (is_one o) z
    value None z h = absurd (false≢true h)
    value (Some y) z h = refl

    -- the assignment of a full box that breaks no base row meets the rows
    pub solves : IsFull m b → BreaksNone m b → IsSolution m (ones b)
    solves full rows r has =
        let n = length (variables m) in
        let left : most (base m) b r ≡ sum_to n (λ v. where_set (ones b v) ((base m).coef r v)) = same_sum n _ _ (λ v l. let long = full.long in value (at b v) ((base m).coef r v) (full.fixed v None (omega (arith, l, long)))) in
        met (most (base m) b r) ((base m).rhs r) _ (rows r has) left
      where
        met : (a c s : ℤ) → int_lt a c ≡ false → a ≡ s → c ≤ℤ s
        met a c s h e = omega (arith, ints, h, e)
