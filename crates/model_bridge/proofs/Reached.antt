-- The plans so far, and the pairs after the last of them.
use Rattle.std.proofs.Common.{◌≡◌, ℕ, suc, ◌<◌, ◌+◌, true, List, [], ◌∷◌, ◌++◌, length, length-append, sym, ◌∙◌, ap, subst, arith}
use Rattle.std.specs.Prelude.{flat_map}
use Rattle.std.proofs.lemmas.Bool.{and_from, lt-ltb}
use Rattle.std.proofs.lemmas.List.{append_assoc, append-nil}
use Rattle.proof_trees.specs.Boxes.{Box}
use Rattle.stow_data.specs.Plans.{Plan}
use Rattle.zero_one_rows.specs.Variables.{Voyage, calls}
use Rattle.zero_one_rows.specs.Rows.{IsSolution, is_call}
use Rattle.model_bridge.specs.Laws.{IsProblem}
use Rattle.model_bridge.proofs.Match.{each_more}
use Rattle.model_bridge.proofs.Calls.{IsPair, IsHeld}
use Rattle.model_bridge.proofs.Known.{facts}
use Rattle.model_bridge.proofs.Walk.{ArePlansOf, IsHeldNext, matched_next}
use Rattle.model_bridge.proofs.First.{arrival_pairs, held_first, made_plans_sail}
use Rattle.model_bridge.specs.Pairs.{Pairs, ones, listed_ones, pair_at_arrival, IsNextHeld, plan_of_pairs}
use Rattle.model_bridge.specs.Sailed.{AreSailed}
use Rattle.model_bridge.proofs.Steps.{arrivals, plans_are, ones_are, next_is}

-- after so many plans the pairs are held, and plans that follow from them follow from the arrival
pub record IsReached (m : Voyage) (b : Box) (plans : List Plan) (held : Pairs) : Type 0 where
  pub holds : IsHeld m (ones b) (length plans) held
  pub goes_on : (rest : List Plan) → ArePlansOf m (ones b) (length plans) held rest → ArePlansOf m (ones b) 0 (arrival_pairs m (listed_ones m b)) (plans ++ rest)

module _ (m : Voyage) (rules : IsProblem m) (b : Box) (solution : IsSolution m (ones b)) where
  pub reached_first : (vs : List ℕ) (held : Pairs) → vs ≡ listed_ones m b → held ≡ flat_map (pair_at_arrival m) vs → IsReached m b [] held
  reached_first vs held e h =
      let same : held ≡ arrival_pairs m (listed_ones m b) = h ∙ ap (flat_map (pair_at_arrival m)) e ∙ arrivals m (listed_ones m b) in
      subst (IsReached m b []) (sym same) (record {
        holds = held_first m rules (ones b) solution (listed_ones m b) (ones_are m b);
        goes_on = λ rest are. are;
      })

  next_step : (plans : List Plan) (held next : Pairs) → IsReached m b plans held → IsNextHeld m (length plans + 1) (listed_ones m b) held next → IsHeldNext m (ones b) (suc (length plans)) held next
  next_step plans held next before h =
      let i = length plans in
      let one : i + 1 ≡ suc i = omega arith in
      next_is m b (suc i) held next (each_more (IsPair m (ones b) i) (λ (e : ℕ × ℕ). e.1 < length m.cargo.containers) held (λ e p. p.box_known) before.holds.each) (subst (λ (j : ℕ). IsNextHeld m j (listed_ones m b) held next) one h)

  pub next_held : (plans : List Plan) (held next : Pairs) → IsReached m b plans held → length plans + 1 < calls m → IsNextHeld m (length plans + 1) (listed_ones m b) held next → IsHeld m (ones b) (suc (length plans)) next
  next_held plans held next before early h =
      let i = length plans in
      let call : is_call m (suc i) ≡ true = and_from _ _ (lt-ltb 0 (suc i) (omega arith)) (lt-ltb (suc i) (calls m) (omega (arith, early))) in
      let r = matched_next m (ones b) (facts m rules) solution i call held before.holds next (next_step plans held next before h) in
      subst (IsHeld m (ones b) (suc i)) (sym r.1) r.0.is

  pub reached_next : (plans : List Plan) (held next : Pairs) (plan : Plan) → IsReached m b plans held → length plans + 1 < calls m → IsNextHeld m (length plans + 1) (listed_ones m b) held next → plan ≡ plan_of_pairs m next → IsReached m b (plans ++ plan ∷ []) next
  reached_next plans held next plan before early h made =
      let long : suc (length plans) ≡ length (plans ++ plan ∷ []) = (let a = length-append plans (plan ∷ []) in omega (arith, a)) in
      record {
        holds = subst (λ (k : ℕ). IsHeld m (ones b) k next) long (next_held plans held next before early h);
        goes_on = λ rest are. subst (ArePlansOf m (ones b) 0 (arrival_pairs m (listed_ones m b))) (sym (append_assoc plans (plan ∷ []) rest))
            (before.goes_on (plan ∷ rest) (next, next_step plans held next before h, made ∙ plans_are m next, subst (λ (k : ℕ). ArePlansOf m (ones b) k next rest) (sym long) are));
      }

  pub sailed : (plans : List Plan) (held : Pairs) → IsReached m b plans held → length plans + 1 ≡ calls m → AreSailed m b plans
  sailed plans held reached e =
      let are = subst (ArePlansOf m (ones b) 0 (arrival_pairs m (listed_ones m b))) (append-nil plans) (reached.goes_on [] tt) in
      let r = made_plans_sail m rules (ones b) solution (listed_ones m b) (ones_are m b) plans e are in
      let s = r.0 in
      subst (AreSailed m b) r.1 (record { moves = s.moves; legal = s.legal; cheap = s.cheap })
