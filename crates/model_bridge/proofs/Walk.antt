-- Plans call by call, from pairs that are matched by sorting.
use Rattle.std.proofs.Common.{◌≡◌, ℕ, suc, ◌+◌, Bool, true, List, [], ◌∷◌, ◌++◌, ℤ, arith, refl, ap, sym, subst, ◌∙◌, length}
use Rattle.std.specs.Prelude.{◌==◌, ◌&&◌}
use Rattle.std.specs.List.{zip}
use Rattle.std.proofs.lemmas.Bool.{and_from, lt-ltb}
use borrow.Author.Differences.{ints}
use Rattle.stow_data.specs.Plans.{Plan}
use Rattle.stow_data.specs.Ship.{places}
use Rattle.stow_data.proofs.Distinct.{Each, each_at, each_from}
use Rattle.stowage_rules.specs.Departure.{IsStowed}
use Rattle.plan_lifts.specs.Least.{IsDivided}
use Rattle.zero_one_rows.specs.Variables.{Voyage, variables, var, calls}
use Rattle.zero_one_rows.specs.Rows.{is_call, IsSolution, bit}
use Rattle.model_bridge.proofs.Words.{container, kind_at}
use Rattle.model_bridge.proofs.Match.{total, many, picked, IsMatched}
use Rattle.model_bridge.proofs.Calls.{Facts, IsHeld, kept, freed}
use Rattle.model_bridge.proofs.Flow.{new, pool, balanced}
use Rattle.model_bridge.proofs.Next.{IsNext, Good, Due, goods, dues, next_by, pairs_are}
use Rattle.model_bridge.proofs.Members.{member_often, often_member, plan_from}
use Rattle.model_bridge.proofs.Departures.{spot, Shows, shows_now}
use Rattle.model_bridge.proofs.Sorting.{Rising, zip_matched}
use Rattle.model_bridge.proofs.Voyage.{HasVoyage, past_step, past_low, call_from}

-- the same items, in some order
abbrev pub IsBag : List ℕ → List ℕ → Type 0
IsBag xs ys = (w : ℕ → ℤ) → total w xs ≡ total w ys

pub each_bag : (P : ℕ → Type 0) (xs ys : List ℕ) → IsBag xs ys → Each P ys → Each P xs
each_bag P xs ys same each = each_from P xs (λ x h.
    let r = member_often (λ (n : ℕ). n) x ys (omega (arith, ints, same (λ n. bit (n == x)), often_member (λ (n : ℕ). n) x xs x h refl)) in
    subst P r.2 (each_at P ys r.0 each r.1))

-- the pairs after a call: those whose variable stays, and what is put, matched by rising kind with what is to be put
pub record IsHeldNext (m : Voyage) (x : ℕ → Bool) (j : ℕ) (held next : List (ℕ × ℕ)) : Type 0 where
  pub put : List ℕ
  pub boxes : List ℕ
  pub all_put : IsBag put (picked (λ v. x v && ((var m v).put == j)) (length (variables m)))
  pub all_boxes : IsBag boxes (freed m j held ++ picked (λ c. (container m c).load == j) (length m.cargo.containers))
  pub put_up : Rising (λ v. (var m v).kind) put
  pub boxes_up : Rising (kind_at m) boxes
  pub is : next ≡ kept m j held ++ zip put boxes

-- the plans of such pairs, from a call on
abbrev pub ArePlansOf : (m : Voyage) → (ℕ → Bool) → ℕ → List (ℕ × ℕ) → List Plan → Type 0
ArePlansOf m x i held [] = Unit {0}
ArePlansOf m x i held (plan ∷ plans) = (next : List (ℕ × ℕ)) × IsHeldNext m x (suc i) held next × (plan ≡ plan_from (spot m) (λ (e : ℕ × ℕ). e.1) (length (places m.ship)) next) × ArePlansOf m x (suc i) next plans

module _ (m : Voyage) (x : ℕ → Bool) (facts : Facts m) (solution : IsSolution m x) where
  pub matched_next : (i : ℕ) (call : is_call m (suc i) ≡ true) (held : List (ℕ × ℕ)) (is : IsHeld m x i held) (next : List (ℕ × ℕ)) (h : IsHeldNext m x (suc i) held next) → (n : IsNext m x i held) × (next ≡ kept m (suc i) held ++ n.pairs)
  matched_next i call held is next h =
      let as_many : (g : ℕ) → many (λ v. (var m v).kind) g h.put ≡ many (kind_at m) g h.boxes = λ g. h.all_put (λ v. bit ((var m v).kind == g)) ∙ (balanced m x facts solution i call held is g ∙ sym (h.all_boxes (λ c. bit (kind_at m c == g)))) in
      let z = zip_matched (λ v. (var m v).kind) (kind_at m) (Good m x facts solution i call held is) (Due m x facts solution i call held is) h.put h.boxes
      (each_bag _ h.put _ h.all_put (goods m x facts solution i call held is)) (each_bag _ h.boxes _ h.all_boxes (dues m x facts solution i call held is)) h.put_up h.boxes_up as_many in
      let f = z.0 in
      let found : IsMatched (λ v. (var m v).kind) (kind_at m) (Good m x facts solution i call held is) (Due m x facts solution i call held is) (new m x facts solution i call held is) (pool m x facts solution i call held is) = record {
        pairs = f.pairs;
        firsts = λ w. f.firsts w ∙ h.all_put w;
        seconds = λ w. f.seconds w ∙ h.all_boxes w;
        each = f.each;
      } in
      (next_by m x facts solution i call held is found, h.is ∙ ap (λ (es : List (ℕ × ℕ)). kept m (suc i) held ++ es) (sym z.1 ∙ sym (pairs_are m x facts solution i call held is found)))

  -- they are those of a legal voyage that counts at most what ends
  pub plans_sail : IsDivided m.ship → (i : ℕ) (plans : List Plan) → i + length plans + 1 ≡ calls m → (held : List (ℕ × ℕ)) → IsHeld m x i held → (old : Plan) → Shows m held old → IsStowed m.ship m.cargo i old → ArePlansOf m x i held plans
      → (v : HasVoyage m x i (length plans) old) × (v.plans ≡ plans)
  plans_sail divided i [] e held is old shows before are = (record { plans = []; moves = []; as_many = refl; legal = tt; counts = past_low m x i }, refl)
  plans_sail divided i (plan ∷ plans) e held is old shows before are =
      let call : is_call m (suc i) ≡ true = and_from _ _ (lt-ltb 0 (suc i) (omega arith)) (lt-ltb (suc i) (calls m) (omega arith)) in
      let r = matched_next i call held is are.0 are.1 in
      let n = r.0 in
      let now = kept m (suc i) held ++ n.pairs in
      let made : plan ≡ plan_from (spot m) (λ (e : ℕ × ℕ). e.1) (length (places m.ship)) now = are.2 ∙ ap (plan_from (spot m) (λ (e : ℕ × ℕ). e.1) (length (places m.ship))) r.1 in
      let shown : Shows m now plan = subst (Shows m now) (sym made) (shows_now m x facts (suc i) now n.is solution call) in
      let here = call_from m x facts solution divided i call held is old shows before n plan shown in
      let leads = here.leads in
      let departs = leads.departure in
      let s = plans_sail divided (suc i) plans (omega arith) now n.is plan shown departs.stowed (subst (λ (es : List (ℕ × ℕ)). ArePlansOf m x (suc i) es plans) r.1 are.3) in
      let rest = s.0 in (
        record {
          plans = plan ∷ rest.plans;
          moves = here.moves ∷ rest.moves;
          as_many = let a = rest.as_many in omega arith;
          legal = (leads, rest.legal);
          counts = let a = here.counts in let b = rest.counts in let c = past_step m x i in omega (arith, ints, a, b, c);
        },
        ap (λ (ps : List Plan). plan ∷ ps) s.1,
      )
