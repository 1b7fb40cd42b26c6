-- The places whose variable ends at a call are a closed set.
use Rattle.std.proofs.Common.{◌≡◌, ℕ, zero, suc, ◌<◌, ◌+◌, Bool, true, false, cond, List, [], ◌∷◌, ◌++◌, ◌-ℤ◌, arith, refl, sym, ◌∙◌, ap, inl, inr, ⊎_elim, subst, length, Option, Some, None}
use Rattle.std.specs.Prelude.{◌==◌, ◌&&◌, ◌||◌, slice_get, Contains, nat_eq}
use Rattle.std.specs.List.{list_any}
use Rattle.std.proofs.lemmas.Bool.{cases_Bool, both_ways, eqb-true, eq-eqb, eqb-false, lt-ltb, and_parts, and_from, or_left, or_right, or_cases, false_from_ne_true, true_from_ne_false}
use Rattle.std.proofs.lemmas.Option.{none-some, same_Some, slice_get_within, slice_get-get_or, get_or_from_slice_get}
use Rattle.std.proofs.lemmas.Map.Views.{list_any-from_Contains}
use Rattle.std.proofs.lemmas.Cmp.{nat_eq_equiv}
use borrow.Author.Differences.{ints}
use Rattle.proof_trees.specs.Program.{where_set}
use Rattle.stow_data.specs.declared.geometry.Cover.{Cover}
use Rattle.stow_data.specs.declared.geometry.Place.{Place}
use Rattle.stow_data.specs.declared.geometry.Half.{Half}
use Rattle.stow_data.specs.Ship.{places, halves, LiesUnder, StandsOn}
use Rattle.stow_data.specs.Plans.{Plan}
use Rattle.stowage_rules.specs.Plan.{Holds}
use Rattle.stowage_rules.specs.Plan.{Fills}
use Rattle.plan_lifts.specs.Least.{IsOnCoverOf, IsClosed}
use Rattle.stowage_rules.specs.Departure.{IsSupported}
use Rattle.stowage_rules.proofs.Items.{slice_get_in}
use Rattle.zero_one_rows.specs.declared.program.Row.TheVariants.{Block, Hatch}
use Rattle.zero_one_rows.specs.Variables.{Voyage, variables, var, place}
use Rattle.zero_one_rows.specs.Rows.{half, stack, covers, above, stay, out, moved, is_call, IsSolution, bit, less, cover_joins}
use Rattle.model_bridge.proofs.Words.{at_half}
use Rattle.stow_data.specs.Plans.{no_half, no_place}
use Rattle.model_bridge.proofs.Sums.{below_two}
use Rattle.stow_data.proofs.Distinct.{Each}
use Rattle.model_bridge.proofs.Calls.{Facts, IsHeld, gone, kept}
use Rattle.stow_data.proofs.Members.{Member, member_left, member_right, member_split}
use Rattle.stow_data.proofs.Distinct.{each_at}
use Rattle.model_bridge.proofs.Halves.{covers_true, covers_from, some_side, two_low, two_first, two_second}
use Rattle.model_bridge.proofs.Departures.{spot, Shows, on_half, pair, fills_pair, pair_fills, spot_is, half_number}

-- some pair at this place ends
abbrev pub ended : Voyage → ℕ → List (ℕ × ℕ) → ℕ → Bool
ended m j [] p = false
ended m j (e ∷ es) p = ((spot m e == p) && gone m j e.0) || ended m j es p

pub ended_from : (m : Voyage) (j : ℕ) (es : List (ℕ × ℕ)) (e : ℕ × ℕ) → Member e es → gone m j e.0 ≡ true → ended m j es (spot m e) ≡ true
ended_from m j [] e h g = absurd h
ended_from m j (d ∷ es) e (inl s) g = or_left _ _ (and_from _ _ (eq-eqb _ _ (ap (spot m) (sym s))) (ap (λ (z : ℕ × ℕ). gone m j z.0) (sym s) ∙ g))
ended_from m j (d ∷ es) e (inr h) g = or_right _ _ (ended_from m j es e h g)

pub ended_at : (m : Voyage) (j : ℕ) (es : List (ℕ × ℕ)) (p : ℕ) → ended m j es p ≡ true → (e : ℕ × ℕ) × Member e es × (spot m e ≡ p) × (gone m j e.0 ≡ true)
ended_at m j [] p h = absurd (both_ways false refl h)
ended_at m j (d ∷ es) p h = ⊎_elim
    (λ (t : ((spot m d == p) && gone m j d.0) ≡ true). let both = and_parts (spot m d == p) _ t in (d, inl refl, eqb-true _ _ both.0, both.1))
    (λ (t : ended m j es p ≡ true). let r = ended_at m j es p t in (r.0, inr r.1, r.2, r.3))
    (or_cases _ (ended m j es p) h)

kept_member : (m : Voyage) (j : ℕ) (es : List (ℕ × ℕ)) (e : ℕ × ℕ) → Member e es → gone m j e.0 ≡ false → Member e (kept m j es)
kept_member m j [] e h g = absurd h
kept_member m j (d ∷ es) e (inl s) g = first (gone m j d.0) (ap (λ (z : ℕ × ℕ). gone m j z.0) (sym s) ∙ g)
  where
    first : (b : Bool) → b ≡ false → Member e (cond b (kept m j es) (d ∷ kept m j es))
    first false k = inl s
    first true k = absurd (both_ways true k refl)
kept_member m j (d ∷ es) e (inr h) g = later (gone m j d.0) (kept_member m j es e h g)
  where
    later : (b : Bool) → Member e (kept m j es) → Member e (cond b (kept m j es) (d ∷ kept m j es))
    later true k = k
    later false k = inr k

member_kept : (m : Voyage) (j : ℕ) (es : List (ℕ × ℕ)) (e : ℕ × ℕ) → Member e (kept m j es) → Member e es
member_kept m j [] e h = absurd h
member_kept m j (d ∷ es) e h = step (gone m j d.0) h
    (λ k. inr (member_kept m j es e k))
  where
    step : (b : Bool) → Member e (cond b (kept m j es) (d ∷ kept m j es)) → (Member e (kept m j es) → Member e (d ∷ es)) → Member e (d ∷ es)
    step true k go = go k
    step false (inl s) go = inl s
    step false (inr k) go = go k

module _ (m : Voyage) (x : ℕ → Bool) (facts : Facts m) (solution : IsSolution m x) (i : ℕ) (call : is_call m (suc i) ≡ true)
    (held : List (ℕ × ℕ)) (is : IsHeld m x i held) (old : Plan) (shown : Shows m held old) (supported : IsSupported m.ship old)
    (pairs : List (ℕ × ℕ)) (next : IsHeld m x (suc i) (kept m (suc i) held ++ pairs)) (put_now : Each (λ (e : ℕ × ℕ). (var m e.0).put ≡ suc i) pairs)
    (new : Plan) (shows : Shows m (kept m (suc i) held ++ pairs) new) where
  abbrev j : ℕ
  j = suc i

  out_true : (e : ℕ × ℕ) (h : Half) → Member e held → on_half m e h ≡ true → gone m j e.0 ≡ true → out m j h (var m e.0) ≡ true
  out_true e h n t g = let p = (pair m x facts i held is e n).put in and_from _ _ t (and_from _ _ (lt-ltb _ j (omega arith)) g)

  stay_true : (e : ℕ × ℕ) (h : Half) → Member e held → on_half m e h ≡ true → gone m j e.0 ≡ false → stay m j h (var m e.0) ≡ true
  stay_true e h n t g = let p = pair m x facts i held is e n in let a = p.put in let b = p.lifted in let other : (var m e.0).lifted ≡ suc i → ⊥ = eqb-false _ _ g in
      and_from _ _ t (and_from _ _ (lt-ltb _ j (omega arith)) (lt-ltb j _ (omega arith)))

  -- block: what stands on what ends doesn't stay
  pub over_ends : (e d : ℕ × ℕ) (h : Half) → Member e held → Member d held → on_half m e h ≡ true → on_half m d (above h) ≡ true → gone m j e.0 ≡ true → gone m j d.0 ≡ true
  over_ends e d h a b s t g = ⊎_elim (λ (y : gone m j d.0 ≡ true). y)
      (λ (stays : gone m j d.0 ≡ false).
      let k = half_number m x facts i held is e h a s in
      let row = solution (Block j k.0) (and_from _ _ call (and_from _ _ (lt-ltb k.0 _ k.1) (lt-ltb _ _ (room k.0 k.2)))) in
      let low = below_two (length (variables m)) (λ v. where_set (x v) (less (out m j (half m k.0) (var m v)) -ℤ bit (stay m j (above (half m k.0)) (var m v)))) (λ v l. two_low (x v) _ _) e.0 d.0 (pair m x facts i held is e a).var_known (pair m x facts i held is d b).var_known
      (λ same. both_ways (gone m j d.0) stays (ap (gone m j) (sym same) ∙ g)) in
      let f = two_first (x e.0) (out m j (half m k.0) (var m e.0)) (stay m j (above (half m k.0)) (var m e.0)) (pair m x facts i held is e a).is_one (ap (λ (z : Half). out m j z (var m e.0)) k.2 ∙ out_true e h a s g) in
      let r = two_second (x d.0) (out m j (half m k.0) (var m d.0)) (stay m j (above (half m k.0)) (var m d.0)) (pair m x facts i held is d b).is_one (ap (λ (z : Half). stay m j (above z) (var m d.0)) k.2 ∙ stay_true d (above h) b t stays) in
      absurd (omega (arith, ints, row, low, f, r)))
      (cases_Bool (gone m j d.0))
    where
      room : (k : ℕ) → half m k ≡ h → (half m k).tier + 1 < (stack m (half m k).stack).tiers
      room k e = let has = covers_from (place m (spot m d)) (above h) t in let low = facts.tier_low (spot m d) (place m (spot m d)) (spot_is m x facts i held is d b) in
          subst (λ (z : Half). z.tier + 1 < (stack m z.stack).tiers) (sym e) (subst (λ (u : ℕ). u < (stack m h.stack).tiers) (sym has.same_tier) (subst (λ (u : ℕ). (place m (spot m d)).tier < (stack m u).tiers) (sym has.same_stack) low))

  -- below what stays something stays, down to the lowest
  pub stays_down : (t : ℕ) (s : ℕ) (side : Bool) (e : ℕ × ℕ) → Member e held → on_half m e (record { stack = s; tier = t; aft = side }) ≡ true → gone m j e.0 ≡ false
      → (d : ℕ × ℕ) × Member d held × (on_half m d (record { stack = s; tier = 0; aft = side }) ≡ true) × (gone m j d.0 ≡ false)
  stays_down zero s side e n t g = (e, n, t, g)
  stays_down (suc t) s side e n on g =
      let h : Half = record { stack = s; tier = suc t; aft = side } in
      let low : Half = record { stack = s; tier = t; aft = side } in
      let up : suc t ≡ t + 1 = omega arith in
      let f = supported s t side e.1 (subst (λ (u : ℕ). Fills m.ship old (record { stack = s; tier = u; aft = side }) e.1) up (pair_fills m x facts i held is old shown e h n on)) in
      let d = fills_pair m x facts i held is old shown low f.0 f.1 in
      stays_down t s side d.0 d.1 d.2 (false_from_ne_true (gone m j d.0.0) (λ ends. both_ways (gone m j e.0) g
      (over_ends d.0 e low d.1 n d.2 (subst (λ (u : ℕ). on_half m e (record { stack = s; tier = u; aft = side }) ≡ true) up on) ends)))

  -- below what stays something stays, at each tier
  pub stays_at : (k t : ℕ) (s : ℕ) (side : Bool) (e : ℕ × ℕ) → Member e held → on_half m e (record { stack = s; tier = k + t; aft = side }) ≡ true → gone m j e.0 ≡ false
      → (d : ℕ × ℕ) × Member d held × (on_half m d (record { stack = s; tier = t; aft = side }) ≡ true) × (gone m j d.0 ≡ false)
  stays_at zero t s side e n on g = let z : zero + t ≡ t = omega arith in (e, n, subst (λ (u : ℕ). on_half m e (record { stack = s; tier = u; aft = side }) ≡ true) z on, g)
  stays_at (suc k) t s side e n on g =
      let h : Half = record { stack = s; tier = suc k + t; aft = side } in
      let low : Half = record { stack = s; tier = k + t; aft = side } in
      let up : suc k + t ≡ k + t + 1 = omega arith in
      let f = supported s (k + t) side e.1 (subst (λ (u : ℕ). Fills m.ship old (record { stack = s; tier = u; aft = side }) e.1) up (pair_fills m x facts i held is old shown e h n on)) in
      let d = fills_pair m x facts i held is old shown low f.0 f.1 in
      stays_at k t s side d.0 d.1 d.2 (false_from_ne_true (gone m j d.0.0) (λ ends. both_ways (gone m j e.0) g
      (over_ends d.0 e low d.1 n d.2 (subst (λ (u : ℕ). on_half m e (record { stack = s; tier = u; aft = side }) ≡ true) up on) ends)))

  -- hatch: on a cover nothing stays in its lowest half-cells while something under it moves
  hatch_stops : (w : ℕ) → w < 2 → (v k : ℕ) → v < length (variables m) → x v ≡ true → k < length (halves m.ship) → moved m w j (half m k) (var m v) ≡ true
      → (e : ℕ × ℕ) (s : ℕ) (side : Bool) → Member e held → on_half m e (record { stack = s; tier = 0; aft = side }) ≡ true → gone m j e.0 ≡ false
      → cover_joins m.ship.covers (half m k).stack s ≡ true → (v ≡ e.0 → ⊥) → ⊥
  hatch_stops w low v k known one there moves e s side n on g joins other =
      let d : Half = record { stack = s; tier = 0; aft = side } in
      let b = half_number m x facts i held is e d n on in
      let exists = and_from _ _ (lt-ltb w 2 low) (and_from _ _ call (and_from _ _ (lt-ltb k _ there) (and_from _ _ (lt-ltb b.0 _ b.1) (and_from _ _ (eq-eqb _ _ (ap (λ (z : Half). z.tier) b.2)) (ap (λ (z : Half). cover_joins m.ship.covers (half m k).stack z.stack) b.2 ∙ joins))))) in
      let row = solution (Hatch w j k b.0) exists in
      let less_two = below_two (length (variables m)) (λ v. where_set (x v) (less (moved m w j (half m k) (var m v)) -ℤ bit (stay m j (half m b.0) (var m v)))) (λ v l. two_low (x v) _ _) v e.0 known (pair m x facts i held is e n).var_known other in
      let f = two_first (x v) (moved m w j (half m k) (var m v)) (stay m j (half m b.0) (var m v)) one moves in
      let r = two_second (x e.0) (moved m w j (half m k) (var m e.0)) (stay m j (half m b.0) (var m e.0)) (pair m x facts i held is e n).is_one (ap (λ (z : Half). stay m j z (var m e.0)) b.2 ∙ stay_true e d n on g) in
      omega (arith, ints, row, less_two, f, r)

  -- one cover under which the one stack lies, and on which the other stands
  joins_true : (s t k : ℕ) → LiesUnder m.ship s k → StandsOn m.ship t k → cover_joins m.ship.covers s t ≡ true
  joins_true s t k under on = any_cover m.ship.covers k under.cover under.is_cover
      (and_from _ _ (list_any-from_Contains {eq = nat_eq} nat_eq_equiv s under.cover.under under.named)
      (list_any-from_Contains {eq = nat_eq} nat_eq_equiv t under.cover.on (subst (λ (z : Cover). Contains z.on t) (same_Some on.cover under.cover (sym on.is_cover ∙ under.is_cover)) on.named)))
    where
      any_cover : (cs : List Cover) (k : ℕ) (c : Cover) → slice_get cs k ≡ Some c → (list_any (nat_eq s) c.under && list_any (nat_eq t) c.on) ≡ true → cover_joins cs s t ≡ true
      any_cover [] k c is h = absurd (none-some c is)
      any_cover (d ∷ ds) zero c is h = or_left _ _ (ap (λ (z : Cover). list_any (nat_eq s) z.under && list_any (nat_eq t) z.on) (same_Some d c is) ∙ h)
      any_cover (d ∷ ds) (suc k) c is h = or_right _ _ (any_cover ds k c is h)

  place_at : (p : ℕ) (at : Place) → slice_get (places m.ship) p ≡ Some at → place m p ≡ at
  place_at p at h = get_or_from_slice_get (places m.ship) p at no_place h

  -- a variable at place q moves, under the cover on which the pair e stands, which so ends
  cover_ends : (p q : ℕ) → IsOnCoverOf m.ship p q → (e : ℕ × ℕ) → Member e held → spot m e ≡ p → (w : ℕ) → w < 2 → (v : ℕ) → v < length (variables m) → x v ≡ true → (var m v).place ≡ q
      → ((h : Half) → at_half m h (var m v) ≡ true → moved m w j h (var m v) ≡ true) → ((z : ℕ × ℕ) → Member z held → gone m j z.0 ≡ false → v ≡ z.0 → ⊥) → gone m j e.0 ≡ true
  cover_ends p q on e n here w low v known one there moves other = ⊎_elim (λ (y : gone m j e.0 ≡ true). y)
      (λ (g : gone m j e.0 ≡ false).
      let upper = place m (spot m e) in let side = some_side upper in
      let is_upper : upper ≡ on.upper = ap (place m) here ∙ place_at p on.upper on.is_upper in
      let bottom = stays_down upper.tier upper.stack side.0 e n (covers_true upper _ side.1) g in
      let lower = place m (var m v).place in let under = some_side lower in
      let is_lower : lower ≡ on.lower = ap (place m) there ∙ place_at q on.lower on.is_lower in
      let h : Half = record { stack = lower.stack; tier = lower.tier; aft = under.0 } in
      let k = facts.half_known (var m v).place lower h (slice_get-get_or (places m.ship) (var m v).place no_place (facts.var_place v known)) under.1 in
      let number : half m k.0 ≡ h = get_or_from_slice_get (halves m.ship) k.0 h no_half k.1 in
      let joins : cover_joins m.ship.covers lower.stack upper.stack ≡ true = joins_true lower.stack upper.stack on.cover (subst (λ (z : Place). LiesUnder m.ship z.stack on.cover) (sym is_lower) on.under) (subst (λ (z : Place). StandsOn m.ship z.stack on.cover) (sym is_upper) on.on) in
      absurd (hatch_stops w low v k.0 known one (slice_get_within (halves m.ship) k.0 h k.1) (subst (λ (z : Half). moved m w j z (var m v) ≡ true) (sym number) (moves h (covers_true lower h under.1)))
      bottom.0 upper.stack side.0 bottom.1 bottom.2 bottom.3 (subst (λ (z : Half). cover_joins m.ship.covers z.stack upper.stack ≡ true) (sym number) joins)
      (other bottom.0 bottom.1 bottom.3)))
      (cases_Bool (gone m j e.0))

  ends_cover : (p q : ℕ) → IsOnCoverOf m.ship p q → (e d : ℕ × ℕ) → Member e held → spot m e ≡ p → Member d held → spot m d ≡ q → gone m j d.0 ≡ true → gone m j e.0 ≡ true
  ends_cover p q on e d n here k there g = cover_ends p q on e n here 0 (omega arith) d.0 (pair m x facts i held is d k).var_known (pair m x facts i held is d k).is_one there
      (λ h t. out_true d h k t g) (λ z a s same. both_ways (gone m j z.0) s (ap (gone m j) (sym same) ∙ g))

  puts_cover : (p q : ℕ) → IsOnCoverOf m.ship p q → (e d : ℕ × ℕ) → Member e held → spot m e ≡ p → Member d pairs → spot m d ≡ q → gone m j e.0 ≡ true
  puts_cover p q on e d n here k there =
      let now : (var m d.0).put ≡ suc i = each_at _ pairs d put_now k in
      let dp = pair m x facts (suc i) (kept m (suc i) held ++ pairs) next d (member_right d _ pairs k) in
      cover_ends p q on e n here 1 (omega arith) d.0 dp.var_known dp.is_one there
      (λ h t. and_from _ _ t (eq-eqb _ _ now)) (λ z a s same. let low = (pair m x facts i held is z a).put in let up : (var m z.0).put ≡ suc i = subst (λ (v : ℕ). (var m v).put ≡ suc i) same now in omega arith)

  still : (d : ℕ × ℕ) → Member d held → gone m j d.0 ≡ false → Holds new (spot m d) d.1
  still d k g = shows.to_plan d (member_left d _ pairs (kept_member m j held d k g))

  opened : (p c q : ℕ) → Holds old p c → IsOnCoverOf m.ship p q → (slice_get old q ≡ slice_get new q → ⊥) → (e : ℕ × ℕ) → Member e held → spot m e ≡ p → (o n : Option (Option ℕ)) → slice_get old q ≡ o → slice_get new q ≡ n → gone m j e.0 ≡ true
  opened p c q holds on differs e a here None n eo en = absurd (let l = slice_get_within (places m.ship) q on.lower on.is_lower in let w = shown.each_place in let t = slice_get_in old q (omega arith) in none-some t.0 (sym eo ∙ t.1))
  opened p c q holds on differs e a here (Some (Some b)) n eo en =
      let d = shown.from_plan q b eo in
      ⊎_elim (λ (g : gone m j d.0.0 ≡ true). ends_cover p q on e d.0 a here d.1 d.2 g)
      (λ (g : gone m j d.0.0 ≡ false). absurd (differs (eo ∙ sym (subst (λ (z : ℕ). slice_get new z ≡ Some (Some b)) d.2 (subst (λ (z : ℕ). Holds new (spot m d.0) z) d.3 (still d.0 d.1 g))))))
      (cases_Bool (gone m j d.0.0))
  opened p c q holds on differs e a here (Some None) None eo en = absurd (let l = slice_get_within (places m.ship) q on.lower on.is_lower in let w = shows.each_place in let t = slice_get_in new q (omega arith) in none-some t.0 (sym en ∙ t.1))
  opened p c q holds on differs e a here (Some None) (Some None) eo en = absurd (differs (eo ∙ sym en))
  opened p c q holds on differs e a here (Some None) (Some (Some b)) eo en =
      let d = shows.from_plan q b en in
      ⊎_elim
      (λ (k : Member d.0 (kept m j held)). absurd (let t = shown.to_plan d.0 (member_kept m j held d.0 k) in none-some d.0.1 (same_Some None (Some d.0.1) (sym eo ∙ subst (λ (z : ℕ). slice_get old z ≡ Some (Some d.0.1)) d.2 t))))
      (λ (k : Member d.0 pairs). puts_cover p q on e d.0 a here k d.2)
      (member_split d.0 (kept m j held) pairs d.1)

  pub closed : IsClosed m.ship old new (ended m j held)
  closed = record {
    changed = λ p c holds lost. let e = shown.from_plan p c holds in
        subst (λ (z : ℕ). ended m j held z ≡ true) e.2 (ended_from m j held e.0 e.1 (true_from_ne_false (gone m j e.0.0) (λ g.
        lost (subst (λ (z : ℕ). Holds new z c) e.2 (subst (λ (z : ℕ). Holds new (spot m e.0) z) e.3 (still e.0 e.1 g))))));
    over = λ p q c holds over t. let e = shown.from_plan p c holds in let d = ended_at m j held q t in
        let h : Half = record { stack = over.lower.stack; tier = over.lower.tier; aft = over.side } in
        let at_lower : place m (spot m d.0) ≡ over.lower = ap (place m) d.2 ∙ place_at q over.lower over.is_lower in
        let at_upper : place m (spot m e.0) ≡ over.upper = ap (place m) e.2 ∙ place_at p over.upper over.is_upper in
        subst (λ (z : ℕ). ended m j held z ≡ true) e.2 (ended_from m j held e.0 e.1 (over_ends d.0 e.0 h d.1 e.1
        (ap (λ (z : Place). covers z h) at_lower ∙ covers_true over.lower h (record { same_stack = refl; same_tier = refl; side = over.lower_has }))
        (ap (λ (z : Place). covers z (above h)) at_upper ∙ covers_true over.upper (above h) (record { same_stack = sym over.same_stack; same_tier = sym over.next_tier; side = over.upper_has }))
        d.3));
    on_cover = λ p q c holds on t. let e = shown.from_plan p c holds in let d = ended_at m j held q t in
        subst (λ (z : ℕ). ended m j held z ≡ true) e.2 (ended_from m j held e.0 e.1 (ends_cover p q on e.0 d.0 e.1 e.2 d.1 d.2 d.3));
    on_opened = λ p q c holds on differs. let e = shown.from_plan p c holds in
        subst (λ (z : ℕ). ended m j held z ≡ true) e.2 (ended_from m j held e.0 e.1 (opened p c q holds on differs e.0 e.1 e.2 (slice_get old q) (slice_get new q) refl refl));
  }

  pub only : (p : ℕ) → ended m j held p ≡ true → (c : ℕ) × Holds old p c
  only p t = let d = ended_at m j held p t in (d.0.1, subst (λ (z : ℕ). Holds old z d.0.1) d.2 (shown.to_plan d.0 d.1))
