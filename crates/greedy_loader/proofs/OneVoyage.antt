-- The rule determines the departures.
use Rattle.std.proofs.Common.{◌≡◌, ℕ, zero, suc, ◌<◌, Bool, true, false, List, [], ◌∷◌, Option, Some, None, sym, ◌∙◌, ap, subst, ◌⊎◌, inl, inr, ⊎_elim}
use Rattle.std.specs.Prelude.{slice_get, slice_set, option_map}
use Rattle.std.proofs.lemmas.Bool.{both_ways, cases_Bool, cases_order}
use Rattle.std.proofs.lemmas.Option.{none-some, same_Some, get_or_from_slice_get}
use Rattle.stow_data.specs.declared.cargoes.Container.{Container}
use Rattle.stow_data.specs.Ship.{Ship}
use Rattle.stow_data.specs.Shipment.{Cargo}
use Rattle.stow_data.specs.Plans.{Plan, container_at}
use Rattle.stowage_rules.specs.Faults.{IsLeast}
use Rattle.stowage_rules.proofs.Items.{same_reads}
use Rattle.plan_lifts.specs.Spread.{has}
use Rattle.greedy_loader.specs.Rule.{IsChoice, IsClean, IsOpen}
use Rattle.greedy_loader.specs.Quays.{IsLoaded, IsWithout, kept_of}
use Rattle.greedy_loader.specs.Calls.{Departs, DepartFrom, GoesBack, IsJudged, IsLiftedAt, IsQuay, LoadsAt, Restows}
use Rattle.greedy_loader.proofs.Aboard.{chosen_open}
use Rattle.greedy_loader.proofs.Carried.{flag_of, kept_from}
use Rattle.greedy_loader.proofs.InTurn.{HasAllOf, comes_before, in_turn, no_tie, one_list}
use Rattle.greedy_loader.proofs.OnQuay.{at_contains, contains_at}

-- ## One choice

one_least : (P : ℕ → Type 0) (p q : ℕ) → IsLeast P p → IsLeast P q → p ≡ q
one_least P p q a b = ⊎_elim
    (λ (e : p ≡ q). e)
    (λ (o : (p < q) ⊎ (q < p)). ⊎_elim (λ (l : p < q). absurd (b.none_below p l a.holds)) (λ (l : q < p). absurd (a.none_below q l b.holds)) o)
    (cases_order p q)

one_choice : (ship : Ship) (cargo : Cargo) (plan : Plan) (x : Container) (p q : ℕ) → IsChoice ship cargo plan x (Some p) → IsChoice ship cargo plan x (Some q) → p ≡ q
one_choice ship cargo plan x p q (inl a) (inl b) = one_least (IsClean ship cargo plan x) p q a b
one_choice ship cargo plan x p q (inl a) (inr b) = absurd (b.0 p a.holds)
one_choice ship cargo plan x p q (inr a) (inl b) = absurd (a.0 q b.holds)
one_choice ship cargo plan x p q (inr a) (inr b) = one_least (IsOpen ship cargo plan x) p q a.1 b.1

one_loaded : (ship : Ship) (cargo : Cargo) (plan : Plan) (quay : List ℕ) (made other : Option Plan) → IsLoaded ship cargo plan quay made → IsLoaded ship cargo plan quay other → made ≡ other
one_loaded ship cargo plan [] made other h k = h ∙ sym k
one_loaded ship cargo plan (c ∷ cs) made other (inl h) (inl k) =
    let e = one_choice ship cargo plan (container_at cargo c) h.0 k.0 h.1 k.1 in
    one_loaded ship cargo (slice_set plan k.0 (Some c)) cs made other (subst (λ (p : ℕ). IsLoaded ship cargo (slice_set plan p (Some c)) cs made) e h.2) k.2
one_loaded ship cargo plan (c ∷ cs) made other (inl h) (inr k) = absurd (k.0 h.0 (chosen_open ship cargo plan (container_at cargo c) h.0 h.1))
one_loaded ship cargo plan (c ∷ cs) made other (inr h) (inl k) = absurd (h.0 k.0 (chosen_open ship cargo plan (container_at cargo c) k.0 k.1))
one_loaded ship cargo plan (c ∷ cs) made other (inr h) (inr k) = h.1 ∙ sym k.1

-- ## One set, one plan of what stays, one quay

same_test : (a b : Bool) → (a ≡ true → b ≡ true) → (b ≡ true → a ≡ true) → a ≡ b
same_test a b to from = ⊎_elim
    (λ (t : a ≡ true). t ∙ sym (to t))
    (λ (f : a ≡ false). ⊎_elim (λ (t : b ≡ true). from t ∙ sym t) (λ (g : b ≡ false). f ∙ sym g) (cases_Bool b))
    (cases_Bool a)

one_set : (ship : Ship) (cargo : Cargo) (call : ℕ) (before : Plan) (set other : ℕ → Bool) → IsLiftedAt ship cargo call before set → IsLiftedAt ship cargo call before other → (p : ℕ) → set p ≡ other p
one_set ship cargo call before set other a b p = same_test (set p) (other p) (a.least other b.spread p) (b.least set a.spread p)

same_kept : (set other : List Bool) (p : ℕ) (here : Option (Option ℕ)) → has set p ≡ has other p → kept_of (slice_get set p) here ≡ kept_of (slice_get other p) here
same_kept set other p here same = ⊎_elim
    (λ (t : has set p ≡ true). ap (λ (z : Option Bool). kept_of z here) (flag_of set p t ∙ sym (flag_of other p (sym same ∙ t))))
    (λ (f : has set p ≡ false).
    kept_from (slice_get set p) here (λ e. both_ways (has set p) f (get_or_from_slice_get set p true false e))
    ∙ sym (kept_from (slice_get other p) here (λ e. both_ways (has other p) (sym same ∙ f) (get_or_from_slice_get other p true false e))))
    (cases_Bool (has set p))

one_staying : (before a b : Plan) (set other : List Bool) → ((p : ℕ) → has set p ≡ has other p) → IsWithout before set a → IsWithout before other b → a ≡ b
one_staying before a b set other same x y = same_reads a b (λ p. x.holds p ∙ (same_kept set other p (slice_get before p) (same p) ∙ sym (y.holds p)))

waits_too : (cargo : Cargo) (call : ℕ) (before : Plan) (set other : ℕ → Bool) (xs ys : List ℕ) → ((p : ℕ) → set p ≡ other p) → IsQuay cargo call before set xs → IsQuay cargo call before other ys → HasAllOf ys xs
waits_too cargo call before set other xs ys same a b k c h = at_contains ys c ((b.waits c).1 (⊎_elim
    (λ (g : GoesBack cargo call before set c). inl (g.0, record { holds = g.1.holds; is_lifted = sym (same g.0) ∙ g.1.is_lifted; stays = g.1.stays }))
    (λ (l : LoadsAt cargo call c). inr l)
    ((a.waits c).0 (contains_at xs k c h))))

one_quay : (cargo : Cargo) (call : ℕ) (before : Plan) (set other : ℕ → Bool) (xs ys : List ℕ) → ((p : ℕ) → set p ≡ other p) → IsQuay cargo call before set xs → IsQuay cargo call before other ys → xs ≡ ys
one_quay cargo call before set other xs ys same a b = one_list (comes_before cargo) (no_tie cargo) xs ys (in_turn cargo xs a.order) (in_turn cargo ys b.order) a.once b.once
    (waits_too cargo call before other set ys xs (λ p. sym (same p)) b a)
    (waits_too cargo call before set other xs ys same a b)

-- ## One departure, one voyage

one_restowed : (ship : Ship) (cargo : Cargo) (call : ℕ) (before : Plan) (made other : Option Plan) → Restows ship cargo call before made → Restows ship cargo call before other → made ≡ other
one_restowed ship cargo call before made other a b =
    let set = one_set ship cargo call before (has a.lifted) (has b.lifted) a.is_lifted b.is_lifted in
    let stays = one_staying before a.staying b.staying a.lifted b.lifted set a.stays b.stays in
    let quay = one_quay cargo call before (has a.lifted) (has b.lifted) a.quay b.quay set a.is_quay b.is_quay in
    one_loaded ship cargo b.staying b.quay made other (subst (λ (z : List ℕ). IsLoaded ship cargo b.staying z made) quay (subst (λ (z : Plan). IsLoaded ship cargo z a.quay made) stays a.loads)) b.loads

one_judged : (ship : Ship) (cargo : Cargo) (made after other : Option Plan) → IsJudged ship cargo made after → IsJudged ship cargo made other → after ≡ other
one_judged ship cargo None after other h k = h ∙ sym k
one_judged ship cargo (Some plan) after other (inl h) (inl k) = h.1 ∙ sym k.1
one_judged ship cargo (Some plan) after other (inl h) (inr k) = absurd (k.0 h.0)
one_judged ship cargo (Some plan) after other (inr h) (inl k) = absurd (h.0 k.0)
one_judged ship cargo (Some plan) after other (inr h) (inr k) = h.1 ∙ sym k.1

one_departure : (ship : Ship) (cargo : Cargo) (call : ℕ) (before : Plan) (after other : Option Plan) → Departs ship cargo call before after → Departs ship cargo call before other → after ≡ other
one_departure ship cargo call before after other a b =
    let e = one_restowed ship cargo call before a.made b.made a.restows b.restows in
    one_judged ship cargo b.made after other (subst (λ (z : Option Plan). IsJudged ship cargo z after) e a.judged) b.judged

pub one_voyage : (ship : Ship) (cargo : Cargo) (call : ℕ) (before : Plan) (left : ℕ) (plans others : Option (List Plan)) → DepartFrom ship cargo call before left plans → DepartFrom ship cargo call before left others → plans ≡ others
one_voyage ship cargo call before zero plans others h k = h ∙ sym k
one_voyage ship cargo call before (suc left) plans others (inl h) (inl k) = h.1 ∙ sym k.1
one_voyage ship cargo call before (suc left) plans others (inl h) (inr k) = absurd (none-some k.0 (one_departure ship cargo call before None (Some k.0) h.0 k.2))
one_voyage ship cargo call before (suc left) plans others (inr h) (inl k) = absurd (none-some h.0 (one_departure ship cargo call before None (Some h.0) k.0 h.2))
one_voyage ship cargo call before (suc left) plans others (inr h) (inr k) =
    let after : h.0 ≡ k.0 = same_Some h.0 k.0 (one_departure ship cargo call before (Some h.0) (Some k.0) h.2 k.2) in
    let rest : h.1 ≡ k.1 = one_voyage ship cargo (suc call) k.0 left h.1 k.1 (subst (λ (z : Plan). DepartFrom ship cargo (suc call) z left h.1) after h.3) k.3 in
    h.4 ∙ (ap (λ (z : Plan). option_map (λ others. z ∷ others) h.1) after ∙ (ap (λ (z : Option (List Plan)). option_map (λ others. k.0 ∷ others) z) rest ∙ sym k.4))
