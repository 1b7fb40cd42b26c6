-- What stands in the plan that the rule makes.
use Rattle.std.proofs.Common.{◌≡◌, ℕ, zero, suc, ◌-◌, ◌<◌, ◌≤◌, Bool, true, false, List, [], ◌∷◌, length, Option, Some, None, refl, sym, ◌∙◌, ap, subst, arith, ◌⊎◌, inl, inr, ⊎_elim, length-set}
use Rattle.std.specs.Prelude.{slice_get, slice_set}
use Rattle.std.proofs.lemmas.Bool.{both_ways, cases_eq, cases_Bool, eq-eqb, ne_eqb}
use Rattle.std.proofs.lemmas.Option.{none-some, same_Some, slice_get_within, get_or_from_slice_get}
use Rattle.stow_data.specs.declared.cargoes.Container.{Container}
use Rattle.stow_data.specs.Ship.{Ship, places}
use Rattle.stow_data.specs.Shipment.{Cargo, IsCargo, IsShipped, IsAboard}
use Rattle.stow_data.specs.Plans.{Plan, container_at}
use Rattle.stowage_rules.specs.Plan.{Holds, IsWellFormed}
use Rattle.stowage_rules.specs.Departure.{HoldsAboard}
use Rattle.stowage_rules.proofs.Items.{slice_get_in}
use Rattle.voyage_meaning.specs.Moves.{leaves}
use Rattle.plan_lifts.specs.Spread.{has}
use Rattle.plan_lifts.proofs.Upper.{leaves_is}
use Rattle.greedy_loader.specs.Rule.{IsChoice}
use Rattle.greedy_loader.specs.Quays.{IsWithout, IsLoaded, AreWaiting, kept_of}
use Rattle.greedy_loader.specs.Calls.{GoesBack, IsLiftedAt, IsQuay, LoadsAt}
use Rattle.greedy_loader.proofs.Aboard.{chosen_open, open_free}
use Rattle.greedy_loader.proofs.Leaving.{leaving_at}
use Rattle.greedy_loader.proofs.Putting.{each_is, put_from, put_keeps, put_there}
use Rattle.greedy_loader.proofs.Taken.{kept_was}
use Rattle.greedy_loader.proofs.OnQuay.{at_contains, contains_at}

-- ## What went aboard

-- a plan that has what stood in the first one and the containers of the quay, and no more
pub record Carries (first : Plan) (quay : List ℕ) (end : Plan) : Type 0 where
  pub keeps : (p c : ℕ) → Holds first p c → Holds end p c
  pub takes : (k c : ℕ) → slice_get quay k ≡ Some c → (p : ℕ) × Holds end p c
  pub only : (p c : ℕ) → Holds end p c → Holds first p c ⊎ ((k : ℕ) × (slice_get quay k ≡ Some c))

chosen_free : (ship : Ship) (cargo : Cargo) (plan : Plan) (c p : ℕ) → length plan ≡ length (places ship) → IsChoice ship cargo plan (container_at cargo c) (Some p) → (p < length plan) × (slice_get plan p ≡ Some None)
chosen_free ship cargo plan c p long chosen =
    let open_ = chosen_open ship cargo plan (container_at cargo c) p chosen in
    let l : p < length plan = let i = slice_get_within (places ship) p open_.place open_.is_place in omega (arith, i, long) in
    let at = slice_get_in plan p l in
    (l, at.1 ∙ ap (λ (z : Option ℕ). Some z) (open_free ship cargo plan (container_at cargo c) p open_.place at.0 open_.is_place open_.is_open at.1))

first_or_later : (P : ℕ → Type 0) (c : ℕ) (cs : List ℕ) → P c → ((k d : ℕ) → slice_get cs k ≡ Some d → P d) → (k d : ℕ) → slice_get (c ∷ cs) k ≡ Some d → P d
first_or_later P c cs here later zero d h = subst P (same_Some c d h) here
first_or_later P c cs here later (suc k) d h = later k d h

pub carries : (ship : Ship) (cargo : Cargo) (first : Plan) (quay : List ℕ) (end : Plan) → length first ≡ length (places ship) → IsLoaded ship cargo first quay (Some end) → Carries first quay end
carries ship cargo first [] end long h = subst (λ (z : Plan). Carries first [] z) (sym (same_Some end first h)) (record { keeps = λ p c x. x; takes = λ k c x. absurd (none-some c x); only = λ p c x. inl x })
carries ship cargo first (c ∷ cs) end long h = ⊎_elim
    (λ (a : (p : ℕ) × IsChoice ship cargo first (container_at cargo c) (Some p) × IsLoaded ship cargo (slice_set first p (Some c)) cs (Some end)).
    let rest = carries ship cargo (slice_set first a.0 (Some c)) cs end (length-set first a.0 (Some c) ∙ long) a.2 in
    let free = chosen_free ship cargo first c a.0 long a.1 in
    record {
      keeps = λ p d x. rest.keeps p d (put_keeps first a.0 c p d free.1 x);
      takes = first_or_later (λ (d : ℕ). (p : ℕ) × Holds end p d) c cs (a.0, rest.keeps a.0 c (put_there first a.0 c free.0)) rest.takes;
      only = λ p d x. ⊎_elim
          (λ (o : Holds (slice_set first a.0 (Some c)) p d). ⊎_elim
          (λ (e : (p ≡ a.0) × (d ≡ c)). inr (0, ap (λ (z : ℕ). Some z) (sym e.1)))
          (λ (w : Holds first p d). inl w)
          (put_from first a.0 c p d o))
          (λ (w : (k : ℕ) × (slice_get cs k ≡ Some d)). inr (suc (w.0), w.1))
          (rest.only p d x);
    })
    (λ (b : IsChoice ship cargo first (container_at cargo c) None × (Some end ≡ None)). absurd (none-some end (sym b.1)))
    h

-- ## What stayed

pub flag_of : (set : List Bool) (p : ℕ) → has set p ≡ true → slice_get set p ≡ Some true
flag_of [] p h = absurd (both_ways false refl h)
flag_of (b ∷ bs) zero h = ap (λ (z : Bool). Some z) h
flag_of (b ∷ bs) (suc p) h = flag_of bs p h

none_of_taken : (here : Option (Option ℕ)) (c : ℕ) → kept_of (Some true) here ≡ Some (Some c) → ⊥
none_of_taken (Some o) c h = none-some c (same_Some None (Some c) h)
none_of_taken None c h = none-some (Some c) h

pub kept_from : (flag : Option Bool) (here : Option (Option ℕ)) → (flag ≡ Some true → ⊥) → kept_of flag here ≡ here
kept_from (Some true) here off = absurd (off refl)
kept_from (Some false) here off = refl
kept_from None here off = refl

-- what stays stood there before, at a place that isn't lifted
pub stayed_from : (before staying : Plan) (set : List Bool) (p c : ℕ) → IsWithout before set staying → Holds staying p c → Holds before p c × (has set p ≡ false)
stayed_from before staying set p c without h =
    let e : kept_of (slice_get set p) (slice_get before p) ≡ Some (Some c) = sym (without.holds p) ∙ h in (
      kept_was (slice_get set p) (slice_get before p) c e,
      ⊎_elim
          (λ (t : has set p ≡ true). absurd (none_of_taken (slice_get before p) c (ap (λ (z : Option Bool). kept_of z (slice_get before p)) (sym (flag_of set p t)) ∙ e)))
          (λ (f : has set p ≡ false). f)
          (cases_Bool (has set p)),
    )

pub stays_there : (before staying : Plan) (set : List Bool) (p c : ℕ) → IsWithout before set staying → Holds before p c → has set p ≡ false → Holds staying p c
stays_there before staying set p c without h off =
    without.holds p ∙ (kept_from (slice_get set p) (slice_get before p) (λ e. both_ways (has set p) off (get_or_from_slice_get set p true false e)) ∙ h)

-- what waits stands nowhere
pub waiting_ashore : (ship : Ship) (cargo : Cargo) (call : ℕ) (before staying : Plan) (set : List Bool) (quay : List ℕ) → 1 ≤ call → IsWellFormed ship cargo before → HoldsAboard cargo (call - 1) before → IsWithout before set staying → IsQuay cargo call before (has set) quay → AreWaiting cargo staying quay
waiting_ashore ship cargo call before staying set quay from formed aboard without is = record {
  known = λ k c at. ⊎_elim
      (λ (g : GoesBack cargo call before (has set) c). let x = formed.known g.0 c g.1.holds in slice_get_within cargo.containers c x.0 x.1)
      (λ (l : LoadsAt cargo call c). slice_get_within cargo.containers c l.container l.is_container)
      ((is.waits c).0 (contains_at quay k c at));
  once = is.once;
  ashore = λ k c at q holds.
      let was = stayed_from before staying set q c without holds in
      ⊎_elim
      (λ (g : GoesBack cargo call before (has set) c). both_ways (has set q) was.1 (ap (has set) (formed.once q g.0 c was.0 g.1.holds) ∙ g.1.is_lifted))
      (λ (l : LoadsAt cargo call c). let on = (aboard c l.container l.is_container).0 (q, was.0) in let a = on.loaded in let b = l.loads in absurd (omega (arith, a, b, from)))
      ((is.waits c).0 (contains_at quay k c at));
}

-- ## What is aboard after the call

stays_aboard : (cargo : Cargo) (call c : ℕ) (x : Container) → slice_get cargo.containers c ≡ Some x → leaves cargo call c ≡ false → IsAboard (call - 1) x → 1 ≤ call → IsAboard call x
stays_aboard cargo call c x is stays on from =
    let a = on.loaded in
    let b = on.stays in
    let other : x.dest ≡ call → ⊥ = λ e. both_ways (leaves cargo call c) stays (leaves_is cargo call c x is ∙ eq-eqb x.dest call e) in
    record { loaded = omega (arith, a); stays = omega (arith, b, other, from) }

pub aboard_after : (ship : Ship) (cargo : Cargo) (call : ℕ) (before staying end : Plan) (set : List Bool) (quay : List ℕ) → IsCargo cargo → 1 ≤ call → IsWellFormed ship cargo before → HoldsAboard cargo (call - 1) before → IsLiftedAt ship cargo call before (has set) → IsWithout before set staying → IsQuay cargo call before (has set) quay → IsLoaded ship cargo staying quay (Some end) → HoldsAboard cargo call end
aboard_after ship cargo call before staying end set quay rules from formed aboard lifted without is loaded c x known =
    let all = carries ship cargo staying quay end (without.each_place ∙ formed.each_place) loaded in
    let shipped = each_is (IsShipped (length cargo.rotation)) cargo.containers c x rules.each_shipped known in (
      λ s. ⊎_elim
          (λ (k : Holds staying s.0 c).
          let was = stayed_from before staying set s.0 c without k in
          let stays : leaves cargo call c ≡ false = ⊎_elim
          (λ (t : leaves cargo call c ≡ true). absurd (both_ways (has set s.0) was.1 (lifted.spread.seeded s.0 (leaving_at cargo call before s.0 c was.0 t))))
          (λ (f : leaves cargo call c ≡ false). f)
          (cases_Bool (leaves cargo call c)) in
          stays_aboard cargo call c x known stays ((aboard c x known).0 (s.0, was.0)) from)
          (λ (w : (k : ℕ) × (slice_get quay k ≡ Some c)). ⊎_elim
          (λ (g : GoesBack cargo call before (has set) c). stays_aboard cargo call c x known g.1.stays ((aboard c x known).0 (g.0, g.1.holds)) from)
          (λ (l : LoadsAt cargo call c).
          let e : x.load ≡ call = ap (λ (z : Container). z.load) (same_Some x l.container (sym known ∙ l.is_container)) ∙ l.loads in
          let later = shipped.later in
          record { loaded = omega (arith, e); stays = omega (arith, e, later) })
          ((is.waits c).0 (contains_at quay w.0 c w.1)))
          (all.only s.0 c s.1),
      λ on. let a = on.loaded in let b = on.stays in ⊎_elim
          (λ (e : x.load ≡ call). let at = at_contains quay c ((is.waits c).1 (inr (record { container = x; is_container = known; loads = e }))) in all.takes at.0 c at.1)
          (λ (ne : x.load ≡ call → ⊥).
          let s = (aboard c x known).1 (record { loaded = omega (arith, a, ne); stays = omega (arith, b) }) in
          ⊎_elim
          (λ (t : has set s.0 ≡ true).
          let stays : leaves cargo call c ≡ false = leaves_is cargo call c x known ∙ ne_eqb x.dest call (λ e. omega (arith, b, e)) in
          let at = at_contains quay c ((is.waits c).1 (inl (s.0, record { holds = s.1; is_lifted = t; stays = stays }))) in all.takes at.0 c at.1)
          (λ (f : has set s.0 ≡ false). (s.0, all.keeps s.0 c (stays_there before staying set s.0 c without s.1 f)))
          (cases_Bool (has set s.0)))
          (cases_eq x.load call),
    )
