-- The quay beside the plan, through one lift and one put.
use Rattle.std.specs.Prelude.{◌≡◌, ℕ, Bool, true, false, List, [], ◌∷◌, Some, slice_get, slice_set, ◌||◌, ◌&&◌, not, ◌==◌, ◌⊎◌, length, ◌<◌, suc, zero, cond}
use Rattle.std.proofs.Common.{refl, sym, ◌∙◌, ap, arith, subst, inl, inr, ⊎_elim}
use Rattle.std.proofs.lemmas.Bool.{and_from, and_parts, both_ways, or_cases, or_left, or_right, eq-eqb, eqb-true, cases_eq, ne_eqb, not_from_false, not_from_true}
use Rattle.std.proofs.lemmas.Option.{none-some, same_Some, slice_get_within}
use Rattle.std.proofs.lemmas.List.{length-set}
use Rattle.stow_data.specs.declared.cargoes.Container.{Container}
use Rattle.voyage_meaning.specs.declared.moves.Move.TheVariants.{Lift, Put}
use Rattle.stow_data.specs.Ship.{Ship}
use Rattle.stow_data.specs.Shipment.{Cargo}
use Rattle.stow_data.specs.Plans.{Plan}
use Rattle.stowage_rules.specs.Plan.{Holds, IsWellFormed}
use Rattle.voyage_meaning.specs.Moves.{State, after, leaves, quay_with}
use Rattle.stowage_rules.proofs.Items.{slice_get-set_other, slice_get-set_same, slice_get_in}
use Rattle.plan_lifts.proofs.Steps.{Lifting, Putting, still_held, lifting_more, putting_more}

-- two containers in one place are one
pub same_held : (plan : Plan) (p c d : ℕ) → Holds plan p c → Holds plan p d → c ≡ d
same_held plan p c d x y = same_Some c d (same_Some (Some c) (Some d) (sym x ∙ y))

-- a flag that is set stays set through another setting
flag_kept : (flags : List Bool) (i j : ℕ) → slice_get flags j ≡ Some true → slice_get (slice_set flags i true) j ≡ Some true
flag_kept flags i j h =
    ⊎_elim (λ (e : j ≡ i). subst (λ (x : ℕ). slice_get (slice_set flags x true) j ≡ Some true) e (slice_get-set_same flags j true true h))
    (λ (ne : j ≡ i → ⊥). slice_get-set_other flags i j true ne ∙ h)
    (cases_eq j i)

abbrev pub Loads : Cargo → ℕ → ℕ → Type 0
Loads cargo call c = (container : Container) × (slice_get cargo.containers c ≡ Some container) × (container.load ≡ call)

-- c was lifted from a place that is gone, and doesn't leave
pub record WasLifted (cargo : Cargo) (call : ℕ) (old : Plan) (gone : ℕ → Bool) (c : ℕ) : Type 0 where
  pub from : ℕ
  pub held : Holds old from c
  pub is_gone : gone from ≡ true
  pub stays : leaves cargo call c ≡ false

pub record LiftState (cargo : Cargo) (call : ℕ) (old : Plan) (gone : ℕ → Bool) (s : State) : Type 0 where
  pub plan : Lifting old gone s.plan
  pub quay_length : length s.quay ≡ length cargo.containers
  pub loads_wait : (c : ℕ) → Loads cargo call c → slice_get s.quay c ≡ Some true
  pub lifted_wait : (c : ℕ) → WasLifted cargo call old gone c → slice_get s.quay c ≡ Some true
  pub only_these : (c : ℕ) → slice_get s.quay c ≡ Some true → Loads cargo call c ⊎ WasLifted cargo call old gone c

wider : {cargo : Cargo} {call : ℕ} {old : Plan} {gone : ℕ → Bool} {c : ℕ} (n : ℕ) → WasLifted cargo call old gone c → WasLifted cargo call old (λ p. p == n || gone p) c
wider {cargo} {call} {old} {gone} n w = record { from = w.from; held = w.held; is_gone = or_right (w.from == n) (gone w.from) w.is_gone; stays = w.stays }

-- a lift keeps the state
pub lift_step : (ship : Ship) (cargo : Cargo) (call : ℕ) (old : Plan) (gone : ℕ → Bool) (s : State) (n c : ℕ) → IsWellFormed ship cargo old → LiftState cargo call old gone s → Holds s.plan n c → LiftState cargo call old (λ p. p == n || gone p) (after cargo call s (Lift n))
lift_step ship cargo call old gone s n c formed state held = rw_quay (leaves cargo call c) refl
  where
    was : Holds old n c
    was = (still_held state.plan n c held).1

    inside : (x : Bool) × (slice_get s.quay c ≡ Some x)
    inside = slice_get_in s.quay c (let known = formed.known n c was in let l : c < length cargo.containers = slice_get_within cargo.containers c known.0 known.1 in omega (arith, state.quay_length))

    here : leaves cargo call c ≡ false → WasLifted cargo call old (λ p. p == n || gone p) c
    here l = record { from = n; held = was; is_gone = or_left (n == n) (gone n) (eq-eqb n n refl); stays = l }

    quay_is : (after cargo call s (Lift n)).quay ≡ cond (leaves cargo call c) s.quay (slice_set s.quay c true)
    quay_is = ap (quay_with cargo call s.quay) held

    made : (quay : List Bool) → length quay ≡ length cargo.containers → ((d : ℕ) → slice_get s.quay d ≡ Some true → slice_get quay d ≡ Some true) → (leaves cargo call c ≡ false → slice_get quay c ≡ Some true) → ((d : ℕ) → slice_get quay d ≡ Some true → (slice_get s.quay d ≡ Some true) ⊎ ((d ≡ c) × (leaves cargo call c ≡ false))) → (after cargo call s (Lift n)).quay ≡ quay → LiftState cargo call old (λ p. p == n || gone p) (after cargo call s (Lift n))
    made quay len keeps puts only is = record {
      plan = lifting_more old gone s.plan n c state.plan held;
      quay_length = ap length is ∙ len;
      loads_wait = λ d l. ap (λ (q : List Bool). slice_get q d) is ∙ keeps d (state.loads_wait d l);
      lifted_wait = λ d w. ap (λ (q : List Bool). slice_get q d) is ∙ ⊎_elim
          (λ (e : (w.from == n) ≡ true).
          let at : w.from ≡ n = eqb-true w.from n e in
          let same : d ≡ c = same_held old n d c (subst (λ (x : ℕ). Holds old x d) at w.held) was in
          ap (slice_get quay) same ∙ puts (sym (ap (leaves cargo call) same) ∙ w.stays))
          (λ (g : gone w.from ≡ true). keeps d (state.lifted_wait d (record { from = w.from; held = w.held; is_gone = g; stays = w.stays })))
          (or_cases (w.from == n) (gone w.from) w.is_gone);
      only_these = λ d h. ⊎_elim
          (λ (x : slice_get s.quay d ≡ Some true). ⊎_elim (λ (l : Loads cargo call d). inl l) (λ (w : WasLifted cargo call old gone d). inr (wider n w)) (state.only_these d x))
          (λ (x : (d ≡ c) × (leaves cargo call c ≡ false)). inr (subst (λ (y : ℕ). WasLifted cargo call old (λ p. p == n || gone p) y) (sym x.0) (here x.1)))
          (only d (sym (ap (λ (q : List Bool). slice_get q d) is) ∙ h));
    }

    rw_quay : (b : Bool) → leaves cargo call c ≡ b → LiftState cargo call old (λ p. p == n || gone p) (after cargo call s (Lift n))
    rw_quay true e = made s.quay state.quay_length (λ d h. h) (λ l. absurd (both_ways (leaves cargo call c) l e)) (λ d h. inl h) (quay_is ∙ ap (λ (b : Bool). cond b s.quay (slice_set s.quay c true)) e)
    rw_quay false e = made (slice_set s.quay c true) (length-set s.quay c true ∙ state.quay_length) (λ d h. flag_kept s.quay c d h) (λ l. slice_get-set_same s.quay c true inside.0 inside.1)
        (λ d h. ⊎_elim (λ (same : d ≡ c). inr (same, e)) (λ (ne : d ≡ c → ⊥). inl (sym (slice_get-set_other s.quay c d true ne) ∙ h)) (cases_eq d c))
        (quay_is ∙ ap (λ (b : Bool). cond b s.quay (slice_set s.quay c true)) e)

-- c is due at a place that waits
pub record IsDue (new : Plan) (waits : ℕ → Bool) (c : ℕ) : Type 0 where
  pub place : ℕ
  pub held : Holds new place c
  pub waiting : waits place ≡ true

pub record PutState (new : Plan) (waits : ℕ → Bool) (s : State) : Type 0 where
  pub plan : Putting new waits s.plan
  pub due_waits : (c : ℕ) → IsDue new waits c → slice_get s.quay c ≡ Some true
  pub only_due : (c : ℕ) → slice_get s.quay c ≡ Some true → IsDue new waits c

-- a put keeps the state
pub put_step : (ship : Ship) (cargo : Cargo) (call : ℕ) (new : Plan) (waits : ℕ → Bool) (s : State) (n c : ℕ) → IsWellFormed ship cargo new → PutState new waits s → Holds new n c → waits n ≡ true → PutState new (λ p. waits p && not (p == n)) (after cargo call s (Put c n))
put_step ship cargo call new waits s n c formed state held due = record {
  plan = putting_more new waits s.plan n c state.plan held due;
  due_waits = λ d w.
      let parts = and_parts (waits w.place) (not (w.place == n)) w.waiting in
      slice_get-set_other s.quay c d false (λ same. both_ways (not (w.place == n)) (not_from_true (w.place == n) (eq-eqb w.place n (formed.once w.place n c (subst (λ (x : ℕ). Holds new w.place x) same w.held) held))) parts.1)
      ∙ state.due_waits d (record { place = w.place; held = w.held; waiting = parts.0 });
  only_due = λ d h.
      let other : d ≡ c → ⊥ = λ same. flag_cleared s.quay c d same h in
      let w = state.only_due d (sym (slice_get-set_other s.quay c d false other) ∙ h) in
      record { place = w.place; held = w.held; waiting = and_from (waits w.place) (not (w.place == n)) w.waiting (not_from_false (w.place == n) (ne_eqb w.place n (λ e. other (same_held new n d c (subst (λ (x : ℕ). Holds new x d) e w.held) held)))) };
}
  where
    flag_cleared : (flags : List Bool) (i j : ℕ) → j ≡ i → slice_get (slice_set flags i false) j ≡ Some true → ⊥
    flag_cleared [] i j e h = none-some true h
    flag_cleared (x ∷ xs) zero zero e h = both_ways false refl (same_Some false true h)
    flag_cleared (x ∷ xs) zero (suc j) e h = absurd (omega arith)
    flag_cleared (x ∷ xs) (suc i) zero e h = absurd (omega arith)
    flag_cleared (x ∷ xs) (suc i) (suc j) e h = flag_cleared xs i j (omega arith) h
