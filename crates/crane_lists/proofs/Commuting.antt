-- Independent tasks may be done in either order.
use Rattle.std.specs.Prelude.{◌≡◌, ℕ, Bool, true, false, cond, List, Option, Some, None, slice_get}
use Rattle.std.proofs.Common.{refl, sym, ◌∙◌, ap, subst}
use Rattle.stow_data.specs.declared.geometry.Place.{Place}
use Rattle.stow_data.specs.Ship.{Ship, places}
use Rattle.stow_data.specs.Shipment.{Cargo}
use Rattle.stow_data.specs.Plans.{Plan}
use Rattle.stowage_rules.proofs.Items.{slice_get-set_other}
use Rattle.voyage_meaning.specs.declared.moves.Move.{Move}
use Rattle.voyage_meaning.specs.declared.moves.Move.TheVariants.{OffCover, OnCover, Lift, Put}
use Rattle.voyage_meaning.specs.Moves.{State, Allowed, after, leaves}
use Rattle.crane_lists.specs.declared.tasks.Task.{Task}
use Rattle.crane_lists.specs.Tasks.{IsCoverOf, stack_of, Touches, cover_of, named, AreIndependent, CanDo, Commute}
use Rattle.crane_lists.proofs.Looks.{Agree, agree_back, stack_is, can_too, held_is}
use Rattle.crane_lists.proofs.Writes.{Write, written, plan_write, off_write, quay_write, landed, after_writes, writes_swap, At}

pub swapped_sides : (ship : Ship) (t u : Task) → AreIndependent ship t u → AreIndependent ship u t
swapped_sides ship t u i = record { no_stack = λ s a b. i.no_stack s b a; no_container = λ c a b. i.no_container c b a; no_cover = λ k a b. i.no_cover k b a }

-- what a move writes in the plan is at a place of a stack that it touches
plan_touch : (ship : Ship) (m : Move) (q : ℕ) (place : Place) → slice_get (places ship) q ≡ Some place → At (plan_write m) q → Touches ship m place.stack
plan_touch ship (Lift p) q place is at = stack_is ship q place is ∙ ap (stack_of ship) (sym at)
plan_touch ship (Put c p) q place is at = stack_is ship q place is ∙ ap (stack_of ship) (sym at)
plan_touch ship (OffCover k) q place is at = absurd at
plan_touch ship (OnCover k) q place is at = absurd at

off_own : (m : Move) (k : ℕ) → At (off_write m) k → cover_of m ≡ Some k
off_own (Lift p) k at = absurd at
off_own (Put c p) k at = absurd at
off_own (OffCover j) k at = ap Some at
off_own (OnCover j) k at = ap Some at

cover_touch : (ship : Ship) (m : Move) (stack k : ℕ) → IsCoverOf ship stack k → At (off_write m) k → Touches ship m stack
cover_touch ship (Lift p) stack k is at = absurd at
cover_touch ship (Put c p) stack k is at = absurd at
cover_touch ship (OffCover j) stack k is at = subst (λ (x : ℕ). IsCoverOf ship stack x) (sym at) is
cover_touch ship (OnCover j) stack k is at = subst (λ (x : ℕ). IsCoverOf ship stack x) (sym at) is

landed_at : (cargo : Cargo) (call : ℕ) (d c : ℕ) → At (landed cargo call (Some (Some d))) c → d ≡ c
landed_at cargo call d c at = by_test (leaves cargo call d) at
  where
    by_test : (b : Bool) → At (cond b None (Some (d, true))) c → d ≡ c
    by_test true h = absurd h
    by_test false h = h

quay_own : (ship : Ship) (cargo : Cargo) (call : ℕ) (s : State) (m : Move) (c : ℕ) → Allowed ship cargo s m → At (quay_write cargo call s.plan m) c → named s m ≡ Some c
quay_own ship cargo call s (Lift p) c can at = held_is s.plan p can.container can.filled ∙ ap Some (landed_at cargo call can.container c (subst (λ (x : Option (Option ℕ)). At (landed cargo call x) c) can.filled at))
quay_own ship cargo call s (Put d p) c can at = ap Some at
quay_own ship cargo call s (OffCover k) c can at = absurd at
quay_own ship cargo call s (OnCover k) c can at = absurd at

read_written : {X : Type 0} (w : Write X) (xs : List X) (i : ℕ) → (At w i → ⊥) → slice_get xs i ≡ slice_get (written w xs) i
read_written None xs i ne = refl
read_written (Some w) xs i ne = sym (slice_get-set_other xs w.0 i w.1 (λ e. ne (sym e)))

-- an independent task leaves what a task looks at
pub agree_after : (ship : Ship) (cargo : Cargo) (call : ℕ) (s : State) (t u : Task) → AreIndependent ship t u → CanDo ship cargo s u → Agree ship t s (after cargo call s u.step)
agree_after ship cargo call s t u i can = subst (λ (x : State). Agree ship t s x) (sym (after_writes cargo call s u.step)) (record {
  places_of = λ q place is touches. read_written (plan_write u.step) s.plan q (λ at. i.no_stack place.stack touches (plan_touch ship u.step q place is at));
  container_of = λ c is. read_written (quay_write cargo call s.plan u.step) s.quay c (λ at. i.no_container c is (sym can.names ∙ quay_own ship cargo call s u.step c can.allowed at));
  covers_of = λ stack k touches is. read_written (off_write u.step) s.off k (λ at. i.no_stack stack touches (cover_touch ship u.step stack k is at));
  own_cover = λ k is. read_written (off_write u.step) s.off k (λ at. i.no_cover k is (off_own u.step k at));
})

-- what a move writes on the quay is the same in states that agree
quay_same : (ship : Ship) (cargo : Cargo) (call : ℕ) (s s' : State) (m : Move) (b : Option ℕ) → Agree ship (record { step = m; container = b }) s s' → Allowed ship cargo s m → quay_write cargo call s.plan m ≡ quay_write cargo call s'.plan m
quay_same ship cargo call s s' (Lift p) b a can = ap (landed cargo call) (a.places_of p can.place can.is_place (stack_is ship p can.place can.is_place))
quay_same ship cargo call s s' (Put c p) b a can = refl
quay_same ship cargo call s s' (OffCover k) b a can = refl
quay_same ship cargo call s s' (OnCover k) b a can = refl

-- a place that is written is one of the ship
known_place : (ship : Ship) (cargo : Cargo) (s : State) (m : Move) (q : ℕ) → Allowed ship cargo s m → At (plan_write m) q → (place : Place) × (slice_get (places ship) q ≡ Some place)
known_place ship cargo s (Lift p) q can at = (can.place, ap (slice_get (places ship)) (sym at) ∙ can.is_place)
known_place ship cargo s (Put c p) q can at = (can.place, ap (slice_get (places ship)) (sym at) ∙ can.is_place)
known_place ship cargo s (OffCover k) q can at = absurd at
known_place ship cargo s (OnCover k) q can at = absurd at

two_after : (cargo : Cargo) (call : ℕ) (s : State) (m n : Move) → after cargo call (after cargo call s m) n ≡ record {
  plan = written (plan_write n) (written (plan_write m) s.plan);
  quay = written (quay_write cargo call (after cargo call s m).plan n) (written (quay_write cargo call s.plan m) s.quay);
  off = written (off_write n) (written (off_write m) s.off);
}
two_after cargo call s m n = after_writes cargo call (after cargo call s m) n ∙ ap (λ (x : State). record { plan = written (plan_write n) x.plan; quay = written (quay_write cargo call (after cargo call s m).plan n) x.quay; off = written (off_write n) x.off }) (after_writes cargo call s m)

abbrev state_of : Plan → List Bool → List Bool → State
state_of plan quay off = record { plan = plan; quay = quay; off = off }

same_state : (a b : Plan) (c d : List Bool) (e f : List Bool) → a ≡ b → c ≡ d → e ≡ f → state_of a c e ≡ state_of b d f
same_state a b c d e f p q r = cc

pub commute : (ship : Ship) (cargo : Cargo) (call : ℕ) (s : State) (t u : Task) → AreIndependent ship t u → CanDo ship cargo s t → CanDo ship cargo (after cargo call s t.step) u → Commute ship cargo call s t u
commute ship cargo call s t u i can next =
    let looks = agree_after ship cargo call s u t (swapped_sides ship t u i) can in
    let sooner = can_too ship cargo (after cargo call s t.step) s u (agree_back ship u s (after cargo call s t.step) looks) next in
    let looks_too = agree_after ship cargo call s t u i sooner in
    let quay_t = quay_same ship cargo call s (after cargo call s u.step) t.step t.container looks_too can.allowed in
    let quay_u = quay_same ship cargo call s (after cargo call s t.step) u.step u.container looks sooner.allowed in
    record {
      sooner = sooner;
      later = can_too ship cargo s (after cargo call s u.step) t looks_too can;
      same = two_after cargo call s t.step u.step ∙ (same_state
          (written (plan_write u.step) (written (plan_write t.step) s.plan)) (written (plan_write t.step) (written (plan_write u.step) s.plan))
          (written (quay_write cargo call (after cargo call s t.step).plan u.step) (written (quay_write cargo call s.plan t.step) s.quay)) (written (quay_write cargo call (after cargo call s u.step).plan t.step) (written (quay_write cargo call s.plan u.step) s.quay))
          (written (off_write u.step) (written (off_write t.step) s.off)) (written (off_write t.step) (written (off_write u.step) s.off))
          (writes_swap (plan_write t.step) (plan_write u.step) s.plan (λ q at at_too. let place = known_place ship cargo s t.step q can.allowed at in i.no_stack place.0.stack (plan_touch ship t.step q place.0 place.1 at) (plan_touch ship u.step q place.0 place.1 at_too)))
          (ap (λ (w : Write Bool). written w (written (quay_write cargo call s.plan t.step) s.quay)) (sym quay_u) ∙ (writes_swap (quay_write cargo call s.plan t.step) (quay_write cargo call s.plan u.step) s.quay (λ c at at_too. i.no_container c (sym can.names ∙ quay_own ship cargo call s t.step c can.allowed at) (sym sooner.names ∙ quay_own ship cargo call s u.step c sooner.allowed at_too)) ∙ ap (λ (w : Write Bool). written w (written (quay_write cargo call s.plan u.step) s.quay)) quay_t))
          (writes_swap (off_write t.step) (off_write u.step) s.off (λ k at at_too. i.no_cover k (off_own t.step k at) (off_own u.step k at_too)))
          ∙ sym (two_after cargo call s u.step t.step));
    }
