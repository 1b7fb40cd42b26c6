-- What a task looks at, and that an independent one leaves that as it is.
use Rattle.std.specs.Prelude.{◌≡◌, ℕ, Option, Some, None, slice_get}
use Rattle.std.proofs.Common.{refl, sym, ◌∙◌, ap, subst, inl, inr}
use Rattle.std.proofs.lemmas.Option.{get_or_from_slice_get}
use Rattle.stow_data.specs.declared.geometry.Half.{Half}
use Rattle.stow_data.specs.declared.geometry.Place.{Place}
use Rattle.stow_data.specs.Ship.{Ship, places, half_at, half_over}
use Rattle.stow_data.specs.Shipment.{Cargo}
use Rattle.stow_data.specs.Plans.{Plan, no_place, held}
use Rattle.stowage_rules.specs.Plan.{Holds, Fills}
use Rattle.voyage_meaning.specs.declared.moves.Move.{Move}
use Rattle.voyage_meaning.specs.declared.moves.Move.TheVariants.{OffCover, OnCover, Lift, Put}
use Rattle.voyage_meaning.specs.Moves.{State, Allowed}
use Rattle.crane_lists.specs.declared.tasks.Task.{Task}
use Rattle.crane_lists.specs.Tasks.{IsCoverOf, stack_of, Touches, cover_of, named, CanDo}

-- two states agree in all that the task looks at
pub record Agree (ship : Ship) (t : Task) (s s' : State) : Type 0 where
  pub places_of : (q : ℕ) (place : Place) → slice_get (places ship) q ≡ Some place → Touches ship t.step place.stack → slice_get s.plan q ≡ slice_get s'.plan q
  pub container_of : (c : ℕ) → t.container ≡ Some c → slice_get s.quay c ≡ slice_get s'.quay c
  pub covers_of : (stack k : ℕ) → Touches ship t.step stack → IsCoverOf ship stack k → slice_get s.off k ≡ slice_get s'.off k
  pub own_cover : (k : ℕ) → cover_of t.step ≡ Some k → slice_get s.off k ≡ slice_get s'.off k

pub agree_back : (ship : Ship) (t : Task) (s s' : State) → Agree ship t s s' → Agree ship t s' s
agree_back ship t s s' a = record {
  places_of = λ q place is touches. sym (a.places_of q place is touches);
  container_of = λ c is. sym (a.container_of c is);
  covers_of = λ stack k touches is. sym (a.covers_of stack k touches is);
  own_cover = λ k is. sym (a.own_cover k is);
}

pub stack_is : (ship : Ship) (p : ℕ) (place : Place) → slice_get (places ship) p ≡ Some place → place.stack ≡ stack_of ship p
stack_is ship p place is = ap (λ (x : Place). x.stack) (sym (get_or_from_slice_get (places ship) p place no_place is))

fills_too : (ship : Ship) (t : Task) (s s' : State) (h : Half) (c : ℕ) → Agree ship t s s' → Touches ship t.step h.stack → Fills ship s.plan h c → Fills ship s'.plan h c
fills_too ship t s s' h c a touches f = record {
  number = f.number;
  place = f.place;
  is_place = f.is_place;
  has_half = f.has_half;
  holds = sym (a.places_of f.number f.place f.is_place (subst (λ (x : ℕ). Touches ship t.step x) f.has_half.same_stack touches)) ∙ f.holds;
}

pub held_is : (plan : Plan) (p c : ℕ) → Holds plan p c → held plan p ≡ Some c
held_is plan p c h = get_or_from_slice_get plan p (Some c) None h

-- a task that may be done may be done in each state that agrees
pub allowed_too : (ship : Ship) (cargo : Cargo) (s s' : State) (m : Move) (b : Option ℕ) → Agree ship (record { step = m; container = b }) s s' → named s m ≡ b → Allowed ship cargo s m → Allowed ship cargo s' m
allowed_too ship cargo s s' (Lift p) b a names can =
    let at = stack_is ship p can.place can.is_place in
    record {
      place = can.place;
      is_place = can.is_place;
      container = can.container;
      filled = sym (a.places_of p can.place can.is_place at) ∙ can.filled;
      clear = λ side c takes fills. can.clear side c takes (fills_too ship (record { step = Lift p; container = b }) s' s (half_over can.place side) c (agree_back ship (record { step = Lift p; container = b }) s s' a) at fills);
      cover_off = λ k under. sym (a.covers_of can.place.stack k at (inl under)) ∙ can.cover_off k under;
    }
allowed_too ship cargo s s' (Put c p) b a names can =
    let at = stack_is ship p can.place can.is_place in
    record {
      place = can.place;
      is_place = can.is_place;
      container = can.container;
      is_container = can.is_container;
      on_quay = sym (a.container_of c (sym names)) ∙ can.on_quay;
      fits = can.fits;
      cover_off = λ k under. sym (a.covers_of can.place.stack k at (inl under)) ∙ can.cover_off k under;
      cover_on = λ k on. sym (a.covers_of can.place.stack k at (inr on)) ∙ can.cover_on k on;
      empty = λ side d takes fills. can.empty side d takes (fills_too ship (record { step = Put c p; container = b }) s' s (half_at can.place side) d (agree_back ship (record { step = Put c p; container = b }) s s' a) at fills);
      borne = λ side tier takes e. let low = can.borne side tier takes e in (low.0, fills_too ship (record { step = Put c p; container = b }) s s' (record { stack = can.place.stack; tier = tier; aft = side }) low.0 a at low.1, low.2);
    }
allowed_too ship cargo s s' (OffCover k) b a names can = (sym (a.own_cover k refl) ∙ can.0, λ p c place is stands holds. can.1 p c place is stands (a.places_of p place is (inr stands) ∙ holds))
allowed_too ship cargo s s' (OnCover k) b a names can = sym (a.own_cover k refl) ∙ can

pub named_too : (ship : Ship) (cargo : Cargo) (s s' : State) (m : Move) (b : Option ℕ) → Agree ship (record { step = m; container = b }) s s' → Allowed ship cargo s m → named s m ≡ b → named s' m ≡ b
named_too ship cargo s s' (Lift p) b a can names = held_is s'.plan p can.container (sym (a.places_of p can.place can.is_place (stack_is ship p can.place can.is_place)) ∙ can.filled) ∙ (sym (held_is s.plan p can.container can.filled) ∙ names)
named_too ship cargo s s' (Put c p) b a can names = names
named_too ship cargo s s' (OffCover k) b a can names = names
named_too ship cargo s s' (OnCover k) b a can names = names

pub can_too : (ship : Ship) (cargo : Cargo) (s s' : State) (t : Task) → Agree ship t s s' → CanDo ship cargo s t → CanDo ship cargo s' t
can_too ship cargo s s' t a can = record { allowed = allowed_too ship cargo s s' t.step t.container a can.names can.allowed; names = named_too ship cargo s s' t.step t.container a can.allowed can.names }
