-- A move keeps what belongs to the ship: the lengths of the lists, and no half-cell in two filled places.
use Rattle.std.specs.Prelude.{◌≡◌, ℕ, ◌<◌, Bool, true, false, cond, List, length, Option, Some, None, slice_get, slice_set}
use Rattle.std.proofs.Common.{arith, refl, sym, ◌∙◌, ap, subst, ⊎_elim}
use Rattle.std.proofs.lemmas.Bool.{cases_eq}
use Rattle.std.proofs.lemmas.List.{length-set}
use Rattle.std.proofs.lemmas.Option.{same_Some, none-some, slice_get_within}
use Rattle.stow_data.specs.declared.geometry.Half.{Half}
use Rattle.stow_data.specs.declared.geometry.Place.{Place}
use Rattle.stow_data.specs.Ship.{Ship, places, half_at, HasHalf}
use Rattle.stow_data.specs.Shipment.{Cargo}
use Rattle.stow_data.specs.Plans.{Plan}
use Rattle.stowage_rules.specs.Plan.{Holds, Fills}
use Rattle.stowage_rules.proofs.Items.{slice_get-set_other, slice_get-set_same}
use Rattle.voyage_meaning.specs.declared.moves.Move.{Move}
use Rattle.voyage_meaning.specs.declared.moves.Move.TheVariants.{OffCover, OnCover, Lift, Put}
use Rattle.voyage_meaning.specs.Moves.{State, Allowed, CanPut, after, leaves, quay_with}
use Rattle.voyage_meaning.specs.Berths.{BelongsTo, IsInRange}

abbrev IsApart : Ship → Plan → Type 0
IsApart ship plan = (h : Half) (c d : ℕ) (x : Fills ship plan h c) (y : Fills ship plan h d) → x.number ≡ y.number

length_quay : (cargo : Cargo) (call : ℕ) (quay : List Bool) (o : Option (Option ℕ)) → length (quay_with cargo call quay o) ≡ length quay
length_quay cargo call quay None = refl
length_quay cargo call quay (Some None) = refl
length_quay cargo call quay (Some (Some c)) = by_test (leaves cargo call c)
  where
    by_test : (b : Bool) → length (cond b quay (slice_set quay c true)) ≡ length quay
    by_test true = refl
    by_test false = length-set quay c true

-- what stands after a change elsewhere stood before
held_before : (plan : Plan) (p q c : ℕ) (o : Option ℕ) → (q ≡ p → ⊥) → Holds (slice_set plan p o) q c → Holds plan q c
held_before plan p q c o ne h = sym (slice_get-set_other plan p q o ne) ∙ h

fills_before : (ship : Ship) (plan : Plan) (p : ℕ) (o : Option ℕ) (h : Half) (c : ℕ) (x : Fills ship (slice_set plan p o) h c) → (x.number ≡ p → ⊥) → Fills ship plan h c
fills_before ship plan p o h c x ne = record { number = x.number; place = x.place; is_place = x.is_place; has_half = x.has_half; holds = held_before plan p x.number c o ne x.holds }

-- where nothing is left at a place, another stands
elsewhere : (ship : Ship) (plan : Plan) (p e : ℕ) (h : Half) (c : ℕ) → Holds plan p e → (x : Fills ship (slice_set plan p None) h c) → x.number ≡ p → ⊥
elsewhere ship plan p e h c filled x same = none-some c (same_Some None (Some c) (sym (slice_get-set_same plan p None (Some e) filled) ∙ (ap (slice_get (slice_set plan p None)) (sym same) ∙ x.holds)))

lifted_apart : (ship : Ship) (plan : Plan) (p e : ℕ) → Holds plan p e → IsApart ship plan → IsApart ship (slice_set plan p None)
unfolding fills_before
lifted_apart ship plan p e filled apart h c d x y = apart h c d (fills_before ship plan p None h c x (elsewhere ship plan p e h c filled x)) (fills_before ship plan p None h d y (elsewhere ship plan p e h d filled y))

half_is : (p : Place) (h : Half) → HasHalf p h → h ≡ half_at p h.aft
half_is p h x = ap (λ (s : ℕ). record { stack = s; tier = h.tier; aft = h.aft }) x.same_stack ∙ ap (λ (t : ℕ). record { stack = p.stack; tier = t; aft = h.aft }) x.same_tier

-- nothing else fills a half-cell of the place of a put
nothing_else : (ship : Ship) (cargo : Cargo) (s : State) (c p : ℕ) (h : Half) (a d : ℕ) → CanPut ship cargo s c p → (x : Fills ship (slice_set s.plan p (Some c)) h a) → x.number ≡ p → Fills ship s.plan h d → ⊥
nothing_else ship cargo s c p h a d can x e y =
    let same : x.place ≡ can.place = same_Some x.place can.place (sym x.is_place ∙ (ap (slice_get (places ship)) e ∙ can.is_place)) in
    let has : HasHalf can.place h = subst (λ (z : Place). HasHalf z h) same x.has_half in
    can.empty h.aft d has.side (subst (λ (z : Half). Fills ship s.plan z d) (half_is can.place h has) y)

put_apart : (ship : Ship) (cargo : Cargo) (s : State) (c p : ℕ) → CanPut ship cargo s c p → IsApart ship s.plan → IsApart ship (slice_set s.plan p (Some c))
unfolding fills_before
put_apart ship cargo s c p can apart h a d x y = ⊎_elim
    (λ (e : x.number ≡ p). ⊎_elim
    (λ (f : y.number ≡ p). e ∙ sym f)
    (λ (ne : y.number ≡ p → ⊥). absurd (nothing_else ship cargo s c p h a d can x e (fills_before ship s.plan p (Some c) h d y ne)))
    (cases_eq y.number p))
    (λ (ne : x.number ≡ p → ⊥). ⊎_elim
    (λ (f : y.number ≡ p). absurd (nothing_else ship cargo s c p h d a can y f (fills_before ship s.plan p (Some c) h a x ne)))
    (λ (ne_too : y.number ≡ p → ⊥). apart h a d (fills_before ship s.plan p (Some c) h a x ne) (fills_before ship s.plan p (Some c) h d y ne_too))
    (cases_eq y.number p))
    (cases_eq x.number p)

-- a move keeps what belongs to the ship
pub belongs_after : (ship : Ship) (cargo : Cargo) (call : ℕ) (s : State) (m : Move) → BelongsTo ship cargo s → Allowed ship cargo s m → BelongsTo ship cargo (after cargo call s m)
belongs_after ship cargo call s (Lift p) b can = record { each_place = length-set s.plan p None ∙ b.each_place; each_container = length_quay cargo call s.quay (slice_get s.plan p) ∙ b.each_container; each_cover = b.each_cover; apart = lifted_apart ship s.plan p can.container can.filled b.apart }
belongs_after ship cargo call s (Put c p) b can = record { each_place = length-set s.plan p (Some c) ∙ b.each_place; each_container = length-set s.quay c false ∙ b.each_container; each_cover = b.each_cover; apart = put_apart ship cargo s c p can b.apart }
belongs_after ship cargo call s (OffCover k) b can = record { each_place = b.each_place; each_container = b.each_container; each_cover = length-set s.off k true ∙ b.each_cover; apart = b.apart }
belongs_after ship cargo call s (OnCover k) b can = record { each_place = b.each_place; each_container = b.each_container; each_cover = length-set s.off k false ∙ b.each_cover; apart = b.apart }

-- an allowed move is in range
pub in_range : (ship : Ship) (cargo : Cargo) (s : State) (m : Move) → BelongsTo ship cargo s → Allowed ship cargo s m → IsInRange s m
in_range ship cargo s (Lift p) b can = slice_get_within s.plan p (Some can.container) can.filled
in_range ship cargo s (Put c p) b can = (let i : p < length (places ship) = slice_get_within (places ship) p can.place can.is_place in omega (arith, b.each_place), slice_get_within s.quay c true can.on_quay)
in_range ship cargo s (OffCover k) b can = slice_get_within s.off k false can.0
in_range ship cargo s (OnCover k) b can = slice_get_within s.off k true can
