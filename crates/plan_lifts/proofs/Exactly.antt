-- The moves of a call lift exactly what is listed.
use Rattle.std.specs.Prelude.{◌≡◌, ◌↔◌, ℕ, zero, suc, ◌+◌, ◌<◌, Bool, true, false, cond, List, [], ◌∷◌, ◌++◌, Option, Some, None, AllPairs, length, slice_get, slice_set, slice_index_or}
use Rattle.std.proofs.Common.{refl, sym, ◌∙◌, ap, arith, subst, inl, inr, ⊎_elim, append_assoc}
use Rattle.std.proofs.lemmas.Option.{get_or_from_slice_get, slice_get_within}
use Rattle.stow_data.specs.Ship.{Ship}
use Rattle.stow_data.specs.Shipment.{Cargo, IsCargo}
use Rattle.stow_data.specs.Profile.{IsShip}
use Rattle.stow_data.specs.Plans.{Plan}
use Rattle.stow_data.proofs.Members.{Member}
use Rattle.stow_data.proofs.CellLemmas.{member_contains}
use Rattle.stow_data.proofs.CoverLemmas.{contains_member}
use Rattle.stowage_rules.specs.Plan.{Holds}
use Rattle.stowage_rules.specs.Departure.{AreDepartures, IsDeparture, IsStowed}
use Rattle.stowage_rules.proofs.Items.{slice_get-set_other}
use Rattle.voyage_meaning.specs.declared.moves.Move.{Move}
use Rattle.voyage_meaning.specs.Voyage.{start}
use Rattle.plan_lifts.specs.Least.{AreLeast, IsClosed, IsDivided, IsFilled, counted}
use Rattle.plan_lifts.specs.Lifted.{AreLifted, AreListed, LiftsAppended, LiftsExactly, StandsIn, list_weight, or_none}
use Rattle.plan_lifts.specs.Passes.{IsCallMoves}
use Rattle.plan_lifts.proofs.Sailing.{least_filled, legal_parts, lifted_parts, listed_places, passes_weigh}
use Rattle.plan_lifts.proofs.Whole.{InOrder, cargo_in_order, ship_is_divided}

-- what stands elsewhere where a place was emptied
emptied : (plan : Plan) (p q x : ℕ) → slice_get (slice_set plan p None) q ≡ Some (Some x) → (q ≡ p → ⊥) × (slice_get plan q ≡ Some (Some x))
emptied [] p q x h = cc
emptied (o ∷ os) zero zero x h = cc
emptied (o ∷ os) zero (suc q) x h = (λ e. cc, h)
emptied (o ∷ os) (suc p) zero x h = (λ e. cc, h)
emptied (o ∷ os) (suc p) (suc q) x h = let rest = emptied os p q x h in (λ e. rest.0 (omega (arith, e)), rest.1)

cond_zero : (b : Bool) (x : ℕ) → x ≡ 0 → cond b x 0 ≡ 0
cond_zero true x e = e
cond_zero false x e = refl

-- a set weighs what one of its places does, and the rest
counted_out : (w : Option ℕ → ℕ) (f : ℕ → Bool) (plan : Plan) (p : ℕ) → w None ≡ 0 → p < length plan → counted w f plan ≡ cond (f p) (w (slice_index_or plan p None)) 0 + counted w f (slice_set plan p None)
counted_out w f [] p e low = absurd (omega (arith, low))
counted_out w f (o ∷ os) zero e low = omega (arith, cond_zero (f 0) (w None) e)
counted_out w f (o ∷ os) (suc p) e low = omega (arith, counted_out w (λ q. f (suc q)) os p e (omega (arith, low)))

nothing_at : (w : Option ℕ → ℕ) (b : Bool) (o : Option ℕ) → w None ≡ 0 → ((c : ℕ) → o ≡ Some c → b ≡ true → ⊥) → cond b (w o) 0 ≡ 0
nothing_at w true None e none = e
nothing_at w true (Some c) e none = absurd (none c refl refl)
nothing_at w false o e none = refl

nothing_counted : (w : Option ℕ → ℕ) (f : ℕ → Bool) (plan : Plan) → w None ≡ 0 → ((p c : ℕ) → Holds plan p c → f p ≡ true → ⊥) → counted w f plan ≡ 0
nothing_counted w f [] e none = refl
nothing_counted w f (o ∷ os) e none = omega (arith, nothing_at w (f 0) o e (λ c is on. none 0 c (ap Some is) on), nothing_counted w (λ p. f (suc p)) os e (λ p c held on. none (suc p) c held on))

-- no container is listed twice
abbrev Apart : List ℕ → Type 0
Apart [] = Unit {0}
Apart (c ∷ cs) = (Member c cs → ⊥) × Apart cs

apart_rising : (list : List ℕ) → AllPairs (λ a b. a < b) list → Apart list
apart_rising [] rising = tt
apart_rising (c ∷ cs) rising = (
  λ m. let at = member_contains cs c m in let low = at.1 in let is = at.2 in let up = rising 0 (suc at.0) c (omega arith) (omega (arith, low)) in omega (arith, is, up),
  apart_rising cs (λ i j d lt low. rising (suc i) (suc j) d (omega (arith, lt)) (omega (arith, low))),
)

-- the containers at the places of a set weigh what their list does
listed_weigh : (h : ℕ → ℕ) (list : List ℕ) (plan : Plan) (set : ℕ → Bool) → ((p q c : ℕ) → Holds plan p c → Holds plan q c → p ≡ q) → Apart list → ((c : ℕ) → Member c list ↔ StandsIn plan set c) → counted (or_none h) set plan ≡ list_weight h list
listed_weigh h [] plan set once apart same = nothing_counted (or_none h) set plan refl (λ p c held on. (same c).1 (p, record { holds = held; in_set = on }))
listed_weigh h (c ∷ cs) plan set once apart same =
    let at = (same c).0 (inl refl) in
    let p : ℕ = at.0 in
    let out = counted_out (or_none h) set plan p refl (slice_get_within plan p (Some c) at.1.holds) in
    let head : cond (set p) (or_none h (slice_index_or plan p None)) 0 ≡ h c = ap (λ (b : Bool). cond b (or_none h (slice_index_or plan p None)) 0) at.1.in_set ∙ ap (or_none h) (get_or_from_slice_get plan p (Some c) None at.1.holds) in
    let rest : counted (or_none h) set (slice_set plan p None) ≡ list_weight h cs = listed_weigh h cs (slice_set plan p None) set
    (λ q r x a b. once q r x (emptied plan p q x a).1 (emptied plan p r x b).1) apart.1
    (λ x. (
      λ m. let s = (same x).0 (inr m) in
          let ne : s.0 ≡ p → ⊥ = λ e. apart.0 (subst (λ (y : ℕ). Member y cs) (same_held x c (sym (subst (λ (q : ℕ). slice_get plan q ≡ Some (Some x)) e s.1.holds) ∙ at.1.holds)) m) in
          (s.0, record { holds = slice_get-set_other plan p s.0 None ne ∙ s.1.holds; in_set = s.1.in_set }),
      λ s. let was = emptied plan p s.0 x s.1.holds in
          ⊎_elim (λ (e : x ≡ c). absurd (was.0 (once s.0 p c (subst (λ (y : ℕ). slice_get plan s.0 ≡ Some (Some y)) e was.1) at.1.holds))) (λ (m : Member x cs). m) ((same x).1 (s.0, record { holds = was.1; in_set = s.1.in_set })),
    )) in
    omega (arith, out, head, rest)
  where
    same_held : (x y : ℕ) → Some (Some x) ≡ Some (Some y) → x ≡ y
    same_held x y e = cc

exact_made : (ship : Ship) (cargo : Cargo) (earlier : ℕ) (before plan : Plan) (plans : List Plan) (sets : List (ℕ → Bool)) (list : List ℕ) (lists : List (List ℕ)) (ms : List Move) (old mid new : List (List Move))
    → IsDivided ship → InOrder cargo → IsStowed ship cargo earlier before → IsDeparture ship cargo (suc earlier) plan
    → AreLeast ship before (plan ∷ plans) sets → AreListed before (plan ∷ plans) sets (list ∷ lists)
    → IsCallMoves ship before plan list ms → mid ≡ old ++ ms ∷ []
    → LiftsAppended ship cargo (suc (suc earlier)) plan plans lists mid new
    → LiftsAppended ship cargo (suc earlier) before (plan ∷ plans) (list ∷ lists) old new
exact_made ship cargo earlier before plan plans [] list lists ms old mid new divided in_order stowed departs least listed made pushed rest = absurd least
exact_made ship cargo earlier before plan plans (set ∷ sets) list lists ms old mid new divided in_order stowed departs least listed made pushed rest =
    record {
      voyage = ms ∷ rest.voyage;
      appended = rest.appended ∙ (ap (λ (x : List (List Move)). x ++ rest.voyage) pushed ∙ append_assoc old (ms ∷ []) rest.voyage);
      exact = (weighs, rest.exact);
    }
  where
    filled : IsFilled before set
    filled = least_filled ship before plan set least.0

    same : made.lifted ≡ set
    same = listed_places ship cargo before set made.lifted list stowed.well_formed filled listed.0 made.listed

    weighs : LiftsExactly cargo (suc earlier) (start ship cargo (suc earlier) before) ms list
    weighs h = passes_weigh (or_none h) ship cargo earlier before plan made.lifted made.moved made.deck made.opened made.due ms divided in_order stowed departs
        (subst (λ (f : ℕ → Bool). IsClosed ship before plan f) (sym same) least.0.closed)
        (subst (λ (f : ℕ → Bool). IsFilled before f) (sym same) filled)
        made.sets (λ facts. made.made)
        ∙ (ap (λ (f : ℕ → Bool). counted (or_none h) f before) same
        ∙ listed_weigh h list before set stowed.well_formed.once (apart_rising list listed.0.rising)
        (λ c. (λ m. (listed.0.stands c).0 (member_contains list c m), λ s. contains_member list c ((listed.0.stands c).1 s))))

pub exact_step : (ship : Ship) (cargo : Cargo) (earlier next : ℕ) (before plan : Plan) (plans others : List Plan) (list : List ℕ) (lists rest : List (List ℕ)) (ms : List Move) (old mid new : List (List Move))
    → plans ≡ plan ∷ others → lists ≡ list ∷ rest → next ≡ suc earlier
    → IsShip ship → IsCargo cargo → IsStowed ship cargo earlier before → AreDepartures ship cargo (suc earlier) plans → AreLifted ship before plans lists
    → IsCallMoves ship before plan list ms → mid ≡ old ++ ms ∷ []
    → LiftsAppended ship cargo (suc next) plan others rest mid new
    → LiftsAppended ship cargo (suc earlier) before plans lists old new
exact_step ship cargo earlier next before plan plans others list lists rest ms old mid new parts items is ship_rules cargo_rules stowed legal lifted made pushed later =
    let first = lifted_parts ship before plan plans others list lists rest parts items lifted in
    subst (λ (ps : List Plan). LiftsAppended ship cargo (suc earlier) before ps lists old new) (sym parts)
    (subst (λ (ls : List (List ℕ)). LiftsAppended ship cargo (suc earlier) before (plan ∷ others) ls old new) (sym items)
    (exact_made ship cargo earlier before plan others first.sets list rest ms old mid new (ship_is_divided ship ship_rules) (cargo_in_order cargo cargo_rules) stowed
    (legal_parts ship cargo (suc earlier) plan plans others parts legal).0 first.least first.listed
    made pushed (subst (λ (n : ℕ). LiftsAppended ship cargo (suc n) plan others rest mid new) is later)))
