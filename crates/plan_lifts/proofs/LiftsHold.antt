-- What must be lifted, list by list.
use Rattle.std.specs.Prelude.{Result, Ok, Err, IfOk, ◌≡◌, ◌↔◌, ◌⊎◌, ℕ, ◌+◌, ◌<◌, ◌≤◌, Bool, true, false, List, [], ◌∷◌, ◌++◌, length, slice_get, suc, zero, AllPairs, Contains, if◌then◌else◌}
use Rattle.std.proofs.Common.{refl, sym, ◌∙◌, ap, arith, subst, inl, inr, ⊎_elim, get_or, append_assoc}
use Rattle.std.proofs.lemmas.List.{append-nil}
use Rattle.std.proofs.lemmas.Bool.{both_ways, or_cases, eqb-true, cases_lt, cases_eq, cases_Bool}
use Rattle.std.proofs.lemmas.List.Elements.{Contains-get_or, Contains-append_left, Contains-push, Contains-push_cases}
use Rattle.std.proofs.lemmas.List.Quantifiers.{all_pairs_push}
use Rattle.std.proofs.lemmas.Option.{slice_get_within, slice_get_past}
use Rattle.stow_data.specs.Ship.{Ship}
use Rattle.stow_data.specs.Shipment.{Cargo, IsCargo}
use Rattle.stow_data.specs.Profile.{IsShip}
use Rattle.stow_data.specs.Plans.{Plan, IsKnown}
use Rattle.stowage_rules.specs.Plan.{Holds, IsWellFormed}
use Rattle.stowage_rules.specs.Departure.{HasArrival, HoldsAboard, IsDeparture}
use Rattle.stowage_rules.specs.Faults.{MeetsRules, IsFirstFault}
use Rattle.stowage_rules.specs.declared.faults.RuleBroken.{RuleBroken}
use Rattle.plan_lifts.specs.declared.lifting.LiftsFault.{LiftsFault}
use Rattle.plan_lifts.specs.declared.lifting.LiftsFault.TheVariants.{Illegal, NoMemory}
use Rattle.voyage_meaning.specs.declared.moves.Move.{Move}
use Rattle.voyage_meaning.specs.declared.moves.Move.TheVariants.{OffCover, OnCover, Lift, Put}
use Rattle.voyage_meaning.specs.Moves.{State, AllAllowed, after, lift_cost}
use Rattle.voyage_meaning.specs.Voyage.{HasCost, IsLegalVoyage, IsVoyage, start}
use Rattle.plan_lifts.specs.Least.{IsFilled, IsLeastClosed, AreLeast, counted}
use Rattle.plan_lifts.specs.Spread.{has, IsHeldIn, IsLeastSpread, IsOnOpened, IsOpened}
use Rattle.plan_lifts.specs.Lifted.{ArePlans, AreLifted, AreListed, IsLifted, IsFirstIllegal, IsLiftsFault, IsListed, Lifts, LiftAll, LiftsFrom}
use Rattle.plan_lifts.proofs.Lower.{lifts_from, is_lifted, step_keeps}
use Rattle.plan_lifts.proofs.Voyages.{leads_closed}
use Rattle.plan_lifts.proofs.Whole.{least_cost}

-- what follows of an answer that is Ok
pub then_ok : {T E : Type 0} (P Q : T → Type 0) (r : Result T E) → ((x : T) → P x → Q x) → IfOk r P → IfOk r Q
then_ok P Q (Ok x) f p = f x p
then_ok P Q (Err e) f p = tt

pub both_ok : {T E : Type 0} (P Q R : T → Type 0) (r : Result T E) → ((x : T) → P x → Q x → R x) → IfOk r P → IfOk r Q → IfOk r R
both_ok P Q R (Ok x) f p q = f x p q
both_ok P Q R (Err e) f p q = tt

-- plans of one length differ at no number past it
pub differs_inside : (before after : Plan) (n p : ℕ) → length before ≡ n → length after ≡ n → (slice_get before p ≡ slice_get after p → ⊥) → p < n
differs_inside before after n p a b differs = ⊎_elim (λ (l : p < n). l) (λ (o : n ≤ p). absurd (differs (slice_get_past before p (omega arith) ∙ sym (slice_get_past after p (omega arith))))) (cases_lt p n)

-- what spreads from what changes, and from what stands on the covers that this opens, is the least closed set
pub least_closed : (ship : Ship) (before after : Plan) (changed filled opened seeds set : ℕ → Bool)
    → ((p : ℕ) → (changed p ≡ true) ↔ (slice_get before p ≡ slice_get after p → ⊥))
    → ((p : ℕ) → (filled p ≡ true) ↔ IsHeldIn before changed p)
    → ((k : ℕ) → (opened k ≡ true) ↔ IsOpened ship changed k)
    → ((p : ℕ) → (seeds p ≡ true) ↔ ((filled p ≡ true) ⊎ IsOnOpened ship before opened p))
    → IsLeastSpread ship before seeds set
    → IsLeastClosed ship before after set
least_closed ship before after changed filled opened seeds set changes fills opens adds least = record {
  closed = record {
    changed = λ p c held gone. least.spread.seeded p ((adds p).1 (inl ((fills p).1 (record { container = c; holds = held; in_set = (changes p).1 (λ same. gone (sym same ∙ held)) }))));
    over = least.spread.over;
    on_cover = least.spread.on_cover;
    on_opened = λ p q c held on differs. least.spread.seeded p ((adds p).1 (inr (record { container = c; holds = held; under = record { place = on.upper; is_place = on.is_upper; cover = on.cover; on = on.on; opens = (opens on.cover).1 (q, record { place = on.lower; is_place = on.is_lower; under = on.under; in_set = (changes q).1 differs }) } })));
  };
  least = λ other closed. least.least other (record {
    seeded = λ p h. ⊎_elim
        (λ (x : filled p ≡ true). let w = (fills p).0 x in closed.changed p w.container w.holds (λ kept. (changes p).0 w.in_set (w.holds ∙ sym kept)))
        (λ (x : IsOnOpened ship before opened p).
        let by = (opens x.under.cover).0 x.under.opens in
        closed.on_opened p by.0 x.container x.holds (record { upper = x.under.place; is_upper = x.under.is_place; lower = by.1.place; is_lower = by.1.is_place; cover = x.under.cover; on = x.under.on; under = by.1.under }) ((changes by.0).0 by.1.in_set))
        ((adds p).0 h);
    over = closed.over;
    on_cover = closed.on_cover;
  });
}

pub seeds_filled : (ship : Ship) (before : Plan) (changed filled opened seeds : ℕ → Bool)
    → ((p : ℕ) → (filled p ≡ true) ↔ IsHeldIn before changed p)
    → ((p : ℕ) → (seeds p ≡ true) ↔ ((filled p ≡ true) ⊎ IsOnOpened ship before opened p))
    → IsFilled before seeds
seeds_filled ship before changed filled opened seeds fills adds p h = ⊎_elim
    (λ (x : filled p ≡ true). let w = (fills p).0 x in (w.container, w.holds))
    (λ (x : IsOnOpened ship before opened p). (x.container, x.holds))
    ((adds p).0 h)

-- the marked numbers below n, listed
pub record ListedTo (marked : ℕ → Bool) (list : List ℕ) (n : ℕ) : Type 0 where
  pub rising : AllPairs (λ a b. a < b) list
  pub from : (c : ℕ) → Contains list c → (c < n) × (marked c ≡ true)
  pub each : (c : ℕ) → c < n → marked c ≡ true → Contains list c

pub listed_none : (marked : ℕ → Bool) → ListedTo marked [] 0
listed_none marked = record { rising = λ i j d l within. absurd (omega arith); from = λ c x. let l : x.0 < 0 = x.1 in absurd (omega arith); each = λ c l. absurd (omega arith) }

pub listed_more : (marked : ℕ → Bool) (list new : List ℕ) (n : ℕ) (b : Bool) → ListedTo marked list n → marked n ≡ b → new ≡ (if b then list ++ n ∷ [] else list) → ListedTo marked new (n + 1)
listed_more marked list new n true before is made = subst (λ (x : List ℕ). ListedTo marked x (n + 1)) (sym made) (record {
  rising = all_pairs_push (λ a b. a < b) list n before.rising (λ k d l. (before.from (get_or list k d) (Contains-get_or list k d l)).0);
  from = λ c x. ⊎_elim
      (λ (y : Contains list c). let r = before.from c y in (omega (arith, r.0), r.1))
      (λ (e : n ≡ c). (omega (arith, e), ap marked (sym e) ∙ is))
      (Contains-push_cases list n c x);
  each = λ c l m. ⊎_elim
      (λ (e : c ≡ n). subst (λ (x : ℕ). Contains (list ++ n ∷ []) x) (sym e) (Contains-push list n))
      (λ (ne : c ≡ n → ⊥). Contains-append_left list (n ∷ []) c (before.each c (omega arith) m))
      (cases_eq c n);
})
listed_more marked list new n false before is made = subst (λ (x : List ℕ). ListedTo marked x (n + 1)) (sym made) (record {
  rising = before.rising;
  from = λ c x. let r = before.from c x in (omega (arith, r.0), r.1);
  each = λ c l m. ⊎_elim
      (λ (e : c ≡ n). absurd (both_ways (marked n) is (ap marked (sym e) ∙ m)))
      (λ (ne : c ≡ n → ⊥). before.each c (omega arith) m)
      (cases_eq c n);
})

pub listed_all : (marked : ℕ → Bool) (list : List ℕ) (n : ℕ) → ((c : ℕ) → marked c ≡ true → c < n) → ListedTo marked list n → (c : ℕ) → Contains list c ↔ (marked c ≡ true)
listed_all marked list n inside to c = (λ x. (to.from c x).1, λ m. to.each c (inside c m) m)

pub has_inside : (flags : List Bool) (c : ℕ) → has flags c ≡ true → c < length flags
has_inside [] c h = absurd (both_ways false refl h)
has_inside (b ∷ bs) zero h = omega arith
has_inside (b ∷ bs) (suc c) h = omega (arith, has_inside bs c h)

-- a well-formed plan of what is aboard that meets the rules is a departure
pub departs : (ship : Ship) (cargo : Cargo) (call : ℕ) (plan : Plan) → IsWellFormed ship cargo plan → HoldsAboard cargo call plan → MeetsRules ship cargo plan → IsDeparture ship cargo call plan
departs ship cargo call plan formed aboard rules = record {
  stowed = record { well_formed = formed; aboard = aboard; supported = rules.supported; twenty = rules.twenty; plugged = rules.plugged };
  within = rules.within;
  separated = rules.separated;
}

pub known_in : (ship : Ship) (cargo : Cargo) (plan : Plan) → IsWellFormed ship cargo plan → IsKnown cargo plan
known_in ship cargo plan formed p c held = let known = formed.known p c held in slice_get_within cargo.containers c known.0 known.1

-- a lift from a filled place lifts what stands there
lift_is : (p : ℕ) (m : Move) → lifts_from p m ≡ true → m ≡ Lift p
lift_is p (Lift q) h = ap Lift (sym (eqb-true p q h))
lift_is p (Put c q) h = absurd (both_ways false refl h)
lift_is p (OffCover k) h = absurd (both_ways false refl h)
lift_is p (OnCover k) h = absurd (both_ways false refl h)

lifts_it : (ship : Ship) (cargo : Cargo) (call : ℕ) (ms : List Move) (s : State) (p c : ℕ) → Holds s.plan p c → AllAllowed ship cargo call s ms → is_lifted ms p ≡ true → Lifts cargo call s ms c
lifts_it ship cargo call [] s p c held all h = both_ways false refl h
lifts_it ship cargo call (m ∷ ms) s p c held all h = ⊎_elim
    (λ (e : lifts_from p m ≡ true). inl (p, lift_is p m e, held))
    (λ (e : lifts_from p m ≡ false). inr (lifts_it ship cargo call ms (after cargo call s m) p c (step_keeps ship cargo call s m p c held all.0 e) all.1
    (⊎_elim (λ (x : lifts_from p m ≡ true). absurd (both_ways (lifts_from p m) e x)) (λ (x : is_lifted ms p ≡ true). x) (or_cases (lifts_from p m) (is_lifted ms p) h))))
    (cases_Bool (lifts_from p m))

-- each legal voyage lifts all of the lists
pub lift_all : (ship : Ship) (cargo : Cargo) (call : ℕ) (before : Plan) (voyage : List (List Move)) (plans : List Plan) (sets : List (ℕ → Bool)) (lists : List (List ℕ)) → AreLeast ship before plans sets → AreListed before plans sets lists → IsVoyage ship cargo call before voyage plans → LiftAll ship cargo call before voyage plans lists
lift_all ship cargo call before [] [] [] [] least listed legal = tt
lift_all ship cargo call before [] [] [] (list ∷ lists) least listed legal = absurd listed
lift_all ship cargo call before [] [] (set ∷ sets) lists least listed legal = absurd least
lift_all ship cargo call before [] (plan ∷ plans) sets lists least listed legal = absurd legal
lift_all ship cargo call before (ms ∷ voyage) [] sets lists least listed legal = absurd legal
lift_all ship cargo call before (ms ∷ voyage) (plan ∷ plans) [] lists least listed legal = absurd least
lift_all ship cargo call before (ms ∷ voyage) (plan ∷ plans) (set ∷ sets) [] least listed legal = absurd listed
lift_all ship cargo call before (ms ∷ voyage) (plan ∷ plans) (set ∷ sets) (list ∷ lists) least listed legal = (
  λ c x.
      let at = (listed.0.stands c).0 x in
      lifts_it ship cargo call ms (start ship cargo call before) at.0 c at.1.holds legal.0.allowed (least.0.least (is_lifted ms) (leads_closed ship cargo call before plan ms legal.0) at.0 at.1.in_set),
  lift_all ship cargo (suc call) plan voyage plans sets lists least.1 listed.1 legal.1,
)

-- the first of the plans, and those after it
pub plan_parts : (ship : Ship) (cargo : Cargo) (call next : ℕ) (after : Plan) (plans rest : List Plan) → plans ≡ after ∷ rest → next ≡ suc call → ArePlans ship cargo call plans → IsWellFormed ship cargo after × HoldsAboard cargo call after × ArePlans ship cargo next rest
plan_parts ship cargo call next after plans rest parts is plans_are =
    let x = subst (λ (ps : List Plan). ArePlans ship cargo call ps) parts plans_are in
    (x.0, x.1, subst (λ (n : ℕ). ArePlans ship cargo n rest) (sym is) x.2)

no_plans : (plans : List Plan) → length plans ≡ 0 → plans ≡ []
no_plans [] h = refl
no_plans (plan ∷ plans) h = absurd (omega arith)

pub lift_none : (ship : Ship) (cargo : Cargo) (call : ℕ) (before : Plan) (plans : List Plan) (old : List (List ℕ)) → length plans ≡ 0 → LiftsFrom ship cargo call before plans old old 0
lift_none ship cargo call before plans old none = subst (λ (ps : List Plan). LiftsFrom ship cargo call before ps old old 0) (sym (no_plans plans none)) (record { legal = tt; sets = []; closed = tt; least = tt; lists = []; appended = sym (append-nil old); listed = tt; costs = refl; small = omega arith })

pub lift_more : (ship : Ship) (cargo : Cargo) (call next : ℕ) (before after : Plan) (plans rest : List Plan) (set : ℕ → Bool) (list : List ℕ) (old mid new : List (List ℕ)) (here later : ℕ)
    → plans ≡ after ∷ rest → next ≡ suc call → ArePlans ship cargo call plans → MeetsRules ship cargo after
    → IsLeastClosed ship before after set → IsFilled before set → IsListed before set list → mid ≡ old ++ list ∷ []
    → here ≡ counted (lift_cost cargo call) set before → here ≤ 3000000
    → LiftsFrom ship cargo next after rest mid new later
    → LiftsFrom ship cargo call before plans old new (here + later)
lift_more ship cargo call next before after plans rest set list old mid new here later parts is plans_are rules least filled listed pushed costs small from =
    let x = plan_parts ship cargo call next after plans rest parts is plans_are in
    let y : LiftsFrom ship cargo (suc call) after rest mid new later = subst (λ (n : ℕ). LiftsFrom ship cargo n after rest mid new later) is from in
    subst (λ (ps : List Plan). LiftsFrom ship cargo call before ps old new (here + later)) (sym parts) (record {
      legal = (departs ship cargo call after x.0 x.1 rules, y.legal);
      sets = set ∷ y.sets;
      closed = (least.closed, filled, y.closed);
      least = (least, y.least);
      lists = list ∷ y.lists;
      appended = y.appended ∙ (ap (λ (z : List (List ℕ)). z ++ y.lists) pushed ∙ append_assoc old (list ∷ []) y.lists);
      listed = (listed, y.listed);
      costs = omega (arith, costs, y.costs);
      small = omega (arith, small, y.small);
    })

-- the first plan's fault, and a fault of those after it
pub first_illegal : (ship : Ship) (cargo : Cargo) (call : ℕ) (after : Plan) (plans rest : List Plan) (rule : RuleBroken) → plans ≡ after ∷ rest → IsFirstFault ship cargo after rule → IsLiftsFault ship cargo plans call (Illegal call rule)
first_illegal ship cargo call after plans rest rule parts fault = subst (λ (ps : List Plan). IsFirstIllegal ship cargo call ps call rule) (sym parts) (inl (refl, fault))

pub later_fault : (ship : Ship) (cargo : Cargo) (call next : ℕ) (after : Plan) (plans rest : List Plan) (fault : LiftsFault) → plans ≡ after ∷ rest → next ≡ suc call → MeetsRules ship cargo after → IsLiftsFault ship cargo rest next fault → IsLiftsFault ship cargo plans call fault
later_fault ship cargo call next after plans rest (Illegal at rule) parts is rules later = subst (λ (ps : List Plan). IsFirstIllegal ship cargo call ps at rule) (sym parts) (inr (rules, subst (λ (n : ℕ). IsFirstIllegal ship cargo n rest at rule) is later))
later_fault ship cargo call next after plans rest NoMemory parts is rules later = tt

-- what is lifted from call 1 on, begun without lists
pub lifted_of : (ship : Ship) (cargo : Cargo) (before : Plan) (plans : List Plan) (old lists : List (List ℕ)) (n : ℕ) → old ≡ [] → before ≡ cargo.arrival → LiftsFrom ship cargo 1 before plans old lists n → IsLifted ship cargo plans lists
lifted_of ship cargo before plans old lists n none arrived from = record {
  legal = from.legal;
  lifted = subst (λ (x : Plan). AreLifted ship x plans lists) arrived (record {
    sets = from.sets;
    least = from.least;
    listed = subst (λ (x : List (List ℕ)). AreListed before plans from.sets x) (sym (from.appended ∙ ap (λ (x : List (List ℕ)). x ++ from.lists) none)) from.listed;
  });
}

pub costs_of : (ship : Ship) (cargo : Cargo) (before : Plan) (plans : List Plan) (old lists : List (List ℕ)) (n : ℕ) → IsShip ship → IsCargo cargo → length plans + 1 ≡ length cargo.rotation → HasArrival ship cargo → before ≡ cargo.arrival → LiftsFrom ship cargo 1 before plans old lists n → HasCost ship cargo plans n
costs_of ship cargo before plans old lists n ship_rules cargo_rules each arrival arrived from =
    let same = subst (λ (x : Plan). LiftsFrom ship cargo 1 x plans old lists n) arrived from in
    subst (λ (x : ℕ). HasCost ship cargo plans x) (sym same.costs) (least_cost ship cargo plans same.sets ship_rules cargo_rules each arrival same.legal same.closed same.least)

pub must_of : (ship : Ship) (cargo : Cargo) (plans : List Plan) (lists : List (List ℕ)) → IsLifted ship cargo plans lists → (voyage : List (List Move)) → IsLegalVoyage ship cargo voyage plans → LiftAll ship cargo 1 cargo.arrival voyage plans lists
must_of ship cargo plans lists is voyage legal = lift_all ship cargo 1 cargo.arrival voyage plans is.lifted.sets lists is.lifted.least is.lifted.listed legal.voyage
