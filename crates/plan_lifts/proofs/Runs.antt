-- Lists of lifts, of puts and of covers.
use Rattle.std.specs.Prelude.{◌≡◌, ℕ, Bool, true, false, List, [], ◌∷◌, ◌++◌, Option, Some, slice_get, slice_set, ◌||◌, ◌&&◌, not, ◌==◌, ◌<◌, ◌≤◌, suc, zero, ◌+◌, cond}
use Rattle.std.proofs.Common.{refl, sym, ◌∙◌, ap, arith, subst, ⊎_elim}
use mathlib.Core.Path.{fun_ext}
use Rattle.std.proofs.lemmas.Bool.{cond-true, cond-false, false_from_ne_true, and_from, and_parts, and_right, and_left, both_ways, or_left, or_right, or_from, eq-eqb, cases_Bool, cases_eq, ne_eqb, not_from_false, not_from_true}
use Rattle.stow_data.specs.declared.geometry.Cover.{Cover}
use Rattle.stow_data.specs.declared.geometry.Place.{Place}
use Rattle.voyage_meaning.specs.declared.moves.Move.{Move}
use Rattle.voyage_meaning.specs.declared.moves.Move.TheVariants.{Lift, Put}
use Rattle.stow_data.specs.Ship.{Ship, places, LiesUnder, StandsOn}
use Rattle.stow_data.specs.Shipment.{Cargo}
use Rattle.stow_data.specs.Plans.{Plan}
use Rattle.stowage_rules.specs.Plan.{Holds, IsWellFormed}
use Rattle.stowage_rules.specs.Departure.{IsStowed}
use Rattle.voyage_meaning.specs.Moves.{State, Allowed, AllAllowed, after, end_of}
use Rattle.plan_lifts.specs.Least.{IsOver, IsClosed}
use Rattle.plan_lifts.specs.Passes.{covers_down, lifts_down, put_of, puts_from}
use Rattle.stowage_rules.proofs.Items.{slice_get-set_other, slice_get-set_same}
use Rattle.plan_lifts.proofs.Steps.{can_lift, can_put}
use Rattle.plan_lifts.proofs.Phases.{LiftState, PutState, lift_step, put_step}

-- the moves are allowed, and of the state at the end P holds
abbrev pub Reaches : Ship → Cargo → ℕ → State → List Move → (State → Type 0) → Type 0
Reaches ship cargo call s moves P = AllAllowed ship cargo call s moves × P (end_of cargo call s moves)

-- one list after another
pub then : (ship : Ship) (cargo : Cargo) (call : ℕ) (xs ys : List Move) (s : State) (P Q : State → Type 0) → Reaches ship cargo call s xs P → ((t : State) → P t → Reaches ship cargo call t ys Q) → Reaches ship cargo call s (xs ++ ys) Q
then ship cargo call [] ys s P Q x next = next s x.1
then ship cargo call (m ∷ xs) ys s P Q x next =
    let rest = then ship cargo call xs ys (after cargo call s m) P Q (x.0.1, x.1) next in
    ((x.0.0, rest.0), rest.1)

-- what the state is after lifts: the set f is gone too, and the covers are as they were
pub record AfterLifts (cargo : Cargo) (call : ℕ) (old : Plan) (gone : ℕ → Bool) (off : List Bool) (s : State) : Type 0 where
  pub state : LiftState cargo call old gone s
  pub off_same : s.off ≡ off

pub record LiftRule (ship : Ship) (lifted f : ℕ → Bool) (off : List Bool) : Type 0 where
  pub due : (p : ℕ) → f p ≡ true → lifted p ≡ true
  pub with_over : (p q : ℕ) → IsOver ship q p → f p ≡ true → lifted q ≡ true → f q ≡ true
  pub open_over : (p k : ℕ) (place : Place) → f p ≡ true → slice_get (places ship) p ≡ Some place → LiesUnder ship place.stack k → slice_get off k ≡ Some true

abbrev LiftRun : (ship : Ship) (cargo : Cargo) (call : ℕ) (old new : Plan) (lifted f : ℕ → Bool) (n : ℕ) → Type 0
LiftRun ship cargo call old new lifted f n = (gone : ℕ → Bool) (s : State)
    → IsWellFormed ship cargo old → IsClosed ship old new lifted
    → ((p : ℕ) → lifted p ≡ true → (c : ℕ) × Holds old p c)
    → ((p q : ℕ) → IsOver ship p q → q < p)
    → LiftRule ship lifted f s.off
    → LiftState cargo call old gone s
    → ((p : ℕ) → f p ≡ true → n ≤ p → gone p ≡ true)
    → ((p : ℕ) → f p ≡ true → p < n → gone p ≡ false)
    → Reaches ship cargo call s (lifts_down f n) (AfterLifts cargo call old (λ p. gone p || f p) s.off)

lift_none : (ship : Ship) (cargo : Cargo) (call : ℕ) (old new : Plan) (lifted f : ℕ → Bool) → LiftRun ship cargo call old new lifted f zero
lift_none ship cargo call old new lifted f gone s formed closed only later rule state high low =
    (tt, record { state = subst (λ (g : ℕ → Bool). LiftState cargo call old g s) (fun_ext same) state; off_same = refl })
  where
    same : (p : ℕ) → gone p ≡ (gone p || f p)
    same p = ⊎_elim (λ (g : gone p ≡ true). g ∙ sym (or_left (gone p) (f p) g)) (λ (g : gone p ≡ false).
        ⊎_elim (λ (x : f p ≡ true). absurd (both_ways (gone p) g (high p x (omega arith)))) (λ (x : f p ≡ false). g ∙ sym (or_from (gone p) (f p) g x)) (cases_Bool (f p))) (cases_Bool (gone p))

lift_more : (ship : Ship) (cargo : Cargo) (call : ℕ) (old new : Plan) (lifted f : ℕ → Bool) (n : ℕ) → LiftRun ship cargo call old new lifted f n → LiftRun ship cargo call old new lifted f (suc n)
lift_more ship cargo call old new lifted f n again gone s formed closed only later rule state high low = by (f n) refl
  where
    by : (b : Bool) → f n ≡ b → Reaches ship cargo call s (cond (f n) (Lift n ∷ lifts_down f n) (lifts_down f n)) (AfterLifts cargo call old (λ p. gone p || f p) s.off)
    by false e = subst (λ (x : Bool). Reaches ship cargo call s (cond x (Lift n ∷ lifts_down f n) (lifts_down f n)) (AfterLifts cargo call old (λ p. gone p || f p) s.off)) (sym e)
        (again gone s formed closed only later rule state
        (λ p x l. ⊎_elim (λ (same : p ≡ n). absurd (both_ways (f n) e (sym (ap f same) ∙ x))) (λ (ne : p ≡ n → ⊥). high p x (omega arith)) (cases_eq p n))
        (λ p x l. low p x (omega arith)))
    by true e = subst (λ (x : Bool). Reaches ship cargo call s (cond x (Lift n ∷ lifts_down f n) (lifts_down f n)) (AfterLifts cargo call old (λ p. gone p || f p) s.off)) (sym e) ((can, rest.0), record { state = subst (λ (g : ℕ → Bool). LiftState cargo call old g (end_of cargo call (after cargo call s (Lift n)) (lifts_down f n))) (fun_ext same) rest.1.state; off_same = rest.1.off_same })
      where
        was : (c : ℕ) × Holds old n c
        was = only n (rule.due n e)

        held : Holds s.plan n was.0
        held = state.plan.others n (low n e (omega arith)) ∙ was.1

        can : Allowed ship cargo s (Lift n)
        can = can_lift ship cargo old new lifted gone s n formed closed state.plan was.0 held (rule.due n e)
            (λ q over is. high q (rule.with_over n q over e is) (later q n over))
            (λ k place is under. rule.open_over n k place e is under)

        rest : Reaches ship cargo call (after cargo call s (Lift n)) (lifts_down f n) (AfterLifts cargo call old (λ p. (p == n || gone p) || f p) s.off)
        rest = again (λ p. p == n || gone p) (after cargo call s (Lift n)) formed closed only later rule
            (lift_step ship cargo call old gone s n was.0 formed state held)
            (λ p x l. ⊎_elim (λ (at : p ≡ n). or_left (p == n) (gone p) (eq-eqb p n at)) (λ (ne : p ≡ n → ⊥). or_right (p == n) (gone p) (high p x (omega arith))) (cases_eq p n))
            (λ p x l. or_from (p == n) (gone p) (ne_eqb p n (λ at. let bad : suc n ≤ n = omega arith in omega arith)) (low p x (omega arith)))

        same : (p : ℕ) → ((p == n || gone p) || f p) ≡ (gone p || f p)
        same p = ⊎_elim (λ (x : f p ≡ true). or_right (p == n || gone p) (f p) x ∙ sym (or_right (gone p) (f p) x))
            (λ (x : f p ≡ false). ap (λ (b : Bool). (b || gone p) || f p) (ne_eqb p n (λ at. both_ways (f p) x (ap f at ∙ e)))) (cases_Bool (f p))

pub lift_run : (ship : Ship) (cargo : Cargo) (call : ℕ) (old new : Plan) (lifted f : ℕ → Bool) (n : ℕ) → LiftRun ship cargo call old new lifted f n
lift_run ship cargo call old new lifted f zero = lift_none ship cargo call old new lifted f
lift_run ship cargo call old new lifted f (suc n) = lift_more ship cargo call old new lifted f n (lift_run ship cargo call old new lifted f n)

pub record AfterPuts (new : Plan) (waits : ℕ → Bool) (off : List Bool) (s : State) : Type 0 where
  pub state : PutState new waits s
  pub off_same : s.off ≡ off

pub record PutRule (ship : Ship) (new : Plan) (waits f : ℕ → Bool) (off : List Bool) : Type 0 where
  pub filled : (p : ℕ) → f p ≡ true → (c : ℕ) × Holds new p c
  pub with_under : (p q : ℕ) → IsOver ship p q → f p ≡ true → waits q ≡ true → f q ≡ true
  pub open_over : (p k : ℕ) (place : Place) → f p ≡ true → slice_get (places ship) p ≡ Some place → LiesUnder ship place.stack k → slice_get off k ≡ Some true
  pub shut_under : (p k : ℕ) (place : Place) → f p ≡ true → slice_get (places ship) p ≡ Some place → StandsOn ship place.stack k → slice_get off k ≡ Some false

narrower : (ship : Ship) (new : Plan) (waits less f : ℕ → Bool) (off : List Bool) → ((p : ℕ) → less p ≡ true → waits p ≡ true) → PutRule ship new waits f off → PutRule ship new less f off
narrower ship new waits less f off h rule = record { filled = rule.filled; with_under = λ p q over x w. rule.with_under p q over x (h q w); open_over = rule.open_over; shut_under = rule.shut_under }

abbrev PutRun : (ship : Ship) (cargo : Cargo) (call : ℕ) (new : Plan) (f : ℕ → Bool) (k : ℕ) → Type 0
PutRun ship cargo call new f k = (p : ℕ) (waits : ℕ → Bool) (s : State)
    → IsStowed ship cargo call new
    → ((p q : ℕ) → IsOver ship p q → q < p)
    → PutRule ship new waits f s.off
    → PutState new waits s
    → ((q : ℕ) → f q ≡ true → q < p → waits q ≡ false)
    → ((q : ℕ) → f q ≡ true → p ≤ q → waits q ≡ true)
    → ((q : ℕ) → f q ≡ true → q < p + k)
    → Reaches ship cargo call s (puts_from f new p k) (AfterPuts new (λ q. waits q && not (f q)) s.off)

put_none : (ship : Ship) (cargo : Cargo) (call : ℕ) (new : Plan) (f : ℕ → Bool) → PutRun ship cargo call new f zero
put_none ship cargo call new f p waits s stowed later rule state low high all =
    (tt, record { state = subst (λ (g : ℕ → Bool). PutState new g s) (fun_ext same) state; off_same = refl })
  where
    same : (q : ℕ) → waits q ≡ (waits q && not (f q))
    same q = ⊎_elim (λ (x : f q ≡ true). low q x (let l : q < p + 0 = all q x in omega arith) ∙ sym (and_right (waits q) (not (f q)) (not_from_true (f q) x)))
        (λ (x : f q ≡ false). ⊎_elim (λ (w : waits q ≡ true). w ∙ sym (and_from (waits q) (not (f q)) w (not_from_false (f q) x))) (λ (w : waits q ≡ false). w ∙ sym (and_left (waits q) (not (f q)) w)) (cases_Bool (waits q))) (cases_Bool (f q))

put_more : (ship : Ship) (cargo : Cargo) (call : ℕ) (new : Plan) (f : ℕ → Bool) (k : ℕ) → PutRun ship cargo call new f k → PutRun ship cargo call new f (suc k)
put_more ship cargo call new f k again p waits s stowed later rule state low high all = by (f p) refl
  where
    by : (b : Bool) → f p ≡ b → Reaches ship cargo call s (cond (f p) (put_of p (slice_get new p)) [] ++ puts_from f new (suc p) k) (AfterPuts new (λ q. waits q && not (f q)) s.off)
    by false e = subst (λ (x : Bool). Reaches ship cargo call s (cond x (put_of p (slice_get new p)) [] ++ puts_from f new (suc p) k) (AfterPuts new (λ q. waits q && not (f q)) s.off)) (sym e)
        (again (suc p) waits s stowed later rule state
        (λ q x l. ⊎_elim (λ (same : q ≡ p). absurd (both_ways (f p) e (sym (ap f same) ∙ x))) (λ (ne : q ≡ p → ⊥). low q x (omega arith)) (cases_eq q p))
        (λ q x l. high q x (omega arith))
        (λ q x. let l : q < p + suc k = all q x in omega arith))
    by true e = subst (λ (x : Bool). Reaches ship cargo call s (cond x (put_of p (slice_get new p)) [] ++ puts_from f new (suc p) k) (AfterPuts new (λ q. waits q && not (f q)) s.off)) (sym e)
        (subst (λ (o : Option (Option ℕ)). Reaches ship cargo call s (put_of p o ++ puts_from f new (suc p) k) (AfterPuts new (λ q. waits q && not (f q)) s.off)) (sym was.1)
        ((can, rest.0), record { state = subst (λ (g : ℕ → Bool). PutState new g (end_of cargo call (after cargo call s (Put was.0 p)) (puts_from f new (suc p) k))) (fun_ext same) rest.1.state; off_same = rest.1.off_same }))
      where
        was : (c : ℕ) × Holds new p c
        was = rule.filled p e

        waiting : waits p ≡ true
        waiting = high p e (omega arith)

        can : Allowed ship cargo s (Put was.0 p)
        can = can_put ship cargo call new waits s p was.0 stowed state.plan was.1 waiting
            (λ q over. false_from_ne_true (waits q) (λ w. let l : q < p = later p q over in both_ways (waits q) (low q (rule.with_under p q over e w) l) w))
            (state.due_waits was.0 (record { place = p; held = was.1; waiting = waiting }))
            (λ j place is under. rule.open_over p j place e is under)
            (λ j place is on. rule.shut_under p j place e is on)

        rest : Reaches ship cargo call (after cargo call s (Put was.0 p)) (puts_from f new (suc p) k) (AfterPuts new (λ q. (waits q && not (q == p)) && not (f q)) s.off)
        rest = again (suc p) (λ q. waits q && not (q == p)) (after cargo call s (Put was.0 p)) stowed later
            (narrower ship new waits (λ q. waits q && not (q == p)) f s.off (λ q w. (and_parts (waits q) (not (q == p)) w).0) rule)
            (put_step ship cargo call new waits s p was.0 stowed.well_formed state was.1 waiting)
            (λ q x l. ⊎_elim (λ (at : q ≡ p). and_right (waits q) (not (q == p)) (not_from_true (q == p) (eq-eqb q p at))) (λ (ne : q ≡ p → ⊥). and_left (waits q) (not (q == p)) (low q x (omega arith))) (cases_eq q p))
            (λ q x l. and_from (waits q) (not (q == p)) (high q x (omega arith)) (not_from_false (q == p) (ne_eqb q p (λ at. let bad : suc p ≤ p = omega arith in omega arith))))
            (λ q x. let l : q < p + suc k = all q x in omega arith)

        same : (q : ℕ) → ((waits q && not (q == p)) && not (f q)) ≡ (waits q && not (f q))
        same q = ⊎_elim (λ (x : f q ≡ true). and_right (waits q && not (q == p)) (not (f q)) (not_from_true (f q) x) ∙ sym (and_right (waits q) (not (f q)) (not_from_true (f q) x)))
            (λ (x : f q ≡ false). ap (λ (b : Bool). b && not (f q)) (⊎_elim (λ (w : waits q ≡ true). and_from (waits q) (not (q == p)) w (not_from_false (q == p) (ne_eqb q p (λ at. both_ways (f q) x (ap f at ∙ e)))) ∙ sym w) (λ (w : waits q ≡ false). and_left (waits q) (not (q == p)) w ∙ sym w) (cases_Bool (waits q)))) (cases_Bool (f q))

pub put_run : (ship : Ship) (cargo : Cargo) (call : ℕ) (new : Plan) (f : ℕ → Bool) (k : ℕ) → PutRun ship cargo call new f k
put_run ship cargo call new f zero = put_none ship cargo call new f
put_run ship cargo call new f (suc k) = put_more ship cargo call new f k (put_run ship cargo call new f k)

-- the covers that are off
abbrev pub OffIs : Ship → (ℕ → Bool) → List Bool → Type 0
OffIs ship o off = (k : ℕ) (cover : Cover) → slice_get ship.covers k ≡ Some cover → slice_get off k ≡ Some (o k)

-- what changes is the covers alone
pub record AfterCovers (ship : Ship) (o : ℕ → Bool) (before s : State) : Type 0 where
  pub plan_same : s.plan ≡ before.plan
  pub quay_same : s.quay ≡ before.quay
  pub off_is : OffIs ship o s.off

set_is : (ship : Ship) (o : ℕ → Bool) (off : List Bool) (k : ℕ) (b : Bool) → OffIs ship o off → OffIs ship (λ j. cond (j == k) b (o j)) (slice_set off k b)
set_is ship o off k b is j cover known =
    ⊎_elim (λ (at : j ≡ k). subst (λ (x : ℕ). slice_get (slice_set off x b) j ≡ Some b) at (slice_get-set_same off j b (o j) (is j cover known)) ∙ ap Some (sym (cond-true (j == k) b (o j) (eq-eqb j k at))))
    (λ (ne : j ≡ k → ⊥). slice_get-set_other off k j b ne ∙ is j cover known ∙ ap Some (sym (cond-false (j == k) b (o j) (ne_eqb j k ne))))
    (cases_eq j k)

-- what the moves of one kind do to a cover: b says that it is then off
pub record CoverRule (ship : Ship) (cargo : Cargo) (call : ℕ) (make : ℕ → Move) (b : Bool) (f : ℕ → Bool) (plan : Plan) : Type 0 where
  pub known : (k : ℕ) → f k ≡ true → (cover : Cover) × (slice_get ship.covers k ≡ Some cover)
  pub can : (t : State) (k : ℕ) → t.plan ≡ plan → f k ≡ true → slice_get t.off k ≡ Some (not b) → Allowed ship cargo t (make k)
  pub plan_kept : (t : State) (k : ℕ) → (after cargo call t (make k)).plan ≡ t.plan
  pub quay_kept : (t : State) (k : ℕ) → (after cargo call t (make k)).quay ≡ t.quay
  pub off_set : (t : State) (k : ℕ) → (after cargo call t (make k)).off ≡ slice_set t.off k b

abbrev CoverRun : (ship : Ship) (cargo : Cargo) (call : ℕ) (make : ℕ → Move) (b : Bool) (f : ℕ → Bool) (n : ℕ) → Type 0
CoverRun ship cargo call make b f n = (o : ℕ → Bool) (s : State)
    → CoverRule ship cargo call make b f s.plan
    → OffIs ship o s.off
    → ((k : ℕ) → f k ≡ true → n ≤ k → o k ≡ b)
    → ((k : ℕ) → f k ≡ true → k < n → o k ≡ not b)
    → Reaches ship cargo call s (covers_down make f n) (AfterCovers ship (λ j. cond (f j) b (o j)) s)

cover_none : (ship : Ship) (cargo : Cargo) (call : ℕ) (make : ℕ → Move) (b : Bool) (f : ℕ → Bool) → CoverRun ship cargo call make b f zero
cover_none ship cargo call make b f o s rule is high low = (tt, record { plan_same = refl; quay_same = refl; off_is = λ k cover known. is k cover known ∙ ap Some (same k) })
  where
    same : (k : ℕ) → o k ≡ cond (f k) b (o k)
    same k = ⊎_elim (λ (x : f k ≡ true). high k x (omega arith) ∙ sym (cond-true (f k) b (o k) x)) (λ (x : f k ≡ false). sym (cond-false (f k) b (o k) x)) (cases_Bool (f k))

cover_more : (ship : Ship) (cargo : Cargo) (call : ℕ) (make : ℕ → Move) (b : Bool) (f : ℕ → Bool) (n : ℕ) → CoverRun ship cargo call make b f n → CoverRun ship cargo call make b f (suc n)
cover_more ship cargo call make b f n again o s rule is high low = by (f n) refl
  where
    by : (x : Bool) → f n ≡ x → Reaches ship cargo call s (cond (f n) (make n ∷ covers_down make f n) (covers_down make f n)) (AfterCovers ship (λ j. cond (f j) b (o j)) s)
    by false e = subst (λ (x : Bool). Reaches ship cargo call s (cond x (make n ∷ covers_down make f n) (covers_down make f n)) (AfterCovers ship (λ j. cond (f j) b (o j)) s)) (sym e)
        (again o s rule is
        (λ k x l. ⊎_elim (λ (at : k ≡ n). absurd (both_ways (f n) e (sym (ap f at) ∙ x))) (λ (ne : k ≡ n → ⊥). high k x (omega arith)) (cases_eq k n))
        (λ k x l. low k x (omega arith)))
    by true e = subst (λ (x : Bool). Reaches ship cargo call s (cond x (make n ∷ covers_down make f n) (covers_down make f n)) (AfterCovers ship (λ j. cond (f j) b (o j)) s)) (sym e)
        ((can, rest.0), record { plan_same = rest.1.plan_same ∙ rule.plan_kept s n; quay_same = rest.1.quay_same ∙ rule.quay_kept s n; off_is = λ k cover known. rest.1.off_is k cover known ∙ ap Some (same k) })
      where
        t : State
        t = after cargo call s (make n)

        cover : (cover : Cover) × (slice_get ship.covers n ≡ Some cover)
        cover = rule.known n e

        can : Allowed ship cargo s (make n)
        can = rule.can s n refl e (is n cover.0 cover.1 ∙ ap Some (low n e (omega arith)))

        o2 : ℕ → Bool
        o2 j = cond (j == n) b (o j)

        rest : Reaches ship cargo call (after cargo call s (make n)) (covers_down make f n) (AfterCovers ship (λ j. cond (f j) b (cond (j == n) b (o j))) (after cargo call s (make n)))
        rest = again (λ j. cond (j == n) b (o j)) (after cargo call s (make n))
            (record { known = rule.known; can = λ u k p. rule.can u k (p ∙ rule.plan_kept s n); plan_kept = rule.plan_kept; quay_kept = rule.quay_kept; off_set = rule.off_set })
            (subst (λ (off : List Bool). OffIs ship (λ j. cond (j == n) b (o j)) off) (sym (rule.off_set s n)) (set_is ship o s.off n b is))
            (λ k x l. ⊎_elim (λ (at : k ≡ n). cond-true (k == n) b (o k) (eq-eqb k n at)) (λ (ne : k ≡ n → ⊥). cond-false (k == n) b (o k) (ne_eqb k n ne) ∙ high k x (omega arith)) (cases_eq k n))
            (λ k x l. cond-false (k == n) b (o k) (ne_eqb k n (λ at. let bad : suc n ≤ n = omega arith in omega arith)) ∙ low k x (omega arith))

        same : (k : ℕ) → cond (f k) b (cond (k == n) b (o k)) ≡ cond (f k) b (o k)
        same k = ⊎_elim (λ (x : f k ≡ true). cond-true (f k) b (cond (k == n) b (o k)) x ∙ sym (cond-true (f k) b (o k) x))
            (λ (x : f k ≡ false). ap (λ (y : Bool). cond (f k) b y) (cond-false (k == n) b (o k) (ne_eqb k n (λ at. both_ways (f k) x (ap f at ∙ e))))) (cases_Bool (f k))

pub cover_run : (ship : Ship) (cargo : Cargo) (call : ℕ) (make : ℕ → Move) (b : Bool) (f : ℕ → Bool) (n : ℕ) → CoverRun ship cargo call make b f n
cover_run ship cargo call make b f zero = cover_none ship cargo call make b f
cover_run ship cargo call make b f (suc n) = cover_more ship cargo call make b f n (cover_run ship cargo call make b f n)
