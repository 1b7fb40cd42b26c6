-- Each step keeps the rule of the board.
use Rattle.std.proofs.Common.{◌≡◌, ◌≢◌, ℕ, zero, suc, ◌+◌, ◌-◌, ◌*◌, ◌%◌, ◌<◌, ◌≤◌, ◌^◌, ◌==◌, min, cond, ◌⊎◌, inl, inr, List, [], ◌∷◌, ◌++◌, length, set, refl, ap, sym, ◌∙◌, subst, ⊎_elim, arith}
use Rattle.std.proofs.lemmas.List.{length-set, length-append}
use Rattle.std.proofs.lemmas.Bool.Decides.{eqb_tells, nat_tests}
use mathlib.Core.Option.{some, none, some-ne-none}
use lib.ListN.{get_elem?}
use Rattle.atomic_table.specs.Table.{State, Me, step, keeps, Allows}
use Rattle.atomic_table.proofs.Lists.{at_set, set_here, set_else, set_again}
use Rattle.shared_search.specs.declared.view.Role.{Role}
use Rattle.shared_search.specs.declared.view.Role.TheVariants.{Owner, Worker, Spent}
use Rattle.shared_search.specs.declared.view.View.{View}
use Rattle.shared_search.specs.Rule.{seen_at, offered_at, drawn_at, Loaded, Offered, Drawn, BudgetRead, is_owner, is_spent, total, spent_views, times, once_below, Owns, Fits, BoardKept}

-- the total after a change of one view
pub sum_set : (f : View → ℕ) (l : List View) (i : ℕ) (v w : View) → get_elem? l i ≡ some v → total f (set l i w) + f v ≡ total f l + f w
sum_set f [] i v w e = absurd (some-ne-none v (sym e))
sum_set f (x ∷ l) zero v w e = let same : x ≡ v = cc in rw same (omega arith)
sum_set f (x ∷ l) (suc i) v w e = omega (arith, sum_set f l i v w e)

pub at_length : (l : List View) (i : ℕ) (v : View) → get_elem? l i ≡ some v → i < length l
at_length [] i v e = absurd (some-ne-none v (sym e))
at_length (x ∷ l) zero v e = omega arith
at_length (x ∷ l) (suc i) v e = omega (arith, at_length l i v e)

pub same_or_other : (a b : ℕ) → (a ≡ b) ⊎ (a ≢ b)
same_or_other a b = elim (eqb_tells a b) [ inl h ↦ inl h.1 | inr h ↦ inr h.1 ]

-- the views after a step: the step's own view fits, and the others do where the best falls
pub views_after : (key : ℕ × ℕ) (views : List View) (id : ℕ) (w : View) (best best' : ℕ) → ((seat : ℕ) (v : View) → get_elem? views seat ≡ some v → Fits key.0 key.1 best v) → best' ≤ best
    → Fits key.0 key.1 best' w → (seat : ℕ) (v : View) → get_elem? (set views id w) seat ≡ some v → Fits key.0 key.1 best' v
views_after key views id w best best' h low mine seat v e = ⊎_elim
    (λ (t : (seat ≡ id) × (w ≡ v)). subst (λ (z : View). Fits key.0 key.1 best' z) t.1 mine)
    (λ (t : (seat ≢ id) × (get_elem? views seat ≡ some v)). let f = h seat v t.1 in
    record { offered = omega (arith, f.offered); seen = omega (arith, f.seen); knows = f.knows; serves = f.serves; idle = f.idle })
    (at_set views id seat w v e)

pub live_owner : (r : Role) → r ≡ Owner → r ≢ Spent
live_owner r e d = absurd (omega (arith, ap is_owner (sym e ∙ d)))

pub live_worker : (r : Role) → r ≡ Worker → r ≢ Spent
live_worker r e d = absurd (omega (arith, ap is_spent (sym e ∙ d)))

pub owner_or_worker : (r : Role) → r ≡ Owner → r ≢ Worker
owner_or_worker r e d = absurd (omega (arith, ap is_owner (sym e ∙ d)))

pub some_role : (r : Role) → (r ≡ Owner) ⊎ ((r ≡ Worker) ⊎ (r ≡ Spent))
some_role Owner = inl refl
some_role Worker = inr (inl refl)
some_role Spent = inr (inr refl)

-- the owner's view after a step of some seat, of whose role and counts nothing changes
owner_after : (views : List View) (id : ℕ) (v w : View) → get_elem? views id ≡ some v → w.role ≡ v.role → w.made ≡ v.made → w.taken ≡ v.taken → (v.role ≡ Owner → w.over ≤ w.taken)
    → ((seat : ℕ) (u : View) → get_elem? views seat ≡ some u → u.role ≡ Owner → Owns (length views) (spent_views views) u)
    → (seat : ℕ) (u : View) → get_elem? (set views id w) seat ≡ some u → u.role ≡ Owner → Owns (length (set views id w)) (spent_views (set views id w)) u
owner_after views id v w at role made_is taken_is over h seat u e owns =
    let len = length-set views id w in
    let same : spent_views (set views id w) ≡ spent_views views = omega (arith, sum_set (λ v. is_spent v.role) views id v w at, ap is_spent role) in
    ⊎_elim
    (λ (t : (seat ≡ id) × (w ≡ u)).
    let k : w.role ≡ Owner = ap (λ (z : View). z.role) t.1 ∙ owns in
    let o = h id v at (sym role ∙ k) in
    subst (λ (z : View). Owns (length (set views id w)) (spent_views (set views id w)) z) t.1
    (record { made = omega (arith, o.made, len, made_is); taken = omega (arith, o.taken, taken_is, same); over = over (sym role ∙ k) }))
    (λ (t : (seat ≢ id) × (get_elem? views seat ≡ some u)). let o = h seat u t.1 owns in record { made = omega (arith, o.made, len); taken = omega (arith, o.taken, same); over = o.over })
    (at_set views id seat w u e)

abbrev pub From : ℕ → ℕ → List View → Type 0
From start best views = (best ≡ start) ⊎ ((seat : ℕ) × (v : View) × (get_elem? views seat ≡ some v) × (v.offered ≡ best))

-- who offered the best: this seat, or who did before
pub from_mine : (start best : ℕ) (views : List View) (id : ℕ) (w : View) → id < length views → w.offered ≡ best → From start best (set views id w)
from_mine start best views id w lt e = inr (id, w, set_here views id w lt, e)

pub from_before : (start best : ℕ) (views : List View) (id : ℕ) (v w : View) → get_elem? views id ≡ some v → (v.offered ≡ best → w.offered ≡ best) → From start best views → From start best (set views id w)
from_before start best views id v w at keep (inl e) = inl e
from_before start best views id v w at keep (inr h) = ⊎_elim
    (λ (same : h.0 ≡ id). from_mine start best views id w (at_length views id v at) (keep (let e : some h.1 ≡ some v = sym h.2 ∙ ap (λ (n : ℕ). get_elem? views n) same ∙ at in let f : h.1 ≡ v = cc in ap (λ (z : View). z.offered) (sym f) ∙ h.3)))
    (λ (other : h.0 ≢ id). inr (h.0, h.1, set_else views id h.0 w other ∙ h.2, h.3))
    (same_or_other h.0 id)

less_or : (a b : ℕ) → ((a ≤ b) × (min a b ≡ a)) ⊎ ((b ≤ a) × (min a b ≡ b))
less_or a b = grind arith

over_small : (n : ℕ) (v : View) → v.over ≡ 0 → (drawn_at v n).over ≤ 1
over_small n v e = grind (arith, nat_tests)

times_snoc : (x y : ℕ) (ys : List ℕ) → times x (ys ++ y ∷ []) ≡ times x ys + cond (y == x) 1 0
times_snoc x y [] = omega arith
times_snoc x y (z ∷ ys) = omega (arith, times_snoc x y ys)

ticket_once : (x n budget : ℕ) (v : View) → v.budget ≡ budget → times x (drawn_at v n).tickets + once_below x (min n budget) ≡ times x v.tickets + once_below x (min (n + 1) budget)
ticket_once x n budget v e = grind (arith, nat_tests, times_snoc x n v.tickets)

ticket_count : (n budget : ℕ) (v : View) → v.budget ≡ budget → length (drawn_at v n).tickets + min n budget ≡ length v.tickets + min (n + 1) budget
ticket_count n budget v e = grind (arith, nat_tests, length-append v.tickets (n ∷ []))

ticket_over : (n budget : ℕ) (v : View) → v.budget ≡ budget → (drawn_at v n).over + (n - budget) ≡ v.over + (n + 1 - budget)
ticket_over n budget v e = grind (arith, nat_tests)

pub spent_at_most : (r : Role) → is_spent r ≤ 1
spent_at_most Owner = omega arith
spent_at_most Worker = omega arith
spent_at_most Spent = omega arith

pub spent_total : (views : List View) → spent_views views ≤ length views
spent_total [] = omega arith
spent_total (v ∷ vs) = omega (arith, spent_total vs, spent_at_most v.role)

-- an owner's number over is at most the seats, a worker's at most 1, and a spent view's 0
over_each : (key : ℕ × ℕ) (s : State ℕ View) (k : BoardKept key s) (seat : ℕ) (v : View) → get_elem? s.views seat ≡ some v → v.over ≤ 65537
over_each key s k seat v at = elim (some_role v.role) [
  | inl owner ↦ (let o = k.owner seat v at owner in omega (arith, o.over, o.taken, spent_total s.views, k.few))
  | inr (inl worker) ↦ omega (arith, ((k.views seat v at).serves worker).over)
  | inr (inr dead) ↦ omega (arith, ap (λ (z : View). z.over) ((k.views seat v at).idle dead))
]

over_total : (n : ℕ) (views : List View) → ((seat : ℕ) (v : View) → get_elem? views seat ≡ some v → v.over ≤ n) → total (λ v. v.over) views ≤ length views * n
over_total n [] h = omega arith
over_total n (v ∷ vs) h = omega (arith, h 0 v refl, over_total n vs (λ seat u e. h (suc seat) u e))

drawn_small : (key : ℕ × ℕ) (s : State ℕ View) (k : BoardKept key s) → k.drawn + 1 < 2 ^ 64
drawn_small key s k = omega (arith, over_total 65537 s.views (over_each key s k), k.overs, k.few, k.short)

mod_small : (n : ℕ) → n + 1 < 2 ^ 64 → (n + 1) % 2 ^ 64 ≡ n + 1
mod_small n h = omega arith

from_offer : (start best cost : ℕ) (views : List View) (id : ℕ) (v w : View) → get_elem? views id ≡ some v → best ≤ v.offered → w.offered ≡ min v.offered cost → From start best views
    → ((best ≤ cost) × (min best cost ≡ best)) ⊎ ((cost ≤ best) × (min best cost ≡ cost)) → From start (min best cost) (set views id w)
from_offer start best cost views id v w at low is from (inl h) = rw h.1 (from_before start best views id v w at (λ e. omega (arith, e, h.0, is)) from)
from_offer start best cost views id v w at low is from (inr h) = rw h.1 (from_mine start cost views id w (at_length views id v at) (omega (arith, h.0, low, is)))

module _ (key : ℕ × ℕ) (id slots : ℕ) (me : Me ℕ View) where
  pub loads : me.0.role ≢ Spent → Allows (BoardKept key) slots id me 0 (λ n. n) (Loaded (step slots 0 0 0 none) me)
  loads live s k homes at lt =
      let w : View = seen_at me.0 k.best in
      let f = k.views id me.0 at in
      let a = sum_set (λ v. v.over) s.views id me.0 w at in
      rw k.words (
        w,
        keeps,
        tt,
        record {
          best = k.best;
          drawn = k.drawn;
          words = refl;
          low = k.low;
          start = k.start;
          owner = owner_after s.views id me.0 w at refl refl refl (λ z. (k.owner id me.0 at z).over) k.owner;
          one = omega (arith, sum_set (λ v. is_owner v.role) s.views id me.0 w at, k.one);
          views = views_after key s.views id w k.best k.best k.views (omega arith) (record { offered = f.offered; seen = omega arith; serves = λ w. let t = f.serves w in record { over = t.over; made = t.made; taken = t.taken }; knows = λ live. let n = f.knows live in record { most = k.low; start_is = n.start_is; budget_is = n.budget_is }; idle = λ dead. absurd (live dead) });
          from = from_before key.0 k.best s.views id me.0 w at (λ e. e) k.from;
          once = λ x. omega (arith, sum_set (λ v. times x v.tickets) s.views id me.0 w at, k.once x);
          count = omega (arith, sum_set (λ v. length v.tickets) s.views id me.0 w at, k.count);
          overs = omega (arith, k.overs);
          few = omega (arith, length-set s.views id w, k.few);
          short = k.short;
        },
        (refl, f.seen, f.offered, omega (arith, (f.knows live).start_is, k.low)),
      )

  pub offers : (cost : ℕ) → me.0.role ≢ Spent → Allows (BoardKept key) slots id me 0 (λ n. min n cost) (Offered (step slots 0 cost 0 none) me)
  offers cost live s k homes at lt =
      let w : View = offered_at me.0 cost k.best in
      let f = k.views id me.0 at in
      let a = sum_set (λ v. v.over) s.views id me.0 w at in
      rw k.words (
        w,
        keeps,
        tt,
        record {
          best = min k.best cost;
          drawn = k.drawn;
          words = refl;
          low = omega (arith, k.low);
          start = k.start;
          owner = owner_after s.views id me.0 w at refl refl refl (λ z. (k.owner id me.0 at z).over) k.owner;
          one = omega (arith, sum_set (λ v. is_owner v.role) s.views id me.0 w at, k.one);
          views = views_after key s.views id w k.best (min k.best cost) k.views (omega arith)
              (record { offered = omega (arith, f.offered); seen = omega arith; serves = λ w. let t = f.serves w in record { over = t.over; made = t.made; taken = t.taken }; knows = λ live. let n = f.knows live in record { most = omega (arith, k.low); start_is = n.start_is; budget_is = n.budget_is }; idle = λ dead. absurd (live dead) });
          from = from_offer key.0 k.best cost s.views id me.0 w at f.offered refl k.from (less_or k.best cost);
          once = λ x. omega (arith, sum_set (λ v. times x v.tickets) s.views id me.0 w at, k.once x);
          count = omega (arith, sum_set (λ v. length v.tickets) s.views id me.0 w at, k.count);
          overs = omega (arith, k.overs);
          few = omega (arith, length-set s.views id w, k.few);
          short = k.short;
        },
        (refl, f.seen, f.offered, omega (arith, (f.knows live).start_is, k.low)),
      )

  pub reads_budget : me.0.role ≢ Spent → Allows (BoardKept key) slots id me 2 (λ n. n) (BudgetRead (step slots 2 0 0 none) me)
  reads_budget live s k homes at lt =
      let f = k.views id me.0 at in
      let same : set s.views id me.0 ≡ s.views = set_again s.views id me.0 at in
      rw k.words (
        me.0,
        keeps,
        tt,
        record {
          best = k.best;
          drawn = k.drawn;
          words = refl;
          low = k.low;
          start = k.start;
          owner = rw same k.owner;
          one = rw same k.one;
          views = rw same k.views;
          from = rw same k.from;
          once = rw same k.once;
          count = rw same k.count;
          overs = rw same k.overs;
          few = rw same k.few;
          short = k.short;
        },
        (refl, sym (f.knows live).budget_is),
      )

  -- a ticket: n is the number drawn
  pub draws : me.0.role ≡ Worker → me.0.over ≡ 0 → Allows (BoardKept key) slots id me 1 (λ n. (n + 1) % 2 ^ 64) (Drawn (step slots 1 1 0 none) me)
  draws worker none_over s k homes at lt =
      let w : View = drawn_at me.0 k.drawn in
      let f = k.views id me.0 at in
      let small : k.drawn + 1 < 2 ^ 64 = drawn_small key s k in
      let live : me.0.role ≢ Spent = live_worker me.0.role worker in
      let b : me.0.budget ≡ key.1 = (f.knows live).budget_is in
      let next : (k.drawn + 1) % 2 ^ 64 ≡ k.drawn + 1 = mod_small k.drawn small in
      rw (k.words, next) (
        w,
        keeps,
        tt,
        record {
          best = k.best;
          drawn = k.drawn + 1;
          words = refl;
          low = k.low;
          start = k.start;
          owner = owner_after s.views id me.0 w at refl refl refl (λ z. absurd (owner_or_worker me.0.role z worker)) k.owner;
          one = omega (arith, sum_set (λ v. is_owner v.role) s.views id me.0 w at, k.one);
          views = views_after key s.views id w k.best k.best k.views (omega arith)
              (record { offered = f.offered; seen = f.seen; serves = λ w. let t = f.serves w in record { over = over_small k.drawn me.0 none_over; made = t.made; taken = t.taken }; knows = λ live. let n = f.knows live in record { most = n.most; start_is = n.start_is; budget_is = n.budget_is }; idle = λ dead. absurd (live dead) });
          from = from_before key.0 k.best s.views id me.0 w at (λ e. e) k.from;
          once = λ x. omega (arith, sum_set (λ v. times x v.tickets) s.views id me.0 w at, k.once x, ticket_once x k.drawn key.1 me.0 b);
          count = omega (arith, sum_set (λ v. length v.tickets) s.views id me.0 w at, k.count, ticket_count k.drawn key.1 me.0 b);
          overs = omega (arith, sum_set (λ v. v.over) s.views id me.0 w at, k.overs, ticket_over k.drawn key.1 me.0 b);
          few = omega (arith, length-set s.views id w, k.few);
          short = k.short;
        },
        refl,
      )
