-- Seats that are made and taken in, and the end.
use Rattle.std.proofs.Common.{◌≡◌, ◌≢◌, ℕ, zero, suc, ◌+◌, ◌<◌, ◌≤◌, min, ◌⊎◌, inl, inr, List, [], ◌∷◌, ◌++◌, length, set, refl, ap, sym, ◌∙◌, subst, ⊎_elim, arith}
use Rattle.std.proofs.lemmas.List.{length-set, length-append}
use mathlib.Core.Option.{some, some-ne-none}
use lib.ListN.{get_elem?}
use Rattle.atomic_table.specs.Table.{State, Splits, Joins}
use Rattle.atomic_table.proofs.Lists.{at_set, at_snoc, at_longer, set_here, set_else}
use Rattle.shared_search.specs.declared.view.Role.{Role}
use Rattle.shared_search.specs.declared.view.Role.TheVariants.{Owner, Worker, Spent}
use Rattle.shared_search.specs.declared.view.View.{View}
use Rattle.shared_search.specs.Rule.{after_split, new_seat, joined, spent, is_owner, is_spent, total, owners, spent_views, times, once_below, Owns, Fits, BoardKept}
use Rattle.shared_search.proofs.Moves.{sum_set, at_length, same_or_other, live_owner, live_worker, owner_or_worker, spent_at_most, spent_total, From, from_before, views_after}

total_snoc : (f : View → ℕ) (l : List View) (w : View) → total f (l ++ w ∷ []) ≡ total f l + f w
total_snoc f [] w = omega arith
total_snoc f (x ∷ l) w = omega (arith, total_snoc f l w)

length_snoc : (l : List View) (w : View) → length (l ++ w ∷ []) ≡ length l + 1
length_snoc l w = omega (arith, length-append l (w ∷ []))

part_of : (f : View → ℕ) (l : List View) (i : ℕ) (v : View) → get_elem? l i ≡ some v → f v ≤ total f l
part_of f [] i v e = absurd (some-ne-none v (sym e))
part_of f (x ∷ l) zero v e = let same : x ≡ v = cc in rw (← same) (omega arith)
part_of f (x ∷ l) (suc i) v e = omega (arith, part_of f l i v e)

times_append : (x : ℕ) (ys zs : List ℕ) → times x (ys ++ zs) ≡ times x ys + times x zs
times_append x [] zs = omega arith
times_append x (y ∷ ys) zs = omega (arith, times_append x ys zs)

-- there is one owner
alone : (views : List View) (i j : ℕ) (v u : View) → owners views ≡ 1 → get_elem? views i ≡ some v → get_elem? views j ≡ some u → v.role ≡ Owner → u.role ≡ Owner → j ≢ i → ⊥
alone views i j v u one at at' k k' other =
    let rest = set views i spent in
    let there : get_elem? rest j ≡ some u = set_else views i j spent other ∙ at' in
    omega (arith, sum_set (λ v. is_owner v.role) views i v spent at, ap is_owner k, ap is_owner k', part_of (λ v. is_owner v.role) rest j u there)

from_join : (start best : ℕ) (views : List View) (id other : ℕ) (v w : View) → get_elem? views id ≡ some v → get_elem? views other ≡ some w → other ≢ id → best ≤ v.offered → best ≤ w.offered → From start best views
    → From start best (set (set views id (joined v w)) other spent)
from_join start best views id other v w at was two low low' (inl e) = inl e
from_join start best views id other v w at was two low low' (inr h) =
    let both : View = joined v w in
    let mid : List View = set views id both in
    let mine : min v.offered w.offered ≡ best → From start best (set mid other spent) = λ e. inr (id, both, (set_else mid other id spent (λ e'. two (sym e')) ∙ set_here views id both (at_length views id v at)), e) in
    elim (same_or_other h.0 id) [
      | inl same ↦ mine (let p : some h.1 ≡ some v = sym h.2 ∙ ap (λ (n : ℕ). get_elem? views n) same ∙ at in let q : h.1 ≡ v = cc in let o : h.1.offered ≡ v.offered = ap (λ (z : View). z.offered) q in omega (arith, h.3))
      | inr apart ↦ elim (same_or_other h.0 other) [
        | inl same ↦ mine (let p : some h.1 ≡ some w = sym h.2 ∙ ap (λ (n : ℕ). get_elem? views n) same ∙ was in let q : h.1 ≡ w = cc in let o : h.1.offered ≡ w.offered = ap (λ (z : View). z.offered) q in omega (arith, h.3))
        | inr far ↦ inr (h.0, h.1, set_else mid other h.0 spent far ∙ set_else views id h.0 both apart ∙ h.2, h.3)
      ]
    ]

module _ (key : ℕ × ℕ) (id : ℕ) (v : View) where
  pub splits : v.role ≡ Owner → v.made < 65536 → Splits (BoardKept key) id v (after_split v) (new_seat v)
  splits owner room s k at =
      let f = k.views id v at in
      let live : v.role ≢ Spent = live_owner v.role owner in
      let n = f.knows live in
      let o = k.owner id v at owner in
      let l : View = after_split v in
      let r : View = new_seat v in
      let vs : List View = set s.views id l in
      let len : length vs ≡ length s.views = length-set s.views id l in
      let dead : spent_views (vs ++ r ∷ []) ≡ spent_views s.views = omega (arith, total_snoc (λ v. is_spent v.role) vs r, sum_set (λ v. is_spent v.role) s.views id v l at) in
      record {
        best = k.best;
        drawn = k.drawn;
        words = k.words;
        low = k.low;
        start = k.start;
        views = λ seat u e. ⊎_elim
            (λ (t : get_elem? vs seat ≡ some u). views_after key s.views id l k.best k.best k.views (omega arith) (record { offered = f.offered; seen = f.seen; serves = λ w. absurd (owner_or_worker v.role owner w); knows = λ _. record { most = n.most; start_is = n.start_is; budget_is = n.budget_is }; idle = λ d. absurd (live d) }) seat u t)
            (λ (t : r ≡ u). subst (λ (z : View). Fits key.0 key.1 k.best z) t (record { offered = omega (arith, k.low, k.start); seen = f.seen; serves = λ _. record { over = omega arith; made = refl; taken = refl }; knows = λ _. record { most = n.most; start_is = n.start_is; budget_is = n.budget_is }; idle = λ d. absurd (live_worker Worker refl d) }))
            (at_snoc vs r u seat e);
        owner = λ seat u e z. ⊎_elim
            (λ (t : get_elem? vs seat ≡ some u). ⊎_elim
            (λ (q : (seat ≡ id) × (l ≡ u)). subst (λ (y : View). Owns (length (vs ++ r ∷ [])) (spent_views (vs ++ r ∷ [])) y) q.1 (record { made = omega (arith, o.made, len, length_snoc vs r); taken = omega (arith, o.taken, dead); over = o.over }))
            (λ (q : (seat ≢ id) × (get_elem? s.views seat ≡ some u)). absurd (alone s.views id seat v u k.one at q.1 owner z q.0))
            (at_set s.views id seat l u t))
            (λ (t : r ≡ u). absurd (owner_or_worker u.role z (sym (ap (λ (y : View). y.role) t))))
            (at_snoc vs r u seat e);
        one = omega (arith, total_snoc (λ v. is_owner v.role) vs r, sum_set (λ v. is_owner v.role) s.views id v l at, k.one);
        from = elim (from_before key.0 k.best s.views id v l at (λ e. e) k.from) [ inl e ↦ inl e | inr h ↦ inr (h.0, h.1, at_longer vs (r ∷ []) h.0 h.1 h.2, h.3) ];
        once = λ x. omega (arith, total_snoc (λ u. times x u.tickets) vs r, sum_set (λ u. times x u.tickets) s.views id v l at, k.once x);
        count = omega (arith, total_snoc (λ u. length u.tickets) vs r, sum_set (λ u. length u.tickets) s.views id v l at, k.count);
        overs = omega (arith, total_snoc (λ u. u.over) vs r, sum_set (λ u. u.over) s.views id v l at, k.overs);
        few = omega (arith, length_snoc vs r, len, o.made);
        short = k.short;
      }

  pub joins : (other : ℕ) (w : View) → v.role ≡ Owner → w.role ≡ Worker → Joins (BoardKept key) id v other w (joined v w) spent
  joins other w owner worker s k at two there =
      let both : View = joined v w in
      let mid : List View = set s.views id both in
      let vs : List View = set mid other spent in
      let was : get_elem? s.views other ≡ some w = sym (set_else s.views id other both two) ∙ there in
      let f = k.views id v at in
      let g = k.views other w was in
      let live : v.role ≢ Spent = live_owner v.role owner in
      let n = f.knows live in
      let o = k.owner id v at owner in
      let len : length vs ≡ length s.views = length-set mid other spent ∙ length-set s.views id both in
      let dead : spent_views vs ≡ spent_views s.views + 1 = omega (arith, sum_set (λ v. is_spent v.role) mid other w spent there, sum_set (λ v. is_spent v.role) s.views id v both at, ap is_spent worker) in
      record {
        best = k.best;
        drawn = k.drawn;
        words = k.words;
        low = k.low;
        start = k.start;
        views = views_after key mid other spent k.best k.best
            (views_after key s.views id both k.best k.best k.views (omega arith) (record { offered = omega (arith, f.offered, g.offered); seen = omega (arith, f.seen, g.seen); serves = λ d. absurd (owner_or_worker v.role owner d); knows = λ _. record { most = omega (arith, n.most); start_is = n.start_is; budget_is = n.budget_is }; idle = λ d. absurd (live d) }))
            (omega arith) (record { offered = omega (arith, k.low, k.start); seen = omega (arith, k.low, k.start); serves = λ d. absurd (live_worker Spent d refl); knows = λ d. absurd (d refl); idle = λ _. refl });
        owner = λ seat u e z. ⊎_elim
            (λ (t : (seat ≡ other) × (spent ≡ u)). absurd (live_owner u.role z (sym (ap (λ (y : View). y.role) t.1))))
            (λ (t : (seat ≢ other) × (get_elem? mid seat ≡ some u)). ⊎_elim
            (λ (q : (seat ≡ id) × (both ≡ u)). subst (λ (y : View). Owns (length vs) (spent_views vs) y) q.1 (record { made = omega (arith, o.made, len); taken = omega (arith, o.taken, dead); over = omega (arith, o.over, (g.serves worker).over) }))
            (λ (q : (seat ≢ id) × (get_elem? s.views seat ≡ some u)). absurd (alone s.views id seat v u k.one at q.1 owner z q.0))
            (at_set s.views id seat both u t.1))
            (at_set mid other seat spent u e);
        one = omega (arith, sum_set (λ v. is_owner v.role) mid other w spent there, sum_set (λ v. is_owner v.role) s.views id v both at, k.one, ap is_owner worker);
        from = from_join key.0 k.best s.views id other v w at was two f.offered g.offered k.from;
        once = λ x. omega (arith, sum_set (λ u. times x u.tickets) mid other w spent there, sum_set (λ u. times x u.tickets) s.views id v both at, k.once x, times_append x v.tickets w.tickets);
        count = omega (arith, sum_set (λ u. length u.tickets) mid other w spent there, sum_set (λ u. length u.tickets) s.views id v both at, k.count, length-append v.tickets w.tickets);
        overs = omega (arith, sum_set (λ u. u.over) mid other w spent there, sum_set (λ u. u.over) s.views id v both at, k.overs);
        few = omega (arith, len, k.few);
        short = k.short;
      }

spent_is : (r : Role) → is_spent r ≡ 1 → r ≡ Spent
spent_is Owner e = absurd (omega arith)
spent_is Worker e = absurd (omega arith)
spent_is Spent e = refl

live_is : (r : Role) → r ≢ Spent → is_spent r ≡ 0
live_is Owner k = refl
live_is Worker k = refl
live_is Spent k = absurd (k refl)

not_all : (l : List View) (i : ℕ) (v : View) → get_elem? l i ≡ some v → v.role ≢ Spent → spent_views l + 1 ≤ length l
not_all [] i v e k = absurd (some-ne-none v (sym e))
not_all (x ∷ l) zero v e k = let same : x ≡ v = cc in let live : x.role ≢ Spent = λ d. k (sym (ap (λ (y : View). y.role) same) ∙ d) in omega (arith, spent_total l, live_is x.role live)
not_all (x ∷ l) (suc i) v e k = omega (arith, not_all l i v e k, spent_at_most x.role)

all_spent : (f : View → ℕ) (l : List View) → spent_views l ≡ length l → ((j : ℕ) (u : View) → get_elem? l j ≡ some u → u.role ≡ Spent → f u ≡ 0) → total f l ≡ 0
all_spent f [] s z = refl
all_spent f (x ∷ l) s z = omega (arith, z 0 x refl (spent_is x.role (omega (arith, spent_total l, spent_at_most x.role))), all_spent f l (omega (arith, spent_total l, spent_at_most x.role)) (λ j u e. z (suc j) u e))

-- where one view is live and all others are spent, it has the whole total
only_live : (f : View → ℕ) → (views : List View) (i : ℕ) (v : View) → get_elem? views i ≡ some v → spent_views views + 1 ≡ length views → v.role ≡ Owner → ((j : ℕ) (u : View) → get_elem? views j ≡ some u → u.role ≡ Spent → f u ≡ 0) → total f views ≡ f v
only_live f [] i v e s k z = absurd (some-ne-none v (sym e))
only_live f (x ∷ l) zero v e s k z =
    let same : x ≡ v = cc in
    let live : is_spent x.role ≡ 0 = ap (λ (y : View). is_spent y.role) same ∙ ap is_spent k in
    let rest : total f l ≡ 0 = all_spent f l (omega arith) (λ j u e'. z (suc j) u e') in
    rw (← same) (omega arith)
only_live f (x ∷ l) (suc i) v e s k z =
    let some_live = not_all l i v e (live_owner v.role k) in
    let dead : x.role ≡ Spent = spent_is x.role (omega (arith, spent_at_most x.role)) in
    omega (arith, z 0 x refl dead, only_live f l i v e (omega (arith, ap is_spent dead)) k (λ j u e'. z (suc j) u e'))

pub whole : (key : ℕ × ℕ) (s : State ℕ View) (id : ℕ) (v : View) (f : View → ℕ) → BoardKept key s → get_elem? s.views id ≡ some v → v.role ≡ Owner → v.made ≡ v.taken → f spent ≡ 0 → total f s.views ≡ f v
whole key s id v f k at owner all z = let o = k.owner id v at owner in only_live f s.views id v at (omega (arith, o.made, o.taken)) owner (λ j u e d. ap f ((k.views j u e).idle d) ∙ z)

pub closes_once : (key : ℕ × ℕ) (s : State ℕ View) (id : ℕ) (v : View) (ws : List ℕ) (drawn budget : ℕ) → BoardKept key s → get_elem? s.views id ≡ some v → v.role ≡ Owner → v.made ≡ v.taken → s.words ≡ ws → get_elem? ws 1 ≡ some drawn → get_elem? ws 2 ≡ some budget
    → (x : ℕ) → times x v.tickets ≡ once_below x (min drawn budget)
closes_once key s id v ws drawn budget k at owner all e e1 e2 x =
    let w : k.best ∷ k.drawn ∷ key.1 ∷ [] ≡ ws = sym k.words ∙ e in
    let p1 : some k.drawn ≡ some drawn = ap (λ (l : List ℕ). get_elem? l 1) w ∙ e1 in
    let p2 : some key.1 ≡ some budget = ap (λ (l : List ℕ). get_elem? l 2) w ∙ e2 in
    let d1 : k.drawn ≡ drawn = cc in
    let d2 : key.1 ≡ budget = cc in
    sym (whole key s id v (λ u. times x u.tickets) k at owner all refl) ∙ k.once x ∙ ap (λ (y : ℕ × ℕ). once_below x (min y.0 y.1)) (λ i. (d1 i, d2 i))

spent_or_live : (r : Role) → (r ≡ Spent) ⊎ (r ≢ Spent)
spent_or_live Owner = inr (live_owner Owner refl)
spent_or_live Worker = inr (live_worker Worker refl)
spent_or_live Spent = inl refl

-- an offer of a spent view would be the greatest number, which is the start's bound
source : (key : ℕ × ℕ) (s : State ℕ View) (id : ℕ) (v : View) (best : ℕ) (k : BoardKept key s) → get_elem? s.views id ≡ some v → v.role ≡ Owner → v.made ≡ v.taken → k.best ≡ best → From key.0 k.best s.views → (best ≡ key.0) ⊎ (best ≡ v.offered)
source key s id v best k at owner all d (inl e) = inl (sym d ∙ e)
source key s id v best k at owner all d (inr h) = elim (spent_or_live h.1.role) [
  | inl dead ↦ inl (omega (arith, ap (λ (z : View). z.offered) ((k.views h.0 h.1 h.2).idle dead), h.3, k.low, k.start))
  | inr alive ↦ elim (same_or_other h.0 id) [
    | inl same ↦ inr (let p : some h.1 ≡ some v = sym h.2 ∙ ap (λ (n : ℕ). get_elem? s.views n) same ∙ at in let q : h.1 ≡ v = cc in sym d ∙ sym h.3 ∙ ap (λ (z : View). z.offered) q)
    | inr other ↦ absurd (
        let o = k.owner id v at owner in
        let there : get_elem? (set s.views id spent) h.0 ≡ some h.1 = set_else s.views id h.0 spent other ∙ h.2 in
        omega (arith, not_all (set s.views id spent) h.0 h.1 there alive, sum_set (λ v. is_spent v.role) s.views id v spent at, ap is_spent owner, length-set s.views id spent, o.made, o.taken))
  ]
]

pub closes_from : (key : ℕ × ℕ) (s : State ℕ View) (id : ℕ) (v : View) (ws : List ℕ) (best : ℕ) → BoardKept key s → get_elem? s.views id ≡ some v → v.role ≡ Owner → v.made ≡ v.taken → s.words ≡ ws → get_elem? ws 0 ≡ some best
    → ((best ≤ key.0) × (best ≤ v.seen) × (best ≤ v.offered)) × ((best ≡ key.0) ⊎ (best ≡ v.offered))
closes_from key s id v ws best k at owner all e e0 =
    let w : k.best ∷ k.drawn ∷ key.1 ∷ [] ≡ ws = sym k.words ∙ e in
    let p0 : some k.best ≡ some best = ap (λ (l : List ℕ). get_elem? l 0) w ∙ e0 in
    let d0 : k.best ≡ best = cc in
    let f = k.views id v at in
    (((omega (arith, k.low)), (omega (arith, f.seen)), (omega (arith, f.offered))), source key s id v best k at owner all d0 k.from)

pub closes_count : (key : ℕ × ℕ) (s : State ℕ View) (id : ℕ) (v : View) (ws : List ℕ) (drawn budget : ℕ) → BoardKept key s → get_elem? s.views id ≡ some v → v.role ≡ Owner → v.made ≡ v.taken → s.words ≡ ws → get_elem? ws 1 ≡ some drawn → get_elem? ws 2 ≡ some budget
    → min drawn budget ≡ length v.tickets
closes_count key s id v ws drawn budget k at owner all e e1 e2 =
    let w : k.best ∷ k.drawn ∷ key.1 ∷ [] ≡ ws = sym k.words ∙ e in
    let p1 : some k.drawn ≡ some drawn = ap (λ (l : List ℕ). get_elem? l 1) w ∙ e1 in
    let p2 : some key.1 ≡ some budget = ap (λ (l : List ℕ). get_elem? l 2) w ∙ e2 in
    let d1 : k.drawn ≡ drawn = cc in
    let d2 : key.1 ≡ budget = cc in
    let t = whole key s id v (λ u. length u.tickets) k at owner all refl in
    omega (arith, t, k.count, d1, d2)

pub closes_over : (key : ℕ × ℕ) (s : State ℕ View) (id : ℕ) (v : View) (ws : List ℕ) (drawn budget : ℕ) → BoardKept key s → get_elem? s.views id ≡ some v → v.role ≡ Owner → v.made ≡ v.taken → s.words ≡ ws → get_elem? ws 1 ≡ some drawn → get_elem? ws 2 ≡ some budget
    → 0 < v.over → min drawn budget ≡ key.1
closes_over key s id v ws drawn budget k at owner all e e1 e2 more =
    let w : k.best ∷ k.drawn ∷ key.1 ∷ [] ≡ ws = sym k.words ∙ e in
    let p1 : some k.drawn ≡ some drawn = ap (λ (l : List ℕ). get_elem? l 1) w ∙ e1 in
    let p2 : some key.1 ≡ some budget = ap (λ (l : List ℕ). get_elem? l 2) w ∙ e2 in
    let d1 : k.drawn ≡ drawn = cc in
    let d2 : key.1 ≡ budget = cc in
    let t = whole key s id v (λ u. u.over) k at owner all refl in
    omega (arith, t, k.overs, more, d1, d2)

pub closes_within : (key : ℕ × ℕ) (s : State ℕ View) (ws : List ℕ) (drawn budget : ℕ) → BoardKept key s → s.words ≡ ws → get_elem? ws 2 ≡ some budget → min drawn budget ≤ key.1
closes_within key s ws drawn budget k e e2 =
    let w : k.best ∷ k.drawn ∷ key.1 ∷ [] ≡ ws = sym k.words ∙ e in
    let p2 : some key.1 ≡ some budget = ap (λ (l : List ℕ). get_elem? l 2) w ∙ e2 in
    let d2 : key.1 ≡ budget = cc in
    omega (arith, d2)
