-- What the machine ended, with what is open, is one tree whose records are allowed at the word.
use Rattle.std.proofs.Common.{◌≡◌, ℕ, zero, suc, ◌+◌, ◌<◌, ◌≤◌, inl, inr, Bool, true, false, cond, List, [], ◌∷◌, ◌++◌, length, replicate, slice_index_or, slice_set, Option, Some, None, refl, sym, subst, ap, ◌∙◌, length-set, arith}
use borrow.Author.Differences.{ints}
use Rattle.proof_trees.specs.Program.{Program}
use Rattle.proof_trees.specs.Boxes.{Box}
use Rattle.proof_trees.specs.Multipliers.{Multipliers, Closes}
use Rattle.proof_trees.specs.Trees.{End, Leaf, Left, Branch, Entry, Pending}
use Rattle.search_core.specs.Bags.{weigh, Every}
use Rattle.search_core.specs.Journals.{branches, is_left, box_after, multipliers_after, Anything, EndAllowed, Allowed}
use Rattle.search_core.specs.Machine
use Rattle.search_core.specs.Machine.{Node, Worker, State, Handled, handled, idle, half_node, begin, worker, with_worker, IsWorker, begins, Divides, ObeysRule}
use Rattle.search_core.specs.Outcomes.{children, WholeNodes, weigh_hand, held, HoldsNothing, Traces}
use Rattle.search_core.proofs.Weights.{weigh_append, every_append, every_more}
use Rattle.search_core.proofs.OpenNodes.{kept_field}
use Rattle.search_core.proofs.Rule.{OffersSolve, lesser_left, keeps_event}

module _ {A : Type 0} where
  weigh_set : (f : A → ℕ) (xs : List A) (i : ℕ) (a d : A) → i < length xs → weigh f (slice_set xs i a) + f (slice_index_or xs i d) ≡ weigh f xs + f a
  weigh_set f [] i a d lt = absurd (omega arith)
  weigh_set f (x ∷ xs) zero a d lt = omega arith
  weigh_set f (x ∷ xs) (suc i) a d lt = omega (arith, weigh_set f xs i a d (omega arith))

module _ {R : Type 0} (same : R → R → Bool) (p : Program R) (base : List R) where
  closes_lesser : (b : Box) (ms : Multipliers R) (less bound : ℕ) → less ≤ bound → Closes p b ms bound → Closes p b ms less
  closes_lesser b ms less bound le h = omega (arith, ints)

  end_lesser : (less bound : ℕ) → less ≤ bound → (b : Box) (o : Option (Multipliers R)) (e : End) → EndAllowed same p Anything bound b o e → EndAllowed same p Anything less b o e
  end_lesser less bound le b None e h = h
  end_lesser less bound le b (Some ms) Leaf h = closes_lesser b ms less bound le h
  end_lesser less bound le b (Some ms) Left h = h
  end_lesser less bound le b (Some ms) (Branch v) h = h

  pub allowed_lesser : (less bound : ℕ) → less ≤ bound → (q : Pending R) (e : Entry R) → Allowed same p Anything bound q e → Allowed same p Anything less q e
  allowed_lesser less bound le q e h = (h.0, end_lesser less bound le _ _ e.end h.1)

  leaf_allowed : (bound : ℕ) (b : Box) (o : Option (Multipliers R)) (ms : Multipliers R) (e : End) → o ≡ Some ms → e ≡ Leaf → Closes p b ms bound → EndAllowed same p Anything bound b o e
  leaf_allowed bound b o ms e is leaf h = subst (λ (k : Option (Multipliers R)). EndAllowed same p Anything bound b k e) (sym is) (subst (λ (k : End). EndAllowed same p Anything bound b (Some ms) k) (sym leaf) h)

  branch_end : (bound : ℕ) (b : Box) (ms : Multipliers R) (e : End) → Divides p b e → EndAllowed same p Anything bound b (Some ms) e
  branch_end bound b ms Leaf h = absurd h
  branch_end bound b ms Left h = absurd h
  branch_end bound b ms (Branch v) h = h

  branch_allowed : (bound : ℕ) (b : Box) (o : Option (Multipliers R)) (ms : Multipliers R) (e : End) → o ≡ Some ms → Divides p b e → EndAllowed same p Anything bound b o e
  branch_allowed bound b o ms e is h = subst (λ (k : Option (Multipliers R)). EndAllowed same p Anything bound b k e) (sym is) (branch_end bound b ms e h)

  it_branches : (b : Box) (e : End) → Divides p b e → (branches e ≡ true) × (is_left e ≡ false)
  it_branches b Leaf h = absurd h
  it_branches b Left h = absurd h
  it_branches b (Branch v) h = (refl, refl)

  -- one worker changes, and what it has weighs the same
  traces_set : (c : State R) (i : ℕ) (w : Worker (Node R)) → IsWorker c i → ((h : Node R → ℕ) → held h w ≡ held h (worker c i)) → Traces same p c → Traces same p (with_worker c i w)
  traces_set c i w lt e t = record { ended = t.ended; bag = λ h. omega (arith, t.bag h, e h, weigh_set (held h) c.workers i w idle lt); allowed = t.allowed }

  traces_push : (c d : State R) (i : ℕ) → Traces same p c → Machine.Pushes c i d → Traces same p d
  traces_push c d i t (lt, (n, rest, made, is)) =
      subst (Traces same p) (sym is) (traces_set c i (record (worker c i) { made = rest; deque = (worker c i).deque ++ n ∷ [] }) lt (λ h. omega (arith, ap (weigh h) made, weigh_append h (worker c i).deque (n ∷ []))) t)

  traces_pop : (c d : State R) (i : ℕ) → Traces same p c → Machine.Pops c i d → Traces same p d
  traces_pop c d i t (lt, free, (n, rest, waits, is)) =
      subst (Traces same p) (sym is) (traces_set c i (record (worker c i) { deque = rest; hand = Some n }) lt (λ h. omega (arith, ap (weigh h) waits, weigh_append h rest (n ∷ []), ap (weigh_hand h) free.0)) t)

  traces_load : (c d : State R) (i : ℕ) → Traces same p c → Machine.Loads c i d → Traces same p d
  traces_load c d i t (lt, is) = subst (Traces same p) (sym is) (traces_set c i (record (worker c i) { seen = Some c.word }) lt (λ h. refl) t)

  traces_steal : (c d : State R) (i victim : ℕ) → Traces same p c → Machine.Steals c i victim d → Traces same p d
  traces_steal c d i victim t (lt, vlt, free, (n, rest, waits, is)) =
      let v : Worker (Node R) = record (worker c victim) { deque = rest } in
      let c1 : State R = with_worker c victim v in
      let w : Worker (Node R) = record (worker c1 i) { hand = Some n } in
      let lt1 : i < length c1.workers = omega (arith, length-set c.workers victim v) in
      let empty : (worker c1 i).hand ≡ None = kept_field (λ u. u.hand) c.workers victim i v vlt refl ∙ free.0 in
      subst (Traces same p) (sym is) (record {
        ended = t.ended;
        bag = λ h. omega (arith, t.bag h, ap (weigh h) waits, ap (weigh_hand h) empty, weigh_set (held h) c.workers victim v idle vlt, weigh_set (held h) c1.workers i w idle lt1);
        allowed = t.allowed;
      })

  traces_offer : (c d : State R) (i : ℕ) (e : Entry R) → Traces same p c → Machine.Offers same p base c i e d → Traces same p d
  traces_offer c d i e t (lt, (n, hand, ticket, entry, leaf, full, is)) =
      subst (Traces same p) (sym is) (record {
        ended = t.ended;
        bag = t.bag;
        allowed = every_more _ _ c.ended (λ m h. allowed_lesser _ c.word (lesser_left c.word _) (begins same p m.node) m.entry h) t.allowed;
      })

  traces_draw : (c d : State R) (i : ℕ) → Traces same p c → Machine.Draws c i d → Traces same p d
  traces_draw c d i t (lt, (n, hand, ticket, cases)) = elim cases [
    | inl within ↦ subst (Traces same p) (sym within.1) (record {
      ended = t.ended;
      bag = λ h. omega (arith, t.bag h, weigh_set (held h) c.workers i (record (worker c i) { ticket = true }) idle lt);
      allowed = t.allowed;
    })
    | inr over ↦ subst (Traces same p) (sym over.1) (record {
      ended = t.ended;
      bag = λ h. omega (arith, t.bag h, ap (weigh_hand h) hand, weigh_set (held h) c.workers i (record (worker c i) { hand = None }) idle lt, weigh_append h c.left (n ∷ []));
      allowed = t.allowed;
    })
  ]

  -- an ended entry more
  none_more : (h : Node R → ℕ) (m : Handled R) (c : Bool) → branches m.entry.end ≡ c → children h m ≡ cond c (h (half_node m.node m.entry true) + h (half_node m.node m.entry false)) 0
  none_more h m c is = rw is refl

  traces_close : (c d : State R) (i : ℕ) (e : Entry R) → ObeysRule same p c → Traces same p c → Machine.ClosesHand same p c i e d → Traces same p d
  traces_close c d i e k t (lt, (n, seen, ms, hand, ticket, sees, rows, has, leaf, closes, is)) =
      let m : Handled R = handled n e in
      let w : Worker (Node R) = record (worker c i) { hand = None; ticket = false } in
      let least : c.word ≤ seen = k.seen i seen sees in
      let fine : Allowed same p Anything c.word (begins same p n) e = (rows, leaf_allowed c.word (box_after same p (begins same p n) e) (multipliers_after same p (begins same p n) e) ms e.end has leaf (closes_lesser _ ms c.word seen least closes)) in
      subst (Traces same p) (sym is) (record {
        ended = every_append _ c.ended (m ∷ []) t.ended (ap is_left leaf, tt);
        bag = λ h. omega (arith, t.bag h, ap (weigh_hand h) hand, weigh_set (held h) c.workers i w idle lt, weigh_append (λ (a : Handled R). h a.node) c.ended (m ∷ []), weigh_append (children h) c.ended (m ∷ []), none_more h m false (ap branches leaf));
        allowed = every_append _ c.ended (m ∷ []) t.allowed (fine, tt);
      })

  traces_divide : (c d : State R) (i : ℕ) (e : Entry R) → Traces same p c → Machine.DividesHand same p c i e d → Traces same p d
  traces_divide c d i e t (lt, (n, hand, ticket, entry, free, is)) =
      let m : Handled R = handled n e in
      let both : List (Node R) = half_node n e true ∷ half_node n e false ∷ [] in
      let w : Worker (Node R) = record (worker c i) { hand = None; ticket = false; made = (worker c i).made ++ both } in
      let b : Box = box_after same p (begins same p n) e in
      let fine : Allowed same p Anything c.word (begins same p n) e = (entry.0, branch_allowed c.word b (multipliers_after same p (begins same p n) e) entry.1.0 e.end entry.1.1 free) in
      let ends = it_branches b e.end free in
      subst (Traces same p) (sym is) (record {
        ended = every_append _ c.ended (m ∷ []) t.ended (ends.1, tt);
        bag = λ h. omega (arith, t.bag h, ap (weigh_hand h) hand, weigh_set (held h) c.workers i w idle lt, weigh_append h (worker c i).made both, weigh_append (λ (a : Handled R). h a.node) c.ended (m ∷ []), weigh_append (children h) c.ended (m ∷ []), none_more h m true ends.0);
        allowed = every_append _ c.ended (m ∷ []) t.allowed (fine, tt);
      })

  pub traces_event : (c d : State R) (event : Machine.Event R) → ObeysRule same p c → Traces same p c → Machine.Accepts same p base c event d → Traces same p d
  traces_event c d (Machine.Push i) k t a = traces_push c d i t a
  traces_event c d (Machine.Pop i) k t a = traces_pop c d i t a
  traces_event c d (Machine.Steal i victim) k t a = traces_steal c d i victim t a
  traces_event c d (Machine.Load i) k t a = traces_load c d i t a
  traces_event c d (Machine.Offer i e) k t a = traces_offer c d i e t a
  traces_event c d (Machine.Draw i) k t a = traces_draw c d i t a
  traces_event c d (Machine.Close i e) k t a = traces_close c d i e k t a
  traces_event c d (Machine.Divide i e) k t a = traces_divide c d i e t a

  pub traces_run : (c d : State R) (events : List (Machine.Event R)) → OffersSolve same p base → ObeysRule same p c → Traces same p c → Machine.Runs same p base c events d → Traces same p d
  traces_run c d [] solves k t run = subst (Traces same p) run t
  traces_run c d (event ∷ events) solves k t (m, accepted, run) = traces_run m d events solves (keeps_event same p base c m event solves k accepted) (traces_event c m event k t accepted) run

  none_held : (n : ℕ) (h : Node R → ℕ) → weigh (held h) (replicate n idle) ≡ 0
  none_held zero h = refl
  none_held (suc n) h = omega (arith, none_held n h)

  pub traces_begin : (n start budget : ℕ) → Traces same p (begin (suc n) start budget)
  traces_begin n start budget = record { ended = tt; bag = λ h. omega (arith, none_held n h); allowed = tt }

  -- ## In the end

  nothing_weighs : (h : Node R → ℕ) (ws : List (Worker (Node R))) → Every HoldsNothing ws → weigh (held h) ws ≡ 0
  nothing_weighs h [] none = refl
  nothing_weighs h (w ∷ ws) none = omega (arith, ap (weigh h) none.0.0, ap (weigh_hand h) none.0.1, ap (weigh h) none.0.2, nothing_weighs h ws none.1)

  pub traces_whole : (c : State R) → Every HoldsNothing c.workers → Traces same p c → WholeNodes c.ended c.left
  traces_whole c none t = record { ended = t.ended; bag = λ h. omega (arith, t.bag h, nothing_weighs h c.workers none) }
