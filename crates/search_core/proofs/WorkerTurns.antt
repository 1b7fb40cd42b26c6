-- The turn of one worker: its node is taken, drawn and divided.
use Rattle.std.proofs.Common.{◌≡◌, ◌≢◌, ℕ, ◌+◌, ◌<◌, ◌≤◌, ◌==◌, inl, inr, Bool, true, false, List, [], ◌∷◌, ◌++◌, length, slice_set, Option, Some, None, refl, sym, subst, ap, ◌∙◌, append-nil, length-set, arith}
use Rattle.std.proofs.lemmas.Bool.Decides.{eqb_tells}
use Rattle.proof_trees.specs.Program.{Program}
use Rattle.proof_trees.specs.Trees.{End, Leaf, Left, Branch, Entry}
use Rattle.search_core.specs.Bags.{Every}
use Rattle.search_core.specs.Journals.{box_after}
use Rattle.search_core.specs.Machine.{Node, Worker, State, Event, half_node, handled, Handled, worker, with_worker, begins, IsEntry, Divides, Runs}
use Rattle.search_core.specs.Replays.{Waiting, handling}
use Rattle.search_core.proofs.OpenNodes.{who, who_same, who_other}

abbrev pub ticket_by : End → Bool
ticket_by Leaf = true
ticket_by Left = false
ticket_by (Branch v) = false

abbrev pub more_by : End → ℕ
more_by Leaf = 1
more_by Left = 0
more_by (Branch v) = 1

module _ {R : Type 0} where
  -- ## What waits in one worker's deque

  abbrev pub pick : Bool → Node R → List (Node R) → List (Node R)
  pick true n ns = n ∷ ns
  pick false n ns = ns

  abbrev pub nodes_from : ℕ → List (Waiting R) → List (Node R)
  nodes_from i [] = []
  nodes_from i (w ∷ ws) = pick (w.parent == i) w.node (nodes_from i ws)

  pick_append : (c : Bool) (n : Node R) (xs ys : List (Node R)) → pick c n (xs ++ ys) ≡ pick c n xs ++ ys
  pick_append true n xs ys = refl
  pick_append false n xs ys = refl

  pub from_append : (i : ℕ) (ws vs : List (Waiting R)) → nodes_from i (ws ++ vs) ≡ nodes_from i ws ++ nodes_from i vs
  from_append i [] vs = refl
  from_append i (w ∷ ws) vs = ap (pick (w.parent == i) w.node) (from_append i ws vs) ∙ pick_append (w.parent == i) w.node (nodes_from i ws) (nodes_from i vs)

  pub pick_other : (a i : ℕ) (n : Node R) (ns : List (Node R)) → a ≢ i → pick (a == i) n ns ≡ ns
  pick_other a i n ns other = elim (eqb_tells a i) [ inl h ↦ absurd (other h.1) | inr h ↦ ap (λ (c : Bool). pick c n ns) h.0 ]

  pub pick_same : (a : ℕ) (n : Node R) (ns : List (Node R)) → pick (a == a) n ns ≡ n ∷ ns
  pick_same a n ns = elim (eqb_tells a a) [ inl h ↦ ap (λ (c : Bool). pick c n ns) h.0 | inr h ↦ absurd (h.1 refl) ]

  pub from_none : (i : ℕ) (ws : List (Waiting R)) → Every (λ w. w.parent < i) ws → nodes_from i ws ≡ []
  from_none i [] h = refl
  from_none i (w ∷ ws) h = let lt : w.parent < i = h.0 in pick_other w.parent i w.node (nodes_from i ws) (λ e. omega arith) ∙ from_none i ws h.1

  -- ## The workers while number n has its turn

  abbrev pub IsFree : Worker (Node R) → Type 0
  IsFree w = (w.hand ≡ None) × (w.made ≡ []) × (w.ticket ≡ false)

  pub record Turn (us : List (Worker (Node R))) (n : ℕ) (ws : List (Waiting R)) (deque : List (Node R)) (hand : Option (Node R)) (made : List (Node R)) (ticket : Bool) : Type 0 where
    pub is_worker : n < length us
    pub deques : (i : ℕ) → i ≢ n → (who us i).deque ≡ nodes_from i ws
    pub later : (i : ℕ) → n < i → IsFree (who us i)
    pub has_deque : (who us n).deque ≡ deque
    pub has_hand : (who us n).hand ≡ hand
    pub has_made : (who us n).made ≡ made
    pub has_ticket : (who us n).ticket ≡ ticket

  pub turn_set : (us : List (Worker (Node R))) (n : ℕ) (ws : List (Waiting R)) (d d' : List (Node R)) (h h' : Option (Node R)) (m m' : List (Node R)) (t t' : Bool) (w : Worker (Node R))
      → Turn us n ws d h m t → w.deque ≡ d' → w.hand ≡ h' → w.made ≡ m' → w.ticket ≡ t' → Turn (slice_set us n w) n ws d' h' m' t'
  turn_set us n ws d d' h h' m m' t t' w turn ed eh em et =
      let lt : n < length us = turn.is_worker in
      let is = who_same us n w lt in
      record {
        is_worker = omega (arith, length-set us n w);
        deques = λ i other. ap (λ (v : Worker (Node R)). v.deque) (who_other us n i w other) ∙ turn.deques i other;
        later = λ i less. subst IsFree (sym (who_other us n i w (λ e. omega arith))) (turn.later i less);
        has_deque = ap (λ (v : Worker (Node R)). v.deque) is ∙ ed;
        has_hand = ap (λ (v : Worker (Node R)). v.hand) is ∙ eh;
        has_made = ap (λ (v : Worker (Node R)). v.made) is ∙ em;
        has_ticket = ap (λ (v : Worker (Node R)). v.ticket) is ∙ et;
      }

  -- the hands and tickets of the workers below n are the same
  abbrev pub KeptBelow : ℕ → List (Worker (Node R)) → List (Worker (Node R)) → Type 0
  KeptBelow n us vs = (i : ℕ) → i < n → ((who vs i).hand ≡ (who us i).hand) × ((who vs i).ticket ≡ (who us i).ticket)

  pub kept_set : (n i : ℕ) (us : List (Worker (Node R))) (w : Worker (Node R)) → n ≤ i → KeptBelow n us (slice_set us i w)
  kept_set n i us w le j lt = (ap (λ (v : Worker (Node R)). v.hand) (who_other us i j w (λ e. omega arith)), ap (λ (v : Worker (Node R)). v.ticket) (who_other us i j w (λ e. omega arith)))

  pub kept_then : (n : ℕ) (us vs zs : List (Worker (Node R))) → KeptBelow n us vs → KeptBelow n vs zs → KeptBelow n us zs
  kept_then n us vs zs a b i lt = ((b i lt).0 ∙ (a i lt).0, (b i lt).1 ∙ (a i lt).1)

  -- what a turn leaves by the end of its record
  abbrev pub waits_by : Node R → Entry R → End → List (Node R)
  waits_by node e Leaf = []
  waits_by node e Left = []
  waits_by node e (Branch v) = half_node node e true ∷ half_node node e false ∷ []

  abbrev pub hand_by : Node R → End → Option (Node R)
  hand_by node Leaf = Some node
  hand_by node Left = Some node
  hand_by node (Branch v) = None

  abbrev pub branch_by : Node R → Entry R → End → List (Handled R)
  branch_by node e Leaf = []
  branch_by node e Left = []
  branch_by node e (Branch v) = handled node e ∷ []

  pub record Did (c d : State R) (n : ℕ) (ws : List (Waiting R)) (node : Node R) (e : Entry R) (end : End) : Type 0 where
    pub turn : Turn d.workers n ws (waits_by node e end) (hand_by node end) [] (ticket_by end)
    pub kept : KeptBelow n c.workers d.workers
    pub workers : length d.workers ≡ length c.workers
    pub word : d.word ≡ c.word
    pub budget : d.budget ≡ c.budget
    pub drawn : d.drawn ≡ c.drawn + more_by end
    pub left : d.left ≡ c.left
    pub ended : d.ended ≡ c.ended ++ branch_by node e end

module _ {R : Type 0} (same : R → R → Bool) (p : Program R) (base : List R) where
  pub run_append : (c m d : State R) (xs ys : List (Event R)) → Runs same p base c xs m → Runs same p base m ys d → Runs same p base c (xs ++ ys) d
  run_append c m d [] ys r s = subst (λ (k : State R). Runs same p base k ys d) (sym r) s
  run_append c m d (x ∷ xs) ys r s = (r.0, r.1, run_append r.0 m d xs ys r.2 s)

  -- a branched record can be entered
  abbrev pub CanDivide : Node R → Entry R → End → Type 0
  CanDivide node e Leaf = Unit {0}
  CanDivide node e Left = Unit {0}
  CanDivide node e (Branch v) = IsEntry same p (begins same p node) e × Divides p (box_after same p (begins same p node) e) e.end

  pub handle : (c : State R) (n : ℕ) (ws : List (Waiting R)) (node : Node R) (e : Entry R) (end : End) → CanDivide node e end → Turn c.workers n ws [] (Some node) [] false → c.drawn + more_by end ≤ c.budget
      → (d : State R) × Runs same p base c (handling n e end) d × Did c d n ws node e end
  handle c n ws node e Left can turn le = (
    c,
    refl,
    record {
      turn = turn;
      kept = λ i lt. (refl, refl);
      workers = refl;
      word = refl;
      budget = refl;
      drawn = omega arith;
      left = refl;
      ended = sym (append-nil c.ended);
    },
  )
  handle c n ws node e Leaf can turn le =
      let w : Worker (Node R) = record (worker c n) { ticket = true } in
      let d : State R = with_worker (record c { drawn = c.drawn + 1 }) n w in (
        d,
        (d, (turn.is_worker, (node, turn.has_hand, turn.has_ticket, inl (omega arith, refl))), refl),
        record {
          turn = turn_set c.workers n ws [] [] (Some node) (Some node) [] [] false true w turn turn.has_deque turn.has_hand turn.has_made refl;
          kept = kept_set n n c.workers w (omega arith);
          workers = length-set c.workers n w;
          word = refl;
          budget = refl;
          drawn = refl;
          left = refl;
          ended = sym (append-nil c.ended);
        },
      )
  handle c n ws node e (Branch v) can turn le =
      let one : Node R = half_node node e true in
      let none : Node R = half_node node e false in
      let w1 : Worker (Node R) = record (worker c n) { ticket = true } in
      let c1 : State R = with_worker (record c { drawn = c.drawn + 1 }) n w1 in
      let t1 : Turn c1.workers n ws [] (Some node) [] true = turn_set c.workers n ws [] [] (Some node) (Some node) [] [] false true w1 turn turn.has_deque turn.has_hand turn.has_made refl in
      let w2 : Worker (Node R) = record (worker c1 n) { hand = None; ticket = false; made = (worker c1 n).made ++ one ∷ none ∷ [] } in
      let c2 : State R = with_worker (record c1 { ended = c1.ended ++ handled node e ∷ [] }) n w2 in
      let t2 : Turn c2.workers n ws [] None (one ∷ none ∷ []) false = turn_set c1.workers n ws [] [] (Some node) None [] (one ∷ none ∷ []) true false w2 t1 t1.has_deque refl (ap (λ (l : List (Node R)). l ++ one ∷ none ∷ []) t1.has_made) refl in
      let w3 : Worker (Node R) = record (worker c2 n) { made = none ∷ []; deque = (worker c2 n).deque ++ one ∷ [] } in
      let c3 : State R = with_worker c2 n w3 in
      let t3 : Turn c3.workers n ws (one ∷ []) None (none ∷ []) false = turn_set c2.workers n ws [] (one ∷ []) None None (one ∷ none ∷ []) (none ∷ []) false false w3 t2 (ap (λ (l : List (Node R)). l ++ one ∷ []) t2.has_deque) t2.has_hand refl t2.has_ticket in
      let w4 : Worker (Node R) = record (worker c3 n) { made = []; deque = (worker c3 n).deque ++ none ∷ [] } in
      let c4 : State R = with_worker c3 n w4 in
      let t4 : Turn c4.workers n ws (one ∷ none ∷ []) None [] false = turn_set c3.workers n ws (one ∷ []) (one ∷ none ∷ []) None None (none ∷ []) [] false false w4 t3 (ap (λ (l : List (Node R)). l ++ none ∷ []) t3.has_deque) t3.has_hand refl t3.has_ticket in
      let le_n : n ≤ n = omega arith in (
        c4,
        (
          c1,
          (turn.is_worker, (node, turn.has_hand, turn.has_ticket, inl (omega arith, refl))),
          (
            c2,
            (t1.is_worker, (node, t1.has_hand, t1.has_ticket, can.0, can.1, refl)),
            (c3, (t2.is_worker, (one, none ∷ [], t2.has_made, refl)), (c4, (t3.is_worker, (none, [], t3.has_made, refl)), refl)),
          ),
        ),
        record {
          turn = t4;
          kept = kept_then n c.workers c1.workers c4.workers (kept_set n n c.workers w1 le_n) (kept_then n c1.workers c2.workers c4.workers (kept_set n n c1.workers w2 le_n) (kept_then n c2.workers c3.workers c4.workers (kept_set n n c2.workers w3 le_n) (kept_set n n c3.workers w4 le_n)));
          workers = length-set c3.workers n w4 ∙ (length-set c2.workers n w3 ∙ (length-set c1.workers n w2 ∙ length-set c.workers n w1));
          word = refl;
          budget = refl;
          drawn = refl;
          left = refl;
          ended = refl;
        },
      )
