-- The first phase: each node is taken by its worker, handled ones draw, branched ones divide.
use Rattle.std.proofs.Common.{◌≡◌, ◌≢◌, ℕ, zero, suc, ◌+◌, ◌<◌, ◌≤◌, ◌==◌, inl, inr, Bool, true, false, List, [], ◌∷◌, ◌++◌, length, slice_set, Option, Some, None, refl, sym, subst, ap, ◌∙◌, append-nil, append_assoc, length-set, arith}
use Rattle.proof_trees.specs.Program.{Program}
use Rattle.proof_trees.specs.Boxes.{Box}
use Rattle.proof_trees.specs.Multipliers.{Multipliers}
use Rattle.proof_trees.specs.Trees.{End, Leaf, Left, Branch, Entry, Pending, root}
use Rattle.search_core.specs.Bags.{weigh, Every}
use Rattle.search_core.specs.Journals.{Path, branches, Tree, Tip, Fork, box_after, child, after, Anything, EndAllowed, Allowed}
use Rattle.search_core.specs.Machine
use Rattle.search_core.specs.Machine.{Node, Worker, State, half_node, Handled, worker, with_worker, begins, IsEntry, Divides, IsTrail, takes, Accepts, Runs}
use Rattle.search_core.specs.Replays.{Waiting, Item, record_of, size, kids, order, each_from, taking, first_events}
use Rattle.search_core.proofs.Settling.{TreeAllowed}
use Rattle.search_core.proofs.Trails.{after_more, trail_more}
use Rattle.search_core.proofs.OpenNodes.{same_or_other, who, who_same, who_other, kept_field}
use Rattle.search_core.proofs.Weights.{every_append, every_more, weigh_append}
use Rattle.search_core.proofs.WorkerTurns.{pick, nodes_from, from_append, pick_other, pick_same, from_none, IsFree, Turn, KeptBelow, kept_then, waits_by, hand_by, ticket_by, more_by, branch_by, Did, run_append, CanDivide, handle}

abbrev pub IsDeep : Path → Type 0
IsDeep [] = ⊥
IsDeep (y ∷ path) = Unit {0}

deep_more : (path : Path) (y : Bool) → IsDeep (path ++ y ∷ [])
deep_more [] y = tt
deep_more (z ∷ path) y = tt

module _ {R : Type 0} where
  abbrev pub total : List (Waiting R) → ℕ
  total ws = weigh (λ w. size w.tree) ws

  -- the workers while items from number n on wait
  pub record Ready (us : List (Worker (Node R))) (n : ℕ) (ws : List (Waiting R)) : Type 0 where
    pub deques : (i : ℕ) → (who us i).deque ≡ nodes_from i ws
    pub later : (i : ℕ) → n ≤ i → IsFree (who us i)
    pub parents : Every (λ w. w.parent < n) ws
    pub room : n + total ws ≡ length us

  -- what the item's turn left at its worker, if it didn't divide
  abbrev pub SeatBy : Worker (Node R) → Node R → End → Type 0
  SeatBy w node Leaf = (w.hand ≡ Some node) × (w.ticket ≡ true)
  SeatBy w node Left = (w.hand ≡ Some node) × (w.ticket ≡ false)
  SeatBy w node (Branch v) = Unit {0}

  abbrev pub Seats : List (Worker (Node R)) → ℕ → List (Item R) → Type 0
  Seats us n [] = Unit {0}
  Seats us n (it ∷ its) = (n < length us) × SeatBy (who us n) it.node it.entry.end × Seats us (suc n) its

  seat_of : (us : List (Worker (Node R))) (n : ℕ) (ws : List (Waiting R)) (node : Node R) (e : Entry R) (end : End) → Turn us n ws (waits_by node e end) (hand_by node end) [] (ticket_by end) → SeatBy (who us n) node end
  seat_of us n ws node e Leaf turn = (turn.has_hand, turn.has_ticket)
  seat_of us n ws node e Left turn = (turn.has_hand, turn.has_ticket)
  seat_of us n ws node e (Branch v) turn = tt

  pub seat_kept : (w v : Worker (Node R)) (node : Node R) (end : End) → v.hand ≡ w.hand → v.ticket ≡ w.ticket → SeatBy w node end → SeatBy v node end
  seat_kept w v node Leaf eh et seat = (eh ∙ seat.0, et ∙ seat.1)
  seat_kept w v node Left eh et seat = (eh ∙ seat.0, et ∙ seat.1)
  seat_kept w v node (Branch x) eh et seat = tt

  abbrev pub more_of : Item R → ℕ
  more_of it = more_by it.entry.end

  abbrev pub branch_items : List (Item R) → List (Handled R)
  branch_items [] = []
  branch_items (it ∷ its) = branch_by it.node it.entry it.entry.end ++ branch_items its

  pub record After (c d : State R) (n : ℕ) (its : List (Item R)) : Type 0 where
    pub kept : KeptBelow n c.workers d.workers
    pub workers : length d.workers ≡ length c.workers
    pub word : d.word ≡ c.word
    pub budget : d.budget ≡ c.budget
    pub drawn : d.drawn ≡ c.drawn + weigh more_of its
    pub left : d.left ≡ c.left
    pub ended : d.ended ≡ c.ended ++ branch_items its
    pub seats : Seats d.workers n its

  -- ## From one turn to the next

  no_waits : (node : Node R) (e : Entry R) (end : End) → branches end ≡ false → waits_by node e end ≡ []
  no_waits node e Leaf is = refl
  no_waits node e Left is = refl
  no_waits node e (Branch v) is = absurd (cc)

  both_wait : (node : Node R) (e : Entry R) (end : End) → branches end ≡ true → waits_by node e end ≡ half_node node e true ∷ half_node node e false ∷ []
  both_wait node e Leaf is = absurd (cc)
  both_wait node e Left is = absurd (cc)
  both_wait node e (Branch v) is = refl

  -- the tree's root branches exactly where it is a fork
  abbrev pub Fits : Tree R → Type 0
  Fits (Tip e) = branches e.end ≡ false
  Fits (Fork e a b) = branches e.end ≡ true

  kids_wait : (n : ℕ) (node : Node R) (t : Tree R) → Fits t → nodes_from n (kids n node t) ≡ waits_by node (record_of t) (record_of t).end
  kids_wait n node (Tip e) fits = sym (no_waits node e e.end fits)
  kids_wait n node (Fork e a b) fits =
      let one : Node R = half_node node e true in
      let none : Node R = half_node node e false in
      pick_same n one (pick (n == n) none []) ∙ (ap (λ (l : List (Node R)). one ∷ l) (pick_same n none []) ∙ sym (both_wait node e e.end fits))

  kids_elsewhere : (n i : ℕ) (node : Node R) (t : Tree R) → i ≢ n → nodes_from i (kids n node t) ≡ []
  kids_elsewhere n i node (Tip e) other = refl
  kids_elsewhere n i node (Fork e a b) other =
      let away : n ≢ i = λ same. other (sym same) in
      pick_other n i (half_node node e true) (pick (n == i) (half_node node e false) []) away ∙ pick_other n i (half_node node e false) [] away

  kids_parents : (n : ℕ) (node : Node R) (t : Tree R) → Every (λ w. w.parent < suc n) (kids n node t)
  kids_parents n node (Tip e) = tt
  kids_parents n node (Fork e a b) = (omega arith, (omega arith, tt))

  pub kids_total : (n : ℕ) (node : Node R) (t : Tree R) → suc (total (kids n node t)) ≡ size t
  kids_total n node (Tip e) = refl
  kids_total n node (Fork e a b) = omega arith

  pub next_ready : (us : List (Worker (Node R))) (n : ℕ) (ws : List (Waiting R)) (node : Node R) (t : Tree R) (h : Option (Node R)) (ticket : Bool) → Fits t
      → Turn us n ws (waits_by node (record_of t) (record_of t).end) h [] ticket → Every (λ w. w.parent < n) ws → n + (size t + total ws) ≡ length us → Ready us (suc n) (ws ++ kids n node t)
  next_ready us n ws node t h ticket fits turn parents room = record {
    deques = λ i. elim (same_or_other i n) [
      | inl is ↦ subst (λ (k : ℕ). (who us k).deque ≡ nodes_from k (ws ++ kids n node t)) (sym is)
          (turn.has_deque ∙ (sym (kids_wait n node t fits) ∙ sym (from_append n ws (kids n node t) ∙ ap (λ (l : List (Node R)). l ++ nodes_from n (kids n node t)) (from_none n ws parents))))
      | inr other ↦ turn.deques i other ∙ sym (from_append i ws (kids n node t) ∙ (ap (λ (l : List (Node R)). nodes_from i ws ++ l) (kids_elsewhere n i node t other) ∙ append-nil (nodes_from i ws)))
    ];
    later = λ i le. turn.later i (omega arith);
    parents = every_append (λ w. w.parent < suc n) ws (kids n node t) (every_more (λ (w : Waiting R). w.parent < n) (λ w. w.parent < suc n) ws (λ w lt. omega arith) parents) (kids_parents n node t);
    room = omega (arith, room, kids_total n node t, weigh_append (λ (w : Waiting R). size w.tree) ws (kids n node t));
  }

  pub size_positive : (t : Tree R) → 0 < size t
  size_positive (Tip e) = omega arith
  size_positive (Fork e a b) = omega arith

  seats_more : (us : List (Worker (Node R))) (n : ℕ) (it : Item R) (its : List (Item R)) → n < length us → SeatBy (who us n) it.node it.entry.end → Seats us (suc n) its → Seats us n (it ∷ its)
  seats_more us n it its lt seat seats = (lt, seat, seats)

  -- ## Stealing

  abbrev stolen : State R → ℕ → Waiting R → List (Waiting R) → State R
  stolen c n w ws = takes (with_worker c w.parent (record (worker c w.parent) { deque = nodes_from w.parent ws })) n w.node

  abbrev robbed : State R → Waiting R → List (Waiting R) → List (Worker (Node R))
  robbed c w ws = slice_set c.workers w.parent (record (worker c w.parent) { deque = nodes_from w.parent ws })

  module _ (c : State R) (n : ℕ) (w : Waiting R) (ws : List (Waiting R)) (ready : Ready c.workers n (w ∷ ws)) where
    lt : n < length c.workers
    lt = omega (arith, ready.room, size_positive w.tree)

    vlt : w.parent < length c.workers
    vlt = let less : w.parent < n = ready.parents.0 in omega (arith, lt)

    first_waits : (who c.workers w.parent).deque ≡ w.node ∷ nodes_from w.parent ws
    first_waits = ready.deques w.parent ∙ pick_same w.parent w.node (nodes_from w.parent ws)

    lt1 : n < length (robbed c w ws)
    lt1 = omega (arith, lt, length-set c.workers w.parent (record (worker c w.parent) { deque = nodes_from w.parent ws }))

    apart : n ≢ w.parent
    apart e = let less : w.parent < n = ready.parents.0 in omega arith

    deques1 : (i : ℕ) → (who (robbed c w ws) i).deque ≡ nodes_from i ws
    deques1 i = elim (same_or_other i w.parent) [
      | inl is ↦ subst (λ (k : ℕ). (who (robbed c w ws) k).deque ≡ nodes_from k ws) (sym is) (ap (λ (u : Worker (Node R)). u.deque) (who_same c.workers w.parent (record (worker c w.parent) { deque = nodes_from w.parent ws }) vlt))
      | inr other ↦ ap (λ (u : Worker (Node R)). u.deque) (who_other c.workers w.parent i (record (worker c w.parent) { deque = nodes_from w.parent ws }) other) ∙ (ready.deques i ∙ pick_other w.parent i w.node (nodes_from i ws) (λ e. other (sym e)))
    ]

    free1 : (i : ℕ) → n ≤ i → IsFree (who (robbed c w ws) i)
    free1 i le = let less : w.parent < n = ready.parents.0 in subst IsFree (sym (who_other c.workers w.parent i (record (worker c w.parent) { deque = nodes_from w.parent ws }) (λ e. omega arith))) (ready.later i le)

    taken_turn : Turn (stolen c n w ws).workers n ws [] (Some w.node) [] false
    taken_turn =
        let u : Worker (Node R) = record (who (robbed c w ws) n) { hand = Some w.node } in
        let is = who_same (robbed c w ws) n u lt1 in
        let free = free1 n (omega arith) in
        record {
          is_worker = omega (arith, lt1, length-set (robbed c w ws) n u);
          deques = λ i other. ap (λ (v : Worker (Node R)). v.deque) (who_other (robbed c w ws) n i u other) ∙ deques1 i;
          later = λ i less. subst IsFree (sym (who_other (robbed c w ws) n i u (λ e. omega arith))) (free1 i (omega arith));
          has_deque = ap (λ (v : Worker (Node R)). v.deque) is ∙ (deques1 n ∙ from_none n ws ready.parents.1);
          has_hand = ap (λ (v : Worker (Node R)). v.hand) is;
          has_made = ap (λ (v : Worker (Node R)). v.made) is ∙ free.1;
          has_ticket = ap (λ (v : Worker (Node R)). v.ticket) is ∙ free.2;
        }

    taken_kept : KeptBelow n c.workers (stolen c n w ws).workers
    taken_kept i less =
        let v : Worker (Node R) = record (worker c w.parent) { deque = nodes_from w.parent ws } in
        let u : Worker (Node R) = record (who (robbed c w ws) n) { hand = Some w.node } in (
          ap (λ (z : Worker (Node R)). z.hand) (who_other (robbed c w ws) n i u (λ e. omega arith)) ∙ kept_field (λ z. z.hand) c.workers w.parent i v vlt refl,
          ap (λ (z : Worker (Node R)). z.ticket) (who_other (robbed c w ws) n i u (λ e. omega arith)) ∙ kept_field (λ z. z.ticket) c.workers w.parent i v vlt refl,
        )

    taken_workers : length (stolen c n w ws).workers ≡ length c.workers
    taken_workers = length-set (robbed c w ws) n (record (who (robbed c w ws) n) { hand = Some w.node }) ∙ length-set c.workers w.parent (record (worker c w.parent) { deque = nodes_from w.parent ws })

module _ {R : Type 0} (same : R → R → Bool) (p : Program R) (base : List R) (bound : ℕ) where
  abbrev pub WaitOk : Waiting R → Type 0
  WaitOk w = IsTrail same p (root p) w.node.path w.node.trail × TreeAllowed same p Anything bound (begins same p w.node) w.tree × IsDeep w.node.path

  abbrev pub ItemOk : Item R → Type 0
  ItemOk it = IsTrail same p (root p) it.node.path it.node.trail × Allowed same p Anything bound (begins same p it.node) it.entry

  pub in_range : (b : Box) (o : Option (Multipliers R)) (end : End) → EndAllowed same p Anything bound b o end → (ms : Multipliers R) × (o ≡ Some ms)
  in_range b None end h = absurd h
  in_range b (Some ms) end h = (ms, refl)

  divides_by : (b : Box) (o : Option (Multipliers R)) (end : End) → branches end ≡ true → EndAllowed same p Anything bound b o end → Divides p b end
  divides_by b None end is h = absurd h
  divides_by b (Some ms) Leaf is h = absurd (cc)
  divides_by b (Some ms) Left is h = absurd (cc)
  divides_by b (Some ms) (Branch v) is h = h

  pub can_by : (node : Node R) (e : Entry R) (end : End) → e.end ≡ end → Allowed same p Anything bound (begins same p node) e → CanDivide same p base node e end
  can_by node e Leaf is h = tt
  can_by node e Left is h = tt
  can_by node e (Branch v) is h = ((h.0, in_range _ _ e.end h.1), divides_by _ _ e.end (ap branches is) h.1)

  pub root_allowed : (q : Pending R) (t : Tree R) → TreeAllowed same p Anything bound q t → Allowed same p Anything bound q (record_of t)
  root_allowed q (Tip e) h = h.0
  root_allowed q (Fork e a b) h = h.0

  pub fits_by : (q : Pending R) (t : Tree R) → TreeAllowed same p Anything bound q t → Fits t
  fits_by q (Tip e) h = h.1
  fits_by q (Fork e a b) h = h.1

  pub kids_ok : (n : ℕ) (node : Node R) (t : Tree R) → IsTrail same p (root p) node.path node.trail → TreeAllowed same p Anything bound (begins same p node) t → Every WaitOk (kids n node t)
  kids_ok n node (Tip e) trail h = tt
  kids_ok n node (Fork e a b) trail h =
      let entry : IsEntry same p (begins same p node) e = (h.0.0, in_range _ _ e.end h.0.1) in
      let free : Divides p (box_after same p (begins same p node) e) e.end = divides_by _ _ e.end h.1 h.0.1 in
      let good : (y : Bool) → IsTrail same p (root p) (node.path ++ y ∷ []) (node.trail ++ e ∷ []) = λ y. trail_more same p base (root p) node.path node.trail e y trail entry free in
      let there : (y : Bool) (s : Tree R) → TreeAllowed same p Anything bound (child same p (begins same p node) e y) s → TreeAllowed same p Anything bound (begins same p (half_node node e y)) s
      = λ y s hs. subst (λ (q : Pending R). TreeAllowed same p Anything bound q s) (sym (after_more same p base (root p) node.path node.trail e y trail)) hs in
      ((good true, there true a h.2, deep_more node.path true), ((good false, there false b h.3, deep_more node.path false), tt))

  pub order_ok : (f n : ℕ) (ws : List (Waiting R)) → Every WaitOk ws → Every ItemOk (order f n ws)
  order_ok zero n ws ok = tt
  order_ok (suc f) n [] ok = tt
  order_ok (suc f) n (w ∷ ws) ok = ((ok.0.0, root_allowed _ w.tree ok.0.1), order_ok f (suc n) (ws ++ kids n w.node w.tree) (every_append WaitOk ws _ ok.1 (kids_ok n w.node w.tree ok.0.0 ok.0.1)))

  take_by : (path : Path) (c d : State R) (n parent : ℕ) → IsDeep path → Machine.Steals c n parent d → Accepts same p base c (taking n parent path) d
  take_by [] c d n parent deep h = absurd deep
  take_by (y ∷ path) c d n parent deep h = h

  steals : (c : State R) (n : ℕ) (w : Waiting R) (ws : List (Waiting R)) (ready : Ready c.workers n (w ∷ ws)) → Machine.Steals c n w.parent (stolen c n w ws)
  steals c n w ws ready = let free = ready.later n (omega arith) in (lt c n w ws ready, vlt c n w ws ready, (free.0, free.1), (w.node, nodes_from w.parent ws, first_waits c n w ws ready, refl))

  -- ## A turn, and all turns after it

  -- the turn after the node was taken, and what follows
  pub then_all : (c b d z : State R) (n : ℕ) (ws : List (Waiting R)) (it : Item R) (its : List (Item R)) → KeptBelow n c.workers b.workers → length b.workers ≡ length c.workers → b.word ≡ c.word → b.budget ≡ c.budget → b.drawn ≡ c.drawn → b.left ≡ c.left → b.ended ≡ c.ended
      → Did b d n ws it.node it.entry it.entry.end → After d z (suc n) its → After c z n (it ∷ its)
  then_all c b d z n ws it its kept len word budget drawn left ended did after =
      let below : KeptBelow n d.workers z.workers = λ i less. after.kept i (omega arith) in
      let mine = after.kept n (omega arith) in
      record {
        kept = kept_then n c.workers b.workers z.workers kept (kept_then n b.workers d.workers z.workers did.kept below);
        workers = after.workers ∙ (did.workers ∙ len);
        word = after.word ∙ (did.word ∙ word);
        budget = after.budget ∙ (did.budget ∙ budget);
        drawn = omega (arith, after.drawn, did.drawn, drawn);
        left = after.left ∙ (did.left ∙ left);
        ended = after.ended ∙ (ap (λ (l : List (Handled R)). l ++ branch_items its) (did.ended ∙ ap (λ (l : List (Handled R)). l ++ branch_by it.node it.entry it.entry.end) ended) ∙ append_assoc c.ended (branch_by it.node it.entry it.entry.end) (branch_items its));
        seats = seats_more z.workers n it its (omega (arith, did.turn.is_worker, after.workers)) (seat_kept (who d.workers n) (who z.workers n) it.node it.entry.end mine.0 mine.1 (seat_of d.workers n ws it.node it.entry it.entry.end did.turn)) after.seats;
      }

  pub first_phase : (f n : ℕ) (c : State R) (ws : List (Waiting R)) → Ready c.workers n ws → total ws ≡ f → Every WaitOk ws → c.drawn + weigh more_of (order f n ws) ≤ c.budget
      → (z : State R) × Runs same p base c (each_from first_events n (order f n ws)) z × After c z n (order f n ws)
  first_phase zero n c ws ready len ok le = (
    c,
    refl,
    record {
      kept = λ i less. (refl, refl);
      workers = refl;
      word = refl;
      budget = refl;
      drawn = omega arith;
      left = refl;
      ended = sym (append-nil c.ended);
      seats = tt;
    },
  )
  first_phase (suc f) n c [] ready len ok le = absurd (omega (arith, len))
  first_phase (suc f) n c (w ∷ ws) ready len ok le =
      let it : Item R = record { parent = w.parent; node = w.node; entry = record_of w.tree } in
      let b : State R = stolen c n w ws in
      let allowed = root_allowed (begins same p w.node) w.tree ok.0.1 in
      let fits : Fits w.tree = fits_by (begins same p w.node) w.tree ok.0.1 in
      let did = handle same p base b n ws w.node it.entry it.entry.end (can_by w.node it.entry it.entry.end refl allowed) (taken_turn c n w ws ready) (omega arith) in
      let d : State R = did.0 in
      let more : Ready d.workers (suc n) (ws ++ kids n w.node w.tree) = next_ready d.workers n ws w.node w.tree _ _ fits did.2.turn ready.parents.1 (omega (arith, ready.room, did.2.workers, taken_workers c n w ws ready)) in
      let rest = first_phase f (suc n) d (ws ++ kids n w.node w.tree) more
      (omega (arith, len, kids_total n w.node w.tree, weigh_append (λ (v : Waiting R). size v.tree) ws (kids n w.node w.tree)))
      (every_append WaitOk ws _ ok.1 (kids_ok n w.node w.tree ok.0.0 ok.0.1))
      (omega (arith, le, did.2.drawn, did.2.budget)) in (
        rest.0,
        run_append same p base c d rest.0 (first_events n it) _ (b, take_by w.node.path c b n w.parent ok.0.2 (steals c n w ws ready), did.1) rest.1,
        then_all c b d rest.0 n ws it _ (taken_kept c n w ws ready) (taken_workers c n w ws ready) refl refl refl refl refl did.2 rest.2,
      )
