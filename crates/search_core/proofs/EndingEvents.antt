-- The later phases: full leaves offer, leaves close, left nodes are left.
use Rattle.std.proofs.Common.{◌≡◌, ℕ, suc, ◌+◌, ◌<◌, ◌≤◌, inr, Bool, true, false, List, [], ◌∷◌, ◌++◌, length, slice_set, Option, Some, None, refl, sym, subst, ap, ◌∙◌, append-nil, append_assoc, length-set, length-append, arith}
use Rattle.proof_trees.specs.Program.{Program}
use Rattle.proof_trees.specs.Boxes.{Box}
use Rattle.proof_trees.specs.Multipliers.{Multipliers, Closes}
use Rattle.proof_trees.specs.Trees.{End, Leaf, Left, Branch, Entry, Pending}
use Rattle.search_core.specs.Bags.{Every}
use Rattle.search_core.specs.Journals.{box_after, multipliers_after, Anything, EndAllowed}
use Rattle.search_core.specs.Machine.{Node, Worker, State, handled, Handled, worker, with_worker, begins, IsEntry, price, is_full, Runs}
use Rattle.search_core.specs.Replays.{Item, each_from, offering, offer_events, ending, end_events, leaving, left_events, offer_of, offered}
use Rattle.search_core.proofs.OpenNodes.{who, who_same, who_other}
use Rattle.search_core.proofs.WorkerTurns.{KeptBelow, kept_set, kept_then, run_append}
use Rattle.search_core.proofs.TakingEvents.{SeatBy, Seats, ItemOk, in_range}

module _ {R : Type 0} where
  -- another worker's change leaves the later seats
  seats_set : (us : List (Worker (Node R))) (i n : ℕ) (w : Worker (Node R)) (its : List (Item R)) → i < n → Seats us n its → Seats (slice_set us i w) n its
  seats_set us i n w [] lt h = tt
  seats_set us i n w (it ∷ its) lt h =
      let in_it : n < length us = h.0 in
      (omega (arith, length-set us i w), subst (λ (u : Worker (Node R)). SeatBy u it.node it.entry.end) (sym (who_other us i n w (λ e. omega arith))) h.1, seats_set us i (suc n) w its (omega arith) h.2)

  abbrev pub LeftBy : Worker (Node R) → Node R → End → Type 0
  LeftBy w node Leaf = Unit {0}
  LeftBy w node Left = (w.hand ≡ Some node) × (w.ticket ≡ false)
  LeftBy w node (Branch v) = Unit {0}

  abbrev pub LeftSeats : List (Worker (Node R)) → ℕ → List (Item R) → Type 0
  LeftSeats us n [] = Unit {0}
  LeftSeats us n (it ∷ its) = (n < length us) × LeftBy (who us n) it.node it.entry.end × LeftSeats us (suc n) its

  lefts_set : (us : List (Worker (Node R))) (i n : ℕ) (w : Worker (Node R)) (its : List (Item R)) → i < n → LeftSeats us n its → LeftSeats (slice_set us i w) n its
  lefts_set us i n w [] lt h = tt
  lefts_set us i n w (it ∷ its) lt h =
      let in_it : n < length us = h.0 in
      (omega (arith, length-set us i w), subst (λ (u : Worker (Node R)). LeftBy u it.node it.entry.end) (sym (who_other us i n w (λ e. omega arith))) h.1, lefts_set us i (suc n) w its (omega arith) h.2)

  pub left_kept : (w v : Worker (Node R)) (node : Node R) (end : End) → v.hand ≡ w.hand → v.ticket ≡ w.ticket → LeftBy w node end → LeftBy v node end
  left_kept w v node Leaf eh et h = tt
  left_kept w v node Left eh et h = (eh ∙ h.0, et ∙ h.1)
  left_kept w v node (Branch x) eh et h = tt

  abbrev pub leaf_by : Node R → Entry R → End → List (Handled R)
  leaf_by node e Leaf = handled node e ∷ []
  leaf_by node e Left = []
  leaf_by node e (Branch v) = []

  abbrev pub leaf_items : List (Item R) → List (Handled R)
  leaf_items [] = []
  leaf_items (it ∷ its) = leaf_by it.node it.entry it.entry.end ++ leaf_items its

  abbrev pub node_by : Node R → End → List (Node R)
  node_by node Leaf = []
  node_by node Left = node ∷ []
  node_by node (Branch v) = []

  abbrev pub left_items : List (Item R) → List (Node R)
  left_items [] = []
  left_items (it ∷ its) = node_by it.node it.entry.end ++ left_items its

  pub record Ends (c d : State R) (n : ℕ) (its : List (Item R)) : Type 0 where
    pub kept : KeptBelow n c.workers d.workers
    pub workers : length d.workers ≡ length c.workers
    pub word : d.word ≡ c.word
    pub budget : d.budget ≡ c.budget
    pub drawn : d.drawn ≡ c.drawn
    pub left : d.left ≡ c.left
    pub ended : d.ended ≡ c.ended ++ leaf_items its
    pub seats : LeftSeats d.workers n its

  pub record Leaves (c d : State R) (its : List (Item R)) : Type 0 where
    pub word : d.word ≡ c.word
    pub ended : d.ended ≡ c.ended
    pub left : d.left ≡ c.left ++ left_items its

module _ {R : Type 0} (same : R → R → Bool) (p : Program R) (base : List R) (bound : ℕ) where
  -- ## Offers

  offer_one : (c : State R) (n : ℕ) (node : Node R) (e : Entry R) (full : Bool) (end : End) → n < length c.workers → SeatBy (who c.workers n) node end → e.end ≡ end → IsEntry same p (begins same p node) e
      → is_full p base (box_after same p (begins same p node) e) ≡ full
      → Runs same p base c (offering full n e end) (record c { word = offer_of full c.word (price p (box_after same p (begins same p node) e)) end })
  offer_one c n node e true Leaf lt seat leaf entry is = (_, (lt, (node, seat.0, seat.1, entry, leaf, is, refl)), refl)
  offer_one c n node e false Leaf lt seat leaf entry is = refl
  offer_one c n node e full Left lt seat leaf entry is = refl
  offer_one c n node e full (Branch v) lt seat leaf entry is = refl

  entry_ok : (it : Item R) → ItemOk same p base bound it → IsEntry same p (begins same p it.node) it.entry
  entry_ok it ok = (ok.1.0, in_range same p base bound _ _ it.entry.end ok.1.1)

  pub offer_phase : (n : ℕ) (c : State R) (its : List (Item R)) → Seats c.workers n its → Every (ItemOk same p base bound) its → Runs same p base c (each_from (offer_events same p base) n its) (record c { word = offered same p base c.word its })
  offer_phase n c [] seats ok = refl
  offer_phase n c (it ∷ its) seats ok =
      let b : Box = box_after same p (begins same p it.node) it.entry in
      let d : State R = record c { word = offer_of (is_full p base b) c.word (price p b) it.entry.end } in
      run_append same p base c d (record d { word = offered same p base d.word its }) (offer_events same p base n it) (each_from (offer_events same p base) (suc n) its)
      (offer_one c n it.node it.entry (is_full p base b) it.entry.end seats.0 seats.1 refl (entry_ok it ok.0) refl)
      (offer_phase (suc n) d its seats.2 ok.1)

  -- ## Closes

  leaf_closes : (b : Box) (o : Option (Multipliers R)) → EndAllowed same p Anything bound b o Leaf → (ms : Multipliers R) × (o ≡ Some ms) × Closes p b ms bound
  leaf_closes b None h = absurd h
  leaf_closes b (Some ms) h = (ms, refl, h)

  pub record EndsOne (c d : State R) (n : ℕ) (it : Item R) (end : End) : Type 0 where
    pub kept : KeptBelow n c.workers d.workers
    pub workers : length d.workers ≡ length c.workers
    pub word : d.word ≡ c.word
    pub budget : d.budget ≡ c.budget
    pub drawn : d.drawn ≡ c.drawn
    pub left : d.left ≡ c.left
    pub ended : d.ended ≡ c.ended ++ leaf_by it.node it.entry end
    pub mine : LeftBy (who d.workers n) it.node end
    pub later : (its : List (Item R)) → Seats c.workers (suc n) its → Seats d.workers (suc n) its

  end_one : (c : State R) (n : ℕ) (it : Item R) (end : End) → n < length c.workers → SeatBy (who c.workers n) it.node end → it.entry.end ≡ end → ItemOk same p base bound it → c.word ≡ bound
      → (d : State R) × Runs same p base c (ending n it.entry end) d × EndsOne c d n it end
  end_one c n it Left lt seat is ok word = (
    c,
    refl,
    record {
      kept = λ i less. (refl, refl);
      workers = refl;
      word = refl;
      budget = refl;
      drawn = refl;
      left = refl;
      ended = sym (append-nil c.ended);
      mine = seat;
      later = λ its h. h;
    },
  )
  end_one c n it (Branch v) lt seat is ok word = (
    c,
    refl,
    record {
      kept = λ i less. (refl, refl);
      workers = refl;
      word = refl;
      budget = refl;
      drawn = refl;
      left = refl;
      ended = sym (append-nil c.ended);
      mine = tt;
      later = λ its h. h;
    },
  )
  end_one c n it Leaf lt seat is ok word =
      let q : Pending R = begins same p it.node in
      let w1 : Worker (Node R) = record (worker c n) { seen = Some c.word } in
      let c1 : State R = with_worker c n w1 in
      let w2 : Worker (Node R) = record (worker c1 n) { hand = None; ticket = false } in
      let d : State R = with_worker (record c1 { ended = c1.ended ++ handled it.node it.entry ∷ [] }) n w2 in
      let at = who_same c.workers n w1 lt in
      let lt1 : n < length c1.workers = omega (arith, length-set c.workers n w1) in
      let closes = leaf_closes (box_after same p q it.entry) (multipliers_after same p q it.entry) (subst (EndAllowed same p Anything bound (box_after same p q it.entry) (multipliers_after same p q it.entry)) is ok.1.1) in
      let le : n ≤ n = omega arith in (
        d,
        (
          c1,
          (lt, refl),
          (
            d,
            (
              lt1,
              (
                it.node,
                c.word,
                closes.0,
                ap (λ (u : Worker (Node R)). u.hand) at ∙ seat.0,
                ap (λ (u : Worker (Node R)). u.ticket) at ∙ seat.1,
                ap (λ (u : Worker (Node R)). u.seen) at,
                ok.1.0,
                closes.1,
                is,
                subst (Closes p (box_after same p q it.entry) closes.0) (sym word) closes.2,
                refl,
              ),
            ),
            refl,
          ),
        ),
        record {
          kept = kept_then n c.workers c1.workers d.workers (kept_set n n c.workers w1 le) (kept_set n n c1.workers w2 le);
          workers = length-set c1.workers n w2 ∙ length-set c.workers n w1;
          word = refl;
          budget = refl;
          drawn = refl;
          left = refl;
          ended = refl;
          mine = tt;
          later = λ its h. seats_set c1.workers n (suc n) w2 its (omega arith) (seats_set c.workers n (suc n) w1 its (omega arith) h);
        },
      )

  pub end_phase : (n : ℕ) (c : State R) (its : List (Item R)) → Seats c.workers n its → Every (ItemOk same p base bound) its → c.word ≡ bound
      → (d : State R) × Runs same p base c (each_from end_events n its) d × Ends c d n its
  end_phase n c [] seats ok word = (
    c,
    refl,
    record {
      kept = λ i less. (refl, refl);
      workers = refl;
      word = refl;
      budget = refl;
      drawn = refl;
      left = refl;
      ended = sym (append-nil c.ended);
      seats = tt;
    },
  )
  end_phase n c (it ∷ its) seats ok word =
      let one = end_one c n it it.entry.end seats.0 seats.1 refl ok.0 word in
      let m : State R = one.0 in
      let rest = end_phase (suc n) m its (one.2.later its seats.2) ok.1 (one.2.word ∙ word) in
      let d : State R = rest.0 in
      let here = rest.2.kept n (omega arith) in
      let in_it : n < length c.workers = seats.0 in (
        d,
        run_append same p base c m d (end_events n it) (each_from end_events (suc n) its) one.1 rest.1,
        record {
          kept = kept_then n c.workers m.workers d.workers one.2.kept (λ i less. rest.2.kept i (omega arith));
          workers = rest.2.workers ∙ one.2.workers;
          word = rest.2.word ∙ one.2.word;
          budget = rest.2.budget ∙ one.2.budget;
          drawn = rest.2.drawn ∙ one.2.drawn;
          left = rest.2.left ∙ one.2.left;
          ended = rest.2.ended ∙ (ap (λ (l : List (Handled R)). l ++ leaf_items its) one.2.ended ∙ append_assoc c.ended (leaf_by it.node it.entry it.entry.end) (leaf_items its));
          seats = (omega (arith, rest.2.workers, one.2.workers), left_kept (who m.workers n) (who d.workers n) it.node it.entry.end here.0 here.1 one.2.mine, rest.2.seats);
        },
      )

  -- ## Left nodes

  left_one : (c : State R) (n : ℕ) (it : Item R) (end : End) (its : List (Item R)) → n < length c.workers → LeftBy (who c.workers n) it.node end → (0 < length (node_by it.node end) → c.budget ≤ c.drawn) → LeftSeats c.workers (suc n) its
      → (d : State R) × Runs same p base c (leaving n end) d × (d.word ≡ c.word) × (d.ended ≡ c.ended) × (d.left ≡ c.left ++ node_by it.node end) × (d.budget ≡ c.budget) × (c.drawn ≤ d.drawn) × LeftSeats d.workers (suc n) its
  left_one c n it Leaf its lt seat over rest = (c, refl, refl, refl, sym (append-nil c.left), refl, omega arith, rest)
  left_one c n it (Branch v) its lt seat over rest = (c, refl, refl, refl, sym (append-nil c.left), refl, omega arith, rest)
  left_one c n it Left its lt seat over rest =
      let w : Worker (Node R) = record (worker c n) { hand = None } in
      let d : State R = with_worker (record c { drawn = c.drawn + 1; left = c.left ++ it.node ∷ [] }) n w in
      (d, (d, (lt, (it.node, seat.0, seat.1, inr (over (omega arith), refl))), refl), refl, refl, refl, refl, omega arith, lefts_set c.workers n (suc n) w its (omega arith) rest)

  pub left_phase : (n : ℕ) (c : State R) (its : List (Item R)) → LeftSeats c.workers n its → (0 < length (left_items its) → c.budget ≤ c.drawn)
      → (d : State R) × Runs same p base c (each_from left_events n its) d × Leaves c d its
  left_phase n c [] seats over = (c, refl, record { word = refl; ended = refl; left = sym (append-nil c.left) })
  left_phase n c (it ∷ its) seats over =
      let one = left_one c n it it.entry.end its seats.0 seats.1 (λ lt. over (omega (arith, length-append (node_by it.node it.entry.end) (left_items its)))) seats.2 in
      let m : State R = one.0 in
      let rest = left_phase (suc n) m its one.7 (λ lt. let old : c.budget ≤ c.drawn = over (omega (arith, length-append (node_by it.node it.entry.end) (left_items its))) in omega (arith, one.5, one.6)) in
      let d : State R = rest.0 in (
        d,
        run_append same p base c m d (left_events n it) (each_from left_events (suc n) its) one.1 rest.1,
        record {
          word = rest.2.word ∙ one.2;
          ended = rest.2.ended ∙ one.3;
          left = rest.2.left ∙ (ap (λ (l : List (Node R)). l ++ left_items its) one.4 ∙ append_assoc c.left (node_by it.node it.entry.end) (left_items its));
        },
      )
