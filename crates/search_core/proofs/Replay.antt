-- The machine accepts the replay whole.
use Rattle.std.proofs.Common.{◌≡◌, ◌≢◌, ℕ, zero, suc, ◌+◌, ◌<◌, ◌≤◌, Bool, true, false, List, [], ◌∷◌, ◌++◌, length, map, replicate, Some, None, refl, subst, ap, ◌∙◌, length-set, arith}
use Rattle.std.proofs.lemmas.List.{length-replicate}
use Rattle.proof_trees.specs.Program.{Program}
use Rattle.proof_trees.specs.Trees.{root}
use Rattle.search_core.specs.Bags.{weigh, Every}
use Rattle.search_core.specs.Journals.{Path, Placed, left_at, trail, under, all_nodes, Whole, Tree, Tip, Fork, preorder, Gathers, located, Anything, Settled}
use Rattle.search_core.specs.Machine
use Rattle.search_core.specs.Machine.{Node, Handled, at_its_path, Worker, State, root_node, idle, placed, begin, worker, with_worker, Runs}
use Rattle.search_core.specs.Replays.{Waiting, Item, record_of, size, kids, order, ordered, each_from, first_events, offer_events, end_events, left_events, replay, offered, IsOffer, Replays}
use Rattle.search_core.proofs.OneTree.{located_as}
use Rattle.search_core.proofs.Settling.{TreeAllowed, settled_tree}
use Rattle.search_core.proofs.OpenNodes.{who, who_same, who_other}
use Rattle.search_core.proofs.Rule.{who_idle, OffersSolve}
use Rattle.search_core.proofs.Ancestors.{items_on_trail}
use Rattle.search_core.proofs.LeastPrice.{offered_is}
use Rattle.search_core.proofs.Ordering.{ordered_numbered}
use Rattle.search_core.proofs.Weights.{weigh_append, weigh_map}
use Rattle.search_core.proofs.WorkerTurns.{Turn, kept_set, handle, run_append}
use Rattle.search_core.proofs.TakingEvents.{After, more_of, branch_items, Fits, next_ready, size_positive, ItemOk, can_by, root_allowed, fits_by, kids_ok, order_ok, then_all, first_phase, kids_total}
use Rattle.search_core.proofs.EndingEvents.{leaf_items, left_items, offer_phase, end_phase, left_phase}
use Rattle.search_core.proofs.Items.{order_weight, if_handled, if_left, handled_weight, left_weight, more_weight, ones_length, all_handled, all_left}

size_located : {R : Type 0} (t : Tree R) → weigh (λ _. 1) (located t) ≡ size t
size_located (Tip e) = refl
size_located (Fork e a b) = omega (arith, weigh_append (λ _. 1) (map (under true) (located a)) (map (under false) (located b)), weigh_map (under true) (λ _. 1) (located a), weigh_map (under false) (λ _. 1) (located b), size_located a, size_located b)

module _ {R : Type 0} (same : R → R → Bool) (p : Program R) (base : List R) (bound : ℕ) where
  abbrev first_waiting : Tree R → Waiting R
  first_waiting t = record { parent = 0; node = root_node; tree = t }

  idle_at : (n i : ℕ) → i ≢ 0 → who (begin {R = R} n 0 0).workers i ≡ idle
  idle_at n i other = who_other (replicate n idle) 0 i (record { deque = root_node ∷ []; hand = None; made = []; seen = None; ticket = false }) other ∙ who_idle same p base n i

  -- the root is popped
  root_phase : (f : ℕ) (t : Tree R) (start budget : ℕ) → size t ≡ f → TreeAllowed same p Anything bound (root p) t → weigh more_of (order f 0 (first_waiting t ∷ [])) ≤ budget
      → (z : State R) × Runs same p base (begin f start budget) (each_from first_events 0 (order f 0 (first_waiting t ∷ []))) z × After (begin f start budget) z 0 (order f 0 (first_waiting t ∷ []))
  root_phase zero t start budget len ok le = absurd (omega (arith, size_positive t))
  root_phase (suc f) t start budget len ok le =
      let c : State R = begin (suc f) start budget in
      let rooted : Worker (Node R) = record { deque = root_node ∷ []; hand = None; made = []; seen = None; ticket = false } in
      let at : worker c 0 ≡ rooted = who_same (replicate (suc f) idle) 0 rooted (omega (arith, length-replicate (suc f) (idle {N = Node R}))) in
      let lt : 0 < length c.workers = omega (arith, length-set (replicate (suc f) idle) 0 rooted, length-replicate (suc f) (idle {N = Node R})) in
      let w : Worker (Node R) = record (worker c 0) { deque = []; hand = Some root_node } in
      let b : State R = with_worker c 0 w in
      let is = who_same c.workers 0 w lt in
      let apart : (i : ℕ) → i ≢ 0 → who b.workers i ≡ idle = λ i other. who_other c.workers 0 i w other ∙ idle_at (suc f) i other in
      let turn : Turn b.workers 0 [] [] (Some root_node) [] false = record {
        is_worker = omega (arith, length-set c.workers 0 w);
        deques = λ i other. ap (λ (v : Worker (Node R)). v.deque) (apart i other);
        later = λ i less. let other : i ≢ 0 = λ e. omega arith in (ap (λ (v : Worker (Node R)). v.hand) (apart i other), ap (λ (v : Worker (Node R)). v.made) (apart i other), ap (λ (v : Worker (Node R)). v.ticket) (apart i other));
        has_deque = ap (λ (v : Worker (Node R)). v.deque) is;
        has_hand = ap (λ (v : Worker (Node R)). v.hand) is;
        has_made = ap (λ (v : Worker (Node R)). v.made) is ∙ ap (λ (v : Worker (Node R)). v.made) at;
        has_ticket = ap (λ (v : Worker (Node R)). v.ticket) is ∙ ap (λ (v : Worker (Node R)). v.ticket) at;
      } in
      let it : Item R = record { parent = 0; node = root_node; entry = record_of t } in
      let allowed = root_allowed same p base bound (root p) t ok in
      let fits : Fits t = fits_by same p base bound (root p) t ok in
      let did = handle same p base b 0 [] root_node it.entry it.entry.end (can_by same p base bound root_node it.entry it.entry.end refl allowed) turn (omega arith) in
      let d : State R = did.0 in
      let more = next_ready d.workers 0 [] root_node t _ _ fits did.2.turn tt (omega (arith, did.2.workers, length-set c.workers 0 w, length-set (replicate (suc f) idle) 0 rooted, length-replicate (suc f) (idle {N = Node R}))) in
      let rest = first_phase same p base bound f 1 d (kids 0 root_node t) more (omega (arith, kids_total 0 root_node t)) (kids_ok same p base bound 0 root_node t tt ok) (omega (arith, le, did.2.drawn, did.2.budget)) in
      let pops : Machine.Pops c 0 b = (lt, (ap (λ (v : Worker (Node R)). v.hand) at, ap (λ (v : Worker (Node R)). v.made) at), (root_node, [], ap (λ (v : Worker (Node R)). v.deque) at, refl)) in (
        rest.0,
        run_append same p base c d rest.0 (first_events 0 it) _ (b, pops, did.1) rest.1,
        then_all same p base bound c b d rest.0 0 [] it _ (kept_set 0 0 c.workers w (omega arith)) (length-set c.workers 0 w) refl refl refl refl refl did.2 rest.2,
      )

  items_ok : (f : ℕ) (t : Tree R) → TreeAllowed same p Anything bound (root p) t → Every (ItemOk same p base bound) (order f 0 (first_waiting t ∷ []))
  items_ok zero t ok = tt
  items_ok (suc f) t ok = ((tt, root_allowed same p base bound (root p) t ok), order_ok same p base bound f 1 (kids 0 root_node t) (kids_ok same p base bound 0 root_node t tt ok))

  pub replayed : OffersSolve same p base → (entries : List (Placed R)) (left : List Path) (t : Tree R) (start budget : ℕ) → Whole entries left → Gathers (all_nodes entries left) t → Settled same p (preorder t) bound
      → IsOffer same p base (all_nodes entries left) entries start bound → length entries ≤ budget → (0 < length left → length entries ≡ budget) → Replays same p base entries left start budget bound
  replayed solves entries left t start budget whole gathers settled offer few full =
      let its : List (Item R) = ordered t in
      let ok : TreeAllowed same p Anything bound (root p) t = settled_tree same p bound (all_nodes entries left) t gathers settled in
      let weight : (h : Placed R → ℕ) → weigh (λ it. h (placed it.node it.entry)) its ≡ weigh h (all_nodes entries left)
      = λ h. omega (arith, order_weight h (size t) 0 (first_waiting t ∷ []) (omega arith), located_as t (all_nodes entries left) h gathers) in
      let among : (h : Placed R → ℕ) → weigh h entries ≤ weigh (λ it. h (placed it.node it.entry)) its = λ h. omega (arith, weight h, weigh_append h entries (map left_at left)) in
      let handled : weigh more_of its ≡ length entries = omega (arith, more_weight its, weight (if_handled (λ _. 1)), all_handled (λ _. 1) entries left whole.ended, ones_length entries) in
      let lefts : length (left_items its) ≡ length left = omega (arith, left_weight (λ _. 1) its, weight (if_left (λ _. 1)), all_left (λ _. 1) entries left whole.ended, ones_length left, ones_length (left_items its)) in
      let oks : Every (ItemOk same p base bound) its = items_ok (size t) t ok in
      let on_trail : Every (λ it. it.node.trail ≡ trail (all_nodes entries left) it.node.path) its = items_on_trail (all_nodes entries left) (size t) 0 (first_waiting t ∷ []) ((refl, gathers), tt) in
      let least : offered same p base start its ≡ bound = offered_is same p base bound solves (all_nodes entries left) entries start its oks on_trail among offer.most offer.from in
      let workers : size t ≡ length entries + length left = omega (arith, size_located t, located_as t (all_nodes entries left) (λ _. 1) gathers, weigh_append (λ _. 1) entries (map left_at left), ones_length entries, weigh_map left_at (λ (m : Placed R). 1) left, ones_length left) in
      let one = root_phase (size t) t start budget refl ok (omega arith) in
      let c1 : State R = one.0 in
      let c2 : State R = record c1 { word = offered same p base c1.word its } in
      let two = offer_phase same p base bound 0 c1 its one.2.seats oks in
      let word : c2.word ≡ bound = ap (λ (u : ℕ). offered same p base u its) one.2.word ∙ least in
      let three = end_phase same p base bound 0 c2 its one.2.seats oks word in
      let c3 : State R = three.0 in
      let four = left_phase same p base bound 0 c3 its three.2.seats (λ some. let all : length entries ≡ budget = full (omega arith) in omega (arith, three.2.budget, three.2.drawn, one.2.budget, one.2.drawn)) in
      let z : State R = four.0 in
      record {
        items = its;
        numbered = ordered_numbered t;
        nodes = weight;
        trails = on_trail;
        last = z;
        accepted = subst (λ (k : ℕ). Runs same p base (begin k start budget) (replay same p base its) z) workers
            (run_append same p base _ c1 z (each_from first_events 0 its) _ one.1
            (run_append same p base c1 c2 z (each_from (offer_events same p base) 0 its) _ two (run_append same p base c2 c3 z (each_from end_events 0 its) (each_from left_events 0 its) three.1 four.1)));
        ends = four.2.word ∙ (three.2.word ∙ word);
        ended = λ h. omega (arith, ap (weigh (λ (m : Handled R). h (at_its_path m))) (four.2.ended ∙ (three.2.ended ∙ ap (λ (l : List (Handled R)). l ++ leaf_items its) one.2.ended)), weigh_append (λ (m : Handled R). h (at_its_path m)) (branch_items its) (leaf_items its), handled_weight h its, weight (if_handled h), all_handled h entries left whole.ended);
        left_nodes = λ h. omega (arith, ap (weigh (λ (n : Node R). h n.path)) (four.2.left ∙ ap (λ (l : List (Node R)). l ++ left_items its) (three.2.left ∙ one.2.left)), left_weight h its, weight (if_left h), all_left h entries left whole.ended);
      }
