-- One more ended node leaves what keys stand for.
use Rattle.std.proofs.Common.{◌≡◌, ℕ, zero, suc, ◌+◌, ◌<◌, Bool, true, false, List, [], ◌∷◌, ◌++◌, map, length, slice_index_or, slice_set, Option, Some, None, option_map, refl, sym, subst, ap, ◌∙◌, arith}
use Rattle.proof_trees.specs.Trees.{Entry}
use Rattle.search_core.specs.Bags.{Every}
use Rattle.search_core.specs.Journals.{nothing_done}
use Rattle.search_core.specs.Machine.{Node, Worker, StateOver, Handled, root_node, half_node, handled, idle, worker, with_worker}
use Rattle.search_core.specs.declared.node_keys.NodeKey.{NodeKey}
use Rattle.search_core.specs.declared.node_keys.NodeKey.TheVariants.{Root, Half}
use Rattle.search_core.specs.declared.records.Done.{Done}
use Rattle.search_core.specs.Rooms.{EndsHand, SplitsHand, HalvesHand}
use Rattle.search_core.specs.Told.{node_of, told_from, told, InTable, HandIn, WorkerIn, KeysStand, worker_as, state_as, state_of}
use Rattle.search_core.proofs.Renamed.{map_stored, worker_is, is_worker, hand_is}

pub at_more : {A : Type 0} (xs ys : List A) (k : ℕ) (d : A) → k < length xs → slice_index_or (xs ++ ys) k d ≡ slice_index_or xs k d
at_more [] ys k d lt = absurd (omega arith)
at_more (x ∷ xs) ys zero d lt = refl
at_more (x ∷ xs) ys (suc k) d lt = at_more xs ys k d (omega arith)

pub at_end : {A : Type 0} (xs : List A) (x d : A) → slice_index_or (xs ++ x ∷ []) (length xs) d ≡ x
at_end [] x d = refl
at_end (y ∷ xs) x d = at_end xs x d

pub length_end : {A : Type 0} (xs : List A) (x : A) → length (xs ++ x ∷ []) ≡ length xs + 1
length_end [] x = refl
length_end (y ∷ xs) x = omega (arith, length_end xs x)

hand_kept : {M : Type 0} (f g : NodeKey → M) (n : ℕ) → ((k : NodeKey) → InTable n k → f k ≡ g k) → (o : Option NodeKey) → HandIn n o → option_map f o ≡ option_map g o
hand_kept f g n same None h = refl
hand_kept f g n same (Some k) h = ap (λ (m : _). Some m) (same k h)

keys_kept : {M : Type 0} (f g : NodeKey → M) (n : ℕ) → ((k : NodeKey) → InTable n k → f k ≡ g k) → (ks : List NodeKey) → Every (InTable n) ks → map f ks ≡ map g ks
keys_kept f g n same [] h = refl
keys_kept f g n same (k ∷ ks) h = ap (λ (m : _). m ∷ map f ks) (same k h.0) ∙ ap (λ (ms : List _). g k ∷ ms) (keys_kept f g n same ks h.1)

module _ {M : Type 0} (f g : NodeKey → M) (n : ℕ) (same : (k : NodeKey) → InTable n k → f k ≡ g k) where
  worker_kept : (w : Worker NodeKey) → WorkerIn n w → worker_as f w ≡ worker_as g w
  worker_kept w h =
      ap (λ (ms : List M). record { deque = ms; hand = option_map f w.hand; made = map f w.made; seen = w.seen; ticket = w.ticket }) (keys_kept f g n same w.deque h.0)
      ∙ (ap (λ (o : Option M). record { deque = map g w.deque; hand = o; made = map f w.made; seen = w.seen; ticket = w.ticket }) (hand_kept f g n same w.hand h.1)
      ∙ ap (λ (ms : List M). record { deque = map g w.deque; hand = option_map g w.hand; made = ms; seen = w.seen; ticket = w.ticket }) (keys_kept f g n same w.made h.2))

  workers_kept : (ws : List (Worker NodeKey)) → Every (WorkerIn n) ws → map (worker_as f) ws ≡ map (worker_as g) ws
  workers_kept [] h = refl
  workers_kept (w ∷ ws) h = ap (λ (v : Worker M). v ∷ map (worker_as f) ws) (worker_kept w h.0) ∙ ap (λ (vs : List (Worker M)). worker_as g w ∷ vs) (workers_kept ws h.1)

  at_kept : (ws : List (Worker NodeKey)) (i : ℕ) → Every (WorkerIn n) ws → worker_as f (slice_index_or ws i idle) ≡ worker_as g (slice_index_or ws i idle)
  at_kept [] i h = refl
  at_kept (w ∷ ws) zero h = worker_kept w h.0
  at_kept (w ∷ ws) (suc i) h = at_kept ws i h.1

module _ {T R : Type 0} (entry : T → Entry R) where
  told_more : (hs : List (Handled R)) (ds : List (Done T)) (d : Done T) → told_from entry hs (ds ++ d ∷ []) ≡ told_from entry hs ds ++ handled (node_of (told_from entry hs ds) d.node) (entry d.entry) ∷ []
  told_more hs [] d = refl
  told_more hs (x ∷ ds) d = told_more (hs ++ handled (node_of hs x.node) (entry x.entry) ∷ []) ds d

  told_length : (hs : List (Handled R)) (ds : List (Done T)) → length (told_from entry hs ds) ≡ length hs + length ds
  told_length hs [] = omega arith
  told_length hs (x ∷ ds) =
      let h : Handled R = handled (node_of hs x.node) (entry x.entry) in
      omega (arith, told_length (hs ++ h ∷ []) ds, length_end hs h)

  key_kept : (hs : List (Handled R)) (h : Handled R) (k : NodeKey) → InTable (length hs) k → node_of (hs ++ h ∷ []) k ≡ node_of hs k
  key_kept hs h Root lt = refl
  key_kept hs h (Half k y) lt = ap (λ (e : Handled R). half_node e.node e.entry y) (at_more hs (h ∷ []) k (handled root_node nothing_done) lt)

  half_is : (hs : List (Handled R)) (h : Handled R) (k : ℕ) (y : Bool) → k ≡ length hs → node_of (hs ++ h ∷ []) (Half k y) ≡ half_node h.node h.entry y
  half_is hs h k y e = ap (λ (j : ℕ). node_of (hs ++ h ∷ []) (Half j y)) e ∙ ap (λ (u : Handled R). half_node u.node u.entry y) (at_end hs h (handled root_node nothing_done))

  module _ (c : StateOver NodeKey (Done T)) (i : ℕ) (done : Done T) (stand : KeysStand c) where
    abbrev hs : List (Handled R)
    hs = told entry c.ended

    abbrev last : Handled R
    last = handled (node_of hs done.node) (entry done.entry)

    abbrev f : NodeKey → Node R
    f = node_of hs

    abbrev g : NodeKey → Node R
    g = node_of (hs ++ last ∷ [])

    length_is : length hs ≡ length c.ended
    length_is = omega (arith, told_length [] c.ended)

    same : (k : NodeKey) → InTable (length c.ended) k → g k ≡ f k
    same k h = key_kept hs last k (subst (λ (n : ℕ). InTable n k) (sym length_is) h)

    -- the state with one more ended node and another worker
    more : (w : Worker NodeKey) (v : Worker (Node R)) → worker_as g w ≡ v → state_of entry (with_worker (record c { ended = c.ended ++ done ∷ [] }) i w) ≡ with_worker (record (state_of entry c) { ended = hs ++ last ∷ [] }) i v
    more w v e =
        ap (λ (l : List (Handled R)). state_as (node_of l) l (with_worker (record c { ended = c.ended ++ done ∷ [] }) i w)) (told_more [] c.ended done)
        ∙ (ap (λ (vs : List (Worker (Node R))). record (state_as g (hs ++ last ∷ []) c) { workers = vs })
        (map_stored (worker_as g) c.workers i w ∙ (ap (λ (v : Worker (Node R)). slice_set (map (worker_as g) c.workers) i v) e
        ∙ ap (λ (vs : List (Worker (Node R))). slice_set vs i v) (workers_kept g f (length c.ended) same c.workers stand.workers)))
        ∙ ap (λ (ns : List (Node R)). record (state_as f (hs ++ last ∷ []) c) { workers = slice_set (map (worker_as f) c.workers) i v; left = ns }) (keys_kept g f (length c.ended) same c.left stand.left))

    own : worker_as g (worker c i) ≡ worker (state_of entry c) i
    own = at_kept g f (length c.ended) same c.workers i stand.workers ∙ sym (worker_is f hs c i)

    pub ends : (d : StateOver NodeKey (Done T)) → EndsHand c i done.node done d → EndsHand (state_of entry c) i (node_of (told entry c.ended) done.node) (handled (node_of (told entry c.ended) done.node) (entry done.entry)) (state_of entry d)
    ends d (lt, hand, is) = (
      is_worker f hs c i lt,
      hand_is f hs c i (Some done.node) hand,
      ap (λ (s : StateOver NodeKey (Done T)). state_of entry s) is
          ∙ more (record (worker c i) { hand = None; ticket = false }) (record (worker (state_of entry c) i) { hand = None; ticket = false }) (ap (λ (w : Worker (Node R)). record w { hand = None; ticket = false }) own),
    )

    pub halves : (d : StateOver NodeKey (Done T)) → HalvesHand c i done.node done d
        → SplitsHand (state_of entry c) i (node_of (told entry c.ended) done.node) (handled (node_of (told entry c.ended) done.node) (entry done.entry))
        (half_node (node_of (told entry c.ended) done.node) (entry done.entry) true) (half_node (node_of (told entry c.ended) done.node) (entry done.entry) false) (state_of entry d)
    halves d (lt, hand, is) =
        let one : Node R = half_node last.node last.entry true in
        let none : Node R = half_node last.node last.entry false in
        let one_is : g (Half (length c.ended) true) ≡ one = half_is hs last (length c.ended) true (sym length_is) in
        let none_is : g (Half (length c.ended) false) ≡ none = half_is hs last (length c.ended) false (sym length_is) in (
          is_worker f hs c i lt,
          hand_is f hs c i (Some done.node) hand,
          ap (λ (s : StateOver NodeKey (Done T)). state_of entry s) is
              ∙ more (record (worker c i) { hand = None; ticket = false; made = Half (length c.ended) true ∷ Half (length c.ended) false ∷ [] }) (record (worker (state_of entry c) i) { hand = None; ticket = false; made = one ∷ none ∷ [] })
              (ap (λ (w : Worker (Node R)). record w { hand = None; ticket = false; made = g (Half (length c.ended) true) ∷ g (Half (length c.ended) false) ∷ [] }) own
              ∙ (ap (λ (n : Node R). record (worker (state_of entry c) i) { hand = None; ticket = false; made = n ∷ g (Half (length c.ended) false) ∷ [] }) one_is
              ∙ ap (λ (n : Node R). record (worker (state_of entry c) i) { hand = None; ticket = false; made = one ∷ n ∷ [] }) none_is)),
        )
