-- Keys name nodes.
use Rattle.std.proofs.Common.{◌≡◌, inl, inr, ℕ, zero, suc, ◌+◌, ◌<◌, true, false, List, [], ◌∷◌, ◌++◌, length, replicate, slice_index_or, slice_set, Option, Some, None, refl, sym, subst, arith}
use Rattle.search_core.specs.Bags.{Every}
use Rattle.search_core.specs.Machine.{Worker, StateOver, idle, worker, with_worker, begin_with, Pushes, Pops, Steals, Loads, Draws}
use Rattle.search_core.specs.declared.node_keys.NodeKey.{NodeKey}
use Rattle.search_core.specs.declared.node_keys.NodeKey.TheVariants.{Root, Half}
use Rattle.search_core.specs.Rooms.{EndsHand, HalvesHand}
use Rattle.search_core.specs.Told.{InTable, HandIn, WorkerIn, KeysStand}

every_append : {A : Type 0} (P : A → Type 0) (xs ys : List A) → Every P xs → Every P ys → Every P (xs ++ ys)
every_append P [] ys h k = k
every_append P (x ∷ xs) ys h k = (h.0, every_append P xs ys h.1 k)

every_left : {A : Type 0} (P : A → Type 0) (xs ys : List A) → Every P (xs ++ ys) → Every P xs
every_left P [] ys h = tt
every_left P (x ∷ xs) ys h = (h.0, every_left P xs ys h.1)

every_right : {A : Type 0} (P : A → Type 0) (xs ys : List A) → Every P (xs ++ ys) → Every P ys
every_right P [] ys h = h
every_right P (x ∷ xs) ys h = every_right P xs ys h.1

every_more : {A : Type 0} (P Q : A → Type 0) (xs : List A) → ((x : A) → P x → Q x) → Every P xs → Every Q xs
every_more P Q [] f h = tt
every_more P Q (x ∷ xs) f h = (f x h.0, every_more P Q xs f h.1)

every_set : {A : Type 0} (P : A → Type 0) (xs : List A) (i : ℕ) (a : A) → Every P xs → P a → Every P (slice_set xs i a)
every_set P [] i a h new = tt
every_set P (x ∷ xs) zero a h new = (new, h.1)
every_set P (x ∷ xs) (suc i) a h new = (h.0, every_set P xs i a h.1 new)

worker_in : (n : ℕ) (ws : List (Worker NodeKey)) (i : ℕ) → Every (WorkerIn n) ws → WorkerIn n (slice_index_or ws i idle)
worker_in n [] i h = (tt, tt, tt)
worker_in n (w ∷ ws) zero h = h.0
worker_in n (w ∷ ws) (suc i) h = worker_in n ws i h.1

idle_in : (n count : ℕ) → Every (WorkerIn n) (replicate count idle)
idle_in n zero = tt
idle_in n (suc count) = ((tt, tt, tt), idle_in n count)

key_later : (n : ℕ) (k : NodeKey) → InTable n k → InTable (n + 1) k
key_later n Root h = tt
key_later n (Half k y) h = omega (arith, h)

hand_later : (n : ℕ) (o : Option NodeKey) → HandIn n o → HandIn (n + 1) o
hand_later n None h = tt
hand_later n (Some k) h = key_later n k h

worker_later : (n : ℕ) (w : Worker NodeKey) → WorkerIn n w → WorkerIn (n + 1) w
worker_later n w h = (every_more (InTable n) (InTable (n + 1)) w.deque (key_later n) h.0, hand_later n w.hand h.1, every_more (InTable n) (InTable (n + 1)) w.made (key_later n) h.2)

length_end : {A : Type 0} (xs : List A) (x : A) → length xs + 1 ≡ length (xs ++ x ∷ [])
length_end [] x = refl
length_end (y ∷ xs) x = omega (arith, length_end xs x)

module _ {D : Type 0} where
  pub own : (c : StateOver NodeKey D) (i : ℕ) → KeysStand c → WorkerIn (length c.ended) (worker c i)
  own c i stand = worker_in (length c.ended) c.workers i stand.workers

  set : (c : StateOver NodeKey D) (i : ℕ) (w : Worker NodeKey) → KeysStand c → WorkerIn (length c.ended) w → KeysStand (with_worker c i w)
  set c i w stand new = record { workers = every_set (WorkerIn (length c.ended)) c.workers i w stand.workers new; left = stand.left }

  pub begins : (workers start budget : ℕ) → KeysStand {D = D} (begin_with Root workers start budget)
  begins workers start budget = record { workers = every_set (WorkerIn 0) (replicate workers idle) 0 (record { deque = Root ∷ []; hand = None; made = []; seen = None; ticket = false }) (idle_in 0 workers) ((tt, tt), tt, tt); left = tt }

  pub pushes : (c d : StateOver NodeKey D) (i : ℕ) → KeysStand c → Pushes c i d → KeysStand d
  pushes c d i stand (lt, (n, rest, made, is)) =
      let k : ℕ = length c.ended in
      let h : WorkerIn k (worker c i) = own c i stand in
      let waits : Every (InTable k) (n ∷ rest) = subst (λ (ks : List NodeKey). Every (InTable k) ks) made h.2 in
      subst (λ (s : StateOver NodeKey D). KeysStand s) (sym is) (set c i (record (worker c i) { made = rest; deque = (worker c i).deque ++ n ∷ [] }) stand (every_append (InTable k) (worker c i).deque (n ∷ []) h.0 (waits.0, tt), h.1, waits.1))

  pub pops : (c d : StateOver NodeKey D) (i : ℕ) → KeysStand c → Pops c i d → KeysStand d
  pops c d i stand (lt, free, (n, rest, deque, is)) =
      let k : ℕ = length c.ended in
      let h : WorkerIn k (worker c i) = own c i stand in
      let waits : Every (InTable k) (rest ++ n ∷ []) = subst (λ (ks : List NodeKey). Every (InTable k) ks) deque h.0 in
      subst (λ (s : StateOver NodeKey D). KeysStand s) (sym is) (set c i (record (worker c i) { deque = rest; hand = Some n }) stand (every_left (InTable k) rest (n ∷ []) waits, (every_right (InTable k) rest (n ∷ []) waits).0, h.2))

  pub steals : (c d : StateOver NodeKey D) (i victim : ℕ) → KeysStand c → Steals c i victim d → KeysStand d
  steals c d i victim stand (lt, vlt, free, (n, rest, deque, is)) =
      let k : ℕ = length c.ended in
      let h : WorkerIn k (worker c victim) = own c victim stand in
      let waits : Every (InTable k) (n ∷ rest) = subst (λ (ks : List NodeKey). Every (InTable k) ks) deque h.0 in
      let b : StateOver NodeKey D = with_worker c victim (record (worker c victim) { deque = rest }) in
      let robbed : KeysStand b = set c victim (record (worker c victim) { deque = rest }) stand (waits.1, h.1, h.2) in
      let mine : WorkerIn k (worker b i) = own b i robbed in
      subst (λ (s : StateOver NodeKey D). KeysStand s) (sym is) (set b i (record (worker b i) { hand = Some n }) robbed (mine.0, waits.0, mine.2))

  pub loads : (c d : StateOver NodeKey D) (i : ℕ) → KeysStand c → Loads c i d → KeysStand d
  loads c d i stand (lt, is) = subst (λ (s : StateOver NodeKey D). KeysStand s) (sym is) (set c i (record (worker c i) { seen = Some c.word }) stand (own c i stand))

  pub draws : (c d : StateOver NodeKey D) (i : ℕ) → KeysStand c → Draws c i d → KeysStand d
  draws c d i stand (lt, (n, hand, ticket, inl (less, is))) =
      subst (λ (s : StateOver NodeKey D). KeysStand s) (sym is) (set (record c { drawn = c.drawn + 1 }) i (record (worker c i) { ticket = true }) (record { workers = stand.workers; left = stand.left }) (own c i stand))
  draws c d i stand (lt, (n, hand, ticket, inr (most, is))) =
      let k : ℕ = length c.ended in
      let h : WorkerIn k (worker c i) = own c i stand in
      let here : HandIn k (Some n) = subst (λ (o : Option NodeKey). HandIn k o) hand h.1 in
      subst (λ (s : StateOver NodeKey D). KeysStand s) (sym is)
      (set (record c { drawn = c.drawn + 1; left = c.left ++ n ∷ [] }) i (record (worker c i) { hand = None }) (record { workers = stand.workers; left = every_append (InTable k) c.left (n ∷ []) stand.left (here, tt) }) (h.0, tt, h.2))

  grown : (c : StateOver NodeKey D) (done : D) → KeysStand c → KeysStand (record c { ended = c.ended ++ done ∷ [] })
  grown c done stand =
      let k : ℕ = length c.ended in
      record {
        workers = subst (λ (m : ℕ). Every (WorkerIn m) c.workers) (length_end c.ended done) (every_more (WorkerIn k) (WorkerIn (k + 1)) c.workers (worker_later k) stand.workers);
        left = subst (λ (m : ℕ). Every (InTable m) c.left) (length_end c.ended done) (every_more (InTable k) (InTable (k + 1)) c.left (key_later k) stand.left);
      }

  pub ends : (c d : StateOver NodeKey D) (i : ℕ) (n : NodeKey) (done : D) → KeysStand c → EndsHand c i n done d → KeysStand d
  ends c d i n done stand (lt, hand, is) =
      let b : StateOver NodeKey D = record c { ended = c.ended ++ done ∷ [] } in
      let more : KeysStand b = grown c done stand in
      let h : WorkerIn (length b.ended) (worker b i) = own b i more in
      subst (λ (s : StateOver NodeKey D). KeysStand s) (sym is) (set b i (record (worker c i) { hand = None; ticket = false }) more (h.0, tt, h.2))

  pub halves : (c d : StateOver NodeKey D) (i : ℕ) (n : NodeKey) (done : D) → KeysStand c → HalvesHand c i n done d → KeysStand d
  halves c d i n done stand (lt, hand, is) =
      let b : StateOver NodeKey D = record c { ended = c.ended ++ done ∷ [] } in
      let more : KeysStand b = grown c done stand in
      let h : WorkerIn (length b.ended) (worker b i) = own b i more in
      let here : length c.ended < length b.ended = omega (arith, length_end c.ended done) in
      subst (λ (s : StateOver NodeKey D). KeysStand s) (sym is)
      (set b i (record (worker c i) { hand = None; ticket = false; made = Half (length c.ended) true ∷ Half (length c.ended) false ∷ [] }) more (h.0, tt, (here, (here, tt))))
