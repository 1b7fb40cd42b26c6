-- Lists of workers with room, where one changes.
use Rattle.std.proofs.Common.{◌≡◌, inl, inr, true, false, ℕ, zero, suc, ◌+◌, ◌<◌, ◌≤◌, List, [], ◌∷◌, ◌++◌, map, take, length, slice_index_or, slice_set, Some, None, refl, sym, subst, ap, ◌∙◌, length-set, arith}
use Rattle.search_core.specs.Bags.{Every}
use Rattle.search_core.specs.Machine.{Worker, StateOver, idle, worker, with_worker, IsWorker, Pushes, Pops, Steals, Loads, Draws}
use Rattle.search_core.specs.declared.node_keys.NodeKey.{NodeKey}
use Rattle.search_core.specs.declared.node_keys.NodeKey.TheVariants.{Half}
use Rattle.search_core.specs.Rooms.{Roomy, worker_of, EndsHand, HalvesHand}

pub stored : (xs : List Roomy) (i : ℕ) (v : Roomy) (w : Worker NodeKey) → v.worker ≡ w → map worker_of (slice_set xs i v) ≡ slice_set (map worker_of xs) i w
stored [] i v w e = refl
stored (x ∷ xs) zero v w e = ap (λ (u : Worker NodeKey). u ∷ map worker_of xs) e
stored (x ∷ xs) (suc i) v w e = ap (λ (l : List (Worker NodeKey)). x.worker ∷ l) (stored xs i v w e)

pub kept_worker : (xs : List Roomy) (i : ℕ) (v d : Roomy) → v.worker ≡ (slice_index_or xs i d).worker → map worker_of (slice_set xs i v) ≡ map worker_of xs
kept_worker [] i v d e = refl
kept_worker (x ∷ xs) zero v d e = ap (λ (u : Worker NodeKey). u ∷ map worker_of xs) e
kept_worker (x ∷ xs) (suc i) v d e = ap (λ (l : List (Worker NodeKey)). x.worker ∷ l) (kept_worker xs i v d e)

pub worker_at : (xs : List Roomy) (i : ℕ) (d : Roomy) → i < length xs → slice_index_or (map worker_of xs) i idle ≡ (slice_index_or xs i d).worker
worker_at [] i d lt = absurd (omega arith)
worker_at (x ∷ xs) zero d lt = refl
worker_at (x ∷ xs) (suc i) d lt = worker_at xs i d (omega arith)

pub worker_more : (xs : List Roomy) (v : Roomy) → map worker_of (xs ++ v ∷ []) ≡ map worker_of xs ++ v.worker ∷ []
worker_more [] v = refl
worker_more (x ∷ xs) v = ap (λ (l : List (Worker NodeKey)). x.worker ∷ l) (worker_more xs v)

module _ (P : Roomy → Type 0) where
  pub every_set : (xs : List Roomy) (i : ℕ) (v : Roomy) → Every P xs → P v → Every P (slice_set xs i v)
  every_set [] i v all new = tt
  every_set (x ∷ xs) zero v all new = (new, all.1)
  every_set (x ∷ xs) (suc i) v all new = (all.0, every_set xs i v all.1 new)

  pub every_at : (xs : List Roomy) (i : ℕ) (d : Roomy) → i < length xs → Every P xs → P (slice_index_or xs i d)
  every_at [] i d lt all = absurd (omega arith)
  every_at (x ∷ xs) zero d lt all = all.0
  every_at (x ∷ xs) (suc i) d lt all = every_at xs i d (omega arith) all.1

  first_suc : (xs : List Roomy) (i : ℕ) (v : Roomy) → i < length xs → Every P (take i xs) → P v → Every P (take (suc i) (slice_set xs i v))
  first_suc [] i v lt all new = absurd (omega arith)
  first_suc (x ∷ xs) zero v lt all new = (new, tt)
  first_suc (x ∷ xs) (suc i) v lt all new = (all.0, first_suc xs i v (omega arith) all.1 new)

  pub first_set : (xs : List Roomy) (i : ℕ) (v : Roomy) → i < length xs → Every P (take i xs) → P v → Every P (take (i + 1) (slice_set xs i v))
  first_set xs i v lt all new = let e : suc i ≡ i + 1 = omega arith in subst (λ (k : ℕ). Every P (take k (slice_set xs i v))) e (first_suc xs i v lt all new)

length_map : (xs : List Roomy) → length (map worker_of xs) ≡ length xs
length_map [] = refl
length_map (x ∷ xs) = omega (arith, length_map xs)

pub in_seats : {D : Type 0} (c : StateOver NodeKey D) (xs : List Roomy) (i : ℕ) → c.workers ≡ map worker_of xs → IsWorker c i → i < length xs
in_seats c xs i e lt = let less : i < length (map worker_of xs) = subst (λ (ws : List (Worker NodeKey)). i < length ws) e lt in omega (arith, less, length_map xs)

less_room : (xs : List Roomy) (few many : ℕ) → few ≤ many → Every (λ s. many ≤ s.room) xs → Every (λ s. few ≤ s.room) xs
less_room [] few many le all = tt
less_room (x ∷ xs) few many le all = (omega (arith, all.0), less_room xs few many le all.1)

pub room_kept : (xs : List Roomy) (i few many : ℕ) (old new : Roomy) → old ≡ slice_index_or xs i old → i < length xs → few ≤ many → old.room ≤ new.room → Every (λ s. many ≤ s.room) xs → Every (λ s. few ≤ s.room) (slice_set xs i new)
room_kept xs i few many old new at lt le more all =
    let here : many ≤ old.room = subst (λ (s : Roomy). many ≤ s.room) (sym at) (every_at (λ s. many ≤ s.room) xs i old lt all) in
    every_set (λ s. few ≤ s.room) xs i new (less_room xs few many le all) (omega (arith, here))

-- Of a state whose workers are those of the seats
module _ {D : Type 0} (c : StateOver NodeKey D) (xs : List Roomy) (e : c.workers ≡ map worker_of xs) (i : ℕ) (lt : i < length xs) where
  pub is_worker : IsWorker c i
  is_worker = subst (λ (ws : List (Worker NodeKey)). i < length ws) (sym e) (omega (arith, length_map xs))

  pub holds : (d : Roomy) → worker c i ≡ (slice_index_or xs i d).worker
  holds d = ap (λ (ws : List (Worker NodeKey)). slice_index_or ws i idle) e ∙ worker_at xs i d lt

  pub holds_it : (s : Roomy) → s ≡ slice_index_or xs i s → worker c i ≡ s.worker
  holds_it s at = holds s ∙ ap worker_of (sym at)

  pub now_holds : (d : StateOver NodeKey D) (v : Roomy) (w : Worker NodeKey) → v.worker ≡ w → d ≡ record c { workers = map worker_of (slice_set xs i v) } → d ≡ with_worker c i w
  now_holds d v w same is = is ∙ ap (λ (ws : List (Worker NodeKey)). record c { workers = ws }) (stored xs i v w same ∙ ap (λ (ws : List (Worker NodeKey)). slice_set ws i w) (sym e))

  pub loads_by : (d : StateOver NodeKey D) (old new : Roomy) → old ≡ slice_index_or xs i old → new.worker ≡ record old.worker { seen = Some c.word } → d ≡ record c { workers = map worker_of (slice_set xs i new) } → Loads c i d
  loads_by d old new at see is =
      let h : worker c i ≡ old.worker = holds old ∙ ap worker_of (sym at) in
      (is_worker, now_holds d new (record (worker c i) { seen = Some c.word }) (see ∙ ap (λ (w : Worker NodeKey). record w { seen = Some c.word }) (sym h)) is)

  pub pops_by : (d : StateOver NodeKey D) (old new : Roomy) → old ≡ slice_index_or xs i old → ((worker c i).hand ≡ None) × ((worker c i).made ≡ [])
      → ((n : NodeKey) × (rest : List NodeKey) × (old.worker.deque ≡ rest ++ n ∷ []) × (new.worker ≡ record old.worker { deque = rest; hand = Some n }))
      → d ≡ record c { workers = map worker_of (slice_set xs i new) } → Pops c i d
  pops_by d old new at free (n, rest, deque, pop) is =
      let h : worker c i ≡ old.worker = holds old ∙ ap worker_of (sym at) in (
        is_worker,
        free,
        (
          n,
          rest,
          ap (λ (w : Worker NodeKey). w.deque) h ∙ deque,
          now_holds d new (record (worker c i) { deque = rest; hand = Some n }) (pop ∙ ap (λ (w : Worker NodeKey). record w { deque = rest; hand = Some n }) (sym h)) is,
        ),
      )

  pub pushes_by : (d : StateOver NodeKey D) (old new : Roomy) → old ≡ slice_index_or xs i old
      → ((n : NodeKey) × (rest : List NodeKey) × (old.worker.made ≡ n ∷ rest) × (new.worker ≡ record old.worker { made = rest; deque = old.worker.deque ++ n ∷ [] }))
      → d ≡ record c { workers = map worker_of (slice_set xs i new) } → Pushes c i d
  pushes_by d old new at (n, rest, made, push) is =
      let h : worker c i ≡ old.worker = holds old ∙ ap worker_of (sym at) in (
        is_worker,
        (
          n,
          rest,
          ap (λ (w : Worker NodeKey). w.made) h ∙ made,
          now_holds d new (record (worker c i) { made = rest; deque = (worker c i).deque ++ n ∷ [] }) (push ∙ ap (λ (w : Worker NodeKey). record w { made = rest; deque = w.deque ++ n ∷ [] }) (sym h)) is,
        ),
      )

  -- one robs another, or itself: what it had in its deque is gone when it takes
  pub steals_by : (d : StateOver NodeKey D) (victim : ℕ) → victim < length xs → (old given taker new : Roomy) → old ≡ slice_index_or xs victim old
      → ((worker c i).hand ≡ None) × ((worker c i).made ≡ [])
      → ((n : NodeKey) × (rest : List NodeKey) × (old.worker.deque ≡ n ∷ rest) × (given.worker ≡ record old.worker { deque = rest })
      × (new.worker ≡ record taker.worker { hand = Some n }))
      → taker ≡ slice_index_or (slice_set xs victim given) i taker
      → d ≡ record c { workers = map worker_of (slice_set (slice_set xs victim given) i new) } → IsWorker c victim → worker c victim ≡ old.worker
      → Steals c i victim d
  steals_by d victim vlt old given taker new at free (n, rest, deque, give, takes) taker_at is vworker vh =
      let robbed : List Roomy = slice_set xs victim given in
      let gone : Worker NodeKey = record (worker c victim) { deque = rest } in
      let given_is : given.worker ≡ gone = give ∙ ap (λ (w : Worker NodeKey). record w { deque = rest }) (sym vh) in
      let b : StateOver NodeKey D = with_worker c victim gone in
      let be : b.workers ≡ map worker_of robbed = ap (λ (ws : List (Worker NodeKey)). slice_set ws victim gone) e ∙ sym (stored xs victim given gone given_is) in
      let blt : i < length (map worker_of robbed) = subst (λ (ws : List (Worker NodeKey)). i < length ws) be (omega (arith, length-set c.workers victim gone, is_worker)) in
      let th : worker b i ≡ taker.worker = ap (λ (ws : List (Worker NodeKey)). slice_index_or ws i idle) be ∙ (worker_at robbed i taker (omega (arith, blt, length_map robbed)) ∙ ap worker_of (sym taker_at)) in (
        is_worker,
        vworker,
        free,
        (
          n,
          rest,
          ap (λ (w : Worker NodeKey). w.deque) vh ∙ deque,
          is ∙ ap (λ (ws : List (Worker NodeKey)). record c { workers = ws })
              (stored robbed i new (record (worker b i) { hand = Some n }) (takes ∙ ap (λ (w : Worker NodeKey). record w { hand = Some n }) (sym th))
              ∙ ap (λ (ws : List (Worker NodeKey)). slice_set ws i (record (worker b i) { hand = Some n })) (sym be)),
        ),
      )

-- Of a state whose workers are those of the seats, and what one does with the node in its hand
module _ {D : Type 0} (c : StateOver NodeKey D) (xs : List Roomy) (e : c.workers ≡ map worker_of xs) (i : ℕ) (lt : i < length xs) (old new : Roomy) (at : old ≡ slice_index_or xs i old) where
  is_old : worker c i ≡ old.worker
  is_old = holds c xs e i lt old ∙ ap worker_of (sym at)

  pub draws_within : (d : StateOver NodeKey D) (n : NodeKey) → (worker c i).hand ≡ Some n → (worker c i).ticket ≡ false → c.drawn < c.budget → new.worker ≡ record old.worker { ticket = true }
      → d ≡ record c { workers = map worker_of (slice_set xs i new); drawn = c.drawn + 1 } → Draws c i d
  draws_within d n hand ticket less now is = (
    is_worker c xs e i lt,
    (
      n,
      hand,
      ticket,
      inl (less, now_holds (record c { drawn = c.drawn + 1 }) xs e i lt d new (record (worker c i) { ticket = true }) (now ∙ ap (λ (w : Worker NodeKey). record w { ticket = true }) (sym is_old)) is),
    ),
  )

  pub draws_past : (d : StateOver NodeKey D) (n : NodeKey) → (worker c i).hand ≡ Some n → (worker c i).ticket ≡ false → c.budget ≤ c.drawn → new.worker ≡ record old.worker { hand = None }
      → d ≡ record c { workers = map worker_of (slice_set xs i new); drawn = c.drawn + 1; left = c.left ++ n ∷ [] } → Draws c i d
  draws_past d n hand ticket most now is = (
    is_worker c xs e i lt,
    (
      n,
      hand,
      ticket,
      inr (most, now_holds (record c { drawn = c.drawn + 1; left = c.left ++ n ∷ [] }) xs e i lt d new (record (worker c i) { hand = None }) (now ∙ ap (λ (w : Worker NodeKey). record w { hand = None }) (sym is_old)) is),
    ),
  )

  pub ends_by : (d : StateOver NodeKey D) (n : NodeKey) (done : D) → (worker c i).hand ≡ Some n → new.worker ≡ record old.worker { hand = None; ticket = false }
      → d ≡ record c { workers = map worker_of (slice_set xs i new); ended = c.ended ++ done ∷ [] } → EndsHand c i n done d
  ends_by d n done hand now is = (
    is_worker c xs e i lt,
    hand,
    now_holds (record c { ended = c.ended ++ done ∷ [] }) xs e i lt d new (record (worker c i) { hand = None; ticket = false }) (now ∙ ap (λ (w : Worker NodeKey). record w { hand = None; ticket = false }) (sym is_old)) is,
  )

  pub divides_by : (d : StateOver NodeKey D) (n : NodeKey) (done : D) (first second : NodeKey) → (worker c i).hand ≡ Some n → new.worker ≡ record old.worker { hand = None; ticket = false; made = first ∷ second ∷ [] }
      → first ≡ Half (length c.ended) true → second ≡ Half (length c.ended) false
      → d ≡ record c { workers = map worker_of (slice_set xs i new); ended = c.ended ++ done ∷ [] } → HalvesHand c i n done d
  divides_by d n done first second hand now one two is = (
    is_worker c xs e i lt,
    hand,
    now_holds (record c { ended = c.ended ++ done ∷ [] }) xs e i lt d new (record (worker c i) { hand = None; ticket = false; made = Half (length c.ended) true ∷ Half (length c.ended) false ∷ [] })
        (now ∙ (ap (λ (w : Worker NodeKey). record w { hand = None; ticket = false; made = first ∷ second ∷ [] }) (sym is_old)
        ∙ (ap (λ (k : NodeKey). record (worker c i) { hand = None; ticket = false; made = k ∷ second ∷ [] }) one ∙ ap (λ (k : NodeKey). record (worker c i) { hand = None; ticket = false; made = Half (length c.ended) true ∷ k ∷ [] }) two))) is,
  )

pub length_more : (ks : List NodeKey) (k : NodeKey) → length (ks ++ k ∷ []) ≡ length ks + 1
length_more [] k = refl
length_more (x ∷ ks) k = omega (arith, length_more ks k)
