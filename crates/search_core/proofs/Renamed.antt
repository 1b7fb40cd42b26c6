-- Events keep to other nodes in place of those that they speak of.
use Rattle.std.proofs.Common.{◌≡◌, inl, inr, ℕ, zero, suc, ◌+◌, ◌<◌, ◌≤◌, true, false, List, [], ◌∷◌, ◌++◌, map, length, slice_index_or, slice_set, Option, Some, None, option_map, refl, sym, ap, ◌∙◌, arith}
use Rattle.search_core.specs.Machine.{Worker, StateOver, idle, worker, with_worker, takes, IsWorker, HandFree, Pushes, Pops, Steals, Loads, Draws}
use Rattle.search_core.specs.Refusals.{NoSuchWorker, RefusesPush, RefusesPop, RefusesSteal, RefusesLoad, RefusesDraw}
use Rattle.search_core.specs.declared.refused.Refused.{Refused}
use Rattle.search_core.specs.declared.refused.Refused.TheVariants.{NoWorker, HandFull, HandEmpty, DequeEmpty, HasTicket, NoTicket, NotSeen, BadEntry, NotFull, Short, NotFree, NoChild}
use Rattle.search_core.specs.Told.{worker_as, state_as}

pub map_append : {A B : Type 0} (f : A → B) (xs ys : List A) → map f (xs ++ ys) ≡ map f xs ++ map f ys
map_append f [] ys = refl
map_append f (x ∷ xs) ys = ap (λ (l : List _). f x ∷ l) (map_append f xs ys)

pub map_length : {A B : Type 0} (f : A → B) (xs : List A) → length (map f xs) ≡ length xs
map_length f [] = refl
map_length f (x ∷ xs) = omega (arith, map_length f xs)

pub map_stored : {A B : Type 0} (f : A → B) (xs : List A) (i : ℕ) (a : A) → map f (slice_set xs i a) ≡ slice_set (map f xs) i (f a)
map_stored f [] i a = refl
map_stored f (x ∷ xs) zero a = refl
map_stored f (x ∷ xs) (suc i) a = ap (λ (l : List _). f x ∷ l) (map_stored f xs i a)

pub map_at : {A B : Type 0} (f : A → B) (xs : List A) (i : ℕ) (d : A) → slice_index_or (map f xs) i (f d) ≡ f (slice_index_or xs i d)
map_at f [] i d = refl
map_at f (x ∷ xs) zero d = refl
map_at f (x ∷ xs) (suc i) d = map_at f xs i d

none_back : {N M : Type 0} (f : N → M) (o : Option N) → option_map f o ≡ None → o ≡ None
none_back f None e = refl
none_back f (Some n) e = absurd (cc)

empty_back : {N M : Type 0} (f : N → M) (ns : List N) → map f ns ≡ [] → ns ≡ []
empty_back f [] e = refl
empty_back f (n ∷ ns) e = absurd (cc)

module _ {N M G H : Type 0} (f : N → M) (hs : List H) where
  abbrev pub renamed : StateOver N G → StateOver M H
  renamed c = state_as f hs c

  pub worker_is : (c : StateOver N G) (i : ℕ) → worker (renamed c) i ≡ worker_as f (worker c i)
  worker_is c i = map_at (worker_as f) c.workers i idle

  pub is_worker : (c : StateOver N G) (i : ℕ) → IsWorker c i → IsWorker (renamed c) i
  is_worker c i lt = let less : i < length c.workers = lt in omega (arith, less, map_length (worker_as f) c.workers)

  pub set_is : (c : StateOver N G) (i : ℕ) (w : Worker N) (v : Worker M) → worker_as f w ≡ v → renamed (with_worker c i w) ≡ with_worker (renamed c) i v
  set_is c i w v e = ap (λ (ws : List (Worker M)). record (renamed c) { workers = ws }) (map_stored (worker_as f) c.workers i w ∙ ap (λ (v : Worker M). slice_set (map (worker_as f) c.workers) i v) e)

  pub hand_is : (c : StateOver N G) (i : ℕ) (o : Option N) → (worker c i).hand ≡ o → (worker (renamed c) i).hand ≡ option_map f o
  hand_is c i o e = ap (λ (w : Worker M). w.hand) (worker_is c i) ∙ ap (option_map f) e

  pub deque_is : (c : StateOver N G) (i : ℕ) (ns : List N) → (worker c i).deque ≡ ns → (worker (renamed c) i).deque ≡ map f ns
  deque_is c i ns e = ap (λ (w : Worker M). w.deque) (worker_is c i) ∙ ap (map f) e

  pub made_is : (c : StateOver N G) (i : ℕ) (ns : List N) → (worker c i).made ≡ ns → (worker (renamed c) i).made ≡ map f ns
  made_is c i ns e = ap (λ (w : Worker M). w.made) (worker_is c i) ∙ ap (map f) e

  pub free_is : (c : StateOver N G) (i : ℕ) → HandFree c i → HandFree (renamed c) i
  free_is c i free = (hand_is c i None free.0, made_is c i [] free.1)

  pub loads : (c : StateOver N G) (i : ℕ) → IsWorker c i → Loads (renamed c) i (renamed (with_worker c i (record (worker c i) { seen = Some c.word })))
  loads c i lt = (is_worker c i lt, set_is c i (record (worker c i) { seen = Some c.word }) (record (worker (renamed c) i) { seen = Some c.word }) (ap (λ (w : Worker M). record w { seen = Some c.word }) (sym (worker_is c i))))

  pub pops : (c : StateOver N G) (i : ℕ) → IsWorker c i → HandFree c i → (n : N) (rest : List N) → (worker c i).deque ≡ rest ++ n ∷ []
      → Pops (renamed c) i (renamed (with_worker c i (record (worker c i) { deque = rest; hand = Some n })))
  pops c i lt free n rest e = (
    is_worker c i lt,
    free_is c i free,
    (
      f n,
      map f rest,
      deque_is c i (rest ++ n ∷ []) e ∙ map_append f rest (n ∷ []),
      set_is c i (record (worker c i) { deque = rest; hand = Some n }) (record (worker (renamed c) i) { deque = map f rest; hand = Some (f n) }) (ap (λ (w : Worker M). record w { deque = map f rest; hand = Some (f n) }) (sym (worker_is c i))),
    ),
  )

  pub pushes : (c : StateOver N G) (i : ℕ) → IsWorker c i → (n : N) (rest : List N) → (worker c i).made ≡ n ∷ rest
      → Pushes (renamed c) i (renamed (with_worker c i (record (worker c i) { made = rest; deque = (worker c i).deque ++ n ∷ [] })))
  pushes c i lt n rest e = (
    is_worker c i lt,
    (
      f n,
      map f rest,
      made_is c i (n ∷ rest) e,
      set_is c i (record (worker c i) { made = rest; deque = (worker c i).deque ++ n ∷ [] }) (record (worker (renamed c) i) { made = map f rest; deque = (worker (renamed c) i).deque ++ f n ∷ [] })
          (ap (λ (ns : List M). record (worker_as f (worker c i)) { made = map f rest; deque = ns }) (map_append f (worker c i).deque (n ∷ []))
          ∙ ap (λ (w : Worker M). record w { made = map f rest; deque = w.deque ++ f n ∷ [] }) (sym (worker_is c i))),
    ),
  )

  pub steals : (c : StateOver N G) (i victim : ℕ) → IsWorker c i → IsWorker c victim → HandFree c i → (n : N) (rest : List N) → (worker c victim).deque ≡ n ∷ rest
      → Steals (renamed c) i victim (renamed (takes (with_worker c victim (record (worker c victim) { deque = rest })) i n))
  steals c i victim lt vlt free n rest e =
      let gone : Worker N = record (worker c victim) { deque = rest } in
      let left : Worker M = record (worker (renamed c) victim) { deque = map f rest } in
      let b : StateOver N G = with_worker c victim gone in
      let robbed : renamed b ≡ with_worker (renamed c) victim left = set_is c victim gone left (ap (λ (w : Worker M). record w { deque = map f rest }) (sym (worker_is c victim))) in (
        is_worker c i lt,
        is_worker c victim vlt,
        free_is c i free,
        (
          f n,
          map f rest,
          deque_is c victim (n ∷ rest) e,
          set_is b i (record (worker b i) { hand = Some n }) (record (worker (renamed b) i) { hand = Some (f n) }) (ap (λ (w : Worker M). record w { hand = Some (f n) }) (sym (worker_is b i)))
              ∙ ap (λ (s : StateOver M H). takes s i (f n)) robbed,
        ),
      )

  pub draws_within : (c : StateOver N G) (i : ℕ) → IsWorker c i → (n : N) → (worker c i).hand ≡ Some n → (worker c i).ticket ≡ false → c.drawn < c.budget
      → Draws (renamed c) i (renamed (with_worker (record c { drawn = c.drawn + 1 }) i (record (worker c i) { ticket = true })))
  draws_within c i lt n hand ticket less = (
    is_worker c i lt,
    (
      f n,
      hand_is c i (Some n) hand,
      ap (λ (w : Worker M). w.ticket) (worker_is c i) ∙ ticket,
      inl (less, set_is (record c { drawn = c.drawn + 1 }) i (record (worker c i) { ticket = true }) (record (worker (renamed c) i) { ticket = true }) (ap (λ (w : Worker M). record w { ticket = true }) (sym (worker_is c i)))),
    ),
  )

  pub draws_past : (c : StateOver N G) (i : ℕ) → IsWorker c i → (n : N) → (worker c i).hand ≡ Some n → (worker c i).ticket ≡ false → c.budget ≤ c.drawn
      → Draws (renamed c) i (renamed (with_worker (record c { drawn = c.drawn + 1; left = c.left ++ n ∷ [] }) i (record (worker c i) { hand = None })))
  draws_past c i lt n hand ticket most = (
    is_worker c i lt,
    (
      f n,
      hand_is c i (Some n) hand,
      ap (λ (w : Worker M). w.ticket) (worker_is c i) ∙ ticket,
      inr (
        most,
        set_is (record c { drawn = c.drawn + 1; left = c.left ++ n ∷ [] }) i (record (worker c i) { hand = None }) (record (worker (renamed c) i) { hand = None }) (ap (λ (w : Worker M). record w { hand = None }) (sym (worker_is c i)))
            ∙ ap (λ (ns : List M). with_worker (record (renamed c) { drawn = c.drawn + 1; left = ns }) i (record (worker (renamed c) i) { hand = None })) (map_append f c.left (n ∷ [])),
      ),
    ),
  )

  pub no_worker : (c : StateOver N G) (i : ℕ) → NoSuchWorker c i → NoSuchWorker (renamed c) i
  no_worker c i le = let most : length c.workers ≤ i = le in omega (arith, most, map_length (worker_as f) c.workers)

  not_free : (c : StateOver N G) (i : ℕ) → (HandFree c i → ⊥) → HandFree (renamed c) i → ⊥
  not_free c i full free = full (
    none_back f (worker c i).hand (sym (ap (λ (w : Worker M). w.hand) (worker_is c i)) ∙ free.0),
    empty_back f (worker c i).made (sym (ap (λ (w : Worker M). w.made) (worker_is c i)) ∙ free.1),
  )

  pub refused_push : (c : StateOver N G) (i : ℕ) (cause : Refused) → RefusesPush c i cause → RefusesPush (renamed c) i cause
  refused_push c i NoWorker h = no_worker c i h
  refused_push c i HandFull h = h
  refused_push c i HandEmpty h = h
  refused_push c i DequeEmpty h = h
  refused_push c i HasTicket h = h
  refused_push c i NoTicket h = h
  refused_push c i NotSeen h = h
  refused_push c i BadEntry h = h
  refused_push c i NotFull h = h
  refused_push c i (Short value needed) h = h
  refused_push c i NotFree h = h
  refused_push c i NoChild h = (is_worker c i h.0, made_is c i [] h.1)

  pub refused_pop : (c : StateOver N G) (i : ℕ) (cause : Refused) → RefusesPop c i cause → RefusesPop (renamed c) i cause
  refused_pop c i NoWorker h = no_worker c i h
  refused_pop c i HandFull h = (is_worker c i h.0, not_free c i h.1)
  refused_pop c i HandEmpty h = h
  refused_pop c i DequeEmpty h = (is_worker c i h.0, free_is c i h.1, deque_is c i [] h.2)
  refused_pop c i HasTicket h = h
  refused_pop c i NoTicket h = h
  refused_pop c i NotSeen h = h
  refused_pop c i BadEntry h = h
  refused_pop c i NotFull h = h
  refused_pop c i (Short value needed) h = h
  refused_pop c i NotFree h = h
  refused_pop c i NoChild h = h

  pub refused_steal : (c : StateOver N G) (i victim : ℕ) (cause : Refused) → RefusesSteal c i victim cause → RefusesSteal (renamed c) i victim cause
  refused_steal c i victim NoWorker h = elim h [ inl k ↦ inl (no_worker c i k) | inr k ↦ inr (no_worker c victim k) ]
  refused_steal c i victim HandFull h = (is_worker c i h.0, is_worker c victim h.1, not_free c i h.2)
  refused_steal c i victim HandEmpty h = h
  refused_steal c i victim DequeEmpty h = (is_worker c i h.0, is_worker c victim h.1, free_is c i h.2, deque_is c victim [] h.3)
  refused_steal c i victim HasTicket h = h
  refused_steal c i victim NoTicket h = h
  refused_steal c i victim NotSeen h = h
  refused_steal c i victim BadEntry h = h
  refused_steal c i victim NotFull h = h
  refused_steal c i victim (Short value needed) h = h
  refused_steal c i victim NotFree h = h
  refused_steal c i victim NoChild h = h

  pub refused_load : (c : StateOver N G) (i : ℕ) (cause : Refused) → RefusesLoad c i cause → RefusesLoad (renamed c) i cause
  refused_load c i NoWorker h = no_worker c i h
  refused_load c i HandFull h = h
  refused_load c i HandEmpty h = h
  refused_load c i DequeEmpty h = h
  refused_load c i HasTicket h = h
  refused_load c i NoTicket h = h
  refused_load c i NotSeen h = h
  refused_load c i BadEntry h = h
  refused_load c i NotFull h = h
  refused_load c i (Short value needed) h = h
  refused_load c i NotFree h = h
  refused_load c i NoChild h = h

  pub refused_draw : (c : StateOver N G) (i : ℕ) (cause : Refused) → RefusesDraw c i cause → RefusesDraw (renamed c) i cause
  refused_draw c i NoWorker h = no_worker c i h
  refused_draw c i HandFull h = h
  refused_draw c i HandEmpty h = (is_worker c i h.0, hand_is c i None h.1)
  refused_draw c i DequeEmpty h = h
  refused_draw c i HasTicket h = (f h.0, (is_worker c i h.1.0, hand_is c i (Some h.0) h.1.1, ap (λ (w : Worker M). w.ticket) (worker_is c i) ∙ h.1.2))
  refused_draw c i NoTicket h = h
  refused_draw c i NotSeen h = h
  refused_draw c i BadEntry h = h
  refused_draw c i NotFull h = h
  refused_draw c i (Short value needed) h = h
  refused_draw c i NotFree h = h
  refused_draw c i NoChild h = h
