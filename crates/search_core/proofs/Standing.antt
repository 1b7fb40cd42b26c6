-- What events do to keys, they do to the nodes that keys stand for.
use Rattle.std.proofs.Common.{◌≡◌, inl, inr, ℕ, zero, suc, false, List, [], ◌∷◌, map, replicate, None, refl, sym, subst, ap}
use Rattle.proof_trees.specs.Trees.{Entry}
use Rattle.search_core.specs.Machine.{Worker, StateOver, Node, root_node, idle, begin, begin_with, Pushes, Pops, Steals, Loads, Draws}
use Rattle.search_core.specs.declared.node_keys.NodeKey.{NodeKey}
use Rattle.search_core.specs.declared.node_keys.NodeKey.TheVariants.{Root}
use Rattle.search_core.specs.declared.records.Done.{Done}
use Rattle.search_core.specs.Told.{told, node_of, state_of, worker_as}
use Rattle.search_core.proofs.Renamed

idle_workers : {R : Type 0} (n : ℕ) → map (worker_as (node_of {R = R} [])) (replicate n idle) ≡ replicate n idle
idle_workers zero = refl
idle_workers {R} (suc n) = ap (λ (l : List (Worker (Node R))). idle ∷ l) (idle_workers n)

module _ {T R : Type 0} where
  pub begins : (entry : T → Entry R) (workers start budget : ℕ) → state_of entry (begin_with Root workers start budget) ≡ begin workers start budget
  begins entry zero start budget = refl
  begins entry (suc n) start budget = ap (λ (l : List (Worker (Node R))). record (begin {R = R} (suc n) start budget) { workers = record { deque = root_node ∷ []; hand = None; made = []; seen = None; ticket = false } ∷ l }) (idle_workers n)

  pub pushes : (entry : T → Entry R) (c d : StateOver NodeKey (Done T)) (i : ℕ) → Pushes c i d → Pushes (state_of entry c) i (state_of entry d)
  pushes entry c d i (lt, (n, rest, made, is)) = subst (λ (s : StateOver NodeKey (Done T)). Pushes (state_of entry c) i (state_of entry s)) (sym is) (Renamed.pushes (node_of (told entry c.ended)) (told entry c.ended) c i lt n rest made)

  pub pops : (entry : T → Entry R) (c d : StateOver NodeKey (Done T)) (i : ℕ) → Pops c i d → Pops (state_of entry c) i (state_of entry d)
  pops entry c d i (lt, free, (n, rest, deque, is)) = subst (λ (s : StateOver NodeKey (Done T)). Pops (state_of entry c) i (state_of entry s)) (sym is) (Renamed.pops (node_of (told entry c.ended)) (told entry c.ended) c i lt free n rest deque)

  pub steals : (entry : T → Entry R) (c d : StateOver NodeKey (Done T)) (i victim : ℕ) → Steals c i victim d → Steals (state_of entry c) i victim (state_of entry d)
  steals entry c d i victim (lt, vlt, free, (n, rest, deque, is)) = subst (λ (s : StateOver NodeKey (Done T)). Steals (state_of entry c) i victim (state_of entry s)) (sym is) (Renamed.steals (node_of (told entry c.ended)) (told entry c.ended) c i victim lt vlt free n rest deque)

  pub loads : (entry : T → Entry R) (c d : StateOver NodeKey (Done T)) (i : ℕ) → Loads c i d → Loads (state_of entry c) i (state_of entry d)
  loads entry c d i (lt, is) = subst (λ (s : StateOver NodeKey (Done T)). Loads (state_of entry c) i (state_of entry s)) (sym is) (Renamed.loads (node_of (told entry c.ended)) (told entry c.ended) c i lt)

  pub draws : (entry : T → Entry R) (c d : StateOver NodeKey (Done T)) (i : ℕ) → Draws c i d → Draws (state_of entry c) i (state_of entry d)
  draws entry c d i (lt, (n, hand, ticket, inl (less, is))) = subst (λ (s : StateOver NodeKey (Done T)). Draws (state_of entry c) i (state_of entry s)) (sym is) (Renamed.draws_within (node_of (told entry c.ended)) (told entry c.ended) c i lt n hand ticket less)
  draws entry c d i (lt, (n, hand, ticket, inr (most, is))) = subst (λ (s : StateOver NodeKey (Done T)). Draws (state_of entry c) i (state_of entry s)) (sym is) (Renamed.draws_past (node_of (told entry c.ended)) (told entry c.ended) c i lt n hand ticket most)
