-- The deques of a rack as tokens are dealt and come back. No public clause cites this module.
use Rattle.std.specs.Prelude.{◌≡◌, ℕ, ◌+◌, ◌≤◌, All, length, List, [], ◌∷◌}
use Rattle.std.specs.declared.alloc.Global.{Global}
use Rattle.atomic_blocks.specs.Lent.{RowsId}
use Rattle.crossbeam_deque.specs.Handles.{Pass, IsPassOf, worker_deque, worker_flavor, worker_view, worker_capacity, worker_index, stealer_deque, stealer_flavor, view}
use Rattle.crossbeam_deque.specs.declared.handles.Worker.{Worker}
use Rattle.crossbeam_deque.specs.declared.handles.Stealer.{Stealer}
use Rattle.certificate.specs.declared.nodes.Node.{Node}
use Rattle.shared_search.specs.declared.rule.Hand.{Hand}
use Rattle.shared_search.specs.declared.rule.Fair.{Fair}
use Rattle.shared_search.specs.declared.racks.Pass.{Pass as Passes}
use Rattle.search_core.specs.Bags.{weigh, Every}
use Rattle.shared_search.specs.Bags.{hand}

module _ {A P : Type 0} where
  -- the deque's own pass holds so many parts
  abbrev pub IsHeld : ℕ → Worker Node A Hand P → Type 0
  IsHeld n w = (worker_flavor w ≡ 1) × ((worker_view {V = Hand} w).parts ≡ n)

  -- and it has put and taken nothing, with room for so many puts
  abbrev pub IsUnused : ℕ → ℕ → Worker Node A Hand P → Type 0
  IsUnused room n w = (worker_flavor w ≡ 1) × (worker_view {V = Hand} w ≡ hand n [] []) × (worker_index w ≡ 0) × (room ≤ worker_capacity w)

  abbrev pub deques : List (Worker Node A Hand P) → List (RowsId × A)
  deques [] = []
  deques (w ∷ ws) = worker_deque w ∷ deques ws

  -- the deques that thieves steal from
  abbrev pub stolen_from : List (Stealer Node A Hand P) → List (RowsId × A)
  stolen_from [] = []
  stolen_from (t ∷ ts) = stealer_deque t ∷ stolen_from ts

  abbrev pub AreLifo : List (Stealer Node A Hand P) → Type 0
  AreLifo ts = Every (λ t. stealer_flavor t ≡ 1) ts

  abbrev pub own_put : (Node → ℕ) → List (Worker Node A Hand P) → ℕ
  own_put h [] = 0
  own_put h (w ∷ ws) = weigh h (worker_view {V = Hand} w).put + own_put h ws

  abbrev pub own_took : (Node → ℕ) → List (Worker Node A Hand P) → ℕ
  own_took h [] = 0
  own_took h (w ∷ ws) = weigh h (worker_view {V = Hand} w).took + own_took h ws

module _ {A : Type 0} where
  -- a token of this deque, with one part, that has put nothing
  abbrev pub Fits : RowsId × A → Pass Node Hand A → Type 0
  Fits d t = IsPassOf d t × ((view {V = Hand} t).parts ≡ 1) × ((view {V = Hand} t).put ≡ [])

  -- and that has taken nothing
  abbrev pub FitsNew : RowsId × A → Pass Node Hand A → Type 0
  FitsNew d t = IsPassOf d t × (view {V = Hand} t ≡ hand 1 [] [])

-- the deque of a pass, and its tokens
abbrev pub own_of : {M : Type 0} → Passes M → Worker Node Global Hand (Fair M)
own_of s = s.own

abbrev pub row_of : {M : Type 0} → Passes M → List (Pass Node Hand Global)
row_of s = s.tokens.items

-- so many counts, all 0
abbrev pub AreNone : ℕ → List ℕ → Type 0
AreNone n counts = (length counts ≡ n) × All (λ k. k ≡ 0) counts

abbrev pub HasNoMiss : {M : Type 0} → ℕ → Passes M → Type 0
HasNoMiss n s = AreNone n s.misses.items
