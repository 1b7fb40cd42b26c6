-- A rack of deques, and the pass of one worker.
use Rattle.std.specs.Prelude.{◌≡◌, ℕ, zero, suc, ◌+◌, ◌<◌, ◌≤◌, ◌⊎◌, List, [], ◌∷◌, length, map, All, slice_index_or}
use Rattle.crossbeam_deque.specs.Handles.{Pass, view, taken, IsPassOf, worker_flavor, worker_view, worker_deque, worker_capacity, worker_index, stealer_deque, stealer_flavor}
use Rattle.certificate.specs.declared.nodes.Node.{Node}
use Rattle.shared_search.specs.declared.rule.Hand.{Hand}
use Rattle.shared_search.specs.declared.racks.Rack.{Rack}
use Rattle.shared_search.specs.declared.racks.Pass.{Pass as Passes}
use Rattle.search_core.specs.Bags.{weigh}
use Rattle.shared_search.specs.Bags.{Found}

module _ {A : Type 0} where
  abbrev pub stolen_weight : (Node → ℕ) → List (Pass Node Hand A) → ℕ
  stolen_weight h [] = 0
  stolen_weight h (t ∷ ts) = weigh h (view t).took + stolen_weight h ts

-- how many puts of a pass at least aren't refused
abbrev pub room_at : {M : Type 0} → Rack M → ℕ
room_at r = r.room

-- the nodes that the pass put on its own deque, in order
abbrev pub puts_of : {M : Type 0} → Passes M → List Node
puts_of s = (worker_view {V = Hand} s.own).put

-- for each deque, how often the pass found it with nothing to take
abbrev pub misses_of : {M : Type 0} → Passes M → List ℕ
misses_of s = s.misses.items

abbrev pub took_weight : {M : Type 0} → (Node → ℕ) → Passes M → ℕ
took_weight h s = weigh h (worker_view s.own).took + stolen_weight h s.tokens.items

pub record IsPassAt {M : Type 0} (r : Rack M) (s : Passes M) : Type 0 where
  pub number : s.number < length r.thieves.items
  pub tokens : length s.tokens.items ≡ length r.thieves.items
  pub flavor : worker_flavor s.own ≡ 1
  pub parts : (worker_view s.own).parts + length r.thieves.items ≡ 1024
  pub few : length r.thieves.items ≤ 16
  pub deque : (d : _) → worker_deque s.own ≡ stealer_deque (slice_index_or r.thieves.items s.number d)
  pub flavors : All (λ t. stealer_flavor t ≡ 1) r.thieves.items
  pub belong : (k : ℕ) (d : _) (e : _) → k < length r.thieves.items → IsPassOf (stealer_deque (slice_index_or r.thieves.items k d)) (slice_index_or s.tokens.items k e)
  pub shares : All (λ t. (view {V = Hand} t).parts ≡ 1) s.tokens.items
  pub idle : All (λ t. (view {V = Hand} t).put ≡ []) s.tokens.items
  -- a count of empty finds for each deque
  pub counts : length (misses_of s) ≡ length r.thieves.items
  -- what the deque has room for, and that its index is at most the number of puts
  pub room : room_at r ≤ worker_capacity s.own
  pub index : worker_index s.own ≤ length (worker_view {V = Hand} s.own).put

-- at a moment of the call the pass's own deque was empty
abbrev pub FoundEmpty : {M : Type 0} → (Node → Type 0) → Passes M → Type 0
FoundEmpty meets s = Found meets 0 (worker_view s.own)

-- at a moment of the call the deque of this number held at most one node; or so often another thief was before
abbrev pub FoundFew : {M : Type 0} → (Node → Type 0) → ℕ → Passes M → Passes M → Type 0
FoundFew meets k s t = (d : _) → Found meets 1 (view (slice_index_or s.tokens.items k d)) ⊎ (taken (slice_index_or s.tokens.items k d) + 18446744073709551615 ≤ taken (slice_index_or t.tokens.items k d))

-- a pass that has put and taken nothing, and never looked for something
abbrev pub IsFresh : {M : Type 0} → Passes M → Type 0
IsFresh s = ((worker_view s.own).put ≡ []) × ((h : Node → ℕ) → took_weight h s ≡ 0) × All (λ n. n ≡ 0) (misses_of s)

-- ## Of several passes

abbrev pub number_of : {M : Type 0} → Passes M → ℕ
number_of s = s.number

-- the n numbers from k on
abbrev pub count_from : ℕ → ℕ → List ℕ
count_from k zero = []
count_from k (suc n) = k ∷ count_from (k + 1) n

-- all passes of a rack, in order
abbrev pub AreAll : {M : Type 0} → Rack M → List (Passes M) → Type 0
AreAll r ss = map number_of ss ≡ count_from 0 (length r.thieves.items)

-- what they put, and what they took, weighed
abbrev pub put_weight : {M : Type 0} → (Node → ℕ) → Passes M → ℕ
put_weight {M} h s = weigh h (puts_of s)

abbrev pub all_put : {M : Type 0} → (Node → ℕ) → List (Passes M) → ℕ
all_put h ss = weigh (put_weight h) ss

abbrev pub all_took : {M : Type 0} → (Node → ℕ) → List (Passes M) → ℕ
all_took h ss = weigh (took_weight h) ss
