-- When an event is refused, and with which cause. The causes of each event stand in an order: a cause is told where those before it don't stand.
use Rattle.std.specs.Prelude.{◌≡◌, ℕ, ◌≤◌, ◌⊎◌, Bool, true, false, List, [], length, Some, None, pos, ◌+ℤ◌, ◌-ℤ◌, ◌*ℤ◌}
use Rattle.search_core.specs.declared.refused.Refused.{Refused}
use Rattle.search_core.specs.declared.refused.Refused.TheVariants.{NoWorker, HandFull, HandEmpty, DequeEmpty, HasTicket, NoTicket, NotSeen, BadEntry, NotFull, Short, NotFree, NoChild}
use Rattle.proof_trees.specs.Program.{Program}
use Rattle.proof_trees.specs.Multipliers.{Multipliers, Closes, worth}
use Rattle.proof_trees.specs.Trees.{Leaf, Entry}
use Rattle.search_core.specs.Journals.{branches, box_after, multipliers_after, NamesRows}
use Rattle.search_core.specs.Machine.{Node, StateOver, State, Event, Push, Pop, Steal, Load, Offer, Draw, Close, Divide, worker, IsWorker, HandFree, is_full, begins, IsEntry, Divides}

module _ {N H : Type 0} where
  abbrev pub NoSuchWorker : StateOver N H → ℕ → Type 0
  NoSuchWorker c i = length c.workers ≤ i

  -- the worker has no node in its hand; it has this one, with or without a ticket
  abbrev pub HandIsEmpty : StateOver N H → ℕ → Type 0
  HandIsEmpty c i = IsWorker c i × ((worker c i).hand ≡ None)

  abbrev pub Holding : StateOver N H → ℕ → N → Bool → Type 0
  Holding c i n ticket = IsWorker c i × ((worker c i).hand ≡ Some n) × ((worker c i).ticket ≡ ticket)

  abbrev pub RefusesPush : StateOver N H → ℕ → Refused → Type 0
  RefusesPush c i NoWorker = NoSuchWorker c i
  RefusesPush c i NoChild = IsWorker c i × ((worker c i).made ≡ [])
  RefusesPush c i r = ⊥

  abbrev pub RefusesPop : StateOver N H → ℕ → Refused → Type 0
  RefusesPop c i NoWorker = NoSuchWorker c i
  RefusesPop c i HandFull = IsWorker c i × (HandFree c i → ⊥)
  RefusesPop c i DequeEmpty = IsWorker c i × HandFree c i × ((worker c i).deque ≡ [])
  RefusesPop c i r = ⊥

  abbrev pub RefusesSteal : StateOver N H → ℕ → ℕ → Refused → Type 0
  RefusesSteal c i victim NoWorker = NoSuchWorker c i ⊎ NoSuchWorker c victim
  RefusesSteal c i victim HandFull = IsWorker c i × IsWorker c victim × (HandFree c i → ⊥)
  RefusesSteal c i victim DequeEmpty = IsWorker c i × IsWorker c victim × HandFree c i × ((worker c victim).deque ≡ [])
  RefusesSteal c i victim r = ⊥

  abbrev pub RefusesLoad : StateOver N H → ℕ → Refused → Type 0
  RefusesLoad c i NoWorker = NoSuchWorker c i
  RefusesLoad c i r = ⊥

  abbrev pub RefusesDraw : StateOver N H → ℕ → Refused → Type 0
  RefusesDraw c i NoWorker = NoSuchWorker c i
  RefusesDraw c i HandEmpty = HandIsEmpty c i
  RefusesDraw c i HasTicket = (n : N) × Holding c i n true
  RefusesDraw c i r = ⊥

module _ {R : Type 0} (same : R → R → Bool) (p : Program R) where
  -- the entry names rows of the program, keeps multipliers in range, and ends in a leaf, or in a branch
  abbrev pub IsLeafEntry : Node R → Entry R → Type 0
  IsLeafEntry n e = IsEntry same p (begins same p n) e × (e.end ≡ Leaf)

  abbrev pub IsBranchEntry : Node R → Entry R → Type 0
  IsBranchEntry n e = IsEntry same p (begins same p n) e × (branches e.end ≡ true)

  -- the dual value, and the least at which the leaf would close
  abbrev pub RefusesClose : State R → ℕ → Entry R → Refused → Type 0
  RefusesClose c i e NoWorker = NoSuchWorker c i
  RefusesClose c i e HandEmpty = HandIsEmpty c i
  RefusesClose c i e NoTicket = (n : Node R) × Holding c i n false
  RefusesClose c i e NotSeen = (n : Node R) × Holding c i n true × ((worker c i).seen ≡ None)
  RefusesClose c i e BadEntry = (n : Node R) × (u : ℕ) × Holding c i n true × ((worker c i).seen ≡ Some u) × (IsLeafEntry n e → ⊥)
  RefusesClose c i e (Short value needed) = (n : Node R) × (u : ℕ) × (ms : Multipliers R) × Holding c i n true × ((worker c i).seen ≡ Some u)
      × NamesRows same p e × (multipliers_after same p (begins same p n) e ≡ Some ms) × (e.end ≡ Leaf) × (Closes p (box_after same p (begins same p n) e) ms u → ⊥)
      × (value ≡ worth p (box_after same p (begins same p n) e) ms) × (needed ≡ (pos 16 *ℤ (pos u -ℤ pos 1)) +ℤ pos 1)
  RefusesClose c i e r = ⊥

  abbrev pub RefusesDivide : State R → ℕ → Entry R → Refused → Type 0
  RefusesDivide c i e NoWorker = NoSuchWorker c i
  RefusesDivide c i e HandEmpty = HandIsEmpty c i
  RefusesDivide c i e NoTicket = (n : Node R) × Holding c i n false
  RefusesDivide c i e BadEntry = (n : Node R) × Holding c i n true × (IsBranchEntry n e → ⊥)
  RefusesDivide c i e NotFree = (n : Node R) × Holding c i n true × IsBranchEntry n e × (Divides p (box_after same p (begins same p n) e) e.end → ⊥)
  RefusesDivide c i e r = ⊥

module _ {R : Type 0} (same : R → R → Bool) (p : Program R) (base : List R) where
  abbrev pub RefusesOffer : State R → ℕ → Entry R → Refused → Type 0
  RefusesOffer c i e NoWorker = NoSuchWorker c i
  RefusesOffer c i e HandEmpty = HandIsEmpty c i
  RefusesOffer c i e NoTicket = (n : Node R) × Holding c i n false
  RefusesOffer c i e BadEntry = (n : Node R) × Holding c i n true × (IsLeafEntry same p n e → ⊥)
  RefusesOffer c i e NotFull = (n : Node R) × Holding c i n true × IsLeafEntry same p n e × (is_full p base (box_after same p (begins same p n) e) ≡ false)
  RefusesOffer c i e r = ⊥

  -- the event is refused with this cause
  abbrev pub Refuses : State R → Event R → Refused → Type 0
  Refuses c (Push i) r = RefusesPush c i r
  Refuses c (Pop i) r = RefusesPop c i r
  Refuses c (Steal i victim) r = RefusesSteal c i victim r
  Refuses c (Load i) r = RefusesLoad c i r
  Refuses c (Offer i e) r = RefusesOffer c i e r
  Refuses c (Draw i) r = RefusesDraw c i r
  Refuses c (Close i e) r = RefusesClose same p c i e r
  Refuses c (Divide i e) r = RefusesDivide same p c i e r
