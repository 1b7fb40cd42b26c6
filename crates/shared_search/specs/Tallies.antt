-- What each worker of a rack put and took.
use Rattle.std.specs.Prelude.{ℕ, ◌++◌, List, [], ◌∷◌, map}
use Rattle.crossbeam_deque.specs.Handles.{Pass, view, worker_view}
use Rattle.certificate.specs.declared.nodes.Node.{Node}
use Rattle.shared_search.specs.declared.rule.Hand.{Hand}
use Rattle.shared_search.specs.declared.racks.Pass.{Pass as Passes}
use Rattle.shared_search.specs.declared.tally.Did.{Did}
use Rattle.shared_search.specs.declared.tally.Known.{Known}
use Rattle.shared_search.specs.declared.tally.Tally.{Tally}

-- the nodes that were taken with these tokens
abbrev pub stolen : {A : Type 0} → List (Pass Node Hand A) → List Node
stolen [] = []
stolen (t ∷ ts) = (view t).took ++ stolen ts

-- what the worker with this pass put and took
abbrev pub did_of : {M : Type 0} → Passes M → Did
did_of s = record { put = (worker_view {V = Hand} s.own).put; took = (worker_view {V = Hand} s.own).took ++ stolen s.tokens.items }

abbrev pub did_by : Known → Did
did_by k = record { put = (view {V = Hand} k.own.value).put; took = (view {V = Hand} k.own.value).took ++ stolen k.stolen.value.items }

-- what each worker put and took, in order
abbrev pub workers_of : Tally → List Did
workers_of t = map did_by t.workers.items

-- how many puts of each weren't refused
abbrev pub room_of : Tally → ℕ
room_of t = t.room
