use Rattle.std.proofs.Common.{[], Some, None, ap, ◌∙◌}
use Rattle.search_core.specs.Machine.{Worker}
use Rattle.search_core.specs.Told.{told, node_of}
use Rattle.search_core.proofs.Renamed
use Rattle.search_core.proofs.Earlier
use Rattle.search_core.proofs.laws.held_keys_are_held_nodes.Goals as goal

pub returns-clause-none : goal.returns-clause-none
returns-clause-none g c = λ entry s i h. Renamed.no_worker (node_of (told entry s.ended)) (told entry s.ended) s i h

pub returns-clause-free : goal.returns-clause-free
returns-clause-free g c = λ entry s i h. (Renamed.is_worker (node_of (told entry s.ended)) (told entry s.ended) s i h.0, Renamed.hand_is (node_of (told entry s.ended)) (told entry s.ended) s i None h.1)

pub returns-clause-held : goal.returns-clause-held
returns-clause-held g c = λ entry s i n ticket h. (
  Renamed.is_worker (node_of (told entry s.ended)) (told entry s.ended) s i h.0,
  Renamed.hand_is (node_of (told entry s.ended)) (told entry s.ended) s i (Some n) h.1,
  ap (λ (w : Worker _). w.ticket) (Renamed.worker_is (node_of (told entry s.ended)) (told entry s.ended) s i) ∙ h.2,
)

pub returns-clause-seen : goal.returns-clause-seen
returns-clause-seen g c = λ entry s i. ap (λ (w : Worker _). w.seen) (Renamed.worker_is (node_of (told entry s.ended)) (told entry s.ended) s i)

pub returns-clause-made : goal.returns-clause-made
returns-clause-made g c = λ entry s i h. Renamed.made_is (node_of (told entry s.ended)) (told entry s.ended) s i [] h

pub returns-clause-named : goal.returns-clause-named
returns-clause-named g c = λ s i n stand h. Earlier.in_hand s i n stand h
