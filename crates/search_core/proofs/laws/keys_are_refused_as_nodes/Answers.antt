use Rattle.search_core.specs.Told.{told, node_of}
use Rattle.search_core.proofs.Renamed
use Rattle.search_core.proofs.laws.keys_are_refused_as_nodes.Goals as goal

pub returns-clause-push : goal.returns-clause-push
returns-clause-push g c = λ entry s i cause h. Renamed.refused_push (node_of (told entry s.ended)) (told entry s.ended) s i cause h

pub returns-clause-pop : goal.returns-clause-pop
returns-clause-pop g c = λ entry s i cause h. Renamed.refused_pop (node_of (told entry s.ended)) (told entry s.ended) s i cause h

pub returns-clause-steal : goal.returns-clause-steal
returns-clause-steal g c = λ entry s i victim cause h. Renamed.refused_steal (node_of (told entry s.ended)) (told entry s.ended) s i victim cause h

pub returns-clause-load : goal.returns-clause-load
returns-clause-load g c = λ entry s i cause h. Renamed.refused_load (node_of (told entry s.ended)) (told entry s.ended) s i cause h

pub returns-clause-draw : goal.returns-clause-draw
returns-clause-draw g c = λ entry s i cause h. Renamed.refused_draw (node_of (told entry s.ended)) (told entry s.ended) s i cause h
