use Rattle.parallel_search.proofs.searching.still_open.Goals as goal

pub returns-clause-todo : goal.returns-clause-todo
returns-clause-todo g c = let d = c.in_ok-rest.field-0 in (d.rest.items, c.in_ok-append_nodes.ensures, c.in_ok-rest.ensures.meets, c.in_ok-rest.ensures.bag)
