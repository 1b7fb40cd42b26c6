use Rattle.node_solver.specs.Work.{IsNode}
use Rattle.parallel_search.proofs.searching.search.Given as goal

abbrev pub ghosts-search_as : goal.ghosts-search_as
ghosts-search_as g a = record { meets = IsNode a.spare }
