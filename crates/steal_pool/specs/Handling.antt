-- How a worker ends a node.
use Rattle.std.specs.Prelude.{ℕ, ◌≤◌, Option}
use Rattle.zero_one_rows.specs.Variables.{Voyage}
use Rattle.certificate.specs.declared.nodes.Node.{Node}
use Rattle.shared_search.specs.declared.view.View.{View}
use Rattle.shared_search.specs.Rule.{seen_at}
use Rattle.node_solver.specs.Work.{begins_at, most_at, Works}
use Rattle.node_solver.specs.declared.worked.Worked.{Worked}
use Rattle.steal_pool.specs.UnderWay.{Tells}
use Rattle.steal_pool.specs.Deeds.{Did}
use Rattle.steal_pool.specs.declared.deeds.Deeds.{Deeds}
use Rattle.steal_pool.specs.declared.deeds.Halves.{Halves}

-- A worker ended a node, whose seat had the view `v` before and has `w` now: against a best value that it saw, at most all that it saw and offered before. The record is lean, and one that the rules of proof trees allow at that value; where it divides the box, it is earnest against it. A full box has its cost offered. Of its deeds the one record is new, and the halves are those of a node that was divided.
pub record IsHandled (m : Voyage) (node : Node) (v w : View) (d e : Deeds) (halves : Option Halves) : Type 0 where
  pub cut : ℕ
  pub ended : Worked
  pub seen : cut ≤ v.seen
  pub offered : cut ≤ v.offered
  pub start : cut ≤ v.start
  pub works : Works m (begins_at m node) (most_at node) cut ended
  pub tells : Tells ended (seen_at v cut) w
  pub did : Did ended node halves d e
