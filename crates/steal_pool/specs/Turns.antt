-- What a turn came to.
use Rattle.std.specs.Prelude.{◌≡◌, ℕ, ◌+◌, [], ◌∷◌, ◌++◌, Option, None}
use Rattle.zero_one_rows.specs.Variables.{Voyage}
use Rattle.certificate.specs.declared.nodes.Node.{Node}
use Rattle.search_core.specs.Bags.{weigh}
use Rattle.shared_search.specs.Rule.{one_over, with_ticket}
use Rattle.shared_search.specs.Racks.{took_weight, put_weight}
use Rattle.steal_pool.specs.declared.deeds.Deeds.{Deeds}
use Rattle.steal_pool.specs.declared.deeds.Halves.{Halves}
use Rattle.steal_pool.specs.declared.job.Job.{Job}
use Rattle.steal_pool.specs.declared.turning.Turned.{Turned}
use Rattle.steal_pool.specs.declared.turning.Turned.TheVariants.{Handled, Nothing, Spent}
use Rattle.steal_pool.specs.Deeds.{halves_weight}
use Rattle.steal_pool.specs.Handling.{IsHandled}
use Rattle.steal_pool.specs.Rising.{AllRose}

module _ {M S : Type 0} where
  -- As a bag, what the worker took, from the deques and from those aside, and the halves are what it put, what it laid aside and the node that it had in hand.
  abbrev pub Moves : Node → Option Halves → Job M S → Job M S → Type 0
  Moves node halves j k = (h : Node → ℕ) → took_weight h k.pass + weigh h j.aside.items + (put_weight h j.pass + halves_weight h halves) ≡ took_weight h j.pass + weigh h k.aside.items + (put_weight h k.pass + h node)

  -- the node in hand was handled, and its halves were put or laid aside
  pub record IsWorkedOff (m : Voyage) (node : Node) (j k : Job M S) : Type 0 where
    pub halves : Option Halves
    pub handled : IsHandled m node j.seat.view k.seat.view j.deeds k.deeds halves
    pub took : (h : Node → ℕ) → took_weight h k.pass ≡ took_weight h j.pass
    pub laid : (h : Node → ℕ) → put_weight h k.pass + weigh h k.aside.items ≡ put_weight h j.pass + weigh h j.aside.items + halves_weight h halves

  -- a ticket was drawn, and a node was handled, of which one record is new; no other node was left
  pub record IsOneMore (m : Voyage) (j k : Job M S) : Type 0 where
    pub node : Node
    pub ticket : ℕ
    pub halves : Option Halves
    pub handled : IsHandled m node (with_ticket j.seat.view ticket) k.seat.view j.deeds k.deeds halves
    pub moves : Moves node halves j k

  -- nothing stood aside, and each deque was found with nothing once more
  pub record IsIdle (j k : Job M S) : Type 0 where
    pub aside : j.aside.items ≡ []
    pub rose : AllRose j.pass k.pass
    pub took : (h : Node → ℕ) → took_weight h k.pass ≡ took_weight h j.pass
    pub put : (h : Node → ℕ) → put_weight h k.pass ≡ put_weight h j.pass
    pub kept : k.aside.items ≡ []
    pub deeds : k.deeds ≡ j.deeds
    pub seat : k.seat ≡ j.seat
    pub turns : k.turns ≡ j.turns

  -- no ticket was left, and a node was left
  pub record IsSpent (j k : Job M S) : Type 0 where
    pub node : Node
    pub over : k.seat.view ≡ one_over j.seat.view
    pub deeds : k.deeds ≡ record j.deeds { left = j.deeds.left ++ node.path ∷ [] }
    pub moves : Moves node None j k

  abbrev pub CameTo : Voyage → Turned → Job M S → Job M S → Type 0
  CameTo m Handled j k = IsOneMore m j k
  CameTo m Nothing j k = IsIdle j k
  CameTo m Spent j k = IsSpent j k
