-- What a search begins with.
use Rattle.std.specs.Prelude.{◌≡◌, ℕ, ◌+◌, ◌<◌, ◌≤◌, ◌==◌, cond, []}
use Rattle.stow_data.specs.Shipment.{IsCargo, most_cost}
use Rattle.zero_one_rows.specs.Variables.{Voyage}
use Rattle.certificate.specs.declared.nodes.Node.{Node}
use Rattle.shared_search.specs.declared.view.View.{View}
use Rattle.shared_search.specs.Rule.{none_yet}
use Rattle.shared_search.specs.Tokens.{BoardToken, SeatToken}
use Rattle.steal_pool.specs.Jobs.{Means}

-- what is asked of a search: a cargo by the rules, 1 to 16 workers, at most 100,000 nodes, and a start of at most one more than the most that a voyage needs to cost
pub record IsAsked (m : Voyage) (workers budget start : ℕ) : Type 0 where
  pub cargo : IsCargo m.cargo
  pub some : 0 < workers
  pub few : workers ≤ 16
  pub nodes : budget ≤ 100000
  pub low : start ≤ most_cost m.cargo + 1

abbrev pub first_node : Node
first_node = record { path = []; trail = [] }

-- the root comes to the first worker
abbrev pub seed_at : (Node → ℕ) → ℕ → ℕ
seed_at h number = cond (number == 0) (h first_node) 0

-- no ticket was drawn and nothing offered, of what the view knows
pub record IsUnused (start : ℕ) (v : View) : Type 0 where
  pub begun : v.start ≡ start
  pub offered : v.offered ≡ none_yet
  pub tickets : v.tickets ≡ []
  pub over : v.over ≡ 0

-- an owner of the board that makes workers of the program's search
pub record IsMaker (meets : Node → Type 0) (b : BoardToken) (m : Voyage) (o : SeatToken) : Type 0 where
  pub means : Means meets m
  pub cargo : IsCargo m.cargo
  pub low : b.start ≤ most_cost m.cargo + 1
  pub top : b.start ≤ none_yet
  pub board : o.board ≡ b.id
  pub unused : IsUnused b.start o.view
  pub taken : o.view.taken ≡ 0
