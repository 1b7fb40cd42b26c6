-- Runs for tests: the root of the program of one variable is closed, and a tree of five nodes is replayed.
use Rattle.std.specs.Prelude.{ℕ, Bool, true, false, List, [], ◌∷◌, Some, None, pos, ◌==◌}
use Rattle.proof_trees.specs.Program.{Program}
use Rattle.proof_trees.specs.Trees.{Leaf, Left, Branch, Entry}
use Rattle.search_core.specs.Journals.{Placed, Tree, Tip, Fork}
use Rattle.search_core.specs.Machine.{State, Event, Push, Pop, Steal, Load, Offer, Draw, Close, Divide, root_node, handled, at_its_path}

abbrev pub same_number : ℕ → ℕ → Bool
same_number a b = a == b

-- ## The program of one variable

abbrev pub closing : Entry ℕ
closing = record { from_zero = true; steps = []; raises = (0, pos 16) ∷ []; end = Leaf }

abbrev pub closing_run : List (Event ℕ)
closing_run = Pop 0 ∷ Draw 0 ∷ Load 0 ∷ Close 0 closing ∷ []

-- the state after that run of one worker, with start 1 and budget 1
abbrev pub closed : State ℕ
closed = record {
  workers = record { deque = []; hand = None; made = []; seen = Some 1; ticket = false } ∷ [];
  start = 1;
  budget = 1;
  word = 1;
  drawn = 1;
  left = [];
  ended = handled root_node closing ∷ [];
}

abbrev pub closing_journal : List (Placed ℕ)
closing_journal = at_its_path (handled root_node closing) ∷ []

-- ## A tree of five nodes, over a program without variables

abbrev pub no_variables : Program ℕ
no_variables = record { vars = 0; cost = λ v. pos 0; coef = λ r v. pos 0; rhs = λ r. pos 0; has = λ r. false }

abbrev pub branch : Entry ℕ
branch = record { from_zero = false; steps = []; raises = []; end = Branch 0 }

abbrev pub leaf : Entry ℕ
leaf = record { from_zero = true; steps = []; raises = []; end = Leaf }

abbrev pub left_open : Entry ℕ
left_open = record { from_zero = false; steps = []; raises = []; end = Left }

-- the root; its halves 1 and 0; the halves of half 0
abbrev pub five_nodes : Tree ℕ
five_nodes = Fork branch (Tip leaf) (Fork branch (Tip left_open) (Tip leaf))

abbrev pub five_turns : List (Event ℕ)
five_turns =
    Pop 0 ∷ Draw 0 ∷ Divide 0 branch ∷ Push 0 ∷ Push 0
    ∷ Steal 1 0 ∷ Draw 1
    ∷ Steal 2 0 ∷ Draw 2 ∷ Divide 2 branch ∷ Push 2 ∷ Push 2
    ∷ Steal 3 2
    ∷ Steal 4 2 ∷ Draw 4
    ∷ Offer 1 leaf ∷ Offer 4 leaf
    ∷ Load 1 ∷ Close 1 leaf ∷ Load 4 ∷ Close 4 leaf
    ∷ Draw 3 ∷ []
