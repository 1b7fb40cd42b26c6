-- Trees of a certificate: the records that were handled; settled, lean and earnest trees.
use Rattle.std.specs.Prelude.{◌≡◌, ℕ, ◌+◌, ◌*◌, Bool, true, false, List, [], length, map, count_by}
use Rattle.zero_one_rows.specs.Variables.{Voyage, variables}
use Rattle.zero_one_rows.specs.Rows.{whole}
use Rattle.certificate.specs.declared.tree.Record.{Record}
use Rattle.certificate.specs.declared.tree.End.{End}
use Rattle.certificate.specs.declared.tree.End.TheVariants.{Leaf, Left, Branch}
use Rattle.certificate.specs.Entries.{same_row, entry_of}
use Rattle.search_core.specs.Bags.{Every}
use Rattle.search_core.specs.Journals.{branches, Settled}
use Rattle.search_core.specs.Along.{HoldsAlong}
use Rattle.node_solver.specs.Work as node

abbrev pub was_handled : End → Bool
was_handled Leaf = true
was_handled Left = false
was_handled (Branch x) = true

-- the record of a node that was left open: no steps, no raises
abbrev pub empty_record : Record
empty_record = record { from_zero = false; steps = []; raises = []; end = Left }

-- each record that leaves its node open is empty
abbrev pub LeavesEmpty : List Record → Type 0
LeavesEmpty tree = Every (λ r. r.end ≡ Left → r ≡ empty_record) tree

-- the number of records that aren't left open
abbrev pub handled : List Record → ℕ
handled tree = count_by (λ r. was_handled r.end) tree

module _ (m : Voyage) where
  -- as a tree that proves the bound, but a box that was left open need not close at it
  abbrev pub IsSettled : List Record → ℕ → Type 0
  IsSettled tree bound = Settled same_row (whole m) (map (entry_of m) tree) bound

  -- each step forces at least one free variable at its turn, and a record has at most 4,096 raises at the root and 64 elsewhere
  abbrev pub IsLean : List Record → Type 0
  IsLean tree = HoldsAlong same_row (whole m) (λ top q e. node.IsLean m q (node.most_raises top) e) (map (entry_of m) tree)

  -- each record that divides its box does so for want of anything else: its box doesn't close at the start, though no row forces a variable and the raises are as many as there may be, or none more raises the dual value
  abbrev pub IsEarnest : ℕ → List Record → Type 0
  IsEarnest start tree = HoldsAlong same_row (whole m) (λ top q e. branches e.end ≡ true → node.IsEarnest m q start (node.most_raises top) e) (map (entry_of m) tree)

-- A certificate's text is at most so long: for each node of the budget a line of at most 80 bytes for each variable of the program and for 70 lines more, and 400,000 bytes for the root's raises and the head.
abbrev pub most_bytes : Voyage → ℕ → ℕ
most_bytes m budget = budget * (length (variables m) + 70) * 80 + 400000
