-- Journals of certificate records in the words of the search machine, and the tree that they are.
use Rattle.std.specs.Prelude.{◌≡◌, ℕ, List, map}
use Rattle.std.specs.List.{flat_map}
use Rattle.zero_one_rows.specs.declared.program.Var.{Var}
use Rattle.zero_one_rows.specs.declared.program.Row.{Row}
use Rattle.certificate.specs.declared.tree.Record.{Record}
use Rattle.certificate.specs.declared.journals.Entry.{Entry}
use Rattle.certificate.specs.Entries.{record_of}
use Rattle.search_core.specs.Journals.{Path, Placed, Whole, Tree, preorder, Gathers, all_nodes}

-- all journals' entries, one journal after the other
abbrev pub entries : List (List Entry) → List Entry
entries journals = flat_map (λ journal. journal) journals

-- a numbering gives each variable of a branch its number in the program
module _ (number : Var → ℕ) where
  abbrev pub placed : Entry → Placed Row
  placed e = record { path = e.path; entry = record_of number e.record_of }

  -- the entries of all journals, with their paths
  abbrev pub placed_entries : List (List Entry) → List (Placed Row)
  placed_entries journals = map placed (entries journals)

  -- the entries and the nodes that were left
  abbrev pub nodes_of : List (List Entry) → List Path → List (Placed Row)
  nodes_of journals left = all_nodes (placed_entries journals) left

  -- no record ends in Left; the paths of the records and the left nodes are the root's, and both halves of each record that branches
  abbrev pub AreWhole : List (List Entry) → List Path → Type 0
  AreWhole journals left = Whole (placed_entries journals) left

  -- The records are, in preorder, a tree that has each entry's record at its path, an empty record at each left path, and no other.
  pub record IsGathered (journals : List (List Entry)) (left : List Path) (records : List Record) : Type 0 where
    pub tree : Tree Row
    pub gathers : Gathers (nodes_of journals left) tree
    pub in_preorder : map (record_of number) records ≡ preorder tree
