-- The order of nodes in a tree: each before those below it, and those at value 1 of a branch before those at value 0.
use Rattle.std.specs.Prelude.{false, not, List, [], map}
use Rattle.std.specs.declared.cmp.Ordering.{Ordering}
use Rattle.std.specs.Ordering.{bool_cmp, is_lt}
use Rattle.std.specs.Cmp.Lexicographic.{slice_cmp}
use Rattle.std.specs.List.Sorted.{IsSortedBy}
use Rattle.certificate.specs.declared.tree.End.TheVariants.{Left}
use Rattle.certificate.specs.declared.journals.Entry.{Entry}
use Rattle.search_core.specs.Journals.{Path}

-- by the first branch at which the paths part, where true comes first; else the shorter path comes first
abbrev pub by_preorder : Path → Path → Ordering
by_preorder a b = slice_cmp bool_cmp (map not a) (map not b)

-- none comes behind a node that it should be before
abbrev pub InPreorder : List Entry → Type 0
InPreorder nodes = IsSortedBy (λ a b. is_lt (by_preorder a.path b.path)) nodes

-- a node that was left open, with an empty record
abbrev pub left_node : Path → Entry
left_node path = record { path = path; record_of = record { from_zero = false; steps = []; raises = []; end = Left } }
