-- A certificate's records as entries of a proof tree over rows and numbered variables.
use Rattle.std.specs.Prelude.{ℕ, Bool, false, ◌==◌, ◌&&◌, map, ℤ, nat_eq}
use Rattle.std.specs.List.{position_or_len}
use Rattle.std.specs.Cmp.Lexicographic.{pointwise}
use Rattle.zero_one_rows.specs.declared.program.Var.{Var}
use Rattle.zero_one_rows.specs.declared.program.Row.{Row}
use Rattle.zero_one_rows.specs.declared.program.Row.TheVariants.{Flow, Start, Cell, Support, Twenty, Block, Hatch, Weight, Apart, Cross}
use Rattle.zero_one_rows.specs.declared.program.Raise.{Raise}
use Rattle.zero_one_rows.specs.Variables.{Voyage, variables}
use Rattle.certificate.specs.declared.tree.End.{End}
use Rattle.certificate.specs.declared.tree.End.TheVariants.{Leaf, Left, Branch}
use Rattle.certificate.specs.declared.tree.Record.{Record}
use Rattle.proof_trees.specs.Trees as trees

-- of one family, with the same numbers
abbrev pub same_row : Row → Row → Bool
same_row (Flow q i g) (Flow q' i' g') = (q == q') && ((i == i') && (g == g'))
same_row (Start q p) (Start q' p') = (q == q') && (p == p')
same_row (Cell i h) (Cell i' h') = (i == i') && (h == h')
same_row (Support i h) (Support i' h') = (i == i') && (h == h')
same_row (Twenty i h) (Twenty i' h') = (i == i') && (h == h')
same_row (Block j h) (Block j' h') = (j == j') && (h == h')
same_row (Hatch w j h d) (Hatch w' j' h' d') = (w == w') && ((j == j') && ((h == h') && (d == d')))
same_row (Weight i k) (Weight i' k') = (i == i') && (k == k')
same_row (Apart i e p q) (Apart i' e' p' q') = (i == i') && ((e == e') && ((p == p') && (q == q')))
same_row (Cross l p c) (Cross l' p' c') = (l == l') && ((p == p') && pointwise nat_eq c c')
same_row r s = false

abbrev pub same_var : Var → Var → Bool
same_var x y = (x.put == y.put) && ((x.kind == y.kind) && ((x.lifted == y.lifted) && (x.place == y.place)))

abbrev pub raise_of : Raise → Row × ℤ
raise_of r = (r.row, r.amount)

-- a numbering gives each variable of a branch its number in the program
module _ (number : Var → ℕ) where
  abbrev pub end_of : End → trees.End
  end_of Leaf = trees.Leaf
  end_of Left = trees.Left
  end_of (Branch x) = trees.Branch (number x)

  -- a certificate's record as one of a proof tree
  abbrev pub record_of : Record → trees.Entry Row
  record_of r = record { from_zero = r.from_zero; steps = r.steps; raises = map raise_of r.raises; end = end_of r.end }

module _ (m : Voyage) where
  -- the number of a variable; for a variable that the program hasn't, the number of all variables
  abbrev pub number_of : Var → ℕ
  number_of x = position_or_len (same_var x) (variables m)

  -- a record over the program's numbered variables
  abbrev pub entry_of : Record → trees.Entry Row
  entry_of r = record_of number_of r
