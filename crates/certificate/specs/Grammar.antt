-- Which texts are certificates.
use Rattle.std.specs.Prelude.{◌≡◌, ◌<◌, ◌≤◌, ◌^◌, ◌%◌, ℕ, List, All, length, unsigned_abs, Option, Some, None}
use Rattle.zero_one_rows.specs.declared.program.Row.{Row}
use Rattle.zero_one_rows.specs.declared.program.Row.TheVariants.{Flow, Start, Cell, Support, Twenty, Block, Hatch, Weight, Apart, Cross}
use Rattle.zero_one_rows.specs.declared.program.Raise.{Raise}
use Rattle.certificate.specs.declared.tree.End.{End}
use Rattle.certificate.specs.declared.tree.End.TheVariants.{Leaf, Left, Branch}
use Rattle.certificate.specs.declared.tree.Record.{Record}
use Rattle.certificate.specs.declared.tree.Outcome.{Outcome}
use Rattle.certificate.specs.declared.tree.Outcome.TheVariants.{Optimal, Gap, NoPlan, Undecided}
use Rattle.certificate.specs.declared.tree.Head.{Head}
use Rattle.certificate.specs.Text.{numbers_of, cert_text}

-- ## Numbers in range

-- a chain has an even number of 4 to 12 numbers
abbrev pub IsEven : Row → Type 0
IsEven (Flow q i g) = Unit {0}
IsEven (Start q p) = Unit {0}
IsEven (Cell i h) = Unit {0}
IsEven (Support i h) = Unit {0}
IsEven (Twenty i h) = Unit {0}
IsEven (Block j h) = Unit {0}
IsEven (Hatch w j h d) = Unit {0}
IsEven (Weight i k) = Unit {0}
IsEven (Apart i e p q) = Unit {0}
IsEven (Cross l p chain) = (4 ≤ length chain) × (length chain ≤ 12) × (length chain % 2 ≡ 0)

pub record IsRow (row : Row) : Type 0 where
  pub small : All (λ n. n < 2 ^ 32) (numbers_of row)
  pub even : IsEven row

pub record IsRaise (raise : Raise) : Type 0 where
  pub row : IsRow raise.row
  pub amount : unsigned_abs raise.amount ≤ 2 ^ 40

abbrev pub IsEnd : End → Type 0
IsEnd Leaf = Unit {0}
IsEnd Left = Unit {0}
IsEnd (Branch x) = (x.put < 2 ^ 32) × (x.kind < 2 ^ 32) × (x.lifted < 2 ^ 32) × (x.place < 2 ^ 32)

pub record IsRecord (r : Record) : Type 0 where
  pub steps : All IsRow r.steps
  pub raises : All IsRaise r.raises
  pub end : IsEnd r.end

-- a number of rehandles stands exactly with the outcomes optimal and gap
abbrev pub IsOutcome : Outcome → Option ℕ → Type 0
IsOutcome Optimal (Some n) = n < 2 ^ 63
IsOutcome Gap (Some n) = n < 2 ^ 63
IsOutcome NoPlan None = Unit {0}
IsOutcome Undecided None = Unit {0}
IsOutcome Optimal None = ⊥
IsOutcome Gap None = ⊥
IsOutcome NoPlan (Some n) = ⊥
IsOutcome Undecided (Some n) = ⊥

pub record IsHead (h : Head) : Type 0 where
  pub rehandles : IsOutcome h.outcome h.rehandles
  pub bound : h.bound < 2 ^ 63
  pub nodes : h.nodes < 2 ^ 63

-- ## Certificates

-- the text is that of this head and this tree
pub record IsCert (bytes : List ℕ) (head : Head) (tree : List Record) : Type 0 where
  pub head_is : IsHead head
  pub tree_is : All IsRecord tree
  pub text : bytes ≡ cert_text head tree
