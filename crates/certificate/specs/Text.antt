-- The text of a certificate: its lines, with a line feed behind each. One space separates words.
use Rattle.std.specs.Prelude.{ℕ, true, false, List, [], ◌∷◌, ◌++◌, codes, map, flat_map, Some, None}
use Rattle.std.specs.Fmt.{decimal, signed_decimal}
use Rattle.zero_one_rows.specs.declared.program.Row.{Row}
use Rattle.zero_one_rows.specs.declared.program.Row.TheVariants.{Flow, Start, Cell, Support, Twenty, Block, Hatch, Weight, Apart, Cross}
use Rattle.certificate.specs.declared.tree.End.TheVariants.{Leaf, Left, Branch}
use Rattle.certificate.specs.declared.tree.Record.{Record}
use Rattle.certificate.specs.declared.tree.Outcome.{Outcome}
use Rattle.certificate.specs.declared.tree.Outcome.TheVariants.{Optimal, Gap, NoPlan, Undecided}
use Rattle.certificate.specs.declared.tree.Head.{Head}
use Rattle.certificate.specs.declared.lines.Line.{Line}
use Rattle.certificate.specs.declared.lines.Line.TheVariants as line

-- ## Lines

-- numbers in decimal, each behind a space
abbrev pub numbers : List ℕ → List ℕ
numbers ns = flat_map (λ n. 32 ∷ decimal n) ns

abbrev pub family : Row → List ℕ
family (Flow q i g) = codes "flow"
family (Start q p) = codes "start"
family (Cell i h) = codes "cell"
family (Support i h) = codes "support"
family (Twenty i h) = codes "twenty"
family (Block j h) = codes "block"
family (Hatch w j h d) = codes "hatch"
family (Weight i k) = codes "weight"
family (Apart i e p q) = codes "apart"
family (Cross l p chain) = codes "cross"

abbrev pub numbers_of : Row → List ℕ
numbers_of (Flow q i g) = q ∷ i ∷ g ∷ []
numbers_of (Start q p) = q ∷ p ∷ []
numbers_of (Cell i h) = i ∷ h ∷ []
numbers_of (Support i h) = i ∷ h ∷ []
numbers_of (Twenty i h) = i ∷ h ∷ []
numbers_of (Block j h) = j ∷ h ∷ []
numbers_of (Hatch w j h d) = w ∷ j ∷ h ∷ d ∷ []
numbers_of (Weight i k) = i ∷ k ∷ []
numbers_of (Apart i e p q) = i ∷ e ∷ p ∷ q ∷ []
numbers_of (Cross l p chain) = l ∷ p ∷ chain

abbrev pub row_text : Row → List ℕ
row_text row = family row ++ numbers (numbers_of row)

abbrev pub outcome_text : Outcome → List ℕ
outcome_text Optimal = codes "optimal"
outcome_text Gap = codes "gap"
outcome_text NoPlan = codes "no-plan"
outcome_text Undecided = codes "undecided"

unfoldable pub line_text : Line → List ℕ
line_text line.Title = codes "stow-cert 1"
line_text (line.Outcome outcome) = codes "outcome " ++ outcome_text outcome
line_text (line.Rehandles None) = codes "rehandles none"
line_text (line.Rehandles (Some n)) = codes "rehandles " ++ decimal n
line_text (line.Bound n) = codes "bound " ++ decimal n
line_text (line.Nodes n) = codes "nodes " ++ decimal n
line_text (line.Node false) = codes "n 0"
line_text (line.Node true) = codes "n 1"
line_text (line.Step row) = codes "s " ++ row_text row
line_text (line.Change raise) = codes "r " ++ (signed_decimal raise.amount ++ 32 ∷ row_text raise.row)
line_text (line.Ends Leaf) = codes "l"
line_text (line.Ends Left) = codes "o"
line_text (line.Ends (Branch x)) = codes "b" ++ numbers (x.put ∷ x.kind ∷ x.lifted ∷ x.place ∷ [])
line_text line.Close = codes "end"

-- a line and its line feed
abbrev pub whole : Line → List ℕ
whole l = line_text l ++ 10 ∷ []

abbrev pub text_of : List Line → List ℕ
text_of lines = flat_map whole lines

-- ## The certificate

abbrev pub head_lines : Head → List Line
head_lines h = line.Title ∷ line.Outcome h.outcome ∷ line.Rehandles h.rehandles ∷ line.Bound h.bound ∷ line.Nodes h.nodes ∷ []

abbrev pub record_lines : Record → List Line
record_lines r = line.Node r.from_zero ∷ (map line.Step r.steps ++ (map line.Change r.raises ++ line.Ends r.end ∷ []))

abbrev pub cert_lines : Head → List Record → List Line
cert_lines head tree = head_lines head ++ (flat_map record_lines tree ++ line.Close ∷ [])

abbrev pub cert_text : Head → List Record → List ℕ
cert_text head tree = text_of (cert_lines head tree)
