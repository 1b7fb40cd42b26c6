-- What the reader knows a line by: its words. No public clause cites this module.
use Rattle.std.specs.Prelude.{◌≡◌, ◌≢◌, ◌<◌, ◌≤◌, ◌^◌, ℕ, ◌+◌, ◌%◌, Bool, true, false, ◌||◌, ◌&&◌, ◌==◌, nat_le, List, [], ◌∷◌, ◌++◌, codes, map, All, length, ℤ, pos, negsuc, Option, Some, None, if◌then◌else◌}
use Rattle.std.specs.Fmt.{decimal}
use Rattle.zero_one_rows.specs.declared.program.Row.{Row}
use Rattle.zero_one_rows.specs.declared.program.Row.TheVariants as row
use Rattle.zero_one_rows.specs.declared.program.Raise.{Raise}
use Rattle.zero_one_rows.specs.declared.program.Var.{Var}
use Rattle.certificate.specs.declared.tree.End.TheVariants as end
use Rattle.certificate.specs.declared.tree.Outcome.{Outcome}
use Rattle.certificate.specs.declared.tree.Outcome.TheVariants as outcome
use Rattle.certificate.specs.declared.lines.Line.{Line}
use Rattle.certificate.specs.declared.lines.Line.TheVariants as line
use Rattle.certificate.specs.declared.words.Key.{Key}
use Rattle.certificate.specs.declared.words.Key.TheVariants as key
use Rattle.certificate.specs.declared.words.Token.{Token}
use Rattle.certificate.specs.declared.words.Token.TheVariants.{Word, Number, Minus}
use Rattle.certificate.specs.declared.tree.Record.{Record}
use Rattle.certificate.specs.declared.faults.CertFault.{CertFault}
use Rattle.certificate.specs.declared.faults.CertFault.TheVariants.{NotCert, BadHead, BadLine, NoEnd, NoMemory}
use Rattle.certificate.specs.Text.{numbers_of, whole, text_of}
use Rattle.certificate.specs.Grammar.{IsRow, IsRaise, IsEnd}

-- ## Words

abbrev pub key_text : Key → List ℕ
key_text key.Step = codes "s"
key_text key.Raise = codes "r"
key_text key.Node = codes "n"
key_text key.Leaf = codes "l"
key_text key.Branch = codes "b"
key_text key.Left = codes "o"
key_text key.Cross = codes "cross"
key_text key.Block = codes "block"
key_text key.Support = codes "support"
key_text key.Cell = codes "cell"
key_text key.Flow = codes "flow"
key_text key.Weight = codes "weight"
key_text key.Hatch = codes "hatch"
key_text key.Twenty = codes "twenty"
key_text key.Apart = codes "apart"
key_text key.Start = codes "start"
key_text key.Title = codes "stow-cert"
key_text key.Outcome = codes "outcome"
key_text key.Rehandles = codes "rehandles"
key_text key.Bound = codes "bound"
key_text key.Nodes = codes "nodes"
key_text key.End = codes "end"
key_text key.None = codes "none"
key_text key.Optimal = codes "optimal"
key_text key.Gap = codes "gap"
key_text key.NoPlan = codes "no-plan"
key_text key.Undecided = codes "undecided"

abbrev pub token_text : Token → List ℕ
token_text (Word k) = key_text k
token_text (Number n) = decimal n
token_text (Minus n) = 45 ∷ decimal n

abbrev pub IsToken : Token → Type 0
IsToken (Word k) = Unit {0}
IsToken (Number n) = n < 2 ^ 63
IsToken (Minus n) = (0 < n) × (n < 2 ^ 63)

-- ## Lines of words

-- a space or a line feed
abbrev pub is_break : ℕ → Bool
is_break b = b == 32 || b == 10

-- words, each behind a space, and a line feed
abbrev pub tail_text : List Token → List ℕ
tail_text [] = 10 ∷ []
tail_text (t ∷ ts) = 32 ∷ (token_text t ++ tail_text ts)

-- the words of a line, and its line feed
abbrev pub closed : List Token → List ℕ
closed [] = []
closed (t ∷ ts) = token_text t ++ tail_text ts

-- the text begins with no line of at most 18 words
abbrev pub IsNoLine : List ℕ → Type 0
IsNoLine text = (t : Token) (ts : List Token) (more : List ℕ) → All IsToken (t ∷ ts) → length (t ∷ ts) ≤ 18 → text ≡ closed (t ∷ ts) ++ more → ⊥

-- ## The words of each line

abbrev pub family_key : Row → Key
family_key (row.Flow q i g) = key.Flow
family_key (row.Start q p) = key.Start
family_key (row.Cell i h) = key.Cell
family_key (row.Support i h) = key.Support
family_key (row.Twenty i h) = key.Twenty
family_key (row.Block j h) = key.Block
family_key (row.Hatch w j h d) = key.Hatch
family_key (row.Weight i k) = key.Weight
family_key (row.Apart i e p q) = key.Apart
family_key (row.Cross l p chain) = key.Cross

abbrev pub row_words : Row → List Token
row_words r = Word (family_key r) ∷ map Number (numbers_of r)

abbrev pub amount_word : ℤ → Token
amount_word (pos n) = Number n
amount_word (negsuc n) = Minus (n + 1)

abbrev pub outcome_key : Outcome → Key
outcome_key outcome.Optimal = key.Optimal
outcome_key outcome.Gap = key.Gap
outcome_key outcome.NoPlan = key.NoPlan
outcome_key outcome.Undecided = key.Undecided

-- the first word of a line
abbrev pub line_key : Line → Key
line_key line.Title = key.Title
line_key (line.Outcome o) = key.Outcome
line_key (line.Rehandles r) = key.Rehandles
line_key (line.Bound n) = key.Bound
line_key (line.Nodes n) = key.Nodes
line_key (line.Node z) = key.Node
line_key (line.Step r) = key.Step
line_key (line.Change r) = key.Raise
line_key (line.Ends end.Leaf) = key.Leaf
line_key (line.Ends end.Left) = key.Left
line_key (line.Ends (end.Branch x)) = key.Branch
line_key line.Close = key.End

-- the other words of a line
abbrev pub line_rest : Line → List Token
line_rest line.Title = Number 1 ∷ []
line_rest (line.Outcome o) = Word (outcome_key o) ∷ []
line_rest (line.Rehandles None) = Word key.None ∷ []
line_rest (line.Rehandles (Some n)) = Number n ∷ []
line_rest (line.Bound n) = Number n ∷ []
line_rest (line.Nodes n) = Number n ∷ []
line_rest (line.Node false) = Number 0 ∷ []
line_rest (line.Node true) = Number 1 ∷ []
line_rest (line.Step r) = row_words r
line_rest (line.Change r) = amount_word r.amount ∷ row_words r.row
line_rest (line.Ends end.Leaf) = []
line_rest (line.Ends end.Left) = []
line_rest (line.Ends (end.Branch x)) = map Number (x.put ∷ x.kind ∷ x.lifted ∷ x.place ∷ [])
line_rest line.Close = []

-- the numbers of a line are in range
abbrev pub IsLine : Line → Type 0
IsLine line.Title = Unit {0}
IsLine (line.Outcome o) = Unit {0}
IsLine (line.Rehandles None) = Unit {0}
IsLine (line.Rehandles (Some n)) = n < 2 ^ 63
IsLine (line.Bound n) = n < 2 ^ 63
IsLine (line.Nodes n) = n < 2 ^ 63
IsLine (line.Node z) = Unit {0}
IsLine (line.Step r) = IsRow r
IsLine (line.Change r) = IsRaise r
IsLine (line.Ends e) = IsEnd e
IsLine line.Close = Unit {0}

-- ## The line of words

abbrev pub row_of_two : Key → ℕ → ℕ → Option Row
row_of_two key.Start a b = Some (row.Start a b)
row_of_two key.Cell a b = Some (row.Cell a b)
row_of_two key.Support a b = Some (row.Support a b)
row_of_two key.Twenty a b = Some (row.Twenty a b)
row_of_two key.Block a b = Some (row.Block a b)
row_of_two key.Weight a b = Some (row.Weight a b)
row_of_two _ a b = None

abbrev pub row_of_three : Key → ℕ → ℕ → ℕ → Option Row
row_of_three key.Flow a b c = Some (row.Flow a b c)
row_of_three _ a b c = None

abbrev pub row_of_four : Key → ℕ → ℕ → ℕ → ℕ → Option Row
row_of_four key.Hatch a b c d = Some (row.Hatch a b c d)
row_of_four key.Apart a b c d = Some (row.Apart a b c d)
row_of_four _ a b c d = None

abbrev pub row_of_chain : Key → ℕ → ℕ → List ℕ → Option Row
row_of_chain key.Cross l p chain = if nat_le 4 (length chain) && (nat_le (length chain) 12 && (length chain % 2 == 0)) then Some (row.Cross l p chain) else None
row_of_chain _ l p chain = None

-- a line of a key alone, of a key and a number, and of two keys
abbrev pub bare_line : Key → Option Line
bare_line key.Leaf = Some (line.Ends end.Leaf)
bare_line key.Left = Some (line.Ends end.Left)
bare_line key.End = Some line.Close
bare_line _ = None

abbrev pub number_line : Key → ℕ → Option Line
number_line key.Title n = if n == 1 then Some line.Title else None
number_line key.Rehandles n = Some (line.Rehandles (Some n))
number_line key.Bound n = Some (line.Bound n)
number_line key.Nodes n = Some (line.Nodes n)
number_line key.Node n = if n == 0 then Some (line.Node false) else (if n == 1 then Some (line.Node true) else None)
number_line _ n = None

abbrev pub outcome_line : Key → Option Line
outcome_line key.Optimal = Some (line.Outcome outcome.Optimal)
outcome_line key.Gap = Some (line.Outcome outcome.Gap)
outcome_line key.NoPlan = Some (line.Outcome outcome.NoPlan)
outcome_line key.Undecided = Some (line.Outcome outcome.Undecided)
outcome_line _ = None

abbrev pub count_line : Key → Option Line
count_line key.None = Some (line.Rehandles None)
count_line _ = None

abbrev pub word_line : Key → Key → Option Line
word_line key.Outcome k = outcome_line k
word_line key.Rehandles k = count_line k
word_line _ k = None

abbrev pub branch_words : Var → List Token
branch_words x = map Number (x.put ∷ x.kind ∷ x.lifted ∷ x.place ∷ [])

abbrev pub change_words : Raise → List Token
change_words r = amount_word r.amount ∷ row_words r.row

-- the row of a line is in range
abbrev pub HasRanges : Line → Type 0
HasRanges line.Title = Unit {0}
HasRanges (line.Outcome o) = Unit {0}
HasRanges (line.Rehandles r) = Unit {0}
HasRanges (line.Bound n) = Unit {0}
HasRanges (line.Nodes n) = Unit {0}
HasRanges (line.Node z) = Unit {0}
HasRanges (line.Step r) = IsRow r
HasRanges (line.Change r) = IsRaise r
HasRanges (line.Ends e) = IsEnd e
HasRanges line.Close = Unit {0}

-- the text begins with no line
abbrev pub HasNoLine : List ℕ → Type 0
HasNoLine text = (l : Line) (more : List ℕ) → IsLine l → text ≡ whole l ++ more → ⊥

-- ## The order of the lines of records

-- where a reader stands: between records, among the steps or the raises of one, or behind the end
pub data Place : Type 0 where
  Between : Place
  InSteps : Place
  InRaises : Place
  Done : Place

-- the place behind a line that begins with this key
abbrev pub after_key : Place → Key → Option Place
after_key Between key.Node = Some InSteps
after_key Between key.End = Some Done
after_key InSteps key.Step = Some InSteps
after_key InSteps key.Raise = Some InRaises
after_key InSteps key.Leaf = Some Between
after_key InSteps key.Left = Some Between
after_key InSteps key.Branch = Some Between
after_key InRaises key.Raise = Some InRaises
after_key InRaises key.Leaf = Some Between
after_key InRaises key.Left = Some Between
after_key InRaises key.Branch = Some Between
after_key _ _ = None

abbrev pub after_some : Option Place → Key → Option Place
after_some (Some p) k = after_key p k
after_some None k = None

-- the place behind these lines
abbrev pub run : Option Place → List Line → Option Place
run p [] = p
run p (l ∷ ls) = run (after_some p (line_key l)) ls

-- The text is these lines, in order from a place on, and a rest with no line that goes on.
pub record Halts (text : List ℕ) (start : Place) (ls : List Line) (rest : List ℕ) : Type 0 where
  pub text_is : text ≡ text_of ls ++ rest
  pub are_lines : All IsLine ls
  pub place : Place
  pub ran : run (Some start) ls ≡ Some place
  pub stuck : (l : Line) (more : List ℕ) → IsLine l → rest ≡ whole l ++ more → after_key place (line_key l) ≡ None

-- the fault of a text of records' lines, behind so many lines
abbrev pub Fails : List ℕ → Place → ℕ → CertFault → Type 0
Fails text start before (BadLine n) = (ls : List Line) × (rest : List ℕ) × Halts text start ls rest × (rest ≢ []) × (n ≡ before + length ls + 1)
Fails text start before NoEnd = (ls : List Line) × Halts text start ls [] × (run (Some start) ls ≢ Some Done)
Fails text start before NoMemory = Unit {0}
Fails text start before NotCert = ⊥
Fails text start before (BadHead n) = ⊥

-- the steps and the raises of a record
abbrev pub body_so_far : List Row → List Raise → List Line
body_so_far steps raises = map line.Step steps ++ map line.Change raises

-- the lines of a record behind its first
abbrev pub body_lines : Record → List Line
body_lines r = map line.Step r.steps ++ (map line.Change r.raises ++ line.Ends r.end ∷ [])
