-- The ports of discharge, and what stands for each.
use Rattle.std.specs.Prelude.{ℕ, ◌%◌, ◌++◌, Bool, false, List, [], ◌∷◌, nat_eq, fold, Option, Some, None, if◌then◌else◌}
use Rattle.std.specs.List.{list_any, position_or_len}
use Rattle.std.specs.Cmp.Lexicographic.{pointwise}
use Rattle.baplie.specs.declared.parts.Facts.{Facts}
use Rattle.baplie.specs.declared.parts.CellGroup.{CellGroup}

abbrev pub same_text : List ℕ → List ℕ → Bool
same_text a b = pointwise nat_eq a b

abbrev pub is_port : List (List ℕ) → List ℕ → Bool
is_port ports name = list_any (λ p. same_text p name) ports

-- the ports, and this one behind them where it is none of them
abbrev pub with_port : List (List ℕ) → List ℕ → List (List ℕ)
with_port ports name = if is_port ports name then ports else ports ++ name ∷ []

abbrev pub with_facts : List (List ℕ) → Option Facts → List (List ℕ)
with_facts ports None = ports
with_facts ports (Some f) = with_port ports f.dest

-- the ports, and those of the containers in the order in which they first come
abbrev pub with_ports : List (List ℕ) → List CellGroup → List (List ℕ)
with_ports ports groups = fold (λ ps g. with_facts ps g.facts) ports groups

-- the number of a port among these, from 0
abbrev pub number_of : List (List ℕ) → List ℕ → ℕ
number_of ports name = position_or_len (λ p. same_text p name) ports

-- fourteen ports have each their own colour and pattern
abbrev pub colour : ℕ → ℕ
colour port = port % 14

-- ## Counts by port

abbrev pub goes_to : List ℕ → Option Facts → Bool
goes_to name None = false
goes_to name (Some f) = same_text f.dest name

abbrev pub is_for : List ℕ → CellGroup → Bool
is_for name g = goes_to name g.facts

abbrev pub kg_to : List ℕ → Option Facts → ℕ
kg_to name None = 0
kg_to name (Some f) = if same_text f.dest name then f.kg else 0

abbrev pub kg_for : List ℕ → CellGroup → ℕ
kg_for name g = kg_to name g.facts
