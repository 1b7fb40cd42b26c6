-- What the words of the command line ask for.
use Rattle.std.specs.Prelude.{ℕ, Bool, ◌&&◌, not, nat_le, nat_eq, codes, List, length, drop, ◌++◌, Option, Some, None, if◌then◌else◌}
use Rattle.std.specs.List.{list_all, starts_with, ends_with}

-- A name neither begins with `-` nor ends as a file that is written.
abbrev pub is_name : List ℕ → Bool
is_name word = not (starts_with nat_eq word (codes "-")) && not (ends_with nat_eq word (codes ".svg")) && not (ends_with nat_eq word (codes ".html"))

abbrev pub are_names : List (List ℕ) → Bool
are_names words = nat_le 1 (length words) && list_all is_name words

-- the names behind the program's name
abbrev pub asked : List (List ℕ) → Option (List (List ℕ))
asked words = if are_names (drop 1 words) then Some (drop 1 words) else None

abbrev pub picture_name : List ℕ → List ℕ
picture_name name = name ++ codes ".svg"
