-- The mark of two letters that stands for each port.
use Rattle.std.specs.Prelude.{◌≡◌, ◌≢◌, ◌≤◌, ℕ, ◌+◌, ◌-◌, ◌/◌, ◌%◌, Bool, true, not, codes, List, [], ◌∷◌, ◌++◌, length, drop, find, fold, Option, Some, None, slice_index_or}
use Rattle.std.specs.List.{list_any, range_with_len}
use Rattle.bay_views.specs.Ports.{same_text, is_port, number_of}

-- one of the last three characters of a name, or `-`
abbrev pub letter : List ℕ → ℕ → ℕ
letter name i = slice_index_or (drop (length name - 3) name) i 45

-- two of the last three characters of a name, the best pair first
abbrev pub own_pairs : List ℕ → List (List ℕ)
own_pairs name =
    (letter name 0 ∷ letter name 1 ∷ []) ∷ (letter name 0 ∷ letter name 2 ∷ []) ∷ (letter name 1 ∷ letter name 2 ∷ []) ∷ []

-- AA, AB and so on
abbrev pub spare_pair : ℕ → List ℕ
spare_pair n = (65 + n / 26 % 26) ∷ (65 + n % 26) ∷ []

abbrev pub is_free : List (List ℕ) → List ℕ → Bool
is_free taken mark = not (list_any (same_text mark) taken)

-- what stands for a port where all pairs are taken
abbrev pub no_mark : List ℕ
no_mark = codes "--"

abbrev pub spare_mark : List (List ℕ) → Option ℕ → List ℕ
spare_mark taken None = no_mark
spare_mark taken (Some n) = spare_pair n

-- the number of the first of AA to ZZ that isn't taken
unfoldable pub spare_number : List (List ℕ) → Option ℕ
spare_number taken = find (λ n. is_free taken (spare_pair n)) (range_with_len 0 676)

unfoldable pub first_spare : List (List ℕ) → List ℕ
first_spare taken = spare_mark taken (spare_number taken)

-- the first pair of a port's own that isn't taken
unfoldable pub own_mark : List (List ℕ) → List ℕ → Option (List ℕ)
own_mark taken name = find (is_free taken) (own_pairs name)

abbrev pub mark_or : List (List ℕ) → Option (List ℕ) → List ℕ
mark_or taken None = first_spare taken
mark_or taken (Some mark) = mark

-- such a pair, else the first of all pairs
unfoldable pub mark_of : List (List ℕ) → List ℕ → List ℕ
mark_of taken name = mark_or taken (own_mark taken name)

abbrev pub with_mark : List (List ℕ) → List ℕ → List (List ℕ)
with_mark taken name = taken ++ mark_of taken name ∷ []

-- a mark for each port, in their order
abbrev pub marks_of : List (List ℕ) → List (List ℕ)
marks_of ports = fold with_mark [] ports

abbrev pub mark_at : List (List ℕ) → ℕ → List ℕ
mark_at marks port = slice_index_or marks port no_mark

-- the mark of a port by its name
abbrev pub mark_for : List (List ℕ) → List ℕ → List ℕ
mark_for ports port = mark_at (marks_of ports) (number_of ports port)

-- of up to 676 ports any two that differ have marks that differ
abbrev pub MarksDiffer : Type 0
MarksDiffer = (ports : List (List ℕ)) (a b : List ℕ) → length ports ≤ 676 → is_port ports a ≡ true → is_port ports b ≡ true → a ≢ b → mark_for ports a ≢ mark_for ports b
