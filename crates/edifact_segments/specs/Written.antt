-- The written form of a segment (ISO 9735): the default service characters, of which those in a
-- component are released; a line feed after the terminator.
use Rattle.std.specs.Prelude.{ℕ, Bool, List, [], ◌∷◌, ◌++◌, ◌||◌, ◌==◌, if◌then◌else◌}
use Rattle.std.specs.List.{flat_map}
use Rattle.edifact_segments.specs.Canonical.{canonical}
use Rattle.edifact_segments.specs.declared.segments.Segment.{Segment}

-- `:`, `+`, `?` and `'`
abbrev pub is_service : ℕ → Bool
is_service b = b == 58 || b == 43 || b == 63 || b == 39

-- each service character behind the release character `?`
abbrev pub released_byte : ℕ → List ℕ
released_byte b = if is_service b then 63 ∷ b ∷ [] else b ∷ []

abbrev pub released : List ℕ → List ℕ
released text = flat_map released_byte text

-- the components with `:` between them
abbrev pub written_element : List (List ℕ) → List ℕ
written_element [] = []
written_element (c ∷ []) = released c
written_element (c ∷ d ∷ cs) = released c ++ 58 ∷ written_element (d ∷ cs)

-- each element behind a `+`
abbrev pub written_elements : List (List (List ℕ)) → List ℕ
written_elements elements = flat_map (λ e. 43 ∷ written_element e) elements

-- the tag, the elements in canonical form, the terminator `'` and a line feed
abbrev pub written : Segment → List ℕ
written s = s.tag ++ written_elements (canonical s.elements) ++ 39 ∷ 10 ∷ []
