-- How the least fault is found. No public clause cites this module.
use Rattle.std.specs.Prelude.{ℕ, ◌+◌, Bool, true, false, ◌==◌, List, [], ◌∷◌, ◌++◌, length, find, Option, Some, None, slice_get, if◌then◌else◌}
use Rattle.std.specs.List.{list_any}
use Rattle.std.specs.Option.{option_or}
use Rattle.edifact_segments.specs.declared.segments.Segment.{Segment}
use Rattle.baplie.specs.declared.causes.Cause.{Cause}
use Rattle.baplie.specs.declared.causes.Cause.TheVariants.{NotBaplie, ManyMessages, NoUnt, BadCell, AgencyLeftOut, TwoContainers, BreakbulkLeftOut, NoId, NameTooLong, LengthLeftOut, UnitLeftOut, BadWeight, NoWeightOrPort, BadCount, CountWrong, ReferenceWrong}
use Rattle.baplie.specs.Segments.{element, same_element, is_unt, is_unz}
use Rattle.baplie.specs.Groups.{prior, shows}
use Rattle.baplie.specs.Faults.{rest, body, head, groups, is_titled, counted, count_of, referred}

-- the cause at a segment with this number, or else what is found later
abbrev pub or_later : ℕ → Option Cause → Option (ℕ × Cause) → Option (ℕ × Cause)
or_later n None later = later
or_later n (Some cause) later = Some (n, cause)

-- the first segment, of those behind others and with numbers from n, at which a cause is picked
abbrev pub scan : (List Segment → Segment → Option Cause) → ℕ → List Segment → List Segment → Option (ℕ × Cause)
scan pick n before [] = None
scan pick n before (s ∷ ss) = or_later n (pick before s) (scan pick (n + 1) (before ++ s ∷ []) ss)

-- the causes in a group, by number
abbrev pub group_causes : List Cause
group_causes = BadCell ∷ AgencyLeftOut ∷ TwoContainers ∷ BreakbulkLeftOut ∷ NoId ∷ NameTooLong ∷ LengthLeftOut ∷ UnitLeftOut ∷ BadWeight ∷ NoWeightOrPort ∷ []

-- the least cause at a segment of a group
abbrev pub group_cause : List Segment → List Segment → Segment → Option Cause
group_cause group before s = find (shows (prior group before) s) group_causes

abbrev pub groups_fault : ℕ → List (List Segment) → Option (ℕ × Cause)
groups_fault n [] = None
groups_fault n (g ∷ gs) = option_or (scan (group_cause g) n [] g) (groups_fault (n + length g) gs)

abbrev pub count_cause : ℕ → Option ℕ → Option Cause
count_cause found None = Some BadCount
count_cause found (Some said) = if said == found then None else Some (CountWrong said found)

abbrev pub reference_cause : Bool → Option Cause
reference_cause true = None
reference_cause false = Some ReferenceWrong

-- the least cause at a segment behind UNH, by whether UNT stands before it, whether it is UNZ and UNT, its count, the one that is found, and whether its reference is right
abbrev pub least_of : Bool → Bool → Bool → Option ℕ → ℕ → Bool → Option Cause
least_of true false unt count found same = Some ManyMessages
least_of false true unt count found same = Some NoUnt
least_of false false false count found same = None
least_of true true unt count found same = option_or (count_cause found count) (reference_cause same)
least_of false false true count found same = option_or (count_cause found count) (reference_cause same)

abbrev pub end_cause : List Segment → List Segment → Segment → Option Cause
end_cause segments before s =
    least_of (list_any is_unt before) (is_unz s) (is_unt s) (count_of (element s 1)) (counted (length before + 2) s) (same_element (element s 2) (referred segments s))

abbrev pub first_behind_title : List Segment → Option (ℕ × Cause)
first_behind_title segments = option_or (groups_fault (3 + length (head (body segments))) (groups (body segments))) (scan (end_cause segments) 3 [] (rest segments))

-- the least fault of a list of segments
abbrev pub first_fault : List Segment → Option (ℕ × Cause)
first_fault segments = if is_titled (slice_get segments 1) then first_behind_title segments else Some (2, NotBaplie)
