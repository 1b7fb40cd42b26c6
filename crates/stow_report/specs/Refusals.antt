-- A refusal as a line, and its text.
use Rattle.std.specs.Prelude.{ℕ, ℤ, Bool, true, false, codes, List, [], ◌∷◌, ◌++◌, map, flat_map}
use Rattle.std.specs.Fmt.{decimal, signed_decimal}
use Rattle.stow_report.specs.declared.lines.Group.{Group}
use Rattle.stow_report.specs.declared.lines.Group.TheVariants.{Words, Profile, Bookings, Edifact, Baplie, Arrival, Large, Cert, Plan, Bound, Numbers}
use Rattle.stow_report.specs.declared.lines.Field.{Field}
use Rattle.stow_report.specs.declared.lines.Field.TheVariants.{Number, Named}
use Rattle.stow_report.specs.declared.lines.Line.{Line}

-- a line whose fields are numbers
abbrev pub numbered : Bool → Group → ℕ → List ℤ → Line
numbered checked group n numbers = record { checked = checked; group = group; number = n; fields = map (λ z. Number z) numbers }

-- a line whose fields are a name and then numbers
abbrev pub keyed : Bool → Group → ℕ → List ℕ → List ℤ → Line
keyed checked group n key numbers = record { checked = checked; group = group; number = n; fields = Named key ∷ map (λ z. Number z) numbers }

abbrev pub group_word : Group → List ℕ
group_word Words = codes "words"
group_word Profile = codes "profile"
group_word Bookings = codes "bookings"
group_word Edifact = codes "edifact"
group_word Baplie = codes "baplie"
group_word Arrival = codes "arrival"
group_word Large = codes "large"
group_word Cert = codes "cert"
group_word Plan = codes "plan"
group_word Bound = codes "bound"
group_word Numbers = codes "numbers"

-- numbers in decimal, names as they are
abbrev pub field_text : Field → List ℕ
field_text (Number n) = signed_decimal n
field_text (Named name) = name

abbrev pub opening : Bool → List ℕ
opening true = codes "check no "
opening false = codes "refused "

-- the group, the number and the fields, each behind a space, and a line feed
abbrev pub refusal_text : Line → List ℕ
refusal_text line = opening line.checked ++ group_word line.group ++ 32 ∷ decimal line.number ++ flat_map (λ f. 32 ∷ field_text f) line.fields ++ 10 ∷ []
