-- The character set of an interchange (ISO 9735).
use Rattle.std.specs.Prelude.{ℕ, Bool, true, nat_lt, codes, List, if◌then◌else◌}
use Rattle.baplie.specs.Segments.{component, same_text}
use Rattle.baplie.specs.declared.parts.Message.{Message}
use Rattle.bay_views.specs.declared.character_sets.CharacterSet.{CharacterSet}
use Rattle.bay_views.specs.declared.character_sets.CharacterSet.TheVariants.{Ascii, Latin1}

-- whether a byte stands for a character of the set
abbrev pub has_byte : CharacterSet → ℕ → Bool
has_byte Ascii b = nat_lt b 128
has_byte Latin1 b = true

-- the set of a syntax identifier: level C has ISO 8859-1, levels A and B have ASCII
abbrev pub set_named : List ℕ → CharacterSet
set_named identifier = if same_text identifier (codes "UNOC") then Latin1 else Ascii

-- the set of a message, whose interchange names it in UNB
abbrev pub character_set_of : Message → CharacterSet
character_set_of m = set_named (component m.service 1 1)
