-- A made ship: its profile and its bookings, and what they are answered.
use Rattle.std.specs.Prelude.{ℕ, codes, List, [], ◌∷◌, ◌++◌, Option, Some, None}
use Rattle.stow_io.specs.Files.{Files}
use Rattle.stow_gen.specs.Profile.{profile_text}
use Rattle.stow_gen.specs.Bookings.{bookings_text}
use Rattle.stow_io.specs.Writing.{with_files}
use Rattle.stow_io.specs.declared.files.NamedFile.{NamedFile}
use Rattle.voyage_files.specs.Names.{Names, names_from}
use Rattle.voyage_files.specs.declared.answer.Answer.{Answer}
use Rattle.voyage_files.specs.declared.answer.Answer.TheVariants as answer
use Rattle.voyage_files.specs.declared.voyage.BookedVoyage.{BookedVoyage}
use Rattle.stow_gen.specs.MadeShip.{made_ship}
use Rattle.stow_gen.specs.MadeBookings.{made_bookings}
use Rattle.stow_gen.specs.MadeVoyage.{made_cargo}

-- the names of a made profile and of made bookings
abbrev pub profile_name : List ℕ → List ℕ
profile_name base = base ++ codes ".profile.toml"

abbrev pub bookings_name : List ℕ → List ℕ
bookings_name base = base ++ codes ".bookings.toml"

-- the profile and the bookings of the made ship of a number, in the order in which they are written
abbrev pub made_files : ℕ → List ℕ → List NamedFile
made_files number base = record { name = profile_name base; bytes = profile_text } ∷ record { name = bookings_name base; bytes = bookings_text number } ∷ []

-- they are the inputs; the ship comes in empty
abbrev pub made_names : List ℕ → Names
made_names base = names_from (profile_name base) (bookings_name base) base None

-- what they are read as: the made ship, its bookings and the cargo that these make
abbrev pub made_inputs : ℕ → BookedVoyage
made_inputs number = record { ship = made_ship; bookings = made_bookings number; message = None; cargo = made_cargo number }

-- a folder that holds nothing
abbrev pub no_files : Option Files
no_files = Some (λ _. None)

-- a folder that holds the two files alone
abbrev pub only_made : ℕ → List ℕ → Option Files
only_made number base = with_files (made_files number base) no_files

-- the same answer, with these files written before its own
abbrev pub behind : List NamedFile → Answer → Answer
behind front (answer.Work work) = answer.Work (record work { files = front ++ work.files })
behind front (answer.No line) = answer.No line
behind front (answer.Input line) = answer.Input line
behind front (answer.Large line) = answer.Large line
behind front answer.Call = answer.Call
