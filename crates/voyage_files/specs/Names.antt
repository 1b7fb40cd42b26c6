-- The names of the inputs.
use Rattle.std.specs.Prelude.{ℕ, List, Option}

-- the profile, the bookings, the front of the names of the departure files and of the certificate, and the bay plan of the ship as it comes in, where one is named
pub record Names : Type 0 where
  pub profile : List ℕ
  pub bookings : List ℕ
  pub base : List ℕ
  pub arrival : Option (List ℕ)

abbrev pub names_from : List ℕ → List ℕ → List ℕ → Option (List ℕ) → Names
names_from profile bookings base arrival = record { profile = profile; bookings = bookings; base = base; arrival = arrival }
