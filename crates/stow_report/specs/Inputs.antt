-- The lines of limits that are passed, of refused profiles and of refused bookings.
use Rattle.std.specs.Prelude.{ℕ, pos, false, [], ◌∷◌}
use Rattle.stow_data.specs.declared.limits.Limit.{Limit}
use Rattle.stow_data.specs.declared.limits.Limit.TheVariants.{Calls, Containers, Places, Variables, Rows, Certificate}
use Rattle.ship_profile.specs.declared.faults.ProfileFault.{ProfileFault}
use Rattle.ship_profile.specs.declared.faults.ProfileFault.TheVariants as profile
use Rattle.ship_profile.specs.Keys as profile_keys
use Rattle.bookings.specs.declared.faults.BookingFault.{BookingFault}
use Rattle.bookings.specs.declared.faults.BookingFault.TheVariants as booking
use Rattle.bookings.specs.Spelling as booking_keys
use Rattle.stow_report.specs.declared.lines.Group.TheVariants.{Profile, Bookings, Large}
use Rattle.stow_report.specs.declared.lines.Line.{Line}
use Rattle.stow_report.specs.Refusals.{numbered, keyed}

-- the limits by their numbers
abbrev pub limit_number : Limit → ℕ
limit_number Calls = 1
limit_number Containers = 2
limit_number Places = 3
limit_number Variables = 4
limit_number Rows = 5
limit_number Certificate = 6

-- a limit, and the number that passes it
abbrev pub limit_line : Limit → ℕ → Line
limit_line limit n = numbered false Large (limit_number limit) (pos n ∷ [])

-- a text that is no profile: the key as the file spells it, the entry from 1, or the cell or stack at fault
abbrev pub profile_line : ProfileFault → Line
profile_line profile.NotToml = numbered false Profile 1 []
profile_line (profile.Missing key index) = keyed false Profile 2 (profile_keys.spelling key) (pos index ∷ [])
profile_line (profile.BadValue key index) = keyed false Profile 3 (profile_keys.spelling key) (pos index ∷ [])
profile_line (profile.GapInStack index) = numbered false Profile 4 (pos index ∷ [])
profile_line (profile.DuplicateCell bay row tier) = numbered false Profile 5 (pos bay ∷ pos row ∷ pos tier ∷ [])
profile_line (profile.CoverUnknownStack index) = numbered false Profile 6 (pos index ∷ [])
profile_line (profile.CoverTwice stack) = numbered false Profile 7 (pos stack ∷ [])
profile_line (profile.BadSeparation index) = numbered false Profile 8 (pos index ∷ [])
profile_line (profile.TooLarge limit n) = limit_line limit n
profile_line profile.NoMemory = numbered false Profile 10 []

-- a text that is no bookings: the key as the file spells it, and the entry from 1
abbrev pub booking_line : BookingFault → Line
booking_line booking.NotToml = numbered false Bookings 1 []
booking_line (booking.Missing key index) = keyed false Bookings 2 (booking_keys.spelling key) (pos index ∷ [])
booking_line (booking.BadValue key index) = keyed false Bookings 3 (booking_keys.spelling key) (pos index ∷ [])
booking_line (booking.CallOrder index) = numbered false Bookings 4 (pos index ∷ [])
booking_line (booking.LengthUnknown index) = numbered false Bookings 5 (pos index ∷ [])
booking_line (booking.DuplicateId index) = numbered false Bookings 6 (pos index ∷ [])
booking_line (booking.TooLarge limit n) = limit_line limit n
booking_line booking.NoMemory = numbered false Bookings 8 []
