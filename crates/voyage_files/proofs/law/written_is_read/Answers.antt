use Rattle.plan_files.specs.DepartureFile.{groups, message_of}
use Rattle.plan_files.proofs.ShownBy.{plan_shown}
use Rattle.plan_files.proofs.Shown.{shows_told}
use Rattle.voyage_files.proofs.law.written_is_read.Goals as goal

pub returns : goal.returns
returns c = λ ship bookings arrived cargo plan call rules shipped told stowed.
    shows_told ship cargo call rules shipped (message_of cargo bookings call (groups ship cargo bookings arrived plan)).groups plan (plan_shown ship bookings arrived cargo told plan call rules shipped stowed)
