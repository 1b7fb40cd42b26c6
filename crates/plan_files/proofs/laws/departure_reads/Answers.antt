use Rattle.plan_files.specs.DepartureFile.{groups}
use Rattle.plan_files.proofs.Departures.{reads_as}
use Rattle.plan_files.proofs.Planned.{plan_whole}
use Rattle.plan_files.proofs.ShownBy.{plan_shown}
use Rattle.plan_files.proofs.laws.departure_reads.Goals as goal

pub returns-clause-whole : goal.returns-clause-whole
returns-clause-whole c ship bookings arrived cargo plan call s b came shipped h formed l = plan_whole ship bookings arrived cargo plan s b shipped came h formed call l

pub returns-clause-reads : goal.returns-clause-reads
returns-clause-reads c ship bookings arrived cargo plan call s b came shipped h formed l = reads_as cargo bookings call (groups ship cargo bookings arrived plan) (plan_whole ship bookings arrived cargo plan s b shipped came h formed call l)

pub returns-clause-shows : goal.returns-clause-shows
returns-clause-shows c ship bookings arrived cargo plan call s shipped h stowed = plan_shown ship bookings arrived cargo h plan call s shipped stowed
