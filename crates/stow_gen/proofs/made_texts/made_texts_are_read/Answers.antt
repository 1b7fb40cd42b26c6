use Rattle.stow_gen.proofs.ReadProfile.{profile_is_read}
use Rattle.stow_gen.proofs.ReadBookings.{made_is_read, made_rules}
use Rattle.stow_gen.proofs.made_texts.made_texts_are_read.Goals as goal

pub returns-clause-profile : goal.returns-clause-profile
returns-clause-profile c = profile_is_read

pub returns-clause-bookings : goal.returns-clause-bookings
returns-clause-bookings c = made_is_read

pub returns-clause-rules : goal.returns-clause-rules
returns-clause-rules c = made_rules
