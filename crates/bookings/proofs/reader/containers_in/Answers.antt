use Rattle.std.proofs.Common.{rules}
use Rattle.bookings.specs.Reading.{containers_in}
use Rattle.toml_values.specs.Arrays.{each_after}
use Rattle.bookings.proofs.reader.containers_in.Goals as goal

pub returns-in_default : goal.returns-in_default
unfolding containers_in each_after
returns-in_default c = search rules
