use Rattle.std.proofs.Common.{length}
use Rattle.voyage_probe.proofs.files.+add_messages.Given as goal

abbrev pub decreases-add_messages : goal.decreases-add_messages
decreases-add_messages l = length l.names.now
