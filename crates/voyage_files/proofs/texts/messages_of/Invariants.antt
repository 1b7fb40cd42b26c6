use Rattle.std.proofs.Common.{take}
use Rattle.voyage_files.specs.Files.{AreMessages}
use Rattle.voyage_files.proofs.texts.messages_of.Given as goal

abbrev pub invariant-loop-index : goal.invariant-loop-index
invariant-loop-index l = AreMessages (take l.index l.texts) l.messages
