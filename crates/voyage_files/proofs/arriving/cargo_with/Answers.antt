use Rattle.arrival_plan.proofs.Weights.{settleable}
use Rattle.voyage_files.proofs.arriving.cargo_with.Goals as goal

pub settle-requires-clause-read : goal.settle-requires-clause-read
settle-requires-clause-read c = settleable c.requires.read.bytes c.args.message.now c.requires.read.short c.requires.read.is_message
