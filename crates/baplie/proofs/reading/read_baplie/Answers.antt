use Rattle.std.proofs.Common.{arith, ap, length}
use Rattle.edifact_segments.proofs.Lengths.{few}
use Rattle.baplie.proofs.reading.read_baplie.Goals as goal

pub read_message-requires : goal.read_message-requires
read_message-requires c = omega (arith, ap length c.as_slice.ensures, few c.args.bytes.now c.in-Ok.segments c.in-Ok.ensures.read)
