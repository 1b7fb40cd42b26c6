use Rattle.std.proofs.Common.{arith}
use Rattle.file_tests.proofs.writing.rewritten.Goals as goal

pub write_baplie-requires : goal.write_baplie-requires
write_baplie-requires c =
    let read = c.in-Ok.ensures.read in
    c.read_is_whole.ensures c.args.bytes.now read.segments c.in-Ok.message (omega arith) read.interchange read.is_message
