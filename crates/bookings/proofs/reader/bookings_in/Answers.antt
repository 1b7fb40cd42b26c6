use Rattle.std.proofs.Common.{arith}
use Rattle.toml.specs.View.{table_view}
use Rattle.bookings.proofs.RuleLaws.{rotation_is}
use Rattle.bookings.proofs.reader.bookings_in.Goals as goal

pub overflow_cast-calls : goal.overflow_cast-calls
overflow_cast-calls c = let r = rotation_is (table_view c.args.top.now) c.in_ok-rotation.rotation c.in_ok-rotation.ensures in omega (arith, r.calls_to, c.len-calls.ensures)

pub tariff_in-requires : goal.tariff_in-requires
tariff_in-requires c = let r = rotation_is (table_view c.args.top.now) c.in_ok-rotation.rotation c.in_ok-rotation.ensures in omega (arith, r.calls_from, c.len-calls.ensures)
