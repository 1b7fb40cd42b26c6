use Rattle.std.proofs.Common.{rules}
use Rattle.zero_one_rows.proofs.Offered.{suited_more}
use Rattle.zero_one_rows.proofs.offers.suited_places.Goals as goal

pub loop-p-preserved : goal.loop-p-preserved
loop-p-preserved c = suited_more c.args.ship.now c.args.long c.args.reefer c.fits.result c.loop-p.p c.loop-p.list c.push_wanted.new.list (search rules) c.fits.ensures c.in_ok-push_wanted.ensures c.loop-p.invariant
