use Rattle.stow_report.proofs.Cells.{listable}
use Rattle.stow_cli.proofs.showing.listed.Goals as goal

pub listing_of-requires : goal.listing_of-requires
listing_of-requires c = listable c.args.bytes.now c.in-Ok.ensures.read.segments c.in-Ok.message c.requires c.in-Ok.ensures.read.interchange c.in-Ok.ensures.read.is_message
