use Rattle.std.proofs.Common.{Some, sym}
use Rattle.std.proofs.lemmas.Option.{none-some}
use Rattle.stow_data.proofs.Made.{stack_in}
use Rattle.greedy_loader.proofs.Aboard.{open_free}
use Rattle.greedy_loader.proofs.opening.is_barred.Goals as goal

pub is_too_high-requires-clause-inside : goal.is_too_high-requires-clause-inside
is_too_high-requires-clause-inside c = stack_in c.args.ship.now c.args.p c.args.place.now c.requires.at

pub returns-in-Some : goal.returns-in-Some
returns-in-Some c h x open_ = none-some c.in-Some.field-0 (sym (open_free c.args.ship.now c.args.cargo.now c.args.layout.now.plan x c.args.p c.args.place.now (Some c.in-Some.field-0) c.requires.at open_ c.in-Some.ensures))
