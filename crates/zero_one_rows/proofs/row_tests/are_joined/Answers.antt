use Rattle.std.proofs.Common.{◌∙◌}
use Rattle.zero_one_rows.proofs.Hatches.{joined_is}
use Rattle.zero_one_rows.proofs.row_tests.are_joined.Goals as goal

pub returns : goal.returns
returns c = c.is_one_cover.ensures ∙ joined_is c.args.ship.now c.args.s c.args.t c.cover_over.result c.cover_under.result c.cover_over.ensures.is c.cover_over.ensures.back c.cover_under.ensures.is c.cover_under.ensures.back
