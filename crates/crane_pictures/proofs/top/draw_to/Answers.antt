use Rattle.std.proofs.Common.{inr}
use Rattle.crane_pictures.proofs.top.draw_to.Goals as goal

pub returns-in-Err-Kept-clause-run : goal.returns-in-Err-Kept-clause-run
returns-in-Err-Kept-clause-run g c = inr (record {
  foreign = rw c.in-Err-Kept.field-0-is at c.in-Err-Kept.ensures.failed;
  stays = c.in-Err-Kept.ensures.stays;
  says = c.say_name-in-Err-Kept.ensures.printed;
})
