use Rattle.std.proofs.Common.{sym, inr}
use Rattle.picture_files.proofs.top.view.Goals as goal

pub returns-in-Err-Kept-clause-run : goal.returns-in-Err-Kept-clause-run
returns-in-Err-Kept-clause-run g c = inr (record {
  names = c.in-Some.names.now;
  names_are = sym c.in-Some.ensures;
  page = c.in-Err-Kept.page;
  foreign = rw c.in-Err-Kept.field-0-is at c.in-Err-Kept.ensures.answered;
  stays = c.in-Err-Kept.ensures.stays;
  says = rw (← c.as_str.ensures) c.say_name-in-Err-Kept.ensures.printed;
})
