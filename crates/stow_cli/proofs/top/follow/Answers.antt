use Rattle.std.proofs.Common.{inl, inr, subst}
use Rattle.voyage_files.specs.Named.{IsStop}
use Rattle.stow_cli.proofs.top.follow.Goals as goal

pub returns-in-Err-Failed-clause-follows : goal.returns-in-Err-Failed-clause-follows
returns-in-Err-Failed-clause-follows g c =
    let stop = subst (IsStop _ _) c.in-Err-Failed.field-0-is c.in-Err-Failed.ensures.failed in
    inr (inl (record {
      name = c.in-Err-Failed.name.now;
      is_read = stop.1;
      cause = stop.0;
      stays = c.answer_to.ensures.stays;
      says = c.say_name.ensures.printed;
    }))

pub returns-in-Err-FailedOwn-clause-follows : goal.returns-in-Err-FailedOwn-clause-follows
returns-in-Err-FailedOwn-clause-follows g c =
    let stop = subst (IsStop _ _) c.in-Err-FailedOwn.field-0-is c.in-Err-FailedOwn.ensures.failed in
    inr (inl (record {
      name = c.in-Err-FailedOwn.name;
      is_read = stop.1;
      cause = stop.0;
      stays = c.answer_to.ensures.stays;
      says = rw c.as_str.ensures at c.say_name-in-Err-FailedOwn.ensures.printed;
    }))
