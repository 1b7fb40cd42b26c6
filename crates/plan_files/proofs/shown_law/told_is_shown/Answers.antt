use Rattle.plan_files.proofs.Shown.{told_shows, shows_told}
use Rattle.plan_files.proofs.shown_law.told_is_shown.Goals as goal

pub returns-clause-told_shows : goal.returns-clause-told_shows
returns-clause-told_shows c ship cargo call groups plan rules shipped h = told_shows ship cargo call rules shipped groups plan h

pub returns-clause-shown_is_told : goal.returns-clause-shown_is_told
returns-clause-shown_is_told c ship cargo call groups plan rules shipped h = shows_told ship cargo call rules shipped groups plan h
