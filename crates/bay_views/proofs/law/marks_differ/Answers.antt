use Rattle.bay_views.proofs.Marked.{marks_differ}
use Rattle.bay_views.proofs.law.marks_differ.Goals as goal

pub returns : goal.returns
returns c = marks_differ
