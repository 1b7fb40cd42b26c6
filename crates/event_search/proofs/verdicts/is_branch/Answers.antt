use Rattle.std.proofs.Common.{refl, false, ap}
use Rattle.certificate.specs.Entries.{end_of, number_of}
use Rattle.certificate.specs.declared.tree.End.{End}
use Rattle.search_core.specs.Journals.{branches}
use Rattle.event_search.proofs.Listed.{never}
use Rattle.event_search.proofs.Halves.{no_branch}
use Rattle.event_search.proofs.verdicts.is_branch.Goals as goal

pub returns-in-Branch-clause-is : goal.returns-in-Branch-clause-is
returns-in-Branch-clause-is c = (λ k. (c.is_record.ensures.is.0 k, ap (λ (e : End). branches (end_of (number_of c.args.model.now) e)) c.in-Branch.is), λ r. c.is_record.ensures.is.1 r.0)

pub returns-in-Leaf-clause-is : goal.returns-in-Leaf-clause-is
returns-in-Leaf-clause-is c = (λ h. absurd (never false refl h), λ r. absurd (no_branch c.args.model.now c.args.entry.now.end c.in-Leaf.is r.1))
