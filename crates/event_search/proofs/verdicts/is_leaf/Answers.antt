use Rattle.std.proofs.Common.{refl, false, ap}
use Rattle.certificate.specs.Entries.{end_of, number_of}
use Rattle.event_search.proofs.Listed.{never}
use Rattle.event_search.proofs.Halves.{no_leaf}
use Rattle.event_search.proofs.verdicts.is_leaf.Goals as goal

pub returns-in-Leaf-clause-is : goal.returns-in-Leaf-clause-is
returns-in-Leaf-clause-is c = (λ k. (c.is_record.ensures.is.0 k, ap (end_of (number_of c.args.model.now)) c.in-Leaf.is), λ r. c.is_record.ensures.is.1 r.0)

pub returns-in-Left-clause-is : goal.returns-in-Left-clause-is
returns-in-Left-clause-is c = (λ h. absurd (never false refl h), λ r. absurd (no_leaf c.args.model.now c.args.entry.now.end c.in-Left.is r.1))
