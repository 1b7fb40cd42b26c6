use Rattle.std.proofs.Common.{map, [], ◌∷◌}
use Rattle.zero_one_rows.specs.Rows.{whole}
use Rattle.proof_trees.specs.Trees.{root}
use Rattle.certificate.specs.Entries.{entry_of}
use Rattle.bound_checker.proofs.FirstFault.{faultless, no_fault}
use Rattle.bound_checker.proofs.laws.proved_or_fault.Goals as goal

pub returns-clause-faultless : goal.returns-clause-faultless
returns-clause-faultless c = λ m records bound none. faultless (whole m) bound 1 (root (whole m) ∷ []) (map (entry_of m) records) none

pub returns-clause-proved : goal.returns-clause-proved
returns-clause-proved c = λ m records bound proves. no_fault (whole m) bound 1 (root (whole m) ∷ []) (map (entry_of m) records) proves
