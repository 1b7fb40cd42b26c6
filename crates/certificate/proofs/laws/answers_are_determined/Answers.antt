use Rattle.certificate.proofs.Determined.{one_tree, one_fault, no_fault, some_answer}
use Rattle.certificate.proofs.Stopping.{title_told}
use Rattle.certificate.proofs.laws.answers_are_determined.Goals as goal

pub returns-clause-one_tree : goal.returns-clause-one_tree
returns-clause-one_tree c = one_tree

pub returns-clause-one_fault : goal.returns-clause-one_fault
returns-clause-one_fault c = one_fault

pub returns-clause-no_fault : goal.returns-clause-no_fault
returns-clause-no_fault c = no_fault

pub returns-clause-answer : goal.returns-clause-answer
returns-clause-answer c = some_answer

pub returns-clause-title : goal.returns-clause-title
returns-clause-title c = title_told
