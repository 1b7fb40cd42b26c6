use Rattle.search_core.proofs.Earlier
use Rattle.search_core.proofs.laws.ended_keys_are_told.Goals as goal

pub returns-clause-ends : goal.returns-clause-ends
returns-clause-ends g c = λ s d i done stand h e. Earlier.ends s d i done stand h e

pub returns-clause-halves : goal.returns-clause-halves
returns-clause-halves g c = λ s d i done stand h e. Earlier.halves s d i done stand h e

pub returns-clause-earlier : goal.returns-clause-earlier
returns-clause-earlier g c = λ ds k d h e. Earlier.earlier ds k d h e

pub returns-clause-told : goal.returns-clause-told
returns-clause-told g c = λ entry ds k d h e. Earlier.told_is entry ds k d h e
