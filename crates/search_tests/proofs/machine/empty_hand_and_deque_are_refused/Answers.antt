use Rattle.std.proofs.Common.{[], ◌∷◌, refl, arith}
use Rattle.proof_trees.specs.OneVariable.{one_variable}
use Rattle.search_core.specs.Machine.{Close, begin}
use Rattle.search_core.specs.declared.refused.Refused.TheVariants.{HandEmpty}
use Rattle.search_core.specs.Samples.{same_number, closing}
use Rattle.search_tests.proofs.machine.empty_hand_and_deque_are_refused.Goals as goal

pub returns-clause-close : goal.returns-clause-close
returns-clause-close c = (omega arith, refl)

pub returns-clause-not_both : goal.returns-clause-not_both
returns-clause-not_both c = λ next accepts. c.each_event_has_one_verdict.ensures.not_both same_number one_variable (0 ∷ []) (begin 1 1 1) next (Close 0 closing) HandEmpty accepts (omega arith, refl)

pub returns-clause-pop : goal.returns-clause-pop
returns-clause-pop c = (omega arith, (refl, refl), refl)
