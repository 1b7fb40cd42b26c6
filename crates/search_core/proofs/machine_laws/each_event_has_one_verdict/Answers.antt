use Rattle.search_core.proofs.Verdicts.{each_event, never_both}
use Rattle.search_core.proofs.OneVerdict.{one_next, one_cause}
use Rattle.search_core.proofs.machine_laws.each_event_has_one_verdict.Goals as goal

pub returns-clause-some : goal.returns-clause-some
returns-clause-some g c = λ same p base state event. each_event same p base state event

pub returns-clause-not_both : goal.returns-clause-not_both
returns-clause-not_both g c = λ same p base state next event cause accepts refuses. never_both same p base state next event cause accepts refuses

pub returns-clause-one_state : goal.returns-clause-one_state
returns-clause-one_state g c = λ same p base state next other event a b. one_next same p base state next other event a b

pub returns-clause-one_cause : goal.returns-clause-one_cause
returns-clause-one_cause g c = λ same p base state event cause other a b. one_cause same p base state event cause other a b
