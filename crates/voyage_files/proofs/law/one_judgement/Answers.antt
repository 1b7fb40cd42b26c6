use Rattle.voyage_files.proofs.OneNo as judged
use Rattle.voyage_files.proofs.law.one_judgement.Goals as goal

pub returns-clause-yes_or_no : goal.returns-clause-yes_or_no
returns-clause-yes_or_no c = λ m head tree texts cause problem named h k. judged.yes_or_no m problem head tree texts cause named h k

pub returns-clause-one_cause : goal.returns-clause-one_cause
returns-clause-one_cause c = λ m head tree texts a b problem na nb h k. judged.one_no m problem head tree texts a b na nb h k
