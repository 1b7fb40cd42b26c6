use Rattle.voyage_meaning.proofs.Fairness.{no_fault, allowed_from}
use Rattle.voyage_meaning.proofs.laws.allowed_without_fault.Goals as goal

pub returns : goal.returns
returns c = λ ship cargo s m b inside. (λ can f x. no_fault ship cargo s m f can x, λ none. allowed_from ship cargo s b m inside none)
