use Rattle.crane_pictures.proofs.Counted.{each, counted}
use Rattle.crane_pictures.proofs.law.drawn_once.Goals as goal

pub returns : goal.returns
returns c = record { each = λ rounds. each rounds 1 rounds; counted = counted }
