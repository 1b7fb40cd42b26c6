use Rattle.std.proofs.Common.{[], ◌∷◌}
use Rattle.certificate.proofs.Joined.{small_four}
use Rattle.certificate.proofs.line_reader.read_branch.Goals as goal

pub returns-in_default : goal.returns-in_default
returns-in_default c = λ x h same. c.in_default.ensures (x.put ∷ x.kind ∷ x.lifted ∷ x.place ∷ []) (small_four x.put x.kind x.lifted x.place h.0 h.1 h.2 h.3) same
