use Rattle.std.proofs.Common.{◌≡◌, [], ◌∷◌, take, get_or}
use Rattle.std.specs.Fmt.{decimal}
use Rattle.baplie.proofs.writing.write_trailer.Given as goal

abbrev pub invariant-loop-k : goal.invariant-loop-k
invariant-loop-k l = l.elements ≡ (decimal l.count ∷ []) ∷ take l.k (get_or l.referred.elements l.n []) ∷ []
