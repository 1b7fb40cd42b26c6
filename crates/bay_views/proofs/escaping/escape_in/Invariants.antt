use Rattle.std.proofs.Common.{◌≡◌, ◌++◌, take}
use Rattle.std.specs.Prelude.{flat_map}
use Rattle.bay_views.specs.Escapes.{written_in}
use Rattle.bay_views.proofs.escaping.escape_in.Given as goal

abbrev pub invariant-loop-byte : goal.invariant-loop-byte
invariant-loop-byte l = l.out ≡ l.fn.out ++ flat_map (written_in l.set) (take l.byte-index l.text)
