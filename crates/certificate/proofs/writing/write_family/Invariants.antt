use Rattle.std.proofs.Common.{◌≡◌, ◌++◌, take}
use Rattle.certificate.specs.Text.{numbers}
use Rattle.certificate.proofs.writing.write_family.Given as goal

abbrev pub invariant-loop-item : goal.invariant-loop-item
invariant-loop-item l = l.out ≡ l.fn.out ++ (l.name ++ numbers (take l.item-index l.items))
