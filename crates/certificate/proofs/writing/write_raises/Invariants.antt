use Rattle.std.proofs.Common.{◌≡◌, ◌++◌, take}
use Rattle.std.specs.Prelude.{flat_map}
use Rattle.certificate.specs.declared.lines.Line.TheVariants as line
use Rattle.certificate.specs.Text.{whole}
use Rattle.certificate.proofs.writing.write_raises.Given as goal

abbrev pub invariant-loop-raise : goal.invariant-loop-raise
invariant-loop-raise l = l.out ≡ l.fn.out ++ flat_map (λ raise. whole (line.Change raise)) (take l.raise-index l.raises)
