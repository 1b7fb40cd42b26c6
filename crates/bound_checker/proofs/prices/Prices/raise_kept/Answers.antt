use Rattle.std.proofs.Common.{subst}
use Rattle.zero_one_rows.specs.declared.program.Raise.{Raise}
use Rattle.zero_one_rows.specs.Rows.{whole}
use Rattle.certificate.specs.Entries.{raise_of}
use Rattle.bound_checker.specs.Faults.{raised_row}
use Rattle.bound_checker.specs.Prices.{Holds, Ends}
use Rattle.bound_checker.proofs.prices.Prices.raise_kept.Goals as goal

pub returns : goal.returns
returns c = λ first ms k holds.
    subst (λ (r : Raise). Ends (λ ns. Holds c.args.model.now c.args.b.now first k ns c.raise.new.self) (raised_row (whole c.args.model.now) c.args.node ms (raise_of r)) c.raise.result) c.raise-raise.ensures (c.raise.ensures first ms k holds)
