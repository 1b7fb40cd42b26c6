use Rattle.std.proofs.Common.{arith, ◌≡◌, ◌<◌, false, true, set, ap, ◌∙◌}
use Rattle.row_matrix.specs.Waiting.{waits_at, waiting_in}
use Rattle.row_matrix.proofs.Counts.{waiting_set}
use Rattle.row_matrix.proofs.slacks.Slacks.rest.Goals as goal

pub loop-row-smaller : goal.loop-row-smaller
loop-row-smaller c =
    let some : waits_at c.loop-row.self.waits.items c.in-Some.row ≡ true = c.in-Some.ensures.some.1 in
    let cleared : c.clear.new.self.waits.items ≡ set c.loop-row.self.waits.items c.in-Some.row false = c.clear.ensures.waits ∙ ap (λ w. set w.items c.in-Some.row false) c.next.ensures.waits in
    let counted : waiting_in c.clear.new.self.waits.items ≡ waiting_in (set c.loop-row.self.waits.items c.in-Some.row false) = ap waiting_in cleared in
    let less : waiting_in c.clear.new.self.waits.items < waiting_in c.loop-row.self.waits.items = omega (arith, counted, waiting_set c.loop-row.self.waits.items c.in-Some.row some) in
    less
