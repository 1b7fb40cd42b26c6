use Rattle.std.proofs.Common.{arith, ap, length}
use Rattle.stow_data.specs.Ship.{Ship, halves}
use Rattle.zero_one_rows.proofs.counts.count_a_call.Goals as goal

pub returns-clause-number : goal.returns-clause-number
returns-clause-number g c =
    let a = ap (λ (s : Ship). length (halves s)) c.requires in
    let b = ap (λ (s : Ship). length s.stacks) c.requires in
    omega (arith, a, b, c.halves.ensures, c.stacks.ensures, c.count_uppers.ensures.number, c.count_lowers.ensures.number, c.count_hatches.ensures.number, c.count_near.ensures.number)
