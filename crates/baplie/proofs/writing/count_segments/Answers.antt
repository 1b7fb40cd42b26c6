use Rattle.std.proofs.Common.{◌≡◌, ◌<◌, ◌∙◌, ap, length, get_or, arith}
use Rattle.baplie.specs.declared.parts.CellGroup.{CellGroup}
use Rattle.baplie.proofs.Scans.{length-pieces}
use Rattle.baplie.proofs.writing.count_segments.Goals as goal

pub overflow_add-count : goal.overflow_add-count
overflow_add-count c =
    let groups = c.args.groups.now in
    let i = c.loop-group.group-index in
    let g = c.group-item.result in
    let within : i < length groups = omega (arith, ap length c.as_slice-group-items.ensures) in
    let item : g ≡ get_or groups i g = c.group-item.is ∙ ap (λ gs. get_or gs i g) c.as_slice-group-items.ensures in
    omega (arith, c.loop-group.invariant, c.len-count.ensures, length-pieces (λ (x : CellGroup). x.segments) groups i g within, c.requires, ap (λ (x : CellGroup). length x.segments) item)
