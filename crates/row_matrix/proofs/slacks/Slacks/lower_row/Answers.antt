use Rattle.std.proofs.Common.{arith, ◌≡◌, ◌<◌, false, length, sym, ◌∙◌}
use Rattle.row_matrix.proofs.Rows.{read}
use Rattle.row_matrix.specs.Waiting.{waits_at}
use Rattle.row_matrix.proofs.Counts.{waiting_more, waiting_most}
use Rattle.row_matrix.proofs.slacks.Slacks.lower_row.Goals as goal

pub overflow_add-self : goal.overflow_add-self
overflow_add-self c = omega (arith, c.requires.count, waiting_most c.args.self.now.waits.items, c.args.self.now.waits.ok.0)

pub returns-clause-count : goal.returns-clause-count
returns-clause-count c =
    let inside : c.args.row < length c.args.self.now.waits.items = omega (arith, c.requires.row, c.requires.marks) in
    let rested : waits_at c.args.self.now.waits.items c.args.row ≡ false = sym (read c.args.self.now.waits.items c.args.row c.index-2.result.now false inside c.index-2.ensures) ∙ c.if-index.false in
    omega (arith, c.requires.count, waiting_more c.args.self.now.waits.items c.args.row inside rested)
