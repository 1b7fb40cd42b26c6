use Rattle.std.proofs.Common.{ℕ, List, pos, ◌+ℤ◌, ap, ◌∙◌}
use Rattle.std.specs.Prelude.{nat_eq}
use Rattle.proof_trees.specs.Program.{where_set}
use Rattle.row_matrix.specs.declared.entries.Loss.{Loss}
use Rattle.row_matrix.specs.Terms.{loses}
use Rattle.row_matrix.proofs.Stepping.{loses_more}
use Rattle.row_matrix.proofs.written.append_row.Goals as goal

pub returns-in-Ok : goal.returns-in-Ok
returns-in-Ok c = λ k.
    ap (λ (ls : List Loss). loses ls k) c.in-Ok.ensures.items
    ∙ loses_more c.args.losses.now.items c.in_ok-one.one k
    ∙ ap (λ (r : ℕ). loses c.args.losses.now.items k +ℤ where_set (nat_eq r k) (pos c.in_ok-one.one.by)) c.in_ok-one.ensures.0
    ∙ ap (λ (b : ℕ). loses c.args.losses.now.items k +ℤ where_set (nat_eq c.args.row k) (pos b)) c.in_ok-one.ensures.1
