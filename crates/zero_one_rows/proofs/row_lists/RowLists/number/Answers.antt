use Rattle.std.proofs.Common.{◌≡◌, ◌∙◌, arith, sym}
use Rattle.std.proofs.lemmas.Bool.{false≢true}
use Rattle.std.proofs.lemmas.Option.{slice_get_within, same_Some}
use Rattle.zero_one_rows.specs.Counted.{rows_in}
use Rattle.zero_one_rows.proofs.Found.{absent}
use Rattle.zero_one_rows.proofs.row_lists.RowLists.number.Goals as goal

pub returns-then-k-all : goal.returns-then-k-all
returns-then-k-all c = absent (rows_in c.args.self.now) c.rows_before-k.result c.args.row.now c.requires.order c.rows_before-k.ensures.before c.rows_before-k.ensures.after
    (λ s e q. (let w = slice_get_within (rows_in c.args.self.now) c.rows_before-k.result s e in omega (arith, w, c.if-k-all.true, c.requires.all)))

pub returns-else-is_same : goal.returns-else-is_same
returns-else-is_same c = absent (rows_in c.args.self.now) c.rows_before-k.result c.args.row.now c.requires.order c.rows_before-k.ensures.before c.rows_before-k.ensures.after
    (λ s e q. (let same : c.at.result ≡ c.args.row.now = same_Some c.at.result s (sym c.at.ensures ∙ e) ∙ q in false≢true (sym c.if-is_same.false ∙ c.is_same.ensures.1 same)))
