use Rattle.std.proofs.Common.{◌≡◌, ℕ, List, length, sym, ap, ◌∙◌, arith}
use Rattle.std.specs.BTreeMap.{get}
use Rattle.bookings.specs.Ids.{name_order}
use Rattle.plan_files.proofs.Tables.{table_more, table_whole}
use Rattle.plan_files.proofs.ids.id_table.Goals as goal

pub loop-number-preserved : goal.loop-number-preserved
loop-number-preserved c = table_more c.args.cargo.now.containers c.loop-number.number c.container.result.now c.loop-number.table c.enter.new.table c.container.ensures
    (ap (λ (id : List ℕ). get name_order c.enter.new.table id) (sym c.copy.ensures) ∙ c.in_ok-enter.ensures.this)
    (λ other ne. c.in_ok-enter.ensures.others other (λ e. ne (e ∙ c.copy.ensures)))
    c.loop-number.invariant

pub returns : goal.returns
returns c =
    let end : c.loop-number.number ≡ length c.args.cargo.now.containers = omega (arith, c.len-number-end.ensures, c.loop-number-test.false, c.loop-number.auto.number-end) in
    table_whole c.args.cargo.now.containers c.loop-number.number c.loop-number.table end c.loop-number.invariant
