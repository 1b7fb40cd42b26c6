use Rattle.std.proofs.Common.{◌+◌, ◌-◌, ◌/◌, arith, sym, ◌∙◌}
use Rattle.std.proofs.lemmas.Bool.{false≢true}
use Rattle.std.proofs.lemmas.Option.{slice_get_within}
use Rattle.zero_one_rows.specs.Counted.{rows_in}
use Rattle.zero_one_rows.proofs.Found.{before_more, after_from}
use Rattle.zero_one_rows.proofs.row_lists.RowLists.rows_before.Goals as goal

pub loop-low-init : goal.loop-low-init
loop-low-init c = record {
  ordered = omega arith;
  within = omega arith;
  before = λ k r l e. absurd (omega (arith, l));
  after = λ k r l e p. (let w = slice_get_within (rows_in c.args.self.now) k r e in omega (arith, l, w, c.requires.all));
}

pub loop-low-preserved-then-is_before : goal.loop-low-preserved-then-is_before
loop-low-preserved-then-is_before c = record {
  ordered = omega (arith, c.loop-low-test.true);
  within = c.loop-low.invariant.within;
  before = before_more (rows_in c.args.self.now) (c.loop-low.low + (c.loop-low.high - c.loop-low.low) / 2) c.at.result c.args.row.now c.requires.order c.at.ensures (c.is_before.ensures.0 c.if-is_before.true);
  after = c.loop-low.invariant.after;
}

pub loop-low-preserved : goal.loop-low-preserved
loop-low-preserved c = record {
  ordered = omega (arith, c.loop-low-test.true);
  within = omega (arith, c.loop-low-test.true, c.loop-low.invariant.within);
  before = c.loop-low.invariant.before;
  after = after_from (rows_in c.args.self.now) (c.loop-low.low + (c.loop-low.high - c.loop-low.low) / 2) c.at.result c.args.row.now c.requires.order c.at.ensures (λ p. false≢true (sym c.if-is_before.false ∙ c.is_before.ensures.1 p));
}
