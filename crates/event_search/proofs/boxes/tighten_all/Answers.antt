use Rattle.std.proofs.Common.{◌≡◌, ◌+◌, true, length, drop, sym, ◌∙◌, ap, arith, rules}
use Rattle.std.proofs.lemmas.List.{drop_all}
use Rattle.zero_one_rows.specs.declared.program.Row.{Row}
use Rattle.zero_one_rows.specs.Rows.{whole}
use Rattle.proof_trees.specs.Boxes.{Box, tightened}
use Rattle.proof_trees.proofs.Duality.{length_tight}
use Rattle.event_search.proofs.Listed.{rest_cons, here_all}
use Rattle.event_search.proofs.boxes.tighten_all.Goals as goal

pub loop-row-init : goal.loop-row-init
loop-row-init c = record { len = c.requires.whole; rest = search rules }

pub force_kept-requires-clause-row : goal.force_kept-requires-clause-row
force_kept-requires-clause-row c = here_all c.args.rows.now c.loop-row.row-index c.row-item.result c.loop-row-test.true c.row-item.is (λ (r : Row). (whole c.args.model.now).has r ≡ true) c.requires.rows

pub loop-row-preserved : goal.loop-row-preserved
loop-row-preserved c =
    let p = whole c.args.model.now in
    let i = c.loop-row.invariant in
    record {
      len = ap (λ (b : Box). length b) c.force_kept.ensures ∙ length_tight p c.loop-row.b c.row-item.result i.len;
      rest = ap (λ (b : Box). tightened p b (drop (c.loop-row.row-index + 1) c.args.rows.now)) c.force_kept.ensures
          ∙ sym (ap (tightened p c.loop-row.b) (rest_cons c.args.rows.now c.loop-row.row-index c.row-item.result c.loop-row-test.true c.row-item.is)) ∙ i.rest;
    }

pub returns : goal.returns
returns c = sym (ap (tightened (whole c.args.model.now) c.loop-row.b) (drop_all c.loop-row.row-index c.args.rows.now (omega arith))) ∙ c.loop-row.invariant.rest
