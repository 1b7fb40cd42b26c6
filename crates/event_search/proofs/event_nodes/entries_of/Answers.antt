use Rattle.std.proofs.Common.{rules, map, ap, ◌∙◌, arith}
use Rattle.certificate.specs.Entries.{entry_of}
use Rattle.event_search.specs.Cores.{node_at}
use Rattle.event_search.specs.Nodes.{placed, told_entry}
use Rattle.event_search.proofs.Ways
use Rattle.event_search.proofs.event_nodes.entries_of.Goals as goal

pub path_of-requires-clause-named : goal.path_of-requires-clause-named
path_of-requires-clause-named c =
    Ways.above_named c.args.ended.now c.loop-done.done-index c.done-item.result c.requires c.loop-done-test.true (Ways.got c.args.ended.now c.loop-done.done-index c.done-item.result c.loop-done-test.true c.done-item.is)

pub loop-done-preserved : goal.loop-done-preserved
loop-done-preserved c = λ m.
    Ways.one_more_of (placed m) (told_entry m c.args.ended.now) c.loop-done.entries c.push.new.self c.args.ended.now c.loop-done.done-index (record { path = c.in_ok-path_of.field-0; record_of = c.in_ok-copy.field-0 }) c.done-item.result
    (search rules) c.loop-done-test.true c.done-item.is
    (ap (λ (bs : _). record { path = bs; entry = entry_of m c.in_ok-copy.field-0 }) (c.in_ok-path_of.ensures m) ∙ ap (λ (r : _). record { path = (node_at m c.args.ended.now c.done-item.result.node).path; entry = entry_of m r }) c.in_ok-copy.ensures)
    (c.loop-done.invariant m)

pub returns : goal.returns
returns c = λ m. c.loop-done.invariant m ∙ ap (map (told_entry m c.args.ended.now)) (Ways.taken c.args.ended.now c.loop-done.done-index (omega (arith, c.loop-done-test.false)))
