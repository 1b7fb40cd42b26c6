use Rattle.std.proofs.Common.{rules, ◌≡◌, ◌<◌, length, sym, subst}
use Rattle.certificate.specs.Entries.{entry_of}
use Rattle.search_core.specs.Told.{told}
use Rattle.event_search.specs.Nodes.{entry_in}
use Rattle.event_search.specs.declared.event_nodes.Step.{Step}
use Rattle.event_search.proofs.Ways
use Rattle.event_search.proofs.event_nodes.records_on.Goals as goal

pub loop-k-preserved : goal.loop-k-preserved
loop-k-preserved c = λ m.
    let inside : c.item_at-step.result.entry < length c.args.ended.now =
    subst (λ (s : Step). s.entry < length c.args.ended.now) (sym (Ways.there c.args.way.now c.loop-k.k c.item_at-step.result c.item_at-step.ensures)) (c.requires.inside c.loop-k.k c.item_at-step.result c.loop-k-test.true) in
    let same : entry_of m c.index-ended-step.result.entry ≡ entry_in (told (entry_of m) c.args.ended.now) c.item_at-step.result =
    Ways.entry_on m c.args.ended.now c.item_at-step.result c.index-ended-step.result c.requires.earlier inside c.index-ended-step.is in
    Ways.one_more_of (entry_of m) (entry_in (told (entry_of m) c.args.ended.now)) c.loop-k.records c.push.new.self c.args.way.now c.loop-k.k c.index-ended-step.result.entry c.item_at-step.result
    (search rules) c.loop-k-test.true (Ways.there c.args.way.now c.loop-k.k c.item_at-step.result c.item_at-step.ensures) same (c.loop-k.invariant m)
