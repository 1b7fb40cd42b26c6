use Rattle.std.proofs.Common.{subst}
use Rattle.zero_one_rows.specs.declared.program.Row.{Row}
use Rattle.certificate.specs.Entries.{entry_of}
use Rattle.search_core.specs.Machine.{Node}
use Rattle.event_search.specs.Cores.{node_at}
use Rattle.event_search.specs.JudgingEvents.{JudgesClose}
use Rattle.event_search.proofs.JudgedRecords.{is_way, at_end}
use Rattle.event_search.proofs.nodes.close_at.Goals as goal

pub close-requires : goal.close-requires
close-requires c = record {
  ready = c.requires.ready;
  leads = is_way c.args.model.now c.args.ended.now c.lead_to.new.way.items c.as_slice.result.now (node_at c.args.model.now c.args.ended.now c.args.node) c.as_slice.ensures.value (c.lead_to.ensures.way c.args.model.now) c.requires.earlier c.lead_to.ensures.inside c.requires.trail;
}

pub returns-clause-judged : goal.returns-clause-judged
returns-clause-judged c =
    subst (λ (n : Node Row). JudgesClose c.args.model.now n (entry_of c.args.model.now c.args.entry.now) c.args.seen c.close.result)
    (at_end c.args.model.now c.args.ended.now c.lead_to.new.way.items c.as_slice.result.now (node_at c.args.model.now c.args.ended.now c.args.node) c.as_slice.ensures.value (c.lead_to.ensures.way c.args.model.now)) c.close.ensures.judged
