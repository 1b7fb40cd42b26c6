use Rattle.std.proofs.Common.{length, ap, arith}
use Rattle.shared_search.proofs.Dealing.{opens_passes, opens_fresh, opens_all, opens_count, deques_length}
use Rattle.shared_search.proofs.racks.Rack.new.Goals as goal

pub passes_of-requires : goal.passes_of-requires
passes_of-requires g c =
    let count = c.in_ok-owns.ensures.count in
    omega (arith, count, c.in_ok-dealt.ensures.count, ap length c.in_ok-dealt.ensures.same, deques_length c.in_ok-dealt.dealt.owns.items, deques_length c.in_ok-owns.field-0.owns.items)

pub returns-clause-passes : goal.returns-clause-passes
returns-clause-passes g c =
    let count = c.in_ok-owns.ensures.count in
    let from = c.in_ok-owns.ensures.same in
    let lifo = c.in_ok-owns.ensures.lifo in
    opens_passes c.args.workers (record { thieves = c.in_ok-owns.field-0.thieves; room = c.args.room }) c.in_ok-owns.field-0.owns.items c.in_ok-dealt.dealt.owns.items (λ row. row.items) c.in_ok-dealt.dealt.rows.items c.in_ok-passes.passes.items c.requires.1
    count from lifo c.in_ok-dealt.ensures.unused c.in_ok-dealt.ensures.same c.in_ok-dealt.ensures.fit c.in_ok-passes.ensures.owns c.in_ok-passes.ensures.rows c.in_ok-passes.ensures.numbers c.in_ok-passes.ensures.counts

pub returns-clause-fresh : goal.returns-clause-fresh
returns-clause-fresh g c =
    let count = c.in_ok-owns.ensures.count in
    let from = c.in_ok-owns.ensures.same in
    let lifo = c.in_ok-owns.ensures.lifo in
    opens_fresh c.args.workers (record { thieves = c.in_ok-owns.field-0.thieves; room = c.args.room }) c.in_ok-owns.field-0.owns.items c.in_ok-dealt.dealt.owns.items (λ row. row.items) c.in_ok-dealt.dealt.rows.items c.in_ok-passes.passes.items c.requires.1
    count from lifo c.in_ok-dealt.ensures.unused c.in_ok-dealt.ensures.same c.in_ok-dealt.ensures.fit c.in_ok-passes.ensures.owns c.in_ok-passes.ensures.rows c.in_ok-passes.ensures.numbers c.in_ok-passes.ensures.counts

pub returns-clause-all : goal.returns-clause-all
returns-clause-all g c =
    let count = c.in_ok-owns.ensures.count in
    let from = c.in_ok-owns.ensures.same in
    let lifo = c.in_ok-owns.ensures.lifo in
    opens_all c.args.workers (record { thieves = c.in_ok-owns.field-0.thieves; room = c.args.room }) c.in_ok-owns.field-0.owns.items c.in_ok-dealt.dealt.owns.items (λ row. row.items) c.in_ok-dealt.dealt.rows.items c.in_ok-passes.passes.items c.requires.1
    count from lifo c.in_ok-dealt.ensures.unused c.in_ok-dealt.ensures.same c.in_ok-dealt.ensures.fit c.in_ok-passes.ensures.owns c.in_ok-passes.ensures.rows c.in_ok-passes.ensures.numbers c.in_ok-passes.ensures.counts

pub returns-clause-workers : goal.returns-clause-workers
returns-clause-workers g c =
    let count = c.in_ok-owns.ensures.count in
    let from = c.in_ok-owns.ensures.same in
    let lifo = c.in_ok-owns.ensures.lifo in
    opens_count c.args.workers (record { thieves = c.in_ok-owns.field-0.thieves; room = c.args.room }) c.in_ok-owns.field-0.owns.items c.in_ok-dealt.dealt.owns.items (λ row. row.items) c.in_ok-dealt.dealt.rows.items c.in_ok-passes.passes.items c.requires.1
    count from lifo c.in_ok-dealt.ensures.unused c.in_ok-dealt.ensures.same c.in_ok-dealt.ensures.fit c.in_ok-passes.ensures.owns c.in_ok-passes.ensures.rows c.in_ok-passes.ensures.numbers c.in_ok-passes.ensures.counts
