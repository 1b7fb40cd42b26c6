use Rattle.std.proofs.Common.{◌<◌, false, length, ◌∙◌, ap, arith}
use Rattle.zero_one_rows.specs.declared.program.Row.{Row}
use Rattle.zero_one_rows.specs.Rows.{whole}
use Rattle.proof_trees.specs.Trees.{Pending, root}
use Rattle.node_work.specs.Positions.{entry_in, value_in}
use Rattle.node_work.proofs.Walks.{same_length, box_here, rows_here, divides_here, at_end, joined_map}
use Rattle.node_work.proofs.positions.TreePosition.go_on.Goals as goal

pub bounds-path-k : goal.bounds-path-k
bounds-path-k c = omega (arith, c.loop-k-test.true, c.len-k-end.ensures, same_length c.args.model.now (root (whole c.args.model.now)) c.args.path.now c.args.trail.now c.requires.trail)

pub redo-requires-clause-rows : goal.redo-requires-clause-rows
redo-requires-clause-rows c = rows_here c.args.model.now c.args.path.now c.args.trail.now c.loop-k.k c.get.result.now c.requires.trail (omega (arith, c.loop-k-test.true, c.len-k-end.ensures)) c.get.ensures

pub redo-requires-clause-divides : goal.redo-requires-clause-divides
redo-requires-clause-divides c =
    divides_here c.args.model.now c.args.path.now c.args.trail.now c.loop-k.k c.get.result.now c.requires.trail (omega (arith, c.loop-k-test.true, c.len-k-end.ensures)) c.get.ensures c.loop-k.self.kept.known
    (c.loop-k.invariant.at_half ∙ box_here c.args.model.now c.args.path.now c.args.trail.now c.loop-k.self.frames.items c.loop-k.k c.loop-k.invariant.entries c.loop-k.invariant.values)

pub loop-k-preserved : goal.loop-k-preserved
loop-k-preserved c =
    let e = c.in_ok-redo.ensures in
    let f = e.frames in
    let lt : c.loop-k.k < length c.args.path.now = omega (arith, c.loop-k-test.true, c.len-k-end.ensures, same_length c.args.model.now (root (whole c.args.model.now)) c.args.path.now c.args.trail.now c.requires.trail) in
    record {
      position = e.position;
      entries = joined_map entry_in c.redo.new.self.frames.items c.loop-k.self.frames.items f.0 c.args.trail.now c.loop-k.k c.get.result.now f.3 c.loop-k.invariant.entries (omega (arith, c.loop-k-test.true, c.len-k-end.ensures)) (f.1 ∙ c.get.ensures);
      values = joined_map value_in c.redo.new.self.frames.items c.loop-k.self.frames.items f.0 c.args.path.now c.loop-k.k false f.3 c.loop-k.invariant.values lt f.2;
      at_half = e.at_half;
    }

pub returns-clause-begins : goal.returns-clause-begins
returns-clause-begins c =
    c.loop-k.invariant.at_half ∙ box_here c.args.model.now c.args.path.now c.args.trail.now c.loop-k.self.frames.items c.loop-k.k c.loop-k.invariant.entries c.loop-k.invariant.values
    ∙ ap (λ (q : Pending Row). q.box) (at_end c.args.model.now c.args.path.now c.args.trail.now c.loop-k.k c.requires.trail (omega (arith, c.loop-k-test.false, c.len-k-end.ensures)))
