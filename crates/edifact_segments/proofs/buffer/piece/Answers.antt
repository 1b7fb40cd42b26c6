use Rattle.std.proofs.Common.{◌≡◌, ◌+◌, get_or, rules}
use Rattle.edifact_segments.proofs.PieceLemmas.{ordered, bounded}
use Rattle.edifact_segments.proofs.buffer.piece.Goals as goal

pub returns-in-Some-clause-ordered : goal.returns-in-Some-clause-ordered
returns-in-Some-clause-ordered c =
    let e : c.in-Some.next.now ≡ get_or c.args.starts.now (c.args.i + 1) c.args.end = search rules in
    rw e (ordered c.args.starts.now c.args.end c.args.i c.requires.ascending c.requires.within)

pub returns-in-Some-clause-bounded : goal.returns-in-Some-clause-bounded
returns-in-Some-clause-bounded c =
    let e : c.in-Some.next.now ≡ get_or c.args.starts.now (c.args.i + 1) c.args.end = search rules in
    rw e (bounded c.args.starts.now c.args.end c.args.i c.requires.ascending c.requires.within)

pub returns-in-None-clause-ordered : goal.returns-in-None-clause-ordered
returns-in-None-clause-ordered c =
    let e : c.args.end ≡ get_or c.args.starts.now (c.args.i + 1) c.args.end = search rules in
    rw e (ordered c.args.starts.now c.args.end c.args.i c.requires.ascending c.requires.within)
