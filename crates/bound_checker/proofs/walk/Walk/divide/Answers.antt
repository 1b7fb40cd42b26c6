use Rattle.std.proofs.Common.{rules, ◌≡◌, ◌∙◌, ap, List, ◌++◌, ◌∷◌, []}
use Rattle.bound_checker.specs.declared.walk.Frame.{Frame}
use Rattle.bound_checker.specs.Walks.{frame_of}
use Rattle.bound_checker.proofs.walk.Walk.divide.Goals as goal

pub returns : goal.returns
returns c =
    let h = c.in_ok-halve.ensures in
    let frame : Frame = frame_of c.args.self.now c.args.x in
    let more : c.push.new.self.items ≡ c.halve.new.self.frames.items ++ frame ∷ [] = search rules in
    record {
      box = h.box;
      fixes = h.fixes;
      waiting = more ∙ ap (λ (fs : List Frame). fs ++ frame ∷ []) h.waiting;
      priced = h.priced;
      carries = h.carries;
      changes = h.changes;
      done = h.done;
    }
