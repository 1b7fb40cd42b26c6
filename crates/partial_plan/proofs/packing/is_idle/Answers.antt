use Rattle.std.proofs.Common.{rules, ◌≡◌, true}
use Rattle.partial_plan.specs.Packing.{is_packing}
use Rattle.partial_plan.proofs.Idle.{idle_calm}
use Rattle.partial_plan.proofs.packing.is_idle.Goals as goal

pub returns : goal.returns
returns c = λ yes.
    let packing : is_packing c.args.r.now ≡ true = search rules in
    idle_calm c.args.model.now c.args.b.now c.args.r.now c.args.ones.now c.requires.row c.requires.whole packing c.requires.ones (c.leaves_out.ensures yes)
