use Rattle.bound_checker.proofs.Passing.{fork_subtree}
use Rattle.bound_checker.proofs.subtrees.size_at.Goals as goal

pub returns-in_ok-second-in-Branch : goal.returns-in_ok-second-in-Branch
returns-in_ok-second-in-Branch c =
    fork_subtree c.args.tree.now c.args.place c.in_ok-first-in-Branch.first c.in_ok-second-in-Branch.second _ c.requires.place (c.in-Branch.field-0, c.in-Branch.is) c.in_ok-first-in-Branch.ensures.size c.in_ok-second-in-Branch.ensures.size
