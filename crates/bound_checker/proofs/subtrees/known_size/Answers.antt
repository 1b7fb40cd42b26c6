use Rattle.std.proofs.Common.{rules, IfSome}
use Rattle.std.proofs.lemmas.Option.{IfSome_then}
use Rattle.bound_checker.specs.Subtrees.{IsSubtree}
use Rattle.bound_checker.proofs.Passing.{subtree_within, subtree_some}
use Rattle.bound_checker.proofs.subtrees.known_size.Goals as goal

pub returns-clause-within : goal.returns-clause-within
returns-clause-within c =
    let begins : IfSome c.in_ok-get.field-0.now (IsSubtree c.args.tree.now c.args.place) = search rules in
    IfSome_then c.in_ok-get.field-0.now begins (subtree_within c.args.tree.now c.args.place)

pub returns-clause-some : goal.returns-clause-some
returns-clause-some c =
    let begins : IfSome c.in_ok-get.field-0.now (IsSubtree c.args.tree.now c.args.place) = search rules in
    IfSome_then c.in_ok-get.field-0.now begins (subtree_some c.args.tree.now c.args.place)
