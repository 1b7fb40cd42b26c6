use Rattle.std.proofs.Common.{◌≡◌, length}
use Rattle.bound_checker.specs.Subtrees.{AreSizes}
use Rattle.bound_checker.proofs.subtrees.sizes_of.Given as goal

abbrev pub invariant-loop-place : goal.invariant-loop-place
invariant-loop-place l = record {
  len : length l.sizes.items ≡ length l.tree;
  sizes : AreSizes l.tree l.sizes.items;
}
