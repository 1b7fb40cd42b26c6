use Rattle.std.proofs.Common.{◌≡◌, map, take}
use Rattle.zero_one_rows.specs.Rows.{whole}
use Rattle.proof_trees.specs.Boxes.{free_box}
use Rattle.node_work.specs.Positions.{entry_in, value_in, box_along, IsPosition}
use Rattle.node_work.proofs.positions.TreePosition.go_on.Given as goal

abbrev pub invariant-loop-k : goal.invariant-loop-k
invariant-loop-k l = record {
  position : IsPosition l.model l.self;
  entries : map entry_in l.self.frames.items ≡ take l.k l.trail;
  values : map value_in l.self.frames.items ≡ take l.k l.path;
  at_half : l.self.kept.known ≡ box_along l.model (free_box (whole l.model)) l.self.frames.items;
}
