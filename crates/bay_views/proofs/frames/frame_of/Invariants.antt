use Rattle.std.proofs.Common.{◌≡◌, take, fold}
use Rattle.bay_views.specs.Frames.{bare, with_group, IsFrame}
use Rattle.bay_views.proofs.frames.frame_of.Given as goal

abbrev pub invariant-loop-group : goal.invariant-loop-group
invariant-loop-group l = record {
  value : l.frame ≡ fold with_group bare (take l.group-index l.groups);
  bounded : IsFrame l.frame;
}
