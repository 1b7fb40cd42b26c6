use Rattle.std.proofs.Common.{◌≡◌, ◌+◌, [], take, drop}
use Rattle.baplie.specs.Finding.{group_cause, scan}
use Rattle.baplie.specs.Groups.{prior}
use Rattle.baplie.proofs.groups.group_fault.Given as goal

abbrev pub invariant-loop-segment : goal.invariant-loop-segment
invariant-loop-segment l = record {
  number : l.number ≡ l.first + l.segment-index;
  known : l.known ≡ prior l.group (take l.segment-index l.group);
  rest : scan (group_cause l.group) l.number (take l.segment-index l.group) (drop l.segment-index l.group) ≡ scan (group_cause l.group) l.first [] l.group;
}
