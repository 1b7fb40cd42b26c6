use Rattle.std.proofs.Common.{◌≡◌, ◌+◌, [], take, drop}
use Rattle.std.specs.List.{list_any}
use Rattle.baplie.specs.Finding.{end_cause, scan}
use Rattle.baplie.specs.Segments.{is_unt}
use Rattle.baplie.proofs.endings.end_fault.Given as goal

abbrev pub invariant-loop-segment : goal.invariant-loop-segment
invariant-loop-segment l = record {
  counted : l.counted ≡ l.segment-index + 2;
  after : l.after ≡ list_any is_unt (take l.segment-index l.rest);
  rest : scan (end_cause l.segments) (l.counted + 1) (take l.segment-index l.rest) (drop l.segment-index l.rest) ≡ scan (end_cause l.segments) 3 [] l.rest;
}
