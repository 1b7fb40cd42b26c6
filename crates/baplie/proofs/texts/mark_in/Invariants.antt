use Rattle.std.proofs.Common.{◌≡◌, ◌+◌, drop}
use Rattle.std.specs.List.{position_or_len}
use Rattle.baplie.specs.Texts.{is_mark}
use Rattle.baplie.proofs.texts.mark_in.Given as goal

abbrev pub invariant-loop-place : goal.invariant-loop-place
invariant-loop-place l = l.place + position_or_len is_mark (drop l.place l.text) ≡ position_or_len is_mark l.text
