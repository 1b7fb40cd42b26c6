use Rattle.std.proofs.Common.{◌≡◌, ◌+◌, ◌==◌, drop}
use Rattle.std.specs.List.{position_or_len}
use Rattle.bay_views.proofs.sheets.place_in.Given as goal

abbrev pub invariant-loop-place : goal.invariant-loop-place
invariant-loop-place l = l.place + position_or_len (λ m. m == l.n) (drop l.place l.numbers) ≡ position_or_len (λ m. m == l.n) l.numbers
