use Rattle.std.proofs.Common.{◌≡◌, ◌+◌, drop}
use Rattle.crane_lists.specs.Sharing.{place_for}
use Rattle.crane_lists.proofs.rounds.place_for.Given as goal

abbrev pub invariant-loop-place : goal.invariant-loop-place
invariant-loop-place l = l.place + place_for l.ship l.tasks l.j (drop l.place l.round) ≡ place_for l.ship l.tasks l.j l.round
