-- Messages of few groups, and one more.
use Rattle.std.proofs.Common.{List, [], ◌∷◌, ◌++◌, ◌≤◌, ◌^◌, length}
use Rattle.std.specs.Prelude.{All}
use Rattle.std.proofs.lemmas.List.Elements.{All-push}
use Rattle.baplie.specs.declared.parts.Message.{Message}

pub few_push : (ms : List Message) (m : Message) → All (λ (x : Message). length x.groups ≤ 2 ^ 29) ms → length m.groups ≤ 2 ^ 29 → All (λ (x : Message). length x.groups ≤ 2 ^ 29) (ms ++ m ∷ [])
few_push ms m = All-push (λ (x : Message). length x.groups ≤ 2 ^ 29) ms m
