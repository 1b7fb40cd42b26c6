use Rattle.std.proofs.Common.{◌≡◌, ℕ, true, length, take}
use Rattle.std.specs.Prelude.{◌↔◌, ◌⊎◌}
use Rattle.crane_lists.specs.Rounds.{In}
use Rattle.crane_lists.specs.Sharing.{is_set}
use Rattle.crane_lists.proofs.sharing.mark.Given as goal

abbrev pub invariant-loop-i : goal.invariant-loop-i
invariant-loop-i l = record {
  marks : (i : ℕ) → (is_set l.done i ≡ true) ↔ ((is_set l.initial.done i ≡ true) ⊎ In i (take l.i-index l.round));
  same_length : length l.done ≡ length l.initial.done;
}
