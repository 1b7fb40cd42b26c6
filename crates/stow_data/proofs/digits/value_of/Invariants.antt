use Rattle.std.proofs.Common.{◌≡◌, ◌≤◌, take, fold}
use Rattle.stow_data.specs.Digits.{with_digit}
use Rattle.stow_data.proofs.Nines.{nines}
use Rattle.stow_data.proofs.digits.value_of.Given as goal

abbrev pub invariant-loop-byte : goal.invariant-loop-byte
invariant-loop-byte l = record {
  read : l.value ≡ fold with_digit 0 (take l.byte-index l.text);
  small : l.value ≤ nines l.byte-index;
}
