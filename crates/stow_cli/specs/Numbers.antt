-- The exit statuses of the program.
use Rattle.std.specs.Prelude.{ℕ}
use Rattle.stow_cli.specs.declared.status.Status.{Status}
use Rattle.stow_cli.specs.declared.status.Status.TheVariants.{Fine, No, Words, Gap, NoPlan, Undecided, Input, Fault, Memory, Large}

abbrev pub number : Status → ℕ
number Fine = 0
number No = 1
number Words = 2
number Gap = 3
number NoPlan = 4
number Undecided = 5
number Input = 6
number Fault = 7
number Memory = 8
number Large = 9
