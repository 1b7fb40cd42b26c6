-- The command line is of the kind that `clap`'s clauses speak of in full.
use Rattle.std.proofs.Common.{◌≡◌, true, refl}
use Rattle.clap.specs.Words.{is_simple}
use Rattle.clap.specs.Faults.{is_simple_and_free}
use Rattle.clap.proofs.OnLiterals.{clap_on_literals}
use Rattle.stow_words.specs.Command.{stow_app}

pub free : is_simple_and_free stow_app ≡ true
unfolding clap_on_literals
free = refl

pub simple : is_simple stow_app ≡ true
unfolding clap_on_literals
simple = refl
