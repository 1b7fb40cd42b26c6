use Rattle.std.proofs.Common.{[]}
use Rattle.bound_checker.proofs.blank.Blank.allow.Goals as goal

pub returns : goal.returns
returns c = record { here = c.allow.ensures [] c.requires.blank.here; zero = c.requires.blank.zero; clean = c.requires.blank.clean }
