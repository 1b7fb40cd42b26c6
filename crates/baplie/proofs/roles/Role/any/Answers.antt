use Rattle.std.proofs.Common.{rules}
use Rattle.std.proofs.lemmas.Iterator.{YieldsList-from_slice}
use Rattle.std.proofs.lemmas.Iterator.Search.{any_from_yields_List}
use Rattle.baplie.specs.Roles.{has_role}
use Rattle.baplie.proofs.roles.Role.any.Goals as goal

pub returns : goal.returns
returns c = any_from_yields_List (has_role c.args.self) _ _ _ c.any.ensures.ran (YieldsList-from_slice _ c.iter.ensures.rest) (λ x b q k. search rules)
