use Rattle.std.proofs.Common.{◌≡◌, ◌++◌, take}
use Rattle.std.specs.Prelude.{filter, map, flat_map}
use Rattle.zero_one_rows.specs.declared.program.Row.TheVariants.{Cross}
use Rattle.zero_one_rows.specs.Variables.{var}
use Rattle.zero_one_model.specs.Runs.{run_of, meets}
use Rattle.zero_one_model.proofs.model.Model.keep_each_chain.Given as goal

abbrev pub invariant-loop-chain : goal.invariant-loop-chain
invariant-loop-chain l = l.list ≡ l.initial.list ++ filter (meets l.self l.x) (flat_map (run_of l.self (var l.self l.x)) (map (λ c. Cross l.foot 1 c) (take l.chain-index l.chains)))
