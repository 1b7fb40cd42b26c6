use Rattle.std.proofs.Common.{ℕ, List, subst}
use Rattle.std.specs.Prelude.{Contains}
use Rattle.stow_data.proofs.CoverLemmas.{on_in}
use Rattle.voyage_meaning.proofs.OnStacks.{cover_finds}
use Rattle.voyage_meaning.proofs.standing.first_standing.Goals as goal

pub first_on_stacks-requires-clause-are_stacks : goal.first_on_stacks-requires-clause-are_stacks
first_on_stacks-requires-clause-are_stacks c = λ s has. on_in c.args.ship.now s c.args.k c.obeys_rules.ensures (record { cover = c.cover.result.now; is_cover = c.cover.ensures; named = subst (λ (xs : List ℕ). Contains xs s) c.as_slice.ensures has })

pub returns : goal.returns
returns c = cover_finds c.args.ship.now c.args.plan.now c.args.k c.cover.result.now c.as_slice.result.now c.first_on_stacks.result c.cover.ensures c.as_slice.ensures c.first_on_stacks.ensures
