use Rattle.shared_search.proofs.Keeps.{takes}
use Rattle.std.proofs.Common.{subst, sym, ◌<◌, arith, refl, ◌∙◌, inr, inl}
use Rattle.shared_search.specs.declared.rule.Hand.{Hand}
use Rattle.shared_search.specs.Bags.{Found}
use Rattle.shared_search.proofs.deques.steal.Goals as goal

pub steal_as-requires-clause-takes : goal.steal_as-requires-clause-takes
steal_as-requires-clause-takes g c = takes _ _ _ (subst (λ (v : Hand). 0 < v.parts) (sym c.loop-tries.invariant.known) c.requires.part)

pub loop-tries-init : goal.loop-tries-init
loop-tries-init g c = let t = c.requires.table in record { same = (refl, refl, refl, t.2, t.3); known = refl; found = inr (omega arith) }

pub steal_as-requires-clause-table : goal.steal_as-requires-clause-table
steal_as-requires-clause-table g c = let t = c.requires.table in let s = c.loop-tries.invariant.same in (s.0 ∙ t.0, s.1 ∙ t.1, s.3, s.4)

pub returns-in-Empty-clause-none : goal.returns-in-Empty-clause-none
returns-in-Empty-clause-none g c = let r = c.in-Empty.ensures.rule in let k = c.loop-tries.invariant.known in (r.0 ∙ k, inl (subst (Found g.M.Wanted.meets 1) k r.1))
