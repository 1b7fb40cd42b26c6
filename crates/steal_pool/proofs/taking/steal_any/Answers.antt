use Rattle.std.proofs.Common.{◌≡◌, ◌<◌, ◌%◌, ℕ, length, subst, arith, rules}
use Rattle.steal_pool.specs.Rising.{Rose}
use Rattle.steal_pool.proofs.Rising.{reached}
use Rattle.steal_pool.proofs.taking.steal_any.Goals as goal

pub returns-clause-rose : goal.returns-clause-rose
returns-clause-rose g c =
    let r = c.requires.pass in
    let i = c.loop-step.invariant in
    let size : c.len-workers.result ≡ length c.args.rack.now.thieves.items = search rules in (
      (λ k lt other.
          let t = reached c.args.pass.now.number k (length c.args.rack.now.thieves.items) r.number (omega (arith, lt, r.counts)) other in
          subst (λ (v : ℕ). Rose v c.args.pass.now c.loop-step.pass) t.3 (i.rose t.0 t.1 (omega (arith, t.2, size, c.loop-step-test.false)))),
      i.fell,
    )
