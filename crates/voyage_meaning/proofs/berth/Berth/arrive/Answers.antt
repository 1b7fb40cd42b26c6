use Rattle.std.proofs.Common.{arith, ap, ◌∙◌, false, length}
use Rattle.std.proofs.lemmas.List.{length-replicate}
use Rattle.std.specs.Prelude.{replicate}
use Rattle.voyage_meaning.proofs.Loading.{all_on, berth_is}
use Rattle.voyage_meaning.proofs.berth.Berth.arrive.Goals as goal

pub invariant_of-result : goal.invariant_of-result
invariant_of-result c = (
  c.in_ok-loading.ensures.few,
  (let e = ap length c.in_ok-filled.ensures in let n = length-replicate c.covers.result false in let few = c.obeys_rules.ensures.few_covers in omega (arith, e, n, few, c.covers.ensures)),
)

pub returns-clause-state : goal.returns-clause-state
returns-clause-state c = berth_is c.args.ship.now c.args.cargo.now c.args.call c.args.plan c.in_ok-loading.field-0 c.in_ok-filled.field-0 c.in_ok-loading.ensures.flags (c.in_ok-filled.ensures ∙ (ap (λ n. replicate n false) c.covers.ensures ∙ all_on c.args.ship.now.covers))
