use Rattle.std.proofs.Common.{◌≡◌, ℕ, ◌+◌, ◌-◌, ◌<◌, length, get_or, take, refl, subst, ◌∙◌, ap, arith}
use Rattle.zero_one_rows.specs.declared.program.Raise.{Raise}
use Rattle.node_work.proofs.Lowering.{Leads, leads_less, leads_none, leads_all}
use Rattle.node_work.proofs.stages.lower_all.Goals as goal

pub loop-done-init : goal.loop-done-init
loop-done-init c = record { voyage = refl; known = refl; lowered = λ ms h. leads_all ms c.args.gauge.now.multipliers c.args.raises.now (length c.args.raises.now - 0) h (omega arith) }

pub loop-done-preserved : goal.loop-done-preserved
loop-done-preserved c =
    let i = c.loop-done.invariant in
    let e = c.lower_one.ensures in
    let raises = c.args.raises.now in
    let r : Raise = c.index-raises-raises.result in
    let j : ℕ = length raises - (c.loop-done.done + 1) in
    let more : length raises - c.loop-done.done ≡ j + 1 = omega (arith, c.loop-done-test.true) in
    let place : length raises - 1 - c.loop-done.done ≡ j = omega (arith, c.loop-done-test.true) in
    let lt : j < length raises = omega (arith, c.loop-done-test.true) in
    record {
      voyage = e.voyage ∙ i.voyage;
      known = e.known ∙ i.known;
      lowered = λ ms h. leads_less ms c.loop-done.gauge.multipliers c.lower_one.new.gauge.multipliers raises j r
          (subst (λ (n : ℕ). Leads ms (take n raises) c.loop-done.gauge.multipliers) more (i.lowered ms h)) lt
          (c.index-raises-raises.is ∙ ap (λ (n : ℕ). get_or raises n r) place) (e.lowered c.if-not-lower_one.false);
    }

pub returns-clause-lowered : goal.returns-clause-lowered
returns-clause-lowered c = λ e ms h.
    let none : length c.args.raises.now - c.loop-done.done ≡ 0 = omega (arith, c.loop-done-test.false) in
    leads_none ms c.loop-done.gauge.multipliers c.args.raises.now (length c.args.raises.now - c.loop-done.done) (c.loop-done.invariant.lowered ms h) none
