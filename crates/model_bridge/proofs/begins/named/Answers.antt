use Rattle.std.proofs.Common.{◌≡◌, ◌<◌, ◌∙◌, ap, arith, length, ℕ, length-set}
use Rattle.std.specs.Prelude.{Some, true, slice_get, slice_set}
use Rattle.std.proofs.lemmas.Option.{slice_get_within}
use Rattle.plan_lifts.specs.Spread.{has}
use Rattle.plan_lifts.proofs.Spreads.{gathered_more, gathered_all}
use Rattle.plan_lifts.proofs.Naming.{named_one, contains_at}
use Rattle.model_bridge.proofs.begins.named.Goals as goal

pub set-requires : goal.set-requires
set-requires c =
    let same : c.behind-list.inside.0 ≡ c.at.result.now = c.behind-list.view_is in
    let low : c.at.result.now < length c.args.cargo.now.containers = c.requires c.at.result.now ((contains_at c.args.list.now c.at.result.now).0 (c.loop-i.i, c.at.ensures)) in
    omega (arith, same, low, c.loop-i.invariant.each)

pub loop-i-preserved : goal.loop-i-preserved
loop-i-preserved c =
    let same : c.behind-list.inside.0 ≡ c.at.result.now = c.behind-list.view_is in
    let low : c.at.result.now < length c.args.cargo.now.containers = c.requires c.at.result.now ((contains_at c.args.list.now c.at.result.now).0 (c.loop-i.i, c.at.ensures)) in
    record {
      gathered = gathered_more (λ (i d : ℕ). slice_get c.args.list.now i ≡ Some d) (has c.loop-i.flags) (has c.set.new.self) c.loop-i.i c.loop-i.invariant.gathered
          (named_one c.args.list.now c.loop-i.flags c.set.new.self c.loop-i.i c.at.result.now c.at.ensures (omega (arith, low, c.loop-i.invariant.each)) (c.set.ensures ∙ ap (λ (n : ℕ). slice_set c.loop-i.flags n true) same));
      each = ap length c.set.ensures ∙ (length-set c.loop-i.flags c.behind-list.inside.0 true ∙ c.loop-i.invariant.each);
    }

pub returns-clause-names : goal.returns-clause-names
returns-clause-names c = λ k.
    let all = gathered_all (λ (i d : ℕ). slice_get c.args.list.now i ≡ Some d) (has c.loop-i.flags) c.loop-i.i (λ q d x. let l : q < length c.args.list.now = slice_get_within c.args.list.now q d x in omega arith) c.loop-i.invariant.gathered k in
    let at = contains_at c.args.list.now k in
    (λ h. at.0 (all.0 h), λ x. all.1 (at.1 x))
