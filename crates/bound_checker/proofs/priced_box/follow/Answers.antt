use Rattle.std.proofs.Common.{arith, ◌≡◌, ◌<◌, ◌∙◌, ap, refl, sym, subst, length, set, get_or, ℕ, List, Option, Bool, None}
use Rattle.std.proofs.lemmas.List.{length-set, drop_all}
use Rattle.std.proofs.lemmas.Option.{get_or_from_slice_get}
use Rattle.proof_trees.specs.Boxes.{Box, at}
use Rattle.partial_plan.proofs.Freeing.{freed_length}
use Rattle.bound_checker.proofs.Following.{Nears, near_first, near_more, near_last}
use Rattle.bound_checker.proofs.priced_box.follow.Goals as goal

pub loop-x-init : goal.loop-x-init
loop-x-init c = record {
  len = refl;
  near = subst (Nears c.args.to.now c.args.xs.now) c.requires.back (near_first c.args.to.now c.args.xs.now);
  some = c.requires.carries;
  carries = λ ms h. h;
}

pub allow-requires-clause-var : goal.allow-requires-clause-var
allow-requires-clause-var c =
    let in_b : get_or c.args.xs.now c.loop-x.x-index c.x-item.result < length c.args.b.now = c.requires.inside c.loop-x.x-index c.x-item.result c.loop-x-test.true in
    let is : c.x-item.result ≡ get_or c.args.xs.now c.loop-x.x-index c.x-item.result = c.x-item.is in
    omega (arith, c.loop-x.invariant.len)

pub at-requires : goal.at-requires
at-requires c =
    let in_b : get_or c.args.xs.now c.loop-x.x-index c.x-item.result < length c.args.b.now = c.requires.inside c.loop-x.x-index c.x-item.result c.loop-x-test.true in
    let is : c.x-item.result ≡ get_or c.args.xs.now c.loop-x.x-index c.x-item.result = c.x-item.is in
    let long : length c.args.b.now ≡ length c.args.to.now = sym (ap (λ (b : Box). length b) c.requires.back) ∙ freed_length c.args.to.now c.args.xs.now in
    omega arith

pub allow-requires-clause-carries : goal.allow-requires-clause-carries
allow-requires-clause-carries c = c.loop-x.invariant.some

pub loop-x-preserved : goal.loop-x-preserved
loop-x-preserved c =
    let i = c.loop-x.invariant in
    let there : at c.args.to.now c.x-item.result ≡ c.at.result = get_or_from_slice_get c.args.to.now c.x-item.result c.at.result None c.at.ensures in
    let in_b : get_or c.args.xs.now c.loop-x.x-index c.x-item.result < length c.args.b.now = c.requires.inside c.loop-x.x-index c.x-item.result c.loop-x-test.true in
    let is : c.x-item.result ≡ get_or c.args.xs.now c.loop-x.x-index c.x-item.result = c.x-item.is in
    record {
      len = ap (λ (b : Box). length b) c.allow.ensures.there ∙ length-set c.loop-x.b c.x-item.result _ ∙ i.len;
      near = near_more c.args.xs.now c.loop-x.x-index c.x-item.result c.loop-x-test.true c.x-item.is c.args.to.now c.loop-x.b c.allow.new.b (omega (arith, i.len))
          (c.allow.ensures.there ∙ ap (λ (o : Option Bool). set c.loop-x.b c.x-item.result o) (sym there)) i.near;
      some = (i.some.0, c.allow.ensures.carries i.some.0 i.some.1);
      carries = λ ms h. c.allow.ensures.carries ms (i.carries ms h);
    }

pub returns-clause-there : goal.returns-clause-there
returns-clause-there c =
    let long : length c.args.b.now ≡ length c.args.to.now = sym (ap (λ (b : Box). length b) c.requires.back) ∙ freed_length c.args.to.now c.args.xs.now in
    near_last c.args.to.now c.loop-x.b (c.loop-x.invariant.len ∙ long)
    (subst (λ (xs : List ℕ). Nears c.args.to.now xs c.loop-x.b) (drop_all c.loop-x.x-index c.args.xs.now (omega (arith, c.loop-x-test.false))) c.loop-x.invariant.near)
