use Rattle.std.proofs.Common.{◌≡◌, ◌∷◌, length, ap, sym, subst, ◌∙◌, rules, arith}
use Rattle.search_core.specs.Bags.{weigh, Every}
use Rattle.shared_search.specs.Racks.{stolen_weight}
use Rattle.shared_search.specs.Rounds.{Fits, deques}
use Rattle.shared_search.specs.Bags.{Each}
use Rattle.shared_search.proofs.closing.absorb_all.Goals as goal

pub loop-tokens-preserved : goal.loop-tokens-preserved
loop-tokens-preserved g c =
    let i = c.loop-tokens.invariant in
    let e : c.loop-tokens.tokens-iterator.rest.items ≡ c.in-Some.tokens ∷ c.next.new.self.rest.items = search rules in
    let a = c.in_ok-owns.ensures in
    record {
      low = omega (arith, i.low);
      held = a.held;
      parts = omega (arith, i.parts, ap length e);
      same = a.same ∙ i.same;
      fit = (subst (Every (λ row. Each Fits (deques c.args.dealt.owns.items) row.items)) e i.fit).1;
      bag = λ h. let b = i.bag h in let n = a.bag h in (n.0 ∙ b.0, omega (arith, b.1, n.1, ap (weigh (λ row. stolen_weight h row.items)) e));
    }

pub absorb-requires-clause-fit : goal.absorb-requires-clause-fit
absorb-requires-clause-fit g c =
    let i = c.loop-tokens.invariant in
    let e : c.loop-tokens.tokens-iterator.rest.items ≡ c.in-Some.tokens ∷ c.next.new.self.rest.items = search rules in
    subst (λ ds. Each Fits ds c.in-Some.tokens.items) (sym i.same) (subst (Every (λ row. Each Fits (deques c.args.dealt.owns.items) row.items)) e i.fit).0

pub absorb-requires-clause-held : goal.absorb-requires-clause-held
absorb-requires-clause-held g c =
    let i = c.loop-tokens.invariant in
    let e : c.loop-tokens.tokens-iterator.rest.items ≡ c.in-Some.tokens ∷ c.next.new.self.rest.items = search rules in
    (i.low, omega (arith, i.parts, ap length e), i.held)
