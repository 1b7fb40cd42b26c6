use Rattle.std.proofs.Common.{subst, ◌∙◌, rules, arith, ℕ}
use Rattle.search_core.specs.Bags.{Every}
use Rattle.shared_search.specs.Rounds.{FitsNew, IsUnused, deques}
use Rattle.shared_search.specs.Bags.{Each}
use Rattle.shared_search.proofs.Backs.{every_snoc}
use Rattle.shared_search.proofs.opening.deal_all.Goals as goal

pub loop-row-preserved : goal.loop-row-preserved
loop-row-preserved g c =
    let i = c.loop-row.invariant in
    let d = c.in_ok-more.ensures in
    let p = c.in_ok-push.ensures.items in
    record {
      unused = subst (λ (n : ℕ). Every (IsUnused c.args.room n) c.in_ok-more.more.items) (omega arith) d.unused;
      same = d.same ∙ i.same;
      fit = every_snoc (λ row. Each FitsNew (deques c.args.owns.items) row.items) c.loop-row.rows.items c.in_ok-more.tokens c.push.new.self.items p i.fit
          (subst (λ ds. Each FitsNew ds c.in_ok-more.tokens.items) i.same d.fit);
      count = search rules;
    }
