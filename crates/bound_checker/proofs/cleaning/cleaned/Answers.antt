use Rattle.std.proofs.Common.{rules, ◌≡◌, ◌∙◌, ap, refl, sym, subst, ℕ, List}
use Rattle.std.specs.Map.{keys_of}
use Rattle.std.specs.Map.Iter.{deref_pair}
use Rattle.std.specs.List.Sorted.{IsStrictlySortedBy}
use Rattle.std.proofs.lemmas.Map.Iter.{rest_more, rest_all}
use Rattle.zero_one_rows.specs.declared.program.Row.{Row}
use Rattle.zero_one_rows.specs.contracts.program.RowOrd.TheImpl as order
use Rattle.proof_trees.specs.Multipliers.{amount_of}
use Rattle.certificate.specs.Entries.{same_row}
use Rattle.bound_checker.proofs.TakingOut.{amount_first, sorted_rest, amounts_rest, clean_end}
use Rattle.bound_checker.proofs.cleaning.cleaned.Goals as goal

pub loop-row-init : goal.loop-row-init
loop-row-init c =
    let g = c.into_iter-row-iterator.ensures.into_iter_gives in
    let e : c.amounts.inside.by_row.entries ≡ c.args.amounts.now = search rules in
    let k = c.requires.costs in
    record {
      rows = refl;
      sorted = subst (λ (xs : List (Row × ℕ)). IsStrictlySortedBy order.ghosts.cmp (keys_of xs)) (sym g.0) g.5;
      left = (k.1, c.at_zero-clean.ensures c.args.model.now k.0 c.args.zero.now k.1 c.requires.zero k.2, λ r. ap (λ (xs : List (Row × ℕ)). amount_of same_row xs r) (g.0 ∙ e) ∙ k.3 r);
    }

pub take_out-requires-clause-priced : goal.take_out-requires-clause-priced
take_out-requires-clause-priced c =
    let i = c.loop-row.invariant.left in
    let is = rest_more deref_pair c.loop-row.row-iterator c.next.new.self c.next.result (c.in-Some.row, c.in-Some.amount) c.in-Some.is c.next.ensures.steps in
    (i.0, i.1, amount_first c.in-Some.row.now c.in-Some.amount.now c.loop-row.row-iterator c.next.new.self is i.0 i.2)

pub loop-row-preserved : goal.loop-row-preserved
loop-row-preserved c =
    let i = c.loop-row.invariant.left in
    let sorted = c.loop-row.invariant.sorted in
    let is = rest_more deref_pair c.loop-row.row-iterator c.next.new.self c.next.result (c.in-Some.row, c.in-Some.amount) c.in-Some.is c.next.ensures.steps in
    let out = c.in_ok-take_out.ensures.out i.0 i.1 (amount_first c.in-Some.row.now c.in-Some.amount.now c.loop-row.row-iterator c.next.new.self is i.0 i.2) in
    record {
      rows = c.take_out.ensures.rows ∙ c.loop-row.invariant.rows;
      sorted = sorted_rest c.in-Some.row.now c.in-Some.amount.now c.loop-row.row-iterator c.next.new.self is sorted;
      left = (out.0, out.1, amounts_rest c.in-Some.row.now c.in-Some.amount.now c.loop-row.row-iterator c.next.new.self is i.0 out.0 sorted i.2 out.2);
    }

pub returns-clause-clean : goal.returns-clause-clean
returns-clause-clean c =
    let i = c.loop-row.invariant.left in
    clean_end c.args.model.now c.args.zero.now i.0 c.loop-row.row-iterator c.loop-row.clean i.1 i.2 (rest_all deref_pair c.loop-row.row-iterator c.next.new.self c.next.result c.in-None.is c.next.ensures.steps)
