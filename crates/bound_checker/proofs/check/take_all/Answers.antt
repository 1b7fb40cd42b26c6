use Rattle.std.proofs.Common.{arith, ◌≡◌, ◌≢◌, ◌+◌, ◌<◌, ◌≤◌, ◌∙◌, ap, subst, refl, ℕ, List, length, get_or, map, drop, Some, Err}
use Rattle.std.proofs.lemmas.Result.{err_from_is_err_and}
use Rattle.zero_one_rows.specs.declared.program.Row.{Row}
use Rattle.proof_trees.specs.Trees.{Entry}
use Rattle.certificate.specs.declared.tree.Record.{Record}
use Rattle.certificate.specs.declared.refusals.BoundNo.{BoundNo}
use Rattle.certificate.specs.declared.refusals.BoundNo.TheVariants.{NoMemory}
use Rattle.certificate.specs.Entries.{entry_of}
use Rattle.bound_checker.specs.Faults.{first_fault}
use Rattle.bound_checker.proofs.Bounding.{if_err_at}
use Rattle.bound_checker.proofs.Walks.{begins, behind, ends, tree_more, tree_fails, tree_ends, tree_done}
use Rattle.bound_checker.proofs.check.take_all.Goals as goal

pub loop-entry-init : goal.loop-entry-init
loop-entry-init c = record { node = refl; at = begins c.args.model.now c.args.bounds.low c.args.bounds.high c.args.tree.now c.args.walk.now c.requires.order c.requires.root }

pub loop-entry-preserved : goal.loop-entry-preserved
loop-entry-preserved c =
    let all : List (Entry Row) = map (entry_of c.args.model.now) (drop c.loop-entry.entry-index c.args.tree.now) in
    record {
      node = ap (λ (n : ℕ). n + 1) c.loop-entry.invariant.node;
      at = tree_more c.args.model.now c.args.bounds.low c.args.bounds.high (first_fault c.args.model.now c.args.tree.now) c.loop-entry.best c.in_ok-best.best (c.loop-entry.node + 1) c.loop-entry.walk c.take.new.self (entry_of c.args.model.now c.entry-item.result) _ all
          (behind (entry_of c.args.model.now) c.args.tree.now c.loop-entry.entry-index c.entry-item.result
          (subst (λ (rs : List Record). c.loop-entry.entry-index < length rs) c.as_slice-entry-items.ensures c.loop-entry-test.true)
          (subst (λ (rs : List Record). c.entry-item.result ≡ get_or rs c.loop-entry.entry-index c.entry-item.result) c.as_slice-entry-items.ensures c.entry-item.is))
          c.loop-entry.invariant.at c.in_ok-best.ensures;
    }

pub returns-in_err-best-clause-refused : goal.returns-in_err-best-clause-refused
returns-in_err-best-clause-refused c =
    let p = err_from_is_err_and c.from_residual.result c.from_residual.ensures.1 in
    let g : c.from_residual.result ≡ Err c.in_err-best.field-0.0 = p.1 ∙ ap (λ (f : BoundNo). Err f) p.2 in
    let all : List (Entry Row) = map (entry_of c.args.model.now) (drop c.loop-entry.entry-index c.args.tree.now) in
    if_err_at (λ (f : BoundNo). f ≢ NoMemory → first_fault c.args.model.now c.args.tree.now c.args.bounds.low ≡ Some f) c.from_residual.result c.in_err-best.field-0.0 g
    (tree_fails c.args.model.now c.args.bounds.low c.args.bounds.high (first_fault c.args.model.now c.args.tree.now) c.loop-entry.best (c.loop-entry.node + 1) c.loop-entry.walk c.take.new.self (entry_of c.args.model.now c.entry-item.result) _ all c.in_err-best.field-0.0
    (behind (entry_of c.args.model.now) c.args.tree.now c.loop-entry.entry-index c.entry-item.result
    (subst (λ (rs : List Record). c.loop-entry.entry-index < length rs) c.as_slice-entry-items.ensures c.loop-entry-test.true)
    (subst (λ (rs : List Record). c.entry-item.result ≡ get_or rs c.loop-entry.entry-index c.entry-item.result) c.as_slice-entry-items.ensures c.entry-item.is))
    c.loop-entry.invariant.at c.in_err-best.ensures)

pub returns-then-not-walk-clause-refused : goal.returns-then-not-walk-clause-refused
returns-then-not-walk-clause-refused c = λ other.
    let read : length c.args.tree.now ≤ c.loop-entry.entry-index = subst (λ (rs : List Record). length rs ≤ c.loop-entry.entry-index) c.as_slice-entry-items.ensures (omega (arith, c.loop-entry-test.false)) in
    tree_ends c.args.model.now c.args.bounds.low c.args.bounds.high (first_fault c.args.model.now c.args.tree.now) c.loop-entry.best (c.loop-entry.node + 1) c.loop-entry.walk _ (ends c.args.model.now c.args.tree.now c.loop-entry.entry-index read) c.loop-entry.invariant.at c.if-not-walk.true

pub returns-clause-best : goal.returns-clause-best
returns-clause-best c =
    let read : length c.args.tree.now ≤ c.loop-entry.entry-index = subst (λ (rs : List Record). length rs ≤ c.loop-entry.entry-index) c.as_slice-entry-items.ensures (omega (arith, c.loop-entry-test.false)) in
    tree_done c.args.model.now c.args.bounds.low c.args.bounds.high (first_fault c.args.model.now c.args.tree.now) c.loop-entry.best (c.loop-entry.node + 1) c.loop-entry.walk _ (ends c.args.model.now c.args.tree.now c.loop-entry.entry-index read) c.loop-entry.invariant.at c.if-not-walk.false
