use Rattle.std.proofs.Common.{rules, arith, ◌≡◌, ◌≤◌, ◌+◌, ◌∙◌, ap, sym, List, [], ◌∷◌, ◌++◌, length, length-append}
use Rattle.proof_trees.specs.Multipliers.{with_amount}
use Rattle.bound_checker.specs.declared.prices.Change.{Change}
use Rattle.certificate.specs.Entries.{same_row}
use Rattle.bound_checker.proofs.Raising.{carries_alike}
use Rattle.bound_checker.proofs.Back.{before_less, before_end, changes_less, changes_end, others_sound}
use Rattle.bound_checker.proofs.prices.Prices.take_back.Goals as goal

pub loop-alloc-init : goal.loop-alloc-init
loop-alloc-init c = record {
  some = c.requires.carries;
  carries = λ ms ns carries before. (ms, carries, before);
  sound = c.requires.sound;
  kept = search rules;
  to = c.requires.to;
}

pub returns-clause-carries : goal.returns-clause-carries
returns-clause-carries c = λ ms ns carries before small.
    let k = c.loop-alloc.invariant.carries ms ns carries before in
    let e : c.args.to ≡ length c.loop-alloc.self.changes.items = omega (arith, c.loop-alloc-test.false, c.len.ensures, c.loop-alloc.invariant.to) in
    carries_alike c.args.model.now c.args.b.now k.0 c.loop-alloc.self.sums k.1 ns small (before_end ns k.0 c.args.to c.loop-alloc.self.changes.items e k.2)

pub returns-clause-changes : goal.returns-clause-changes
returns-clause-changes c =
    let e : c.args.to ≡ length c.loop-alloc.self.changes.items = omega (arith, c.loop-alloc-test.false, c.len.ensures, c.loop-alloc.invariant.to) in
    changes_end c.loop-alloc.self.changes.items _ c.args.to e c.loop-alloc.invariant.kept

pub loop-alloc-preserved-in-Continue-1 : goal.loop-alloc-preserved-in-Continue-1
loop-alloc-preserved-in-Continue-1 c =
    let i = c.loop-alloc.invariant in
    let k : List Change = c.loop-alloc.self.changes.items in
    let l : List Change = c.undo.new.self.changes.items in
    let is : k ≡ l ++ c.in-Some.change ∷ [] = c.in-Some.ensures.items ∙ ap (λ cs. cs.items ++ c.in-Some.change ∷ []) (sym c.in_ok-undo.ensures.changes) in
    let n : length k ≡ length l + 1 = ap (λ (xs : List Change). length xs) is ∙ length-append l (c.in-Some.change ∷ []) in
    let le : c.args.to ≤ length l = omega (arith, c.loop-alloc-test.true, c.len.ensures, n) in
    record {
      some = (with_amount same_row i.some.0 c.in-Some.change.row c.in-Some.change.old, c.in_ok-undo.ensures.carries i.some.0 i.some.1);
      carries = λ ms ns carries before. (let a = i.carries ms ns carries before in
          (with_amount same_row a.0 c.in-Some.change.row c.in-Some.change.old, c.in_ok-undo.ensures.carries a.0 a.1, before_less ns a.0 c.args.to k l c.in-Some.change is le a.2));
      sound = others_sound c.args.model.now k l c.in-Some.change is i.sound;
      kept = changes_less k l _ c.in-Some.change c.args.to is le i.kept;
      to = le;
    }
