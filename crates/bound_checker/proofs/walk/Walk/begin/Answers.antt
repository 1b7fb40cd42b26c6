use Rattle.std.proofs.Common.{◌≡◌, ◌∙◌, refl, sym, subst, append-nil, Bool, []}
use Rattle.proof_trees.specs.Trees.{begun}
use Rattle.bound_checker.specs.declared.walk.Walk.{Walk}
use Rattle.bound_checker.specs.Walks.{Stands}
use Rattle.bound_checker.proofs.Waiting.{moves_none}
use Rattle.bound_checker.proofs.Walks.{stands_changed}
use Rattle.bound_checker.proofs.walk.Walk.begin.Goals as goal

pub returns-in_ok-clear-in-None : goal.returns-in_ok-clear-in-None
returns-in_ok-clear-in-None c = λ q qs stands.
    let m = c.args.model.now in
    let w = c.args.self.now in
    let same : c.pop.new.self.items ≡ w.frames.items = sym (append-nil c.pop.new.self.items) ∙ sym c.in-None.ensures.items in
    let v : Walk = record { b = w.b; undo = w.undo; priced = w.priced; prices = c.clear.new.self; frames = c.pop.new.self; holders = w.holders; done = w.done } in
    subst (λ (z : Bool). Stands m v (record { box = q.box; multipliers = begun z q.multipliers }) qs) (sym c.if-not-from_zero.false)
    (stands_changed m w w.frames.items q qs v [] stands refl refl stands.priced same refl
    (c.in_ok-clear-in-None.ensures q.multipliers q.multipliers w.prices.changes.items (record { carries = stands.carries; moves = moves_none m q.multipliers w.prices.changes.items })))
