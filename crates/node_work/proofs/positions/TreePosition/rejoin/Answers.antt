use Rattle.std.proofs.Common.{◌≡◌, ℕ, ◌+◌, ◌-◌, ◌<◌, ◌≤◌, List, false, take, get_or, length, map, refl, sym, subst, ◌∙◌, ap, arith}
use Rattle.certificate.specs.declared.tree.Record.{Record}
use Rattle.node_work.specs.Positions.{entry_in}
use Rattle.std.proofs.lemmas.Result.{on_ok_weaker}
use Rattle.node_work.specs.declared.positions.Frame.{Frame}
use Rattle.node_work.proofs.Folds.{default_any}
use Rattle.node_work.proofs.Positioned.{position_first}
use Rattle.node_work.proofs.Walks.{same_last, turned_values}
use Rattle.node_work.proofs.positions.TreePosition.rejoin.Goals as goal

pub turn-requires-clause-position : goal.turn-requires-clause-position
turn-requires-clause-position c = position_first c.args.model.now c.args.self.now _ c.args.depth c.requires.position refl refl refl c.truncate.ensures.items

pub returns-clause-values : goal.returns-clause-values
returns-clause-values c = on_ok_weaker c.turn.result (λ t.
    let k : ℕ = c.args.depth - 1 in
    let one : c.args.depth ≡ k + 1 = omega (arith, c.if-depth-eq0.false) in
    let frames : List Frame = c.args.self.now.frames.items in
    let few : c.args.depth ≤ length frames = c.requires.frames in
    let short : c.args.depth ≤ length c.args.path.now = c.requires.branches in
    let lt : k < length frames = omega arith in
    let lt' : k < length c.args.path.now = omega arith in
    let is : take (k + 1) frames ≡ _ = ap (λ (n : ℕ). take n frames) (sym one) ∙ sym c.truncate.ensures.items ∙ t.2 in
    turned_values frames t.0 c.turn.new.self.frames.items t.1 c.args.path.now k (get_or c.args.path.now k false) is t.3 lt (c.requires.values k one) lt' (default_any c.args.path.now k false (get_or c.args.path.now k false) lt')
    ∙ ap (λ (n : ℕ). take n c.args.path.now) (sym one)) c.turn.ensures.frames

pub turn-requires-clause-same : goal.turn-requires-clause-same
turn-requires-clause-same c = λ fs f is.
    let k : ℕ = c.args.depth - 1 in
    let one : c.args.depth ≡ k + 1 = omega (arith, c.if-depth-eq0.false) in
    let frames : List Frame = c.args.self.now.frames.items in
    let trail : List Record = c.args.trail.now in
    let few : c.args.depth ≤ length frames = c.requires.frames in
    let short : c.args.depth ≤ length trail = c.requires.records in
    same_last frames fs f trail k c.get.result.now (subst (λ (n : ℕ). map entry_in (take n frames) ≡ take n trail) one c.requires.entries)
    (ap (λ (n : ℕ). take n frames) (sym one) ∙ sym c.truncate.ensures.items ∙ is) (omega arith) (omega arith) c.get.ensures
