use Rattle.std.proofs.Common.{◌≡◌, ℕ, ◌+◌, ◌≤◌, ◌++◌, [], ◌∷◌, All, true, List, length, take, refl, sym, subst, ◌∙◌, ap, arith, length-append}
use Rattle.std.proofs.lemmas.List.{take-take, take_all}
use Rattle.std.proofs.Math.Seq.{take-append_seam}
use Rattle.zero_one_rows.specs.declared.program.Raise.{Raise}
use Rattle.zero_one_rows.specs.declared.program.Row.{Row}
use Rattle.zero_one_rows.specs.Variables.{Voyage}
use Rattle.zero_one_rows.specs.Rows.{whole}
use Rattle.proof_trees.specs.Multipliers.{Multipliers}
use Rattle.node_work.specs.declared.stages.Stage.{Stage}
use Rattle.node_work.specs.DualStates.{Staged}
use Rattle.node_work.proofs.Leading.{staged_last}
use Rattle.node_work.proofs.stages.lower_to.Goals as goal

pub loop-alloc-init : goal.loop-alloc-init
loop-alloc-init c = record {
  voyage = refl;
  known = refl;
  depth = c.requires.depth;
  first = sym (take_all (length c.args.stages.items) c.args.stages.items (omega arith));
  staged = c.requires.staged;
}

pub lower_stage-requires-clause-program : goal.lower_stage-requires-clause-program
lower_stage-requires-clause-program c = c.requires.table ∙ sym (c.loop-alloc.invariant.voyage ∙ c.requires.program)

pub lower_stage-requires-clause-rows : goal.lower_stage-requires-clause-rows
lower_stage-requires-clause-rows c =
    let m = c.args.model.now in
    let ms = c.loop-alloc.gauge.multipliers in
    let l = staged_last m [] ms c.pop.new.self.items c.in-Some.stage (subst (λ (ss : List Stage). Staged m [] ss ms) c.in-Some.ensures.items c.loop-alloc.invariant.staged) in
    subst (λ (v : Voyage). All (λ (x : Raise). (whole v).has x.row ≡ true) c.in-Some.stage.raises) (sym (c.loop-alloc.invariant.voyage ∙ c.requires.program)) l.rows

pub returns-then-not-lower_stage-clause-voyage : goal.returns-then-not-lower_stage-clause-voyage
returns-then-not-lower_stage-clause-voyage c = c.lower_stage.ensures.voyage ∙ c.loop-alloc.invariant.voyage

pub returns-then-not-lower_stage-clause-known : goal.returns-then-not-lower_stage-clause-known
returns-then-not-lower_stage-clause-known c = c.lower_stage.ensures.known ∙ c.loop-alloc.invariant.known

pub loop-alloc-preserved-in-Some : goal.loop-alloc-preserved-in-Some
loop-alloc-preserved-in-Some c =
    let i = c.loop-alloc.invariant in
    let m = c.args.model.now in
    let ms = c.loop-alloc.gauge.multipliers in
    let us : List Stage = c.loop-alloc.left.items in
    let vs : List Stage = c.pop.new.self.items in
    let pop : us ≡ vs ++ c.in-Some.stage ∷ [] = c.in-Some.ensures.items in
    let n : length us ≡ length vs + 1 = ap (λ (ss : List Stage). length ss) pop ∙ length-append vs (c.in-Some.stage ∷ []) in
    let le : length vs ≤ length us = omega arith in
    let l = staged_last m [] ms vs c.in-Some.stage (subst (λ (ss : List Stage). Staged m [] ss ms) pop i.staged) in
    record {
      voyage = c.lower_stage.ensures.voyage ∙ i.voyage;
      known = c.lower_stage.ensures.known ∙ i.known;
      depth = omega (arith, c.loop-alloc-test.true, c.len.ensures, c.loop-alloc.left.ok.0, n);
      first = sym (take-append_seam vs (c.in-Some.stage ∷ [])) ∙ ap (take (length vs)) (sym pop ∙ i.first) ∙ take-take (length vs) (length us) c.args.stages.items le;
      staged = subst (λ (ns : Multipliers Row). Staged m [] vs ns) (sym (c.lower_stage.ensures.lowered c.if-not-lower_stage.false l.at l.before l.to)) l.staged;
    }

pub returns-clause-voyage : goal.returns-clause-voyage
returns-clause-voyage c = c.loop-alloc.invariant.voyage

pub returns-clause-known : goal.returns-clause-known
returns-clause-known c = c.loop-alloc.invariant.known

pub returns-clause-first : goal.returns-clause-first
returns-clause-first c =
    let n : length c.loop-alloc.left.items ≡ c.args.depth = omega (arith, c.loop-alloc-test.false, c.len.ensures, c.loop-alloc.left.ok.0, c.loop-alloc.invariant.depth) in
    c.loop-alloc.invariant.first ∙ ap (λ (k : ℕ). take k c.args.stages.items) n

pub returns-clause-staged : goal.returns-clause-staged
returns-clause-staged c = c.loop-alloc.invariant.staged
