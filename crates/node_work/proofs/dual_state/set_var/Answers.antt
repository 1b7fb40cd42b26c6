use Rattle.std.proofs.Common.{◌≡◌, Bool, true, false, not, Option, refl, Some, None, set, sym, ◌∙◌, ap}
use Rattle.std.proofs.Math.Bool.{beq}
use Rattle.std.specs.Prelude.{slice_get}
use Rattle.proof_trees.specs.Boxes.{Box}
use Rattle.dual_bound.specs.Gauging.{Gauging}
use Rattle.node_work.proofs.Adopting.{set_itself, set_again}
use Rattle.node_work.proofs.dual_state.set_var.Goals as goal

same_bool : (x y : Bool) → not (beq x y) ≡ false → x ≡ y
same_bool true true h = refl
same_bool true false h = absurd (cc)
same_bool false true h = absurd (cc)
same_bool false false h = refl

pub returns-in-None-None : goal.returns-in-None-None
returns-in-None-None c =
    ap (λ (b : Box). record c.args.gauge.now { box = b }) (set_itself c.args.gauge.now.box c.args.x c.args.value
    (ap (λ (b : Box). slice_get b c.args.x) (sym c.current.ensures) ∙ c.at.ensures ∙ ap (λ (o : Option Bool). Some o) (c.in-None-None.is-0 ∙ sym c.in-None-None.is-1)))

pub returns-then-old-new : goal.returns-then-old-new
returns-then-old-new c =
    c.fix-then-old-new.ensures ∙ ap (λ (g : Gauging). record g { box = set g.box c.args.x (Some c.in-Some-Some.new) }) c.release-then-old-new.ensures
    ∙ ap (λ (b : Box). record c.args.gauge.now { box = b }) (set_again c.args.gauge.now.box c.args.x None (Some c.in-Some-Some.new) ∙ ap (set c.args.gauge.now.box c.args.x) (sym c.in-Some-Some.is-1))

pub returns-else-old-new : goal.returns-else-old-new
returns-else-old-new c =
    let same : c.in-Some-Some.old ≡ c.in-Some-Some.new = same_bool c.in-Some-Some.old c.in-Some-Some.new c.if-old-new.false in
    ap (λ (b : Box). record c.args.gauge.now { box = b }) (set_itself c.args.gauge.now.box c.args.x c.args.value
    (ap (λ (b : Box). slice_get b c.args.x) (sym c.current.ensures) ∙ c.at.ensures ∙ ap (λ (o : Option Bool). Some o) (c.in-Some-Some.is-0 ∙ ap (λ (y : Bool). Some y) same ∙ sym c.in-Some-Some.is-1)))
