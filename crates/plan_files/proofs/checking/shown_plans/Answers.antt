use Rattle.std.proofs.Common.{◌≡◌, ◌<◌, ◌+◌, ◌∷◌, [], ◌++◌, List, length, map, take, drop, sym, subst, ap, ◌∙◌, arith}
use Rattle.std.proofs.lemmas.List.{length-take-le, take_more}
use Rattle.std.proofs.lemmas.Result.{err_from_is_err_and}
use Rattle.stow_data.specs.Plans.{Plan}
use Rattle.baplie.specs.declared.parts.Message.{Message}
use Rattle.plan_files.specs.Shown.{ShowAll, Shows, shown_by}
use Rattle.plan_files.specs.Checked.{IsFileFault, IsUnshown}
use Rattle.plan_files.proofs.Files.{show_more, split_at, unshown_at}
use Rattle.plan_files.proofs.checking.shown_plans.Goals as goal

pub returns-in_err-shown_plan : goal.returns-in_err-shown_plan
returns-in_err-shown_plan c =
    let ms = c.args.messages.now in
    let i = c.loop-index.index in
    let m = c.index-messages-index.result in
    let lt : i < length ms = omega (arith, c.loop-index-test.true) in
    let k : i + 1 ≡ 1 + length (take i ms) = omega (arith, length-take-le i ms (omega (arith, lt))) in
    let p = err_from_is_err_and c.from_residual.result c.from_residual.ensures.1 in
    let e = c.in_err-shown_plan.field-0.0 in
    let here : IsFileFault c.args.ship.now c.args.cargo.now (1 + length (take i ms)) m e = subst (λ n. IsFileFault c.args.ship.now c.args.cargo.now n m e) k c.in_err-shown_plan.ensures in
    rw (p.1, p.2) (subst (λ (xs : List Message). IsUnshown c.args.ship.now c.args.cargo.now 1 xs e) (sym (split_at ms i m lt c.index-messages-index.is)) (unshown_at c.args.ship.now c.args.cargo.now 1 (take i ms) (drop (i + 1) ms) c.loop-index.plans m e c.loop-index.invariant here))

pub loop-index-preserved : goal.loop-index-preserved
loop-index-preserved c =
    let ms = c.args.messages.now in
    let i = c.loop-index.index in
    let m = c.index-messages-index.result in
    let lt : i < length ms = omega (arith, c.loop-index-test.true) in
    let k : i + 1 ≡ 1 + length (take i ms) = omega (arith, length-take-le i ms (omega (arith, lt))) in
    let plan = c.in_ok-shown_plan.field-0 in
    let more : take (i + 1) ms ≡ take i ms ++ m ∷ [] = take_more ms i m lt ∙ ap (λ (z : Message). take i ms ++ z ∷ []) (sym c.index-messages-index.is) in
    let here : Shows c.args.ship.now c.args.cargo.now (1 + length (take i ms)) (shown_by m) plan = subst (λ n. Shows c.args.ship.now c.args.cargo.now n (shown_by m) plan) k c.in_ok-shown_plan.ensures in
    subst (λ (ps : List Plan). ShowAll c.args.ship.now c.args.cargo.now 1 (map shown_by (take (i + 1) ms)) ps) (sym c.in_ok-push.ensures)
    (subst (λ (xs : List Message). ShowAll c.args.ship.now c.args.cargo.now 1 (map shown_by xs) (c.loop-index.plans ++ plan ∷ [])) (sym more) (show_more c.args.ship.now c.args.cargo.now 1 (take i ms) c.loop-index.plans m plan c.loop-index.invariant here))
