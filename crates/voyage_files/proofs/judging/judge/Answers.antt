use Rattle.std.proofs.Common.{◌≡◌, ℕ, ◌+◌, ◌∙◌, refl, ap, subst}
use Rattle.std.specs.Prelude.{min}
use Rattle.std.proofs.lemmas.Result.{err_from_is_err_and}
use Rattle.bound_checker.specs.Entries.{ProvesBound}
use Rattle.voyage_files.specs.Judged.{IsTreeNo, checked}
use Rattle.voyage_files.proofs.Bounding.{arrives, files_refused, holds, no_of_voyage, of_voyage, tree_refused}
use Rattle.voyage_files.proofs.judging.judge.Goals as goal

pub cost_found-requires-clause-arrival : goal.cost_found-requires-clause-arrival
cost_found-requires-clause-arrival c = arrives c.args.model.now c.args.ship.now c.args.cargo.now c.requires.voyage c.requires.problem.arrives

pub returns-in_err-found-clause-refused : goal.returns-in_err-found-clause-refused
returns-in_err-found-clause-refused c =
    let p = err_from_is_err_and c.from_residual.result c.from_residual.ensures.1 in
    let said = c.args.head.now.rehandles in
    rw (p.1, p.2) (files_refused c.args.model.now c.args.head.now c.args.tree.now c.args.texts.now said c.in_err-found.field-0.0 refl (no_of_voyage c.args.model.now c.args.ship.now c.args.cargo.now c.requires.voyage c.args.texts.now said c.in_err-found.field-0.0 c.in_err-found.ensures))

pub returns-in_err-check_tree-clause-refused : goal.returns-in_err-check_tree-clause-refused
returns-in_err-check_tree-clause-refused c =
    let m = c.args.model.now in
    let head = c.args.head.now in
    let p = err_from_is_err_and c.from_residual-in_err-check_tree.result c.from_residual-in_err-check_tree.ensures.1 in
    let same : c.checked-bound.result ≡ checked m head.bound = c.checked-bound.ensures ∙ ap (λ (n : ℕ). min head.bound (n + 1)) c.limit.ensures in
    let e = c.in_err-check_tree.field-0.0 in
    rw (p.1, p.2) (tree_refused m head c.args.tree.now c.args.texts.now c.in_ok-found.found (of_voyage m c.args.ship.now c.args.cargo.now c.requires.voyage c.args.texts.now head.rehandles c.in_ok-found.found c.in_ok-found.ensures) e (subst (λ (b : ℕ). IsTreeNo m c.args.tree.now b e) same c.in_err-check_tree.ensures.refused))

pub returns-in-Some-clause-refused : goal.returns-in-Some-clause-refused
returns-in-Some-clause-refused c =
    let m = c.args.model.now in
    let head = c.args.head.now in
    let same : c.checked-bound.result ≡ checked m head.bound = c.checked-bound.ensures ∙ ap (λ (n : ℕ). min head.bound (n + 1)) c.limit.ensures in
    record {
      found = c.in_ok-found.found;
      files = of_voyage m c.args.ship.now c.args.cargo.now c.requires.voyage c.args.texts.now head.rehandles c.in_ok-found.found c.in_ok-found.ensures;
      proves = subst (λ (b : ℕ). ProvesBound m c.args.tree.now b) same c.in_ok-check_tree.ensures.proves;
      why = c.in-Some.ensures;
    }

pub returns-in-None-clause-holds : goal.returns-in-None-clause-holds
returns-in-None-clause-holds c =
    let m = c.args.model.now in
    let head = c.args.head.now in
    let same : c.checked-bound.result ≡ checked m head.bound = c.checked-bound.ensures ∙ ap (λ (n : ℕ). min head.bound (n + 1)) c.limit.ensures in
    holds m head c.args.tree.now c.args.texts.now c.in_ok-found.found (of_voyage m c.args.ship.now c.args.cargo.now c.requires.voyage c.args.texts.now head.rehandles c.in_ok-found.found c.in_ok-found.ensures)
    (subst (λ (b : ℕ). ProvesBound m c.args.tree.now b) same c.in_ok-check_tree.ensures.proves) (λ full. c.in_ok-check_tree.ensures.none (same ∙ full)) c.in-None.ensures
