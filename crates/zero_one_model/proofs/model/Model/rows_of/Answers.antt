use Rattle.std.proofs.Common.{◌≡◌, ◌<◌, ◌∙◌, ◌++◌, ℕ, List, [], ap, sym, subst, length}
use Rattle.std.specs.Prelude.{All, slice_index_or}
use Rattle.stow_data.specs.Profile.{IsShip}
use Rattle.zero_one_rows.specs.declared.program.Row.{Row}
use Rattle.zero_one_rows.specs.Variables.{Voyage, var}
use Rattle.zero_one_rows.specs.Counted.{base_rows}
use Rattle.zero_one_model.specs.Runs.{IsFiled, first_file, second_file, no_shelf, meets, run_of, named_runs}
use Rattle.zero_one_model.proofs.Gathered.{kept, filed_inside}
use Rattle.zero_one_model.proofs.EachRun.{s, s_low, first, second, all_gathered, found_each, found_once}
use Rattle.zero_one_model.proofs.model.Model.rows_of.Goals as goal

pub keep_filed-requires-clause-inside : goal.keep_filed-requires-clause-inside
keep_filed-requires-clause-inside c =
    let m : Voyage = c.args.self.now in
    let rules : IsShip m.ship = subst (λ (w : Voyage). IsShip w.ship) c.self.view_is c.obeys_rules.ensures in
    let filed : IsFiled m c.self.inside.files = subst (λ (w : Voyage). IsFiled w c.self.inside.files) c.self.view_is c.self.invariant.files in
    let same : c.of.result.now ≡ first m rules c.self.inside.files filed c.args.x c.requires = c.of.ensures ∙ ap (λ (k : ℕ). slice_index_or c.self.inside.files.by_first k []) c.shelf-shelf.ensures in
    subst (λ (ks : List ℕ). All (λ k. k < length (base_rows m)) ks) (sym same) (filed_inside m (first_file m.ship) (no_shelf m.ship) (s m rules c.self.inside.files filed c.args.x c.requires) c.self.inside.files.by_first filed.by_first (s_low m rules c.self.inside.files filed c.args.x c.requires))

pub keep_filed-requires-2-clause-inside : goal.keep_filed-requires-2-clause-inside
keep_filed-requires-2-clause-inside c =
    let m : Voyage = c.args.self.now in
    let rules : IsShip m.ship = subst (λ (w : Voyage). IsShip w.ship) c.self.view_is c.obeys_rules.ensures in
    let filed : IsFiled m c.self.inside.files = subst (λ (w : Voyage). IsFiled w c.self.inside.files) c.self.view_is c.self.invariant.files in
    let same : c.of-2.result.now ≡ second m rules c.self.inside.files filed c.args.x c.requires = c.of-2.ensures ∙ ap (λ (k : ℕ). slice_index_or c.self.inside.files.by_second k []) c.shelf-shelf.ensures in
    subst (λ (ks : List ℕ). All (λ k. k < length (base_rows m)) ks) (sym same) (filed_inside m (second_file m.ship) (no_shelf m.ship) (s m rules c.self.inside.files filed c.args.x c.requires) c.self.inside.files.by_second filed.by_second (s_low m rules c.self.inside.files filed c.args.x c.requires))

pub returns-clause-each : goal.returns-clause-each
returns-clause-each c =
    let m : Voyage = c.args.self.now in
    let rules : IsShip m.ship = subst (λ (w : Voyage). IsShip w.ship) c.self.view_is c.obeys_rules.ensures in
    let filed : IsFiled m c.self.inside.files = subst (λ (w : Voyage). IsFiled w c.self.inside.files) c.self.view_is c.self.invariant.files in
    let one : c.of.result.now ≡ first m rules c.self.inside.files filed c.args.x c.requires = c.of.ensures ∙ ap (λ (k : ℕ). slice_index_or c.self.inside.files.by_first k []) c.shelf-shelf.ensures in
    let two : c.of-2.result.now ≡ second m rules c.self.inside.files filed c.args.x c.requires = c.of-2.ensures ∙ ap (λ (k : ℕ). slice_index_or c.self.inside.files.by_second k []) c.shelf-shelf.ensures in
    let named : c.keep_named.new.list ≡ kept (meets m c.args.x) (run_of m (var m c.args.x)) (named_runs m (var m c.args.x)) = c.in_ok-keep_named.ensures ∙ ap (λ (rs : List Row). rs ++ kept (meets m c.args.x) (run_of m (var m c.args.x)) (named_runs m (var m c.args.x))) c.new-list.ensures in
    let whole = all_gathered m rules c.self.inside.files filed c.args.x c.requires c.of.result.now c.of-2.result.now c.keep_named.new.list c.keep_filed.new.list c.keep_filed-2.new.list c.keep_chains.new.list c.keep_chains-2.new.list one two named c.in_ok-keep_filed.ensures c.in_ok-keep_filed-2.ensures c.in_ok-keep_chains.ensures c.in_ok-keep_chains-2.ensures in
    found_each m rules c.self.inside.files filed c.args.x c.requires c.keep_chains-2.new.list whole

pub returns-clause-once : goal.returns-clause-once
returns-clause-once c =
    let m : Voyage = c.args.self.now in
    let rules : IsShip m.ship = subst (λ (w : Voyage). IsShip w.ship) c.self.view_is c.obeys_rules.ensures in
    let filed : IsFiled m c.self.inside.files = subst (λ (w : Voyage). IsFiled w c.self.inside.files) c.self.view_is c.self.invariant.files in
    let one : c.of.result.now ≡ first m rules c.self.inside.files filed c.args.x c.requires = c.of.ensures ∙ ap (λ (k : ℕ). slice_index_or c.self.inside.files.by_first k []) c.shelf-shelf.ensures in
    let two : c.of-2.result.now ≡ second m rules c.self.inside.files filed c.args.x c.requires = c.of-2.ensures ∙ ap (λ (k : ℕ). slice_index_or c.self.inside.files.by_second k []) c.shelf-shelf.ensures in
    let named : c.keep_named.new.list ≡ kept (meets m c.args.x) (run_of m (var m c.args.x)) (named_runs m (var m c.args.x)) = c.in_ok-keep_named.ensures ∙ ap (λ (rs : List Row). rs ++ kept (meets m c.args.x) (run_of m (var m c.args.x)) (named_runs m (var m c.args.x))) c.new-list.ensures in
    let whole = all_gathered m rules c.self.inside.files filed c.args.x c.requires c.of.result.now c.of-2.result.now c.keep_named.new.list c.keep_filed.new.list c.keep_filed-2.new.list c.keep_chains.new.list c.keep_chains-2.new.list one two named c.in_ok-keep_filed.ensures c.in_ok-keep_filed-2.ensures c.in_ok-keep_chains.ensures c.in_ok-keep_chains-2.ensures in
    found_once m rules c.self.inside.files filed c.args.x c.requires c.keep_chains-2.new.list whole
