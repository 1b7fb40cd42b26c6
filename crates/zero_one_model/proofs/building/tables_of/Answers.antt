use Rattle.std.proofs.Common.{ℕ, List, subst, ◌∙◌, ap, length, refl}
use Rattle.zero_one_rows.specs.declared.row_lists.RowLists.{RowLists}
use Rattle.zero_one_rows.specs.Counted.{base_in}
use Rattle.zero_one_rows.specs.declared.program.Var.{Var}
use Rattle.zero_one_rows.specs.Variables.{Voyage, calls, all_kinds}
use Rattle.zero_one_model.specs.Indexed.{IsIndexOf}
use Rattle.zero_one_model.specs.Runs.{AreFiled}
use Rattle.zero_one_model.proofs.Selected.{places_in}
use Rattle.zero_one_model.proofs.building.tables_of.Goals as goal

pub index_of-requires-clause-places : goal.index_of-requires-clause-places
index_of-requires-clause-places c =
    let m : Voyage = record { ship = c.args.ship.now; cargo = c.args.cargo.now } in
    places_in m c.args.ship.now c.args.vars.now refl c.requires.vars

pub returns-in-Ok : goal.returns-in-Ok
returns-in-Ok c =
    let m : Voyage = record { ship = c.args.ship.now; cargo = c.args.cargo.now } in
    record {
      counts = c.requires.counts;
      lists = c.in-Ok.ensures.lists;
      index =
          let a : IsIndexOf c.args.ship.now c.calls.result (length (all_kinds m)) c.args.vars.now c.in_ok-index.index = subst (λ (n : ℕ). IsIndexOf c.args.ship.now c.calls.result n c.args.vars.now c.in_ok-index.index) (c.len.ensures ∙ ap length c.requires.kinds.list) c.in_ok-index.ensures in
          let b : IsIndexOf c.args.ship.now (calls m) (length (all_kinds m)) c.args.vars.now c.in_ok-index.index = subst (λ (n : ℕ). IsIndexOf c.args.ship.now n (length (all_kinds m)) c.args.vars.now c.in_ok-index.index) c.calls.ensures.number a in
          subst (λ (xs : List Var). IsIndexOf c.args.ship.now (calls m) (length (all_kinds m)) xs c.in_ok-index.index) c.requires.vars b;
      files = subst (λ (l : RowLists). AreFiled c.args.ship.now (base_in l) c.in-Ok.files) c.in-Ok.ensures.lists c.in-Ok.ensures.files;
    }
