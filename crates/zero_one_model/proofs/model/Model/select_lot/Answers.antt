use Rattle.std.proofs.Common.{◌≡◌, ◌<◌, ◌++◌, ◌∙◌, ℕ, List, [], ap, sym, subst, length}
use Rattle.std.specs.Prelude.{filter, All, OnOk, slice_index_or}
use Rattle.std.proofs.lemmas.List.{append-nil}
use Rattle.zero_one_rows.specs.Variables.{Voyage, variables, calls, all_kinds}
use Rattle.zero_one_model.specs.Built.{voyage_of}
use Rattle.zero_one_model.specs.Indexed.{lot, lot_of, stands}
use Rattle.zero_one_model.proofs.LotVariables.{lot_group, lot_inside, none_stand}
use Rattle.zero_one_model.proofs.model.Model.select_lot.Goals as goal

pub select-requires-clause-inside : goal.select-requires-clause-inside
select-requires-clause-inside c =
    let v : Voyage = voyage_of c.self.inside in
    let put : c.args.put < calls v = subst (λ (w : Voyage). c.args.put < calls w) (sym c.self.view_is) c.requires.put in
    let kind : c.args.kind < length (all_kinds v) = subst (λ (w : Voyage). c.args.kind < length (all_kinds w)) (sym c.self.view_is) c.requires.kind in
    let n : c.len.result ≡ length (all_kinds v) = c.len.ensures ∙ ap length c.self.invariant.kinds.list in
    let given : c.lot.result.now ≡ lot_of v c.args.put c.args.kind = c.lot.ensures ∙ ap (λ (n : ℕ). slice_index_or c.self.inside.index.by_lot (lot n c.args.put c.args.kind) []) n ∙ lot_group v c.self.inside.index.by_lot c.args.put c.args.kind c.self.invariant.index.by_lot put kind in
    subst (λ (w : Voyage). All (λ z. z < length (variables w)) c.lot.result.now) c.self.view_is (subst (λ (xs : List ℕ). All (λ z. z < length (variables v)) xs) (sym given) (lot_inside v c.args.put c.args.kind kind))

pub returns : goal.returns
returns c =
    let v : Voyage = voyage_of c.self.inside in
    let put : c.args.put < calls v = subst (λ (w : Voyage). c.args.put < calls w) (sym c.self.view_is) c.requires.put in
    let kind : c.args.kind < length (all_kinds v) = subst (λ (w : Voyage). c.args.kind < length (all_kinds w)) (sym c.self.view_is) c.requires.kind in
    let n : c.len.result ≡ length (all_kinds v) = c.len.ensures ∙ ap length c.self.invariant.kinds.list in
    let given : c.lot.result.now ≡ lot_of c.args.self.now c.args.put c.args.kind = c.lot.ensures ∙ ap (λ (n : ℕ). slice_index_or c.self.inside.index.by_lot (lot n c.args.put c.args.kind) []) n ∙ lot_group v c.self.inside.index.by_lot c.args.put c.args.kind c.self.invariant.index.by_lot put kind ∙ ap (λ (w : Voyage). lot_of w c.args.put c.args.kind) c.self.view_is in
    subst (λ (xs : List ℕ). OnOk c.select.result (c.select.new.list ≡ c.args.list.now ++ filter (stands c.args.self.now c.args.r.now) xs)) given c.select.ensures

pub returns-then-not-may_touch_lot : goal.returns-then-not-may_touch_lot
returns-then-not-may_touch_lot c =
    sym (ap (λ (xs : List ℕ). c.args.list.now ++ xs) (none_stand c.args.self.now c.args.r.now c.args.put c.args.kind c.requires.kind (c.may_touch_lot.ensures c.if-not-may_touch_lot.true)) ∙ append-nil c.args.list.now)
