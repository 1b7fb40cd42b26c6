use Rattle.std.proofs.Common.{◌≡◌, ◌∙◌, ◌++◌, ◌∷◌, [], ap, arith, ◌≤◌, length, List, ℕ, Some, subst, sym}
use Rattle.std.specs.Prelude.{slice_get, slice_set, OnOk}
use Rattle.stow_data.specs.declared.kind_list.Kind.{Kind}
use Rattle.stow_data.specs.Kinds.{number_in, kinds_of}
use Rattle.stow_data.proofs.KindLemmas.{joins_new, joins_old, joined_more, on_push}
use Rattle.stow_data.proofs.kind_finder.join.Goals as goal

pub returns-then-number-len : goal.returns-then-number-len
returns-then-number-len c = λ step cs x old shown.
    let number : c.position_of-number.result ≡ number_in c.args.list.now c.args.shown = c.position_of-number.ensures ∙ ap (λ (xs : List Kind). number_in xs c.args.shown) c.deref.ensures in
    let many : length c.args.list.now ≤ number_in c.args.list.now c.args.shown = omega (arith, number, c.if-number-len.true, c.len.ensures) in
    let made : c.args.list.now ++ c.args.shown ∷ [] ≡ kinds_of step (cs ++ x ∷ []) = sym (joins_new c.args.list.now c.args.shown many) ∙ joined_more step cs x c.args.list.now c.args.shown old shown in
    subst (λ (ks : List Kind). OnOk c.push.result (c.push.new.self ≡ ks)) made (on_push c.push.result c.push.new.self (c.args.list.now ++ c.args.shown ∷ []) c.args.list.now c.push.ensures)

pub returns : goal.returns
returns c = λ step cs x old shown.
    let number : c.position_of-number.result ≡ number_in c.args.list.now c.args.shown = c.position_of-number.ensures ∙ ap (λ (xs : List Kind). number_in xs c.args.shown) c.deref.ensures in
    let is : slice_get c.args.list.now (number_in c.args.list.now c.args.shown) ≡ Some c.at.result.now = subst (λ (n : ℕ). slice_get c.args.list.now n ≡ Some c.at.result.now) number c.at.ensures in
    c.set.ensures ∙ (ap (λ (n : ℕ). slice_set c.args.list.now n c.begun_by-begun.result) number ∙ (ap (λ (k : Kind). slice_set c.args.list.now (number_in c.args.list.now c.args.shown) k) c.begun_by-begun.ensures ∙ (sym (joins_old c.args.list.now c.args.shown c.at.result.now is) ∙ joined_more step cs x c.args.list.now c.args.shown old shown)))
