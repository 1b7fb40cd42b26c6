use Rattle.std.proofs.Common.{rules, ◌≡◌, ℕ, Bool, true, false, Some, slice_get}
use Rattle.std.specs.Prelude.{◌&&◌, nat_eq}
use Rattle.std.specs.List.{list_any}
use Rattle.stow_data.specs.declared.geometry.Cover.{Cover}
use Rattle.stow_data.proofs.Ranges.{any_from_Range}
use Rattle.zero_one_rows.proofs.AnyOf.{tells_list_any}
use Rattle.zero_one_rows.proofs.which_rows.are_joined.Goals as goal

pub returns : goal.returns
returns c =
    let test : Cover → Bool = λ k. list_any (nat_eq c.args.s) k.under && list_any (nat_eq c.args.t) k.on in
    let answers : Bool → ℕ → Type 0 = λ b n. (k : Cover) → slice_get c.args.ship.now.covers n ≡ Some k → test k ≡ b in
    tells_list_any test c.args.ship.now.covers c.any.result c.covers.result c.covers.ensures
    (any_from_Range _ _ _ _ (answers true) (answers false) c.any.ensures.ran (λ x q k. search rules) (λ x q k. search rules))
