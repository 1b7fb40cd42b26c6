use Rattle.std.proofs.Common.{rules, ◌≡◌, ◌∙◌, ℕ, Bool, true, false, Some, slice_get, ap, sym, ◌==◌, get_or}
use Rattle.std.proofs.lemmas.Option.{get_or_from_slice_get}
use Rattle.stow_data.specs.declared.geometry.Separation.{Separation}
use Rattle.stow_data.proofs.Ranges.{any_from_Range}
use Rattle.zero_one_rows.proofs.AnyOf.{tells_list_any}
use Rattle.zero_one_rows.proofs.levels.is_used.Goals as goal

pub returns : goal.returns
returns c =
    let test : Separation → Bool = λ e. e.level == c.args.level in
    let answers : Bool → ℕ → Type 0 = λ b n. (e : Separation) → slice_get c.args.ship.now.separations n ≡ Some e → test e ≡ b in
    tells_list_any test c.args.ship.now.separations c.any.result c.separations.result c.separations.ensures
    (any_from_Range _ _ _ _ (answers true) (answers false) c.any.ensures.ran (λ x q k. search rules) (λ x q k. search rules))
