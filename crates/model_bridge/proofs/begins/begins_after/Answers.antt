use Rattle.std.proofs.Common.{◌∙◌, ◌∷◌, ◌++◌, ℕ, List, [], ap, sym, cond}
use Rattle.std.specs.Prelude.{map, slice_index_or}
use Rattle.std.specs.List.{range_with_len}
use Rattle.stow_data.specs.Plans.{held}
use Rattle.plan_lifts.specs.Spread.{has}
use Rattle.model_bridge.specs.Stays.{is_left}
use Rattle.model_bridge.proofs.Tables.{given_more}
use Rattle.model_bridge.proofs.begins.begins_after.Goals as goal

pub loop-p-preserved : goal.loop-p-preserved
loop-p-preserved c =
    let f : ℕ → ℕ = λ p. cond (is_left (has c.args.lifted.now) (held c.args.before.now p)) (slice_index_or c.args.began.now p 0) c.args.call in
    c.in_ok-push.ensures
    ∙ ap (λ (xs : List ℕ). xs ++ c.begin_at.result ∷ []) c.loop-p.invariant
    ∙ ap (λ (z : ℕ). map f (range_with_len 0 c.loop-p.p) ++ z ∷ []) c.begin_at.ensures
    ∙ sym (given_more f c.loop-p.p)
