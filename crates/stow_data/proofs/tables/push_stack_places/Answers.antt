use Rattle.std.proofs.Common.{◌≡◌, ◌++◌, Bool, false, ap, sym, ◌∙◌}
use Rattle.std.specs.Prelude.{slice_index_or, map}
use Rattle.std.proofs.lemmas.Option.{get_or_from_slice_get}
use Rattle.stow_data.specs.Ship.{tier_places, spans}
use Rattle.stow_data.specs.declared.geometry.Span.{Span}
use Rattle.stow_data.proofs.Made.{tier_more}
use Rattle.stow_data.proofs.tables.push_stack_places.Goals as goal

pub loop-tier-preserved : goal.loop-tier-preserved
loop-tier-preserved c =
    let plug : slice_index_or c.args.stack.now.plugs c.loop-tier.tier false ≡ c.at-plug.result.now = get_or_from_slice_get c.args.stack.now.plugs c.loop-tier.tier c.at-plug.result.now false c.at-plug.ensures in
    let made : c.push_tier_places.new.table ≡ c.loop-tier.table ++ tier_places c.args.number c.args.stack.now c.loop-tier.tier =
    c.in_ok-push_tier_places.ensures ∙ ap (λ (ss : _). c.loop-tier.table ++ map (λ (span : Span). record { stack = c.args.number; tier = c.loop-tier.tier; span = span; plug = c.at-plug.result.now }) ss) c.spans_of.ensures
    ∙ ap (λ (b : Bool). c.loop-tier.table ++ map (λ (span : Span). record { stack = c.args.number; tier = c.loop-tier.tier; span = span; plug = b }) (spans c.args.stack.now.lengths)) (sym plug) in
    tier_more (tier_places c.args.number c.args.stack.now) c.args.table.now c.loop-tier.table _ c.loop-tier.tier c.loop-tier.invariant made
