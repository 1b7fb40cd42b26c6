use Rattle.std.proofs.Common.{sym, ap, ◌∙◌}
use Rattle.toml.specs.View.{table_view}
use Rattle.toml_values.specs.Values.{or_default}
use Rattle.ship_profile.specs.declared.faults.ProfileKey.TheVariants as key
use Rattle.ship_profile.specs.Keys.{keyed}
use Rattle.ship_profile.proofs.Made.{AreRead, stacks_read, few_tiers, ship_of_parts, large, made}
use Rattle.ship_profile.proofs.profile_text.ship_of.Goals as goal

pub refuse_shared-requires : goal.refuse_shared-requires
refuse_shared-requires c = rw c.as_slice.ensures (stacks_read (table_view c.args.top.now) c.in_ok-stacks.stacks c.in_ok-stacks.ensures.read)

pub places_in-value-requires-clause-low : goal.places_in-value-requires-clause-low
places_in-value-requires-clause-low c = rw c.as_slice-3.ensures (few_tiers c.in_ok-stacks.stacks (stacks_read (table_view c.args.top.now) c.in_ok-stacks.stacks c.in_ok-stacks.ensures.read))

pub new-requires : goal.new-requires
new-requires c =
    let read : AreRead (table_view c.args.top.now) (record { name = c.in_ok-name.name; weight_step = c.in_ok-weight_step.weight_step; stacks = c.in_ok-stacks.stacks; covers = c.in_ok-covers.covers; separations = c.in_ok-separations.separations }) = record {
      named = ap (keyed key.Name 0) (sym c.name_at.ensures) ∙ sym c.in_ok-name.ensures;
      step = ap (keyed key.WeightStep 0) (sym (c.or_default-step.ensures ∙ ap (or_default 1000) c.number_at.ensures)) ∙ sym c.in_ok-weight_step.ensures;
      stacks = c.in_ok-stacks.ensures.read;
      apart = rw c.as_slice.ensures at c.in_ok-refuse_shared.ensures;
      covers = rw c.as_slice-2.ensures at c.in_ok-covers.ensures.read;
      separations = c.in_ok-separations.ensures.read;
    } in
    made (table_view c.args.top.now) _ c.places_in-value.result read c.in_ok-covers.ensures.few c.in_ok-separations.ensures.few (rw c.as_slice-3.ensures at c.places_in-value.ensures) c.if-value-gt-MOST_PLACES.false

pub returns-then-value-gt-MOST_PLACES : goal.returns-then-value-gt-MOST_PLACES
returns-then-value-gt-MOST_PLACES c =
    let read : AreRead (table_view c.args.top.now) (record { name = c.in_ok-name.name; weight_step = c.in_ok-weight_step.weight_step; stacks = c.in_ok-stacks.stacks; covers = c.in_ok-covers.covers; separations = c.in_ok-separations.separations }) = record {
      named = ap (keyed key.Name 0) (sym c.name_at.ensures) ∙ sym c.in_ok-name.ensures;
      step = ap (keyed key.WeightStep 0) (sym (c.or_default-step.ensures ∙ ap (or_default 1000) c.number_at.ensures)) ∙ sym c.in_ok-weight_step.ensures;
      stacks = c.in_ok-stacks.ensures.read;
      apart = rw c.as_slice.ensures at c.in_ok-refuse_shared.ensures;
      covers = rw c.as_slice-2.ensures at c.in_ok-covers.ensures.read;
      separations = c.in_ok-separations.ensures.read;
    } in
    λ ne. ship_of_parts (table_view c.args.top.now) _ read ∙ large _ c.places_in-value.result (rw c.as_slice-3.ensures at c.places_in-value.ensures) c.if-value-gt-MOST_PLACES.true
