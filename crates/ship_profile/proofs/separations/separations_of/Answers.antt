use Rattle.std.proofs.Common.{◌≡◌, ◌<◌, ◌+◌, length, ap, arith}
use Rattle.std.proofs.lemmas.Result.{err_from_is_err_and}
use Rattle.ship_profile.specs.declared.faults.ProfileKey.TheVariants as key
use Rattle.ship_profile.specs.Separations.{separation_of}
use Rattle.ship_profile.proofs.Items.{entry_on, entry_stops, entries_end}
use Rattle.ship_profile.proofs.separations.separations_of.Goals as goal

pub returns-in_err-separation-clause-read : goal.returns-in_err-separation-clause-read
returns-in_err-separation-clause-read c =
    let p = err_from_is_err_and c.from_residual.result c.from_residual.ensures.1 in
    let vs = c.args.entries.now.items in
    let lt : c.loop-entry.entry-index < length vs = omega (arith, ap length c.deref-entry-items.ensures.value) in
    rw (p.1, p.2) (entry_stops c.in_err-separation.field-0.0 key.Separate separation_of vs c.loop-entry.entry-index c.loop-entry.index c.loop-entry.separations c.entry-item.result lt (rw c.deref-entry-items.ensures.value at c.entry-item.is) c.in_err-separation.ensures c.loop-entry.invariant.at)

pub loop-entry-preserved : goal.loop-entry-preserved
loop-entry-preserved c =
    let vs = c.args.entries.now.items in
    let lt : c.loop-entry.entry-index < length vs = omega (arith, ap length c.deref-entry-items.ensures.value) in
    let counted : c.in_ok-index.index ≡ c.loop-entry.index + 1 = grind (arith, c.in_ok-index.ensures) in
    record {
      fits = grind (arith, c.in_ok-index.ensures);
      at = rw (counted, c.in_ok-separations.ensures) (entry_on key.Separate separation_of vs c.loop-entry.entry-index c.loop-entry.index c.loop-entry.separations c.entry-item.result _ lt (rw c.deref-entry-items.ensures.value at c.entry-item.is) c.in_ok-separation.ensures c.loop-entry.invariant.at);
    }

pub returns-clause-read : goal.returns-clause-read
returns-clause-read c = rw c.into_list.ensures (entries_end key.Separate separation_of c.args.entries.now.items c.loop-entry.entry-index c.loop-entry.index c.loop-entry.separations (omega (arith, ap length c.deref-entry-items.ensures.value)) c.loop-entry.invariant.at)
