use Rattle.std.proofs.Common.{◌≡◌, ◌<◌, ◌+◌, ◌++◌, length, ap, sym, ◌∙◌, arith}
use Rattle.std.proofs.lemmas.Result.{err_from_is_err_and}
use Rattle.ship_profile.specs.declared.faults.ProfileKey.TheVariants as key
use Rattle.ship_profile.specs.Covers.{cover_of, named_by}
use Rattle.ship_profile.proofs.Items.{entry_on, entry_stops, entries_end}
use Rattle.ship_profile.proofs.Named.{named_push}
use Rattle.ship_profile.proofs.covers.covers_of.Goals as goal

pub returns-in_err-cover_at-clause-read : goal.returns-in_err-cover_at-clause-read
returns-in_err-cover_at-clause-read c =
    let p = err_from_is_err_and c.from_residual.result c.from_residual.ensures.1 in
    let vs = c.args.entries.now.items in
    let lt : c.loop-entry.entry-index < length vs = omega (arith, ap length c.deref-entry-items.ensures.value) in
    rw (p.1, p.2) (entry_stops c.in_err-cover_at.field-0.0 key.Cover (λ i earlier entry. cover_of c.args.stacks.now i (named_by earlier) entry) vs c.loop-entry.entry-index c.loop-entry.index c.loop-entry.covers c.entry-item.result lt (rw c.deref-entry-items.ensures.value at c.entry-item.is) (rw c.loop-entry.invariant.named at c.in_err-cover_at.ensures.read) c.loop-entry.invariant.at)

pub loop-entry-preserved : goal.loop-entry-preserved
loop-entry-preserved c =
    let vs = c.args.entries.now.items in
    let lt : c.loop-entry.entry-index < length vs = omega (arith, ap length c.deref-entry-items.ensures.value) in
    let counted : c.in_ok-index.index ≡ c.loop-entry.index + 1 = grind (arith, c.in_ok-index.ensures) in
    let cover = c.in_ok-cover_at.field-0 in
    record {
      fits = grind (arith, c.in_ok-index.ensures);
      named = c.in_ok-cover_at.ensures.joined ∙ ap (λ ns. ns ++ (cover.under ++ cover.on)) c.loop-entry.invariant.named ∙ sym (named_push c.loop-entry.covers cover) ∙ ap named_by (sym c.in_ok-push.ensures);
      at = rw (counted, c.in_ok-push.ensures) (entry_on key.Cover (λ i earlier entry. cover_of c.args.stacks.now i (named_by earlier) entry) vs c.loop-entry.entry-index c.loop-entry.index c.loop-entry.covers c.entry-item.result _ lt (rw c.deref-entry-items.ensures.value at c.entry-item.is) (rw c.loop-entry.invariant.named at c.in_ok-cover_at.ensures.read) c.loop-entry.invariant.at);
    }

pub returns-clause-read : goal.returns-clause-read
returns-clause-read c = entries_end key.Cover (λ i earlier entry. cover_of c.args.stacks.now i (named_by earlier) entry) c.args.entries.now.items c.loop-entry.entry-index c.loop-entry.index c.loop-entry.covers (omega (arith, ap length c.deref-entry-items.ensures.value)) c.loop-entry.invariant.at
