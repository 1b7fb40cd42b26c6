use Rattle.std.proofs.Common.{Option, Some, map, refl, false}
use Rattle.zero_one_rows.specs.declared.program.Row.{Row}
use Rattle.proof_trees.specs.Multipliers.{Multipliers, raised_all}
use Rattle.certificate.specs.Entries.{same_row, raise_of}
use Rattle.event_search.specs.Standing.{standing, begun_there}
use Rattle.event_search.proofs.Listed.{never}
use Rattle.event_search.proofs.JudgedRecords.{names, named_raises}
use Rattle.event_search.proofs.Raising.{kept, keeps, led}
use Rattle.event_search.proofs.verdicts.is_record.Goals as goal

pub returns-then-not-names_rows-clause-is : goal.returns-then-not-names_rows-clause-is
returns-then-not-names_rows-clause-is c = (λ h. absurd (never false refl h), λ r. absurd (never c.names_rows.result c.if-not-names_rows.true (c.names_rows.ensures.1 (r.0.0, named_raises c.args.model.now c.args.entry.now r.0))))

pub returns-clause-is : goal.returns-clause-is
returns-clause-is c =
    let m = c.args.model.now in
    let e = c.args.entry.now in
    let h = c.names_rows.ensures.0 c.if-not-names_rows.false in
    let o : Option (Multipliers Row) = raised_all same_row (Some (begun_there m c.args.ended.now c.args.way.now e)) (map raise_of e.raises) in
    let f = c.follow.ensures.follows (standing m c.args.ended.now c.args.way.now).multipliers c.stand_at.ensures in
    (λ k. (names m e h.0 h.1, kept m o c.follow.new.self c.follow.result f k), λ r. keeps m o c.follow.new.self c.follow.result f r.1)

pub returns-clause-tallies : goal.returns-clause-tallies
returns-clause-tallies c = λ k ns leads.
    let m = c.args.model.now in
    let e = c.args.entry.now in
    let o : Option (Multipliers Row) = raised_all same_row (Some (begun_there m c.args.ended.now c.args.way.now e)) (map raise_of e.raises) in
    led m o c.follow.new.self c.follow.result ns (c.follow.ensures.follows (standing m c.args.ended.now c.args.way.now).multipliers c.stand_at.ensures) leads
