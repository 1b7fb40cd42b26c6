use Rattle.std.proofs.Common.{◌≡◌, subst, refl, List, map, None, Ok}
use Rattle.std.proofs.lemmas.Result.{err_from_is_err_and}
use Rattle.zero_one_rows.specs.declared.program.Row.{Row}
use Rattle.zero_one_rows.specs.declared.program.Raise.{Raise}
use Rattle.zero_one_rows.specs.Rows.{whole}
use Rattle.proof_trees.specs.Boxes.{tightened}
use Rattle.proof_trees.specs.Trees.{Pending, begun}
use Rattle.certificate.specs.Entries.{raise_of, entry_of}
use Rattle.bound_checker.specs.Faults.{step_fault, raised_rows}
use Rattle.bound_checker.specs.Prices.{Holds, Ends}
use Rattle.bound_checker.specs.Walks.{Tightens, Stands}
use Rattle.bound_checker.proofs.Waiting.{moves_none}
use Rattle.bound_checker.proofs.Walks.{tightened_stands, opened, not_begun}
use Rattle.bound_checker.proofs.walk.Walk.open.Goals as goal

pub tighten-requires-clause-priced : goal.tighten-requires-clause-priced
tighten-requires-clause-priced c =
    let s = c.requires.stands in
    let h = c.forget.ensures c.args.model.now s.0 s.1 s.2 in
    record { same = h.priced; carries = (s.0.multipliers, h.carries) }

pub begin-requires : goal.begin-requires
begin-requires c =
    let s = c.requires.stands in
    let h = c.forget.ensures c.args.model.now s.0 s.1 s.2 in
    record { stands = (_, s.1, tightened_stands c.args.model.now c.forget.new.self c.forget.new.self.frames.items s.0 s.1 c.tighten.new.self c.as_slice-steps.result.now h refl c.in_ok-tighten.ensures.tightened) }

pub raise_all-requires : goal.raise_all-requires
raise_all-requires c =
    let s = c.requires.stands in
    let h = c.forget.ensures c.args.model.now s.0 s.1 s.2 in
    let t = tightened_stands c.args.model.now c.forget.new.self c.forget.new.self.frames.items s.0 s.1 c.tighten.new.self c.as_slice-steps.result.now h refl c.in_ok-tighten.ensures.tightened in
    record { carries = (_, (c.in_ok-begin.ensures _ s.1 t).carries) }

pub returns-in_err-begin : goal.returns-in_err-begin
returns-in_err-begin c = λ q qs stands. let p = err_from_is_err_and c.from_residual-in_err-begin.result c.from_residual-in_err-begin.ensures.1 in not_begun c.args.model.now c.args.node c.forget.new.self q qs (entry_of c.args.model.now c.args.entry.now) _ _ p.0 p.1 p.2

pub returns : goal.returns
returns c = λ q qs stands'.
    let m = c.args.model.now in
    let stands = c.forget.ensures m q qs stands' in
    let e = entry_of m c.args.entry.now in
    let h = c.in_ok-tighten.ensures in
    let tightens = subst (λ (rs : List Row). Tightens m c.forget.new.self rs c.tighten.new.self) c.as_slice-steps.ensures h.tightened in
    let start : Pending Row = record { box = tightened (whole m) q.box e.steps; multipliers = begun e.from_zero q.multipliers } in
    let b : Stands m c.begin.new.self start qs = c.in_ok-begin.ensures _ qs (tightened_stands m c.forget.new.self c.forget.new.self.frames.items q qs c.tighten.new.self e.steps stands refl tightens) in
    opened m c.args.node q qs e c.begin.new.self _ c.raise_all.result
    (subst (λ (rs : List Row). step_fault (whole m) c.args.node rs ≡ None) c.as_slice-steps.ensures h.faultless)
    b refl refl b.priced refl refl
    (subst (λ (rs : List Raise). Ends (λ ns. Holds m c.begin.new.self.b start.multipliers c.begin.new.self.prices.changes.items ns c.raise_all.new.self) (raised_rows (whole m) c.args.node (Ok start.multipliers) (map raise_of rs)) c.raise_all.result) c.as_slice-raises.ensures
    (c.raise_all.ensures start.multipliers start.multipliers c.begin.new.self.prices.changes.items (record { carries = b.carries; moves = moves_none m start.multipliers c.begin.new.self.prices.changes.items })))
