use Rattle.std.proofs.Common.{arith, ◌≡◌, ◌+◌, ◌∙◌, sym, ap, subst, take, drop, map, Ok, Err, Result, List}
use Rattle.std.proofs.lemmas.Result.{err_from_is_err_and}
use Rattle.zero_one_rows.specs.declared.program.Row.{Row}
use Rattle.zero_one_rows.specs.declared.program.Raise.{Raise}
use Rattle.zero_one_rows.specs.Rows.{whole}
use Rattle.proof_trees.specs.Multipliers.{Multipliers}
use Rattle.certificate.specs.declared.refusals.BoundNo.{BoundNo}
use Rattle.certificate.specs.Entries.{raise_of}
use Rattle.bound_checker.specs.Faults.{raised_rows}
use Rattle.bound_checker.specs.Prices.{Holds, Ends, Held}
use Rattle.bound_checker.proofs.Waiting.{moves_none}
use Rattle.bound_checker.proofs.InOrder.{raised_more, raised_rest, held_more, held_ends, fails_more, one_held, take_over}
use Rattle.bound_checker.proofs.prices.Prices.raise_all.Goals as goal

pub loop-raise-init : goal.loop-raise-init
loop-raise-init c = λ first ms k holds. holds

pub raise_kept-requires : goal.raise_kept-requires
raise_kept-requires c =
    let start : Holds c.args.model.now c.args.b.now c.requires.carries.0 c.args.self.now.changes.items c.requires.carries.0 c.args.self.now = record { carries = c.requires.carries.1; moves = moves_none c.args.model.now c.requires.carries.0 c.args.self.now.changes.items } in
    let H : Multipliers Row → Type 0 = λ ns. Holds c.args.model.now c.args.b.now c.requires.carries.0 c.args.self.now.changes.items ns c.loop-raise.self in
    let one = one_held c.args.model.now c.args.node H _ (c.loop-raise.invariant c.requires.carries.0 c.requires.carries.0 c.args.self.now.changes.items start) in
    record { carries = (one.0, one.1.carries) }

pub returns-in_err-raise_kept : goal.returns-in_err-raise_kept
returns-in_err-raise_kept c = λ first ms k holds.
    let p = err_from_is_err_and c.from_residual.result c.from_residual.ensures.1 in
    let g : c.from_residual.result ≡ Err c.in_err-raise_kept.field-0.0 = p.1 ∙ ap (λ (f : BoundNo). Err f) p.2 in
    let H : Multipliers Row → Type 0 = λ ns. Holds c.args.model.now c.args.b.now first k ns c.loop-raise.self in
    let K : Multipliers Row → Type 0 = λ ns. Holds c.args.model.now c.args.b.now first k ns c.raise_kept.new.self in
    let ends : Ends K (raised_rows (whole c.args.model.now) c.args.node (Ok ms) (map raise_of c.args.raises.now)) (Err c.in_err-raise_kept.field-0.0) =
    subst (λ (o : Result (Multipliers Row) BoundNo). Ends K o (Err c.in_err-raise_kept.field-0.0)) (sym (raised_rest (whole c.args.model.now) c.args.node (Ok ms) c.args.raises.now c.loop-raise.raise-index c.raise-item.result c.loop-raise-test.true c.raise-item.is))
    (fails_more c.args.model.now c.args.node H K _ c.raise-item.result c.in_err-raise_kept.field-0.0 (map raise_of (drop (c.loop-raise.raise-index + 1) c.args.raises.now)) (c.loop-raise.invariant first ms k holds) (λ ns held. c.in_err-raise_kept.ensures first ns k held)) in
    subst (λ (r : Result (Unit {0}) BoundNo). Ends K (raised_rows (whole c.args.model.now) c.args.node (Ok ms) (map raise_of c.args.raises.now)) r) (sym g) ends

pub loop-raise-preserved : goal.loop-raise-preserved
loop-raise-preserved c = λ first ms k holds.
    let H : Multipliers Row → Type 0 = λ ns. Holds c.args.model.now c.args.b.now first k ns c.loop-raise.self in
    let K : Multipliers Row → Type 0 = λ ns. Holds c.args.model.now c.args.b.now first k ns c.raise_kept.new.self in
    subst (λ (o : Result (Multipliers Row) BoundNo). Held K o) (sym (raised_more (whole c.args.model.now) c.args.node (Ok ms) c.args.raises.now c.loop-raise.raise-index c.raise-item.result c.loop-raise-test.true c.raise-item.is))
    (held_more c.args.model.now c.args.node H K _ c.raise-item.result (c.loop-raise.invariant first ms k holds) (λ ns held. c.in_ok-raise_kept.ensures first ns k held))

pub returns : goal.returns
returns c = λ first ms k holds.
    let all : take c.loop-raise.raise-index c.args.raises.now ≡ c.args.raises.now = take_over c.args.raises.now c.loop-raise.raise-index (omega arith) in
    let K : Multipliers Row → Type 0 = λ ns. Holds c.args.model.now c.args.b.now first k ns c.loop-raise.self in
    subst (λ (rs : List Raise). Ends K (raised_rows (whole c.args.model.now) c.args.node (Ok ms) (map raise_of rs)) (Ok tt)) all (held_ends c.args.model.now c.args.node K _ (c.loop-raise.invariant first ms k holds))
