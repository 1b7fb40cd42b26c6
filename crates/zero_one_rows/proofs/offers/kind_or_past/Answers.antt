use Rattle.std.proofs.Common.{◌<◌, ◌≤◌, ◌==◌, ◌∙◌, ℕ, ap, sym, arith, length}
use Rattle.zero_one_rows.proofs.Offered.{no_kind_past, kind_of_number}
use Rattle.zero_one_rows.proofs.offers.kind_or_past.Goals as goal

pub returns-then-c-len : goal.returns-then-c-len
returns-then-c-len c g l =
    let past : length c.args.cargo.now.containers ≤ c.args.c = omega (arith, c.if-c-len.true, c.len.ensures, c.c.view_is) in
    ap (λ (z : ℕ). z == g) (no_kind_past c.args.ship.now.weight_step c.args.cargo.now c.args.c c.obeys_rules.ensures past ∙ (sym (ap length c.requires.list) ∙ sym c.len-then-c-len.ensures))

pub returns : goal.returns
returns c g l =
    let low : c.args.c < length c.args.cargo.now.containers = omega (arith, c.if-c-len.false, c.len.ensures, c.c.view_is) in
    ap (λ (z : ℕ). z == g) (kind_of_number c.args.ship.now.weight_step c.args.cargo.now.containers c.args.kinds.now.each c.args.c _ c.requires.each low c.of.ensures.number ∙ sym c.result.view_is)
