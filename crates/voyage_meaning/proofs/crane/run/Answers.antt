use Rattle.std.proofs.Common.{ap, sym, ◌∙◌, Some, arith, ℕ, subst}
use Rattle.std.proofs.lemmas.Option.{slice_get-get_or}
use Rattle.voyage_meaning.specs.Moves.{State, Allowed, after, cost_of_move}
use Rattle.voyage_meaning.specs.Berths.{Berth}
use Rattle.voyage_meaning.proofs.RunsHold.{run_more}
use Rattle.voyage_meaning.proofs.crane.run.Goals as goal

pub loop-i-preserved : goal.loop-i-preserved
loop-i-preserved c =
    let m = c.index-moves-i.result in
    let is = slice_get-get_or c.args.moves.now c.loop-i.i m (omega arith) ∙ ap Some (sym c.index-moves-i.is) in
    let inv = c.loop-i.invariant in
    let did = c.in-Some.ensures.does in
    record {
      runs = run_more c.args.ship.now c.args.cargo.now c.args.berth.now.call c.args.berth.now.state c.args.moves.now c.loop-i.i c.loop-i.berth.state c.try_move.new.berth.state c.loop-i.cost c.in-Some.more m inv.runs is did.0
          (ap (λ (b : Berth). b.state) did.1 ∙ ap (λ (k : ℕ). after c.args.cargo.now k c.loop-i.berth.state m) inv.same_call)
          (did.2 ∙ ap (λ (k : ℕ). cost_of_move c.args.cargo.now k c.loop-i.berth.state m) inv.same_call) did.3;
      same_call = ap (λ (b : Berth). b.call) did.1 ∙ inv.same_call;
    }

pub returns-in-None-clause-does : goal.returns-in-None-clause-does
returns-in-None-clause-does c =
    let m = c.index-moves-i.result in
    let is = slice_get-get_or c.args.moves.now c.loop-i.i m (omega arith) ∙ ap Some (sym c.index-moves-i.is) in
    let r = c.loop-i.invariant.runs in
    let same = ap (λ (b : Berth). b.state) c.in-None.ensures.does.1 in
    record {
      allowed = r.allowed;
      leads = same ∙ r.leads;
      move = m;
      is_move = is;
      refused = λ can. c.in-None.ensures.does.0 (subst (λ (t : State). Allowed c.args.ship.now c.args.cargo.now t m) same can);
    }
