use Rattle.std.proofs.Common.{◌≡◌, ◌+◌, ◌<◌, false, List, [], ◌∷◌, ◌++◌, map, length, slice_index_or, Some, arith, sym, ap, ◌∙◌}
use Rattle.search_core.specs.Machine.{Worker, StateOver, worker}
use Rattle.search_core.specs.declared.node_keys.NodeKey.{NodeKey}
use Rattle.search_core.specs.Rooms.{Roomy, worker_of}
use Rattle.search_core.proofs.Workers.{draws_within, draws_past, holds_it, length_more}
use Rattle.search_core.proofs.seats.Seats.draw.Goals as goal

pub returns-then-self-clause-done : goal.returns-then-self-clause-done
returns-then-self-clause-done g c =
    let c0 : StateOver NodeKey _ = c.args.self.now.state in
    let xs : List Roomy = c.self.inside.seats.items in
    let e : c0.workers ≡ map worker_of xs = grind arith in
    let lt : c.args.worker < length xs = grind arith in
    let at : c.index.result.now ≡ slice_index_or xs c.args.worker c.index.result.now = grind arith in
    let at2 : c.index-2.result.now ≡ slice_index_or xs c.args.worker c.index-2.result.now = grind arith in
    let hand : (worker c0 c.args.worker).hand ≡ Some c.in-Some.node = ap (λ (w : Worker NodeKey). w.hand) (holds_it c0 xs e c.args.worker lt c.index.result.now at) ∙ (sym c.hand.ensures.hand ∙ c.in-Some.is) in
    let ticket : (worker c0 c.args.worker).ticket ≡ false = ap (λ (w : Worker NodeKey). w.ticket) (holds_it c0 xs e c.args.worker lt c.index-2.result.now at2) ∙ (sym c.has_ticket.ensures ∙ c.if-has_ticket.false) in
    let none : c.self.inside.left.items ≡ [] = c.self.invariant.past c.if-self.true in
    let drawn : c0.drawn ≡ c.self.inside.drawn = grind (arith, none) in
    draws_within c0 xs e c.args.worker lt c.index_mut.result.now c.ticket.new.self (grind arith) _ c.in-Some.node hand ticket (grind (arith, drawn)) c.ticket.ensures.worker
    (grind arith)

pub returns-else-self-clause-done : goal.returns-else-self-clause-done
returns-else-self-clause-done g c =
    let c0 : StateOver NodeKey _ = c.args.self.now.state in
    let xs : List Roomy = c.self.inside.seats.items in
    let e : c0.workers ≡ map worker_of xs = grind arith in
    let lt : c.args.worker < length xs = grind arith in
    let at : c.index.result.now ≡ slice_index_or xs c.args.worker c.index.result.now = grind arith in
    let at2 : c.index-2.result.now ≡ slice_index_or xs c.args.worker c.index-2.result.now = grind arith in
    let hand : (worker c0 c.args.worker).hand ≡ Some c.in-Some.node = ap (λ (w : Worker NodeKey). w.hand) (holds_it c0 xs e c.args.worker lt c.index.result.now at) ∙ (sym c.hand.ensures.hand ∙ c.in-Some.is) in
    let ticket : (worker c0 c.args.worker).ticket ≡ false = ap (λ (w : Worker NodeKey). w.ticket) (holds_it c0 xs e c.args.worker lt c.index-2.result.now at2) ∙ (sym c.has_ticket.ensures ∙ c.if-has_ticket.false) in
    let left : c.push_reserved.new.self.items ≡ c0.left ++ c.in-Some.node ∷ [] = grind arith in
    let more : length c.push_reserved.new.self.items ≡ length c.self.inside.left.items + 1 = ap (λ (ks : List NodeKey). length ks) c.push_reserved.ensures.items ∙ length_more c.self.inside.left.items c.in-Some.node in
    let drawn : c.self.inside.drawn + length c.push_reserved.new.self.items ≡ c0.drawn + 1 = grind (arith, more) in
    draws_past c0 xs e c.args.worker lt c.index_mut-else-self.result.now c.leave.new.self (grind arith) _ c.in-Some.node hand ticket (grind arith) c.leave.ensures.worker
    (grind (arith, left, drawn))
