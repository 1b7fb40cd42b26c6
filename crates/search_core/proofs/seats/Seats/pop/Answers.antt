use Rattle.std.proofs.Common.{◌≡◌, ◌<◌, List, [], map, length, slice_index_or, None, arith, ap, ◌∙◌}
use Rattle.search_core.specs.Machine.{Worker, StateOver, worker}
use Rattle.search_core.specs.declared.node_keys.NodeKey.{NodeKey}
use Rattle.search_core.specs.Rooms.{Roomy, worker_of}
use Rattle.search_core.proofs.Workers.{pops_by, holds_it}
use Rattle.search_core.proofs.seats.Seats.pop.Goals as goal

pub returns-clause-done : goal.returns-clause-done
returns-clause-done g c =
    let c0 : StateOver NodeKey _ = c.args.self.now.state in
    let xs : List Roomy = c.self.inside.seats.items in
    let e : c0.workers ≡ map worker_of xs = grind arith in
    let lt : c.args.worker < length xs = grind arith in
    let at : c.index.result.now ≡ slice_index_or xs c.args.worker c.index.result.now = grind arith in
    let free : (c.index.result.now.worker.hand ≡ None) × (c.index.result.now.worker.made ≡ []) = c.may_take.ensures.0 (grind arith) in
    let mine : worker c0 c.args.worker ≡ c.index.result.now.worker = holds_it c0 xs e c.args.worker lt c.index.result.now at in
    pops_by c0 xs e c.args.worker lt _ c.index_mut.result.now c.pop.new.self (grind arith)
    (ap (λ (w : Worker NodeKey). w.hand) mine ∙ free.0, ap (λ (w : Worker NodeKey). w.made) mine ∙ free.1) c.pop.ensures.worker (grind arith)
