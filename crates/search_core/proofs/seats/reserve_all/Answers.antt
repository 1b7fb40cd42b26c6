use Rattle.std.proofs.Common.{◌≡◌, ◌<◌, ◌≤◌, List, length, slice_index_or, arith, ap, ◌∙◌, length-set}
use Rattle.search_core.specs.Rooms.{Roomy, worker_of}
use Rattle.search_core.proofs.Workers.{kept_worker, room_kept, first_set}
use Rattle.search_core.proofs.seats.reserve_all.Goals as goal

pub returns-in_err-reserve-clause-kept : goal.returns-in_err-reserve-clause-kept
returns-in_err-reserve-clause-kept c = λ n all.
    room_kept c.loop-at.seats.items c.loop-at.at n n c.index_mut.result.now c.reserve.new.self (grind arith) (grind arith) (omega arith) c.reserve.ensures.kept (c.loop-at.invariant.3 n all)

pub loop-at-preserved : goal.loop-at-preserved
loop-at-preserved c =
    let xs : List Roomy = c.loop-at.seats.items in
    let at : c.index_mut.result.now ≡ slice_index_or xs c.loop-at.at c.index_mut.result.now = grind arith in
    let lt : c.loop-at.at < length xs = grind arith in
    let room : c.args.nodes ≤ c.reserve.new.self.room = grind arith in (
      kept_worker xs c.loop-at.at c.reserve.new.self c.index_mut.result.now (c.reserve.ensures.worker ∙ ap worker_of at) ∙ c.loop-at.invariant.0,
      length-set xs c.loop-at.at c.reserve.new.self ∙ c.loop-at.invariant.1,
      first_set (λ s. c.args.nodes ≤ s.room) xs c.loop-at.at c.reserve.new.self lt c.loop-at.invariant.2 room,
      λ n all. room_kept xs c.loop-at.at n n c.index_mut.result.now c.reserve.new.self at lt (omega arith) c.reserve.ensures.kept (c.loop-at.invariant.3 n all),
    )

pub returns-in_err-reserve-clause-workers : goal.returns-in_err-reserve-clause-workers
returns-in_err-reserve-clause-workers c =
    let at : c.index_mut.result.now ≡ slice_index_or c.loop-at.seats.items c.loop-at.at c.index_mut.result.now = grind arith in
    kept_worker c.loop-at.seats.items c.loop-at.at c.reserve.new.self c.index_mut.result.now (c.reserve.ensures.worker ∙ ap worker_of at) ∙ c.loop-at.invariant.0
