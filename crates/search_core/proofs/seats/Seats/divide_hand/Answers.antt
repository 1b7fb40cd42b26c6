use Rattle.std.proofs.Common.{◌≡◌, ◌-◌, ◌<◌, List, map, length, arith}
use Rattle.search_core.specs.Machine.{StateOver}
use Rattle.search_core.specs.declared.node_keys.NodeKey.{NodeKey}
use Rattle.search_core.specs.Rooms.{Roomy, worker_of}
use Rattle.search_core.proofs.Workers.{divides_by, in_seats, room_kept}
use Rattle.search_core.proofs.seats.Seats.divide_hand.Goals as goal

pub returns-clause-done : goal.returns-clause-done
returns-clause-done g c =
    let c0 : StateOver NodeKey _ = c.args.self.now.state in
    let xs : List Roomy = c.self.inside.seats.items in
    let e : c0.workers ≡ map worker_of xs = grind arith in
    let lt : c.args.worker < length xs = in_seats c0 xs c.args.worker e c.requires.hand.0 in
    divides_by c0 xs e c.args.worker lt c.index_mut.result.now c.divide.new.self (grind arith) _ c.args.done.node c.args.done _ _ c.requires.hand.1 c.divide.ensures.worker (grind arith) (grind arith) (grind arith)

pub invariant_of-self : goal.invariant_of-self
invariant_of-self g c =
    let c0 : StateOver NodeKey _ = c.args.self.now.state in
    let xs : List Roomy = c.self.inside.seats.items in
    let e : c0.workers ≡ map worker_of xs = grind arith in
    let lt : c.args.worker < length xs = in_seats c0 xs c.args.worker e c.requires.hand.0 in
    let some : 0 < c.self.inside.spare = grind arith in
    record {
      deques = room_kept xs c.args.worker (c.self.inside.spare - 1) c.self.inside.spare c.index_mut.result.now c.divide.new.self (grind arith) lt (omega (arith, some)) (grind arith) c.self.invariant.deques;
      left_list = grind arith;
      ended_list = grind arith;
      within = c.self.invariant.within;
      past = c.self.invariant.past;
    }
