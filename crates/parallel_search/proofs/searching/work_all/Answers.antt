use Rattle.std.proofs.Common.{◌≡◌, ◌≤◌, List, length, map, ap, sym, subst, ◌∙◌, arith}
use Rattle.search_core.specs.Bags.{Every}
use Rattle.shared_search.specs.declared.racks.Pass.{Pass}
use Rattle.shared_search.specs.Racks.{IsPassAt, number_of, room_at}
use Rattle.steal_pool.proofs.Steps.{if_ok, on_ok}
use Rattle.parallel_search.proofs.Ends.{passes_many, starts_many, all_joined, all_returned, all_seated, all_passes, all_numbers, all_own, each_length}
use Rattle.parallel_search.proofs.searching.work_all.Goals as goal

pub begin_all-requires-clause-room : goal.begin_all-requires-clause-room
begin_all-requires-clause-room g c = omega (arith, c.requires.none, passes_many c.args.shared.now.rack c.args.passes.items c.requires.all, c.requires.few)

pub begin_all-requires-clause-enough : goal.begin_all-requires-clause-enough
begin_all-requires-clause-enough g c = omega (arith, c.requires.enough, passes_many c.args.shared.now.rack c.args.passes.items c.requires.all)

pub take_in_all-requires-clause-seats : goal.take_in_all-requires-clause-seats
take_in_all-requires-clause-seats g c = all_seated g.M.Wanted.meets c.args.shared.now.rack c.args.shared.now.board c.args.shared.now.spare c.in_ok-worker_starts.worker_starts.items c.in_ok-worker_ends.worker_ends.items c.in_ok-worker_ends.ensures

pub returns-clause-owner : goal.returns-clause-owner
returns-clause-owner g c =
    let many : length c.args.passes.items ≡ length c.args.shared.now.rack.thieves.items = passes_many c.args.shared.now.rack c.args.passes.items c.requires.all in
    let first : c.begin_all.new.owner.view.made ≡ length c.args.passes.items = omega (arith, c.requires.none, c.in_ok-worker_starts.ensures.made) in
    let same : length c.in_ok-worker_ends.worker_ends.items ≡ length c.args.passes.items
    = each_length g.M.Wanted.meets c.args.shared.now.rack c.args.shared.now.board c.args.shared.now.spare c.in_ok-worker_starts.worker_starts.items c.in_ok-worker_ends.worker_ends.items c.in_ok-worker_ends.ensures ∙ starts_many c.in_ok-worker_starts.worker_starts.items c.args.passes.items c.in_ok-worker_starts.ensures.numbers in
    let few : length c.args.passes.items ≤ 16 = omega (arith, many, c.requires.few) in
    on_ok c.take_in_all.result (λ taken. all_joined g.M.Wanted.meets c.args.shared.now.board c.args.shared.now.spare c.begin_all.new.owner c.take_in_all.new.owner (length c.args.passes.items) (length c.in_ok-worker_ends.worker_ends.items) c.in_ok-worker_starts.ensures.maker c.take_in_all.ensures.owner
    c.take_in_all.ensures.made taken first same few) c.take_in_all.ensures.taken

pub returns-clause-passes : goal.returns-clause-passes
returns-clause-passes g c = if_ok c.take_in_all.result _ _
    (λ ended is. subst (Every (IsPassAt c.args.shared.now.rack)) (sym is) (all_passes g.M.Wanted.meets c.args.shared.now.rack c.args.shared.now.board c.args.shared.now.spare c.in_ok-worker_starts.worker_starts.items c.in_ok-worker_ends.worker_ends.items c.in_ok-worker_ends.ensures)) c.take_in_all.ensures.passes

pub returns-clause-all : goal.returns-clause-all
returns-clause-all g c = if_ok c.take_in_all.result _ _
    (λ ended is. ap (λ (l : List (Pass g.row.M.Denot)). map number_of l) is
    ∙ (all_numbers g.M.Wanted.meets c.args.shared.now.rack c.args.shared.now.board c.args.shared.now.spare c.in_ok-worker_starts.worker_starts.items c.in_ok-worker_ends.worker_ends.items c.in_ok-worker_ends.ensures ∙ (c.in_ok-worker_starts.ensures.numbers ∙ c.requires.all))) c.take_in_all.ensures.passes

pub returns-clause-end : goal.returns-clause-end
returns-clause-end g c = if_ok c.take_in_all.result _ _
    (λ ended end. end c.args.shared.now.spare (all_returned g.M.Wanted.meets c.args.shared.now.rack c.args.shared.now.board c.args.shared.now.spare c.in_ok-worker_starts.worker_starts.items c.in_ok-worker_ends.worker_ends.items c.in_ok-worker_ends.ensures)) c.take_in_all.ensures.end

pub returns-clause-own : goal.returns-clause-own
returns-clause-own g c = if_ok c.take_in_all.result _ _
    (λ ended own. own (room_at c.args.shared.now.rack) (all_own g.M.Wanted.meets c.args.shared.now.rack c.args.shared.now.board c.args.shared.now.spare c.in_ok-worker_starts.worker_starts.items c.in_ok-worker_ends.worker_ends.items c.in_ok-worker_ends.ensures)) c.take_in_all.ensures.own
