use Rattle.std.proofs.Common.{◌≡◌, All, map, subst, sym, ◌∙◌}
use Rattle.std.proofs.lemmas.List.{take_at}
use Rattle.std.proofs.lemmas.List.Elements.{All-map}
use Rattle.steal_pool.proofs.Steps.{if_ok}
use Rattle.parallel_search.specs.declared.slots.WorkerSlot.TheVariants.{Given, Done}
use Rattle.parallel_search.specs.Ends.{IsGiven}
use Rattle.parallel_search.proofs.Pairs.{all_done}
use Rattle.parallel_search.proofs.threading.serve_all.Goals as goal

pub run_workers-requires-after_bounds : goal.run_workers-requires-after_bounds
run_workers-requires-after_bounds g c κs within =
    let meets = g.M.Wanted.meets in
    let there = IsGiven meets c.args.shared.now.rack c.args.shared.now.board c.args.shared.now.spare in
    subst (All there) (sym (c.as_mut_slice.ensures.value ∙ c.in_ok-slots.ensures)) (All-map there (λ p. Given p) c.args.worker_starts.items c.requires)

pub returns : goal.returns
returns g c =
    if_ok c.all_worker_ends.result _ _
    (λ worker_ends is. let done : c.run_workers.new.slots ≡ map (λ worker_end. Done worker_end) worker_ends.items = sym (take_at _ _ _ (c.run_workers.ensures.length ∙ c.as_mut_slice.ensures.len)) ∙ is in
    all_done g.M.Wanted.meets c.args.shared.now.rack c.args.shared.now.board c.args.shared.now.spare c.args.worker_starts.items worker_ends.items c.as_mut_slice.result.now c.run_workers.new.slots
    (c.as_mut_slice.ensures.value ∙ c.in_ok-slots.ensures) done c.run_workers.ensures.length c.run_workers.ensures.each) c.all_worker_ends.ensures
