-- What holds at each place of two lists.
use Rattle.std.proofs.Common.{◌≡◌, ℕ, zero, suc, ◌<◌, List, [], ◌∷◌, length, map, slice_index_or, subst, arith}
use Rattle.zero_one_rows.specs.Variables.{Voyage}
use Rattle.shared_search.specs.Tokens.{BoardToken}
use Rattle.certificate.specs.declared.nodes.Node.{Node}
use Rattle.shared_search.specs.declared.racks.Rack.{Rack}
use Rattle.shared_search.specs.Bags.{Each}
use Rattle.parallel_search.specs.declared.slots.WorkerEnd.{WorkerEnd}
use Rattle.parallel_search.specs.declared.slots.WorkerStart.{WorkerStart}
use Rattle.parallel_search.specs.declared.slots.WorkerSlot.{WorkerSlot}
use Rattle.parallel_search.specs.declared.slots.WorkerSlot.TheVariants.{Given, Done}
use Rattle.parallel_search.specs.Ends.{IsReturned, Brings}

module _ {M S : Type 0} (meets : Node → Type 0) (r : Rack M) (b : BoardToken) (m : Voyage) where
  abbrev given : List (WorkerStart M S) → List (WorkerSlot M S)
  given ps = map (λ worker_start. Given worker_start) ps

  abbrev done : List (WorkerEnd M) → List (WorkerSlot M S)
  done ks = map (λ worker_end. Done worker_end) ks

  abbrev BringsAt : List (WorkerSlot M S) → List (WorkerSlot M S) → Type 0
  BringsAt xs ys = (i : ℕ) (d : WorkerSlot M S) → i < length xs → Brings meets r b m (slice_index_or xs i d) (slice_index_or ys i d)

  each_done : (ps : List (WorkerStart M S)) (ks : List (WorkerEnd M)) → length (done ks) ≡ length (given ps) → BringsAt (given ps) (done ks) → Each (IsReturned meets r b m) ps ks
  each_done [] [] l f = tt
  each_done [] (k ∷ ks) l f = absurd (omega (arith, l))
  each_done (p ∷ ps) [] l f = absurd (omega (arith, l))
  each_done (p ∷ ps) (k ∷ ks) l f = (f zero (Given p) (omega arith), each_done ps ks (omega (arith, l)) (λ i d lt. f (suc i) d (omega (arith, lt))))

  -- where all workers brought something back
  pub all_done : (ps : List (WorkerStart M S)) (ks : List (WorkerEnd M)) (xs ys : List (WorkerSlot M S)) → xs ≡ map (λ worker_start. Given worker_start) ps → ys ≡ map (λ worker_end. Done worker_end) ks → length ys ≡ length xs → BringsAt xs ys → Each (IsReturned meets r b m) ps ks
  all_done ps ks xs ys given_is done_is l f =
      each_done ps ks (subst (λ (zs : List (WorkerSlot M S)). length zs ≡ length (given ps)) done_is (subst (λ (zs : List (WorkerSlot M S)). length ys ≡ length zs) given_is l))
      (subst (λ (zs : List (WorkerSlot M S)). BringsAt (given ps) zs) done_is (subst (λ (zs : List (WorkerSlot M S)). BringsAt zs ys) given_is f))
