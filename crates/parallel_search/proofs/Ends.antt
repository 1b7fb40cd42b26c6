-- What all workers brought back, and what was found.
use Rattle.std.proofs.Common.{◌≡◌, ◌⊎◌, inl, inr, ℕ, zero, suc, ◌+◌, ◌<◌, ◌≤◌, min, List, [], ◌∷◌, ◌++◌, length, map, All, None, refl, sym, subst, ap, ◌∙◌, arith}
use Rattle.std.proofs.lemmas.Bool.Decides.{nat_tests}
use Rattle.std.proofs.lemmas.List.{map-append}
use Rattle.zero_one_rows.specs.Variables.{Voyage}
use Rattle.certificate.specs.declared.nodes.Node.{Node}
use Rattle.search_core.specs.Bags.{weigh, Every}
use Rattle.search_core.specs.Machine.{root_node}
use Rattle.search_core.specs.Outcomes.{path_of}
use Rattle.search_core.proofs.Weights.{weigh_append, weigh_map, every_append, every_more}
use Rattle.shared_search.specs.declared.view.View.{View}
use Rattle.shared_search.specs.Rule.{none_yet, fresh, seen_at, after_split, new_seat, joined}
use Rattle.shared_search.specs.Tokens.{BoardToken, SeatToken}
use Rattle.shared_search.specs.declared.racks.Rack.{Rack}
use Rattle.shared_search.specs.declared.racks.Pass.{Pass}
use Rattle.shared_search.specs.declared.tally.Tally.{Tally}
use Rattle.shared_search.specs.Racks.{IsPassAt, IsFresh, AreAll, number_of, room_at, count_from, took_weight, put_weight, all_took, all_put}
use Rattle.shared_search.specs.Bags.{Each}
use Rattle.shared_search.proofs.Dealing.{every_at}
use Rattle.steal_pool.specs.Found.{IsFound}
use Rattle.steal_pool.specs.UnderWay.{AllowedFrom}
use Rattle.steal_pool.proofs.Findings.{IsBest, best_there, same_length}
use Rattle.steal_pool.specs.declared.deeds.Deeds.{Deeds}
use Rattle.steal_pool.specs.declared.job.Job.{Job}
use Rattle.parallel_search.specs.declared.slots.WorkerEnd.{WorkerEnd}
use Rattle.parallel_search.specs.declared.slots.WorkerStart.{WorkerStart}
use Rattle.parallel_search.specs.declared.joining.AllDeeds.{AllDeeds}
use Rattle.parallel_search.specs.declared.joining.Ended.{Ended}
use Rattle.steal_pool.specs.Deeds.{box_of, no_deeds, Weight, on_nodes, IsDone}
use Rattle.steal_pool.specs.Jobs.{seed, IsJob, IsServed, came_to, went_from}
use Rattle.parallel_search.specs.Starts.{seed_at, IsMaker, IsUnused}
use Rattle.parallel_search.specs.Together.{both}
use Rattle.parallel_search.specs.Ends.{BringsOwn, HasPutFew, deeds_of, found_of, pass_of, start_number, came_with, went_with, came_to_all, went_from_all, IsWorkerStart, IsWorkerEnd, IsReturned, IsJoined, IsEnd}
use Rattle.steal_pool.proofs.Weights.{weigh_snoc}
use Rattle.steal_pool.proofs.Handled.{rebalanced, nothing_done, split_off}
use Rattle.steal_pool.proofs.Own.{own_same}
use Rattle.parallel_search.proofs.Tallying.{own_begins}
use Rattle.parallel_search.proofs.Together.{joins}

length_map : {A B : Type 0} (f : A → B) (xs : List A) → length (map f xs) ≡ length xs
length_map f [] = refl
length_map f (x ∷ xs) = omega (arith, length_map f xs)

pub snoc_shift : {A : Type 0} (xs : List A) (x : A) (ys : List A) → (xs ++ x ∷ []) ++ ys ≡ xs ++ x ∷ ys
snoc_shift [] x ys = refl
snoc_shift (z ∷ zs) x ys = ap (λ l. z ∷ l) (snoc_shift zs x ys)

-- ## The root comes to one worker

no_seed : (h : Weight) (k n : ℕ) → 0 < k → weigh (seed h) (count_from k n) ≡ 0
no_seed h k zero some = refl
no_seed h k (suc n) some = let none : seed h k ≡ 0 = grind (arith, nat_tests) in omega (arith, none, no_seed h (k + 1) n (omega arith))

one_seed : (h : Weight) (n : ℕ) → 0 < n → weigh (seed h) (count_from 0 n) ≡ h root_node
one_seed h zero some = absurd (omega (arith, some))
one_seed h (suc n) some = omega (arith, no_seed h 1 n (omega arith))

pub all_of : {A : Type 0} (P : A → Type 0) (xs : List A) → Every P xs → All P xs
all_of P xs h = λ k d lt. every_at P xs h k d lt

module _ (meets : Node → Type 0) (b : BoardToken) (m : Voyage) where
  -- each seat that the owner made was taken in
  pub all_joined : (o w : SeatToken) (n k : ℕ) → IsMaker meets b m o → w.board ≡ o.board → w.view.made ≡ o.view.made → w.view.taken ≡ o.view.taken + k → o.view.made ≡ n → k ≡ n → n ≤ 16 → IsJoined meets b m w
  all_joined o w n k i board made taken first same few =
      record { means = i.means; cargo = i.cargo; low = i.low; top = i.top; board = board ∙ i.board; made = omega (arith, made, taken, first, same, i.taken); room = omega (arith, made, first, few) }

length_count : (k n : ℕ) → length (count_from k n) ≡ n
length_count k zero = refl
length_count k (suc n) = omega (arith, length_count (k + 1) n)

module _ {M : Type 0} where
  pub passes_many : (r : Rack M) (ps : List (Pass M)) → AreAll r ps → length ps ≡ length r.thieves.items
  passes_many r ps all = omega (arith, length_map number_of ps, ap length all, length_count 0 (length r.thieves.items))

  pub starts_many : {S : Type 0} → (ps : List (WorkerStart M S)) (qs : List (Pass M)) → map start_number ps ≡ map number_of qs → length ps ≡ length qs
  starts_many ps qs same = omega (arith, length_map start_number ps, length_map number_of qs, ap length same)

  pub seeds_are : (h : Weight) (r : Rack M) (ps : List (Pass M)) → AreAll r ps → 0 < length r.thieves.items → weigh (λ p. seed h p.number) ps ≡ h root_node
  seeds_are h r ps all some = sym (weigh_map number_of (seed h) ps) ∙ (ap (weigh (seed h)) all ∙ one_seed h (length r.thieves.items) some)

  -- ## What workers are given

  pub numbers_more : {S : Type 0} → (ps qs : List (WorkerStart M S)) (p : WorkerStart M S) (xs rest : List (Pass M)) (x : Pass M) (all : List ℕ) → qs ≡ ps ++ p ∷ [] → xs ≡ x ∷ rest → p.pass.number ≡ x.number → map start_number ps ++ map number_of xs ≡ all
      → map start_number qs ++ map number_of rest ≡ all
  numbers_more {S = S} ps qs p xs rest x all q e n before =
      ap (λ (l : List (WorkerStart M S)). map start_number l ++ map number_of rest) q
      ∙ (ap (λ (l : List ℕ). l ++ map number_of rest) (map-append start_number ps (p ∷ []))
      ∙ (snoc_shift (map start_number ps) p.pass.number (map number_of rest) ∙ (ap (λ (k : ℕ). map start_number ps ++ k ∷ map number_of rest) n ∙ (ap (λ (l : List (Pass M)). map start_number ps ++ map number_of l) (sym e) ∙ before))))

  module _ (meets : Node → Type 0) (r : Rack M) (b : BoardToken) (m : Voyage) where
    pub worker_started : {S : Type 0} → (o : SeatToken) (old : Pass M) (p : WorkerStart M S) (asides : List Node) (found : ℕ) → IsMaker meets b m o → IsFresh old → IsPassAt r p.pass → p.pass.number ≡ old.number → p.seat.board ≡ o.board → p.seat.view ≡ new_seat (seen_at o.view found) → p.solver ≡ m
        → Every meets p.aside.items → asides ≡ [] → ((h : Node → ℕ) → took_weight h p.pass ≡ took_weight h old)
        → ((h : Node → ℕ) → put_weight h p.pass + weigh h p.aside.items ≡ put_weight h old + weigh h asides + seed_at h old.number) → (HasPutFew (room_at r) p.pass → p.aside.items ≡ asides) → IsWorkerStart meets r b m p
    worker_started o old p asides found w fresh pass number board view solver aside none took bag within = record {
      took = λ h. took h ∙ fresh.1 h;
      none_aside = λ few. within few ∙ none;
      means = w.means;
      cargo = w.cargo;
      low = w.low;
      top = w.top;
      solver = solver;
      pass = pass;
      board = board ∙ w.board;
      unused = record { begun = ap (λ (v : View). v.start) view ∙ w.unused.begun; offered = ap (λ (v : View). v.offered) view; tickets = ap (λ (v : View). v.tickets) view; over = ap (λ (v : View). v.over) view };
      aside = aside;
      bag = λ h. let same : seed_at (on_nodes m h) old.number ≡ seed h old.number = refl in omega (
        arith,
        same,
        ap (seed h) number,
        took (on_nodes m h),
        fresh.1 (on_nodes m h),
        ap (weigh (on_nodes m h)) fresh.0,
        ap (weigh (on_nodes m h)) none,
        bag (on_nodes m h),
      );
    }

    -- ## Lists of what came back

    -- a worker with its solver, before its first turn
    pub starts : {S : Type 0} → (p : WorkerStart M S) (j : Job M S) → IsWorkerStart meets r b m p → j.solver ≡ m → j.pass ≡ p.pass → j.seat ≡ p.seat → j.aside ≡ p.aside → j.deeds ≡ no_deeds → IsJob meets r b j.solver 0 [] j
    starts p j w solver pass seat aside deeds = subst (λ (x : Voyage). IsJob meets r b x 0 [] j) (sym solver) (record {
      means = w.means;
      cargo = w.cargo;
      low = w.low;
      top = w.top;
      solver = solver;
      pass = subst (IsPassAt r) (sym pass) w.pass;
      board = ap (λ (s : SeatToken). s.board) seat ∙ w.board;
      aside = subst (Every meets) (ap (λ x. x.items) (sym aside)) w.aside;
      held = tt;
      own = own_same (room_at r) [] p.pass j.pass no_deeds j.deeds p.aside.items j.aside.items pass deeds (ap (λ x. x.items) aside) (own_begins (room_at r) p.pass no_deeds p.aside.items refl w.took w.none_aside);
      done = subst (λ (s : SeatToken). IsDone m b.start s.view 0 j.deeds (came_to m j) (λ h. went_from m j h + weigh (on_nodes m h) [])) (sym seat)
          (subst (λ (d : Deeds). IsDone m b.start p.seat.view 0 d (came_to m j) (λ h. went_from m j h + weigh (on_nodes m h) [])) (sym deeds)
          (nothing_done m b.start p.seat.view (came_to m j) (λ h. went_from m j h + weigh (on_nodes m h) []) w.unused.begun w.unused.offered w.unused.tickets
          (λ h. omega (arith, w.bag h, ap (λ (q : Pass M). seed h q.number) pass, ap (put_weight (on_nodes m h)) pass, ap (took_weight (on_nodes m h)) pass, ap (λ x. weigh (on_nodes m h) x.items) aside))));
    })

    pub all_returned : {S : Type 0} → (ps : List (WorkerStart M S)) (ks : List (WorkerEnd M)) → Each (IsReturned meets r b m) ps ks → Every (IsWorkerEnd meets b m) ks
    all_returned [] [] returned = tt
    all_returned [] (k ∷ ks) returned = absurd returned
    all_returned (p ∷ ps) [] returned = absurd returned
    all_returned (p ∷ ps) (k ∷ ks) returned = (returned.0.worker_end, all_returned ps ks returned.1)

    pub all_seated : {S : Type 0} → (ps : List (WorkerStart M S)) (ks : List (WorkerEnd M)) → Each (IsReturned meets r b m) ps ks → Every (λ k. k.seat.board ≡ b.id) ks
    all_seated [] [] returned = tt
    all_seated [] (k ∷ ks) returned = absurd returned
    all_seated (p ∷ ps) [] returned = absurd returned
    all_seated (p ∷ ps) (k ∷ ks) returned = (returned.0.board, all_seated ps ks returned.1)

    pub all_passes : {S : Type 0} → (ps : List (WorkerStart M S)) (ks : List (WorkerEnd M)) → Each (IsReturned meets r b m) ps ks → Every (IsPassAt r) (map pass_of ks)
    all_passes [] [] returned = tt
    all_passes [] (k ∷ ks) returned = absurd returned
    all_passes (p ∷ ps) [] returned = absurd returned
    all_passes (p ∷ ps) (k ∷ ks) returned = (returned.0.pass, all_passes ps ks returned.1)

    pub all_numbers : {S : Type 0} → (ps : List (WorkerStart M S)) (ks : List (WorkerEnd M)) → Each (IsReturned meets r b m) ps ks → map number_of (map pass_of ks) ≡ map start_number ps
    all_numbers [] [] returned = refl
    all_numbers [] (k ∷ ks) returned = absurd returned
    all_numbers (p ∷ ps) [] returned = absurd returned
    all_numbers (p ∷ ps) (k ∷ ks) returned = ap (λ (n : ℕ). n ∷ map number_of (map pass_of ks)) returned.0.number ∙ ap (λ (l : List ℕ). p.pass.number ∷ l) (all_numbers ps ks returned.1)

    pub all_own : {S : Type 0} → (ps : List (WorkerStart M S)) (ks : List (WorkerEnd M)) → Each (IsReturned meets r b m) ps ks → Every (BringsOwn (room_at r)) ks
    all_own [] [] returned = tt
    all_own [] (k ∷ ks) returned = absurd returned
    all_own (p ∷ ps) [] returned = absurd returned
    all_own (p ∷ ps) (k ∷ ks) returned = (returned.0.own, all_own ps ks returned.1)

    pub each_length : {S : Type 0} → (ps : List (WorkerStart M S)) (ks : List (WorkerEnd M)) → Each (IsReturned meets r b m) ps ks → length ks ≡ length ps
    each_length [] [] returned = refl
    each_length [] (k ∷ ks) returned = absurd returned
    each_length (p ∷ ps) [] returned = absurd returned
    each_length (p ∷ ps) (k ∷ ks) returned = omega (arith, each_length ps ks returned.1)

  module _ (meets : Node → Type 0) (r : Rack M) (b : BoardToken) where
    -- what a worker brings back after its last turn
    pub comes_back : {S : Type 0} → (j k : Job M S) (o : WorkerEnd M) → IsServed meets r b j k → o.pass ≡ k.pass → o.seat ≡ k.seat → o.deeds ≡ k.deeds → o.aside ≡ k.aside → IsWorkerEnd meets b j.solver o × IsPassAt r o.pass × (o.pass.number ≡ j.pass.number) × (o.seat.board ≡ b.id) × BringsOwn (room_at r) o
    comes_back j k o served pass seat deeds aside =
        let m = j.solver in
        let job : IsJob meets r b m 0 [] k = served.job in
        let returned : IsWorkerEnd meets b m o = record {
          aside = subst (Every meets) (ap (λ x. x.items) (sym aside)) job.aside;
          done = subst (λ (s : SeatToken). IsDone m b.start s.view 0 o.deeds (came_with m o.pass) (went_with m o.pass o.aside.items)) (sym seat)
              (subst (λ (d : Deeds). IsDone m b.start k.seat.view 0 d (came_with m o.pass) (went_with m o.pass o.aside.items)) (sym deeds)
              (rebalanced m b.start k.seat.view 0 k.deeds (came_to m k) (λ h. went_from m k h + weigh (on_nodes m h) []) (came_with m o.pass) (went_with m o.pass o.aside.items)
              (λ h. omega (arith, ap (λ (q : Pass M). seed h q.number) pass, ap (put_weight (on_nodes m h)) pass, ap (took_weight (on_nodes m h)) pass, ap (λ x. weigh (on_nodes m h) x.items) aside))
              job.done));
        } in
        (returned, subst (IsPassAt r) (sym pass) job.pass, ap (λ (q : Pass M). q.number) pass ∙ served.number, ap (λ (s : SeatToken). s.board) seat ∙ job.board, own_same (room_at r) [] k.pass o.pass k.deeds o.deeds k.aside.items o.aside.items pass deeds (ap (λ x. x.items) aside) job.own)

  module _ (meets : Node → Type 0) (b : BoardToken) (m : Voyage) where
    -- ## What a worker brought back is taken in

    pub takes_in : (v w : View) (e f : Ended M) (j : WorkerEnd M) → b.start ≤ none_yet → w ≡ joined v j.seat.view → f.passes.items ≡ e.passes.items ++ j.pass ∷ [] → f.aside.items ≡ e.aside.items ++ j.aside.items
        → deeds_of f.all ≡ both (deeds_of e.all) j.deeds → IsEnd meets b m v e → IsWorkerEnd meets b m j → IsEnd meets b m w f
    takes_in v w e f j top view passes aside deeds end job = record {
      aside = subst (Every meets) (sym aside) (every_append meets e.aside.items j.aside.items end.aside job.aside);
      done = subst (λ (x : View). IsDone m b.start x 0 (deeds_of f.all) (came_to_all m f.passes.items) (went_from_all m f)) (sym view)
          (subst (λ (d : Deeds). IsDone m b.start (joined v j.seat.view) 0 d (came_to_all m f.passes.items) (went_from_all m f)) (sym deeds)
          (rebalanced m b.start (joined v j.seat.view) 0 (both (deeds_of e.all) j.deeds) (λ h. came_to_all m e.passes.items h + came_with m j.pass h) (λ h. went_from_all m e h + went_with m j.pass j.aside.items h) (came_to_all m f.passes.items) (went_from_all m f)
          (λ h. omega (
            arith,
            weigh_snoc (λ (p : Pass M). seed h p.number) e.passes.items j.pass f.passes.items passes,
            weigh_snoc (took_weight (on_nodes m h)) e.passes.items j.pass f.passes.items passes,
            weigh_snoc (put_weight (on_nodes m h)) e.passes.items j.pass f.passes.items passes,
            ap (weigh (on_nodes m h)) aside,
            weigh_append (on_nodes m h) e.aside.items j.aside.items,
          ))
          (joins m b.start v j.seat.view (deeds_of e.all) j.deeds (came_to_all m e.passes.items) (went_from_all m e) (came_with m j.pass) (went_with m j.pass j.aside.items) top end.done job.done)));
    }

    -- nothing is brought back yet
    pub none_in : (v : View) (e : Ended M) → IsUnused b.start v → e.passes.items ≡ [] → e.aside.items ≡ [] → deeds_of e.all ≡ record { journal = []; left = []; best = None } → IsEnd meets b m v e
    none_in v e unused passes aside deeds = record {
      aside = subst (Every meets) (sym aside) tt;
      done = subst (λ (d : Deeds). IsDone m b.start v 0 d (came_to_all m e.passes.items) (went_from_all m e)) (sym deeds)
          (nothing_done m b.start v (came_to_all m e.passes.items) (went_from_all m e) unused.begun unused.offered unused.tickets
          (λ h. omega (
            arith,
            ap (weigh (λ (p : Pass M). seed h p.number)) passes,
            ap (all_took (on_nodes m h)) passes,
            ap (all_put (on_nodes m h)) passes,
            ap (weigh (on_nodes m h)) aside,
          )));
    }

    -- ## What the caller finished

    -- with what the closed rack held and what was refused handled or left, nothing but the root came and nothing went
    pub all_done : (v w : View) (e : Ended M) (d : Deeds) (a : AllDeeds) (r : Rack M) (rest todo : List Node) → b.start ≤ none_yet → AreAll r e.passes.items → 0 < length r.thieves.items
        → ((h : Node → ℕ) → all_put h e.passes.items ≡ all_took h e.passes.items + weigh h rest) → todo ≡ rest ++ e.aside.items → deeds_of a ≡ both (deeds_of e.all) d → IsEnd meets b m v e → IsDone m b.start w 0 d (λ h. weigh (on_nodes m h) todo) (λ h. 0)
        → IsDone m b.start (joined v w) 0 (deeds_of a) (λ h. h root_node) (λ h. 0)
    all_done v w e d a r rest todo top all some bag is deeds end done =
        subst (λ (x : Deeds). IsDone m b.start (joined v w) 0 x (λ h. h root_node) (λ h. 0)) (sym deeds)
        (rebalanced m b.start (joined v w) 0 (both (deeds_of e.all) d) (λ h. came_to_all m e.passes.items h + weigh (on_nodes m h) todo) (λ h. went_from_all m e h + 0) (λ h. h root_node) (λ h. 0)
        (λ h. omega (arith, seeds_are h r e.passes.items all some, bag (on_nodes m h), ap (weigh (on_nodes m h)) is, weigh_append (on_nodes m h) rest e.aside.items))
        (joins m b.start v w (deeds_of e.all) d (came_to_all m e.passes.items) (went_from_all m e) (λ h. weigh (on_nodes m h) todo) (λ h. 0) top end.done done))

module _ (m : Voyage) where
  -- where all is done, it is what a search finds
  pub ends_found : (start budget best drawn : ℕ) (v : View) (a : AllDeeds) (tally : Tally) → start ≤ none_yet → IsDone m start v 0 (deeds_of a) (λ h. h root_node) (λ h. 0) → IsBest start best v
      → drawn ≡ length v.tickets → drawn ≤ budget → (0 < v.over → drawn ≡ budget) → IsFound m start budget (found_of best drawn a tally)
  ends_found start budget best drawn v a tally top w b count within over =
      let many : length (deeds_of a).journal ≡ length w.entries = same_length m w.entries (deeds_of a).journal w.worker.journal_of in
      let handled : drawn ≡ length w.entries = omega (arith, many, count, w.worker.counted) in
      let there = best_there m w.entries start best v.offered (box_of a.best) top w.worker.offers b.most (omega (arith, b.most, b.offered, top)) (from_min b) in
      record {
        entries = w.entries;
        nodes = w.nodes;
        journals = w.worker.journal_of;
        left = w.left;
        searched = record {
          nodes = record { ended = w.ended; bag = λ h. omega (arith, w.bag h) };
          allowed = every_more (AllowedFrom m v.seen) (AllowedFrom m best) w.entries (λ e h. (h.0, (omega (arith, h.1, b.seen)), h.2)) w.worker.allowed;
          most = b.most;
          from = there.1;
          within = omega (arith, handled, within);
          used = λ some. let spent : drawn ≡ budget = over (w.spent (omega (arith, some, ap length w.left, length_map path_of w.nodes))) in omega (arith, spent, handled);
        };
        worked = w.worker.worked;
        handled = handled;
        full = there.0;
      }
    where
      from_min : IsBest start best v → (best ≡ start) ⊎ (best ≡ min none_yet v.offered)
      from_min b = elim b.from [ inl e ↦ inl e | inr e ↦ inr (omega (arith, e, b.most, top)) ]

module _ {M : Type 0} (meets : Node → Type 0) (b : BoardToken) (m : Voyage) where
  -- all that was done, once the caller has finished what was left
  pub finished : (o : SeatToken) (found : ℕ) (w last : View) (e : Ended M) (r : Rack M) (rest todo : List Node) (d : Deeds) (a : AllDeeds) → IsJoined meets b m o → AreAll r e.passes.items → 0 < length r.thieves.items → IsEnd meets b m o.view e
      → found ≤ o.view.seen → last ≡ joined (after_split (seen_at o.view found)) w → ((h : Node → ℕ) → all_put h e.passes.items ≡ all_took h e.passes.items + weigh h rest) → todo ≡ rest ++ e.aside.items → IsDone m b.start w 0 d (λ h. weigh (on_nodes m h) todo) (λ h. 0)
      → deeds_of a ≡ both (deeds_of e.all) d → IsDone m b.start last 0 (deeds_of a) (λ h. h root_node) (λ h. 0)
  finished o found w last e r rest todo d a i all some end le joins_it bag is fin deeds =
      let split : View = after_split (seen_at o.view found) in
      let before : IsEnd meets b m split e = record { aside = end.aside; done = split_off m b.start o.view found (deeds_of e.all) (came_to_all m e.passes.items) (went_from_all m e) le end.done } in
      subst (λ (x : View). IsDone m b.start x 0 (deeds_of a) (λ h. h root_node) (λ h. 0)) (sym joins_it) (all_done meets b m split w e d a r rest todo i.top all some bag is deeds before fin)
