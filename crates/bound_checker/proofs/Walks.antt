-- A tree in preorder, record by record.
use Rattle.std.proofs.Common.{◌≡◌, ◌≢◌, ℕ, zero, suc, ◌+◌, ◌<◌, ◌≤◌, ◌⊎◌, inl, inr, Bool, true, false, ◌&&◌, ◌==◌, cond, nat_lt, List, [], ◌∷◌, ◌++◌, length, take, drop, map, get_or, Option, Some, None, Result, Ok, Err, All, arith, append-nil, refl, sym, ◌∙◌, ap, subst}
use Rattle.std.specs.Prelude.{IfSome, reverse}
use Rattle.std.specs.Option.{is_none, is_some, option_or}
use Rattle.std.proofs.lemmas.Bool.Decides.{nat_tests}
use Rattle.std.proofs.Math.Seq.{drop-append_seam}
use Rattle.std.proofs.lemmas.List.{reverse-append, length-set}
use Rattle.std.proofs.lemmas.List.Elements.{All-append, All-cons, All-nil, All-take}
use Rattle.zero_one_rows.specs.declared.program.Row.{Row}
use Rattle.zero_one_rows.specs.Variables.{Voyage, variables}
use Rattle.zero_one_rows.specs.Rows.{whole}
use Rattle.proof_trees.specs.Boxes.{Box, at, fixed, tightened}
use Rattle.proof_trees.specs.Multipliers.{Multipliers}
use Rattle.proof_trees.specs.Trees.{End, Leaf, Left, Branch, Entry, Pending, begun, root}
use Rattle.certificate.specs.declared.tree.End.{End as Told}
use Rattle.certificate.specs.declared.tree.End.TheVariants as told
use Rattle.certificate.specs.declared.refusals.BoundNo.{BoundNo}
use Rattle.certificate.specs.declared.refusals.BoundNo.TheVariants.{BranchFixed, TreeEnds, TreeTooLong, NoMemory}
use Rattle.partial_plan.specs.Fixing.{released, Fixes}
use Rattle.partial_plan.proofs.Freeing.{freed_length, fixes_one}
use Rattle.bound_checker.specs.declared.prices.Change.{Change}
use Rattle.bound_checker.specs.declared.walk.Frame.{Frame}
use Rattle.bound_checker.specs.declared.walk.Bounds.{Bounds}
use Rattle.bound_checker.specs.declared.walk.Walk.{Walk}
use Rattle.certificate.specs.declared.tree.Record.{Record}
use Rattle.certificate.specs.Entries.{end_of, entry_of, number_of}
use Rattle.bound_checker.specs.Faults.{step_fault, raised_rows, short_fault, end_fault, tree_fault, first_fault}
use Rattle.bound_checker.proofs.Bounding.{up_to}
use Rattle.dual_bound.specs.Costs.{AreSmall}
use Rattle.bound_checker.specs.declared.sums.Aside.{Aside}
use Rattle.bound_checker.specs.Sums.{Carries, IsAside}
use Rattle.bound_checker.specs.Waits.{back_at, in_hand, Before, IsSound, Moves, Waits, AllWait}
use Rattle.bound_checker.specs.Prices.{Holds, Ends}
use Rattle.bound_checker.specs.Walks.{Goes, Tightens, frame_of, StandsWith, Stands, StandsSome, without, IsAt, IsSomewhere, Narrows, IsBehind, Opens, Closes, Takes}
use Rattle.bound_checker.proofs.Waiting.{still_wait, moves_none, divided}

no_two : (b : Bool) → b ≡ true → b ≡ false → ⊥
no_two true e f = absurd (grind arith)
no_two false e f = absurd (grind arith)

-- ## Records

pub stands_some : (m : Voyage) (w : Walk) → IsSomewhere m w → w.done ≡ false → StandsSome m w
stands_some m w at going = by at.0 at.1
  where
    by : (qs : List (Pending Row)) → IsAt m w qs → StandsSome m w
    by [] h = absurd (no_two w.done h going)
    by (q ∷ qs) h = (q, qs, h)

none_first : {A : Type 0} (o q : Option A) → option_or o q ≡ None → o ≡ None
none_first None q e = refl
none_first (Some x) q e = e

module _ (m : Voyage) (bounds : Bounds) (node : ℕ) where
  pub too_long : (w v : Walk) (qs : List (Pending Row)) (e : Entry Row) → w.done ≡ true → IsAt m w qs → Takes m bounds node qs e (Err TreeTooLong) v
  too_long w v [] e done h = λ other es. refl
  too_long w v (q ∷ qs) e done h = absurd (no_two w.done done h.in_hand)

  pub opens_some : (w v : Walk) (e : Entry Row) → StandsSome m w → ((q : Pending Row) (qs : List (Pending Row)) → Stands m w q qs → Opens m node q qs e (Ok tt) v) → StandsSome m v
  opens_some w v e some opens = let o = opens some.0 some.1 some.2 in (record { box = tightened (whole m) some.0.box e.steps; multipliers = o.1.0 }, some.1, o.1.2)

  abbrev pub end_of_record : ℕ → List (Entry Row) → List (Pending Row) → Box → Result (Multipliers Row) BoundNo → End → Option BoundNo
  end_of_record bound es qs b o end = end_fault (whole m) bound (λ boxes. tree_fault (whole m) bound (node + 1) boxes es) node qs b o end

  pub opened_fault : (bound : ℕ) (q : Pending Row) (qs : List (Pending Row)) (e : Entry Row) (ms : Multipliers Row) (es : List (Entry Row)) → step_fault (whole m) node e.steps ≡ None → raised_rows (whole m) node (Ok (begun e.from_zero q.multipliers)) e.raises ≡ Ok ms
      → tree_fault (whole m) bound node (q ∷ qs) (e ∷ es) ≡ end_of_record bound es qs (tightened (whole m) q.box e.steps) (Ok ms) e.end
  opened_fault bound q qs e ms es none raised =
      ap (λ (o : Option BoundNo). option_or o (end_of_record bound es qs (tightened (whole m) q.box e.steps) (raised_rows (whole m) node (Ok (begun e.from_zero q.multipliers)) e.raises) e.end)) none
      ∙ ap (λ (o : Result (Multipliers Row) BoundNo). end_of_record bound es qs (tightened (whole m) q.box e.steps) o e.end) raised

  -- a record is opened, and its end taken
  pub taken : (w v u : Walk) (qs : List (Pending Row)) (e : Entry Row) (r : Result ℕ BoundNo) → w.done ≡ false → IsAt m w qs
      → ((q : Pending Row) (qs : List (Pending Row)) → Stands m w q qs → Opens m node q qs e (Ok tt) v)
      → ((q : Pending Row) (qs : List (Pending Row)) → Stands m v q qs → Closes m bounds node q qs e.end r u) → Takes m bounds node qs e r u
  taken w v u [] e r going at opens closes = absurd (no_two w.done at going)
  taken w v u (q ∷ qs) e (Ok best) going at opens closes =
      let o = opens q qs at in
      let c = closes (record { box = tightened (whole m) q.box e.steps; multipliers = o.1.0 }) qs o.1.2 in (
        c.0,
        c.1,
        record {
          from = c.2.from;
          to = c.2.to;
          passes = λ bound le es. opened_fault bound q qs e o.1.0 es o.0 o.1.1 ∙ c.2.passes bound le (λ boxes. tree_fault (whole m) bound (node + 1) boxes es);
          fails = λ bound lt le es none. c.2.fails bound lt le (λ boxes. tree_fault (whole m) bound (node + 1) boxes es) (sym (opened_fault bound q qs e o.1.0 es o.0 o.1.1) ∙ none);
        },
        (o.1.0, o.1.1, c.3),
      )
  taken w v u (q ∷ qs) e (Err f) going at opens closes = λ other es.
      let o = opens q qs at in
      let c = closes (record { box = tightened (whole m) q.box e.steps; multipliers = o.1.0 }) qs o.1.2 in
      opened_fault bounds.low q qs e o.1.0 es o.0 o.1.1 ∙ c other (λ boxes. tree_fault (whole m) bounds.low (node + 1) boxes es)

  -- a record whose steps or raises have a fault
  not_opened : (w v : Walk) (qs : List (Pending Row)) (e : Entry Row) (f : BoundNo) → w.done ≡ false → IsAt m w qs
      → ((q : Pending Row) (qs : List (Pending Row)) → Stands m w q qs → Opens m node q qs e (Err f) v) → Takes m bounds node qs e (Err f) v
  not_opened w v [] e f going at opens = absurd (no_two w.done at going)
  not_opened w v (q ∷ qs) e f going at opens = λ other es. by es (opens q qs at other)
    where
      by : (es : List (Entry Row)) → (step_fault (whole m) node e.steps ≡ Some f) ⊎ ((step_fault (whole m) node e.steps ≡ None) × (raised_rows (whole m) node (Ok (begun e.from_zero q.multipliers)) e.raises ≡ Err f))
          → tree_fault (whole m) bounds.low node (q ∷ qs) (e ∷ es) ≡ Some f
      by es (inl step) = ap (λ (o : Option BoundNo). option_or o (end_of_record bounds.low es qs (tightened (whole m) q.box e.steps) (raised_rows (whole m) node (Ok (begun e.from_zero q.multipliers)) e.raises) e.end)) step
      by es (inr h) = ap (λ (o : Option BoundNo). option_or o (end_of_record bounds.low es qs (tightened (whole m) q.box e.steps) (raised_rows (whole m) node (Ok (begun e.from_zero q.multipliers)) e.raises) e.end)) h.0 ∙ ap (λ (o : Result (Multipliers Row) BoundNo). end_of_record bounds.low es qs (tightened (whole m) q.box e.steps) o e.end) h.1

  pub fails_open : (w v : Walk) (qs : List (Pending Row)) (e : Entry Row) (r : Result ℕ BoundNo) (f : BoundNo) → r ≡ Err f → w.done ≡ false → IsAt m w qs
      → ((q : Pending Row) (qs : List (Pending Row)) → Stands m w q qs → Opens m node q qs e (Err f) v) → Takes m bounds node qs e r v
  fails_open w v qs e r f is going at opens = subst (λ (r : Result ℕ BoundNo). Takes m bounds node qs e r v) (sym is) (not_opened w v qs e f going at opens)

  -- ## Ends

  pub left_too : (q : Pending Row) (qs : List (Pending Row)) (r : Result ℕ BoundNo) (w : Walk) → Closes m bounds node q qs Leaf r w → Closes m bounds node q qs Left r w
  left_too q qs (Ok best) w h = h
  left_too q qs (Err f) w h = h

  pub leaf_or_left : (q : Pending Row) (qs : List (Pending Row)) (end : Told) (r : Result ℕ BoundNo) (w : Walk) → (end ≡ told.Leaf) ⊎ (end ≡ told.Left) → Closes m bounds node q qs Leaf r w → Closes m bounds node q qs (end_of (number_of m) end) r w
  leaf_or_left q qs end r w (inl e) h = subst (λ (x : Told). Closes m bounds node q qs (end_of (number_of m) x) r w) (sym e) h
  leaf_or_left q qs end r w (inr e) h = subst (λ (x : Told). Closes m bounds node q qs (end_of (number_of m) x) r w) (sym e) (left_too q qs r w h)

  pub closed : (q : Pending Row) (qs : List (Pending Row)) (b : Box) (best : ℕ) (w : Walk) → q.box ≡ b
      → Narrows bounds.low bounds.high best (λ bound. short_fault (whole m) bound node b q.multipliers ≡ None) (λ bound. short_fault (whole m) bound node b q.multipliers ≢ None) → IsAt m w qs → Closes m bounds node q qs Leaf (Ok best) w
  closed q qs b best w same narrows at = (
    qs,
    at,
    record {
      from = narrows.from;
      to = narrows.to;
      passes = λ bound le R. ap (λ (o : Option BoundNo). option_or o (R qs)) (here bound ∙ narrows.passes bound le);
      fails = λ bound lt le R none. narrows.fails bound lt le (sym (here bound) ∙ none_first (short_fault (whole m) bound node q.box q.multipliers) (R qs) none);
    },
    refl,
  )
    where
      here : (bound : ℕ) → short_fault (whole m) bound node q.box q.multipliers ≡ short_fault (whole m) bound node b q.multipliers
      here bound = ap (λ (x : Box). short_fault (whole m) bound node x q.multipliers) same

  pub not_closed : (q : Pending Row) (qs : List (Pending Row)) (b : Box) (f : BoundNo) (w : Walk) → q.box ≡ b → short_fault (whole m) bounds.low node b q.multipliers ≡ Some f → Closes m bounds node q qs Leaf (Err f) w
  not_closed q qs b f w same some = λ other R. ap (λ (o : Option BoundNo). option_or o (R qs)) (ap (λ (x : Box). short_fault (whole m) bounds.low node x q.multipliers) same ∙ some)

  pub no_memory : (q : Pending Row) (qs : List (Pending Row)) (end : End) (r : Result ℕ BoundNo) (f : BoundNo) (w : Walk) → r ≡ Err f → f ≡ NoMemory → Closes m bounds node q qs end r w
  no_memory q qs end r f w e h = rw (e, h) (λ k. absurd (k refl))

  not_below : (v n : ℕ) → n ≤ v → nat_lt v n ≡ false
  not_below v n le = grind (arith, nat_tests)

  below : (v n : ℕ) → v < n → nat_lt v n ≡ true
  below v n lt = grind (arith, nat_tests)

  pub outside : (q : Pending Row) (qs : List (Pending Row)) (v : ℕ) (w : Walk) → v ≡ length (variables m) → Closes m bounds node q qs (Branch v) (Err (BranchFixed node)) w
  outside q qs v w e = λ other R. ap (λ (c : Bool). cond (c && is_none (at q.box v)) (R (record { box = fixed q.box v true; multipliers = q.multipliers } ∷ record { box = fixed q.box v false; multipliers = q.multipliers } ∷ qs)) (Some (BranchFixed node))) (not_below v (length (variables m)) (omega arith))

  pub not_free : (q : Pending Row) (qs : List (Pending Row)) (v x : ℕ) (b : Box) (o : Option Bool) (w : Walk) → v ≡ x → x < length (variables m) → q.box ≡ b → at b x ≡ o → is_none o ≡ false → Closes m bounds node q qs (Branch v) (Err (BranchFixed node)) w
  not_free q qs v x b o w e lt same is some =
      let n : is_none (at q.box v) ≡ false = ap (λ (y : Box). is_none (at y v)) same ∙ ap (λ (k : ℕ). is_none (at b k)) e ∙ ap is_none is ∙ some in
      let l : nat_lt v (length (variables m)) ≡ true = below v (length (variables m)) (omega arith) in
      λ other R. ap (λ (c : Bool). cond (c && is_none (at q.box v)) (R (record { box = fixed q.box v true; multipliers = q.multipliers } ∷ record { box = fixed q.box v false; multipliers = q.multipliers } ∷ qs)) (Some (BranchFixed node))) l
      ∙ ap (λ (c : Bool). cond c (R (record { box = fixed q.box v true; multipliers = q.multipliers } ∷ record { box = fixed q.box v false; multipliers = q.multipliers } ∷ qs)) (Some (BranchFixed node))) n

  reversed_more : (fs fs' : List Frame) (f : Frame) → fs' ≡ fs ++ f ∷ [] → reverse fs' ≡ f ∷ reverse fs
  reversed_more fs fs' f e = ap reverse e ∙ reverse-append fs (f ∷ [])

  pub branched : (w u : Walk) (q : Pending Row) (qs : List (Pending Row)) (v x : ℕ) → Stands m w q qs → v ≡ x → x < length (variables m) → at w.b x ≡ None
      → Goes m w (fixed w.b x true) (w.undo ++ x ∷ []) (w.frames.items ++ frame_of w x ∷ []) u → bounds.low ≤ bounds.high
      → Closes m bounds node q qs (Branch v) (Ok bounds.high) u
  branched w u q qs v x stands e lt free goes order = (
    first ∷ other ∷ qs,
    here,
    record {
      from = order;
      to = omega arith;
      passes = λ bound le R. passes bound R;
      fails = λ bound lt le. absurd (omega arith);
    },
    refl,
  )
    where
      first : Pending Row
      first = record { box = fixed q.box v true; multipliers = q.multipliers }

      other : Pending Row
      other = record { box = fixed q.box v false; multipliers = q.multipliers }

      half : (y : Bool) → fixed q.box v y ≡ fixed w.b x y
      half y = ap (λ (b : Box). fixed b v y) stands.box ∙ ap (λ (k : ℕ). fixed w.b k y) e

      inside : x < length w.b
      inside = omega (arith, stands.len)

      passes : (bound : ℕ) (R : List (Pending Row) → Option BoundNo) → end_fault (whole m) bound R node qs q.box (Ok q.multipliers) (Branch v) ≡ R (first ∷ other ∷ qs)
      passes bound R =
          let n : is_none (at q.box v) ≡ true = ap (λ (y : Box). is_none (at y v)) stands.box ∙ ap (λ (k : ℕ). is_none (at w.b k)) e ∙ ap is_none free in
          let l : nat_lt v (length (variables m)) ≡ true = below v (length (variables m)) (omega arith) in
          ap (λ (c : Bool). cond (c && is_none (at q.box v)) (R (first ∷ other ∷ qs)) (Some (BranchFixed node))) l ∙ ap (λ (c : Bool). cond c (R (first ∷ other ∷ qs)) (Some (BranchFixed node))) n

      wait : AllWait m (fixed w.b x true) (w.undo ++ x ∷ []) q.multipliers w.prices.changes.items (record { var = x; mark = length w.undo; changes = length w.prices.changes.items; aside = None } ∷ reverse w.frames.items) (other ∷ qs)
      wait = subst (λ (c : Box). AllWait m (fixed w.b x true) (w.undo ++ x ∷ []) q.multipliers w.prices.changes.items (record { var = x; mark = length w.undo; changes = length w.prices.changes.items; aside = None } ∷ reverse w.frames.items) (record { box = c; multipliers = q.multipliers } ∷ qs)) (sym (half false))
          (divided m w.b w.undo q.multipliers w.prices.changes.items x inside free (reverse w.frames.items) qs stands.carries.priced.small stands.waits)

      here : Stands m u first (other ∷ qs)
      here = record {
        in_hand = goes.done ∙ stands.in_hand;
        box = half true ∙ sym goes.box;
        len = ap (λ (b : Box). length b) goes.box ∙ length-set w.b x (Some true) ∙ stands.len;
        inside = rw (goes.box, goes.fixes, length-set w.b x (Some true)) (All-append (λ k. k < length w.b) w.undo (x ∷ []) stands.inside (All-cons (λ k. k < length w.b) x [] inside (All-nil (λ k. k < length w.b))));
        priced = goes.priced;
        carries = goes.carries q.multipliers stands.carries;
        sound = subst (λ p. All (IsSound m) p.items) (sym goes.changes) stands.sound;
        waits = rw (goes.box, goes.fixes, goes.changes, reversed_more w.frames.items u.frames.items _ goes.waiting) wait;
      }

-- ## The box that waits

pub small_in_hand : (m : Voyage) (o : Option Aside) (ms : Multipliers Row) → AreSmall m ms → AreSmall m (in_hand o ms)
small_in_hand m None ms h = h
small_in_hand m (Some a) ms h = tt

pub some_of : {X : Type 0} (o : Option X) → is_some o ≡ true → (x : X) × (o ≡ Some x)
some_of None h = absurd (grind arith)
some_of (Some x) h = (x, refl)

pub empty_of : {X : Type 0} (xs : List X) → (length xs == 0) ≡ true → xs ≡ []
empty_of [] h = refl
empty_of (x ∷ xs) h = absurd (grind (arith, nat_tests))

take_twice : {X : Type 0} (n : ℕ) (xs : List X) → take n (take n xs) ≡ take n xs
take_twice zero xs = refl
take_twice (suc n) [] = refl
take_twice (suc n) (x ∷ xs) = ap (λ ys. x ∷ ys) (take_twice n xs)

drop_taken : {X : Type 0} (n : ℕ) (xs : List X) → drop n (take n xs) ≡ []
drop_taken zero xs = refl
drop_taken (suc n) [] = refl
drop_taken (suc n) (x ∷ xs) = drop_taken n xs

take_len : {X : Type 0} (n : ℕ) (xs : List X) → n ≤ length xs → length (take n xs) ≡ n
take_len zero xs le = refl
take_len (suc n) [] le = absurd (omega arith)
take_len (suc n) (x ∷ xs) le = ap suc (take_len n xs (omega arith))

module _ (m : Voyage) (w : Walk) (all fs : List Frame) (f : Frame) (is : all ≡ fs ++ f ∷ []) where
  reversed : reverse all ≡ f ∷ reverse fs
  reversed = ap reverse is ∙ reverse-append fs (f ∷ [])

  abbrev Next : Pending Row → List (Pending Row) → Type 0
  Next q qs = (next : Pending Row) × (rest : List (Pending Row)) × (qs ≡ next ∷ rest) × Waits m w.b w.undo q.multipliers w.prices.changes.items f next
      × AllWait m (released w.b w.undo f.mark) (take f.mark w.undo) next.multipliers (take f.changes w.prices.changes.items) (reverse fs) rest

  pub next_of : (q : Pending Row) (qs : List (Pending Row)) → StandsWith m w all q qs → Next q qs
  next_of q qs stands = by qs (subst (λ (gs : List Frame). AllWait m w.b w.undo q.multipliers w.prices.changes.items gs qs) reversed stands.waits)
    where
      by : (qs : List (Pending Row)) → AllWait m w.b w.undo q.multipliers w.prices.changes.items (f ∷ reverse fs) qs → Next q qs
      by [] h = absurd h
      by (next ∷ rest) h = (next, rest, refl, h.0, h.1)

  pub free_there : (q : Pending Row) (qs : List (Pending Row)) (c : Box) → StandsWith m w all q qs → c ≡ released w.b w.undo f.mark → (f.var < length c) × (at c f.var ≡ None)
  free_there q qs c stands e =
      let n = next_of q qs stands in
      let inside : f.var < length w.b = n.3.inside in
      let l : length c ≡ length w.b = ap (λ (b : Box). length b) e ∙ freed_length w.b (drop f.mark w.undo) in
      (omega arith, ap (λ (b : Box). at b f.var) e ∙ n.3.free)

  pub next_stands : (q : Pending Row) (qs : List (Pending Row)) (u : Walk) → StandsWith m w all q qs → u.b ≡ fixed (released w.b w.undo f.mark) f.var false → u.undo ≡ take f.mark w.undo ++ f.var ∷ [] → u.priced ≡ u.b
      → u.prices.changes.items ≡ take f.changes w.prices.changes.items → u.frames.items ≡ fs → u.done ≡ w.done
      → ((ms ns : Multipliers Row) → Carries m w.b ms w.prices.sums → Before (in_hand f.aside ns) f.changes w.prices.changes.items ms → AreSmall m ns → IfSome f.aside (IsAside m (released w.b w.undo f.mark) ns) → Carries m u.b ns u.prices.sums) → IsAt m u qs
  next_stands q qs u stands b undo priced changes frames done carries =
      let n = next_of q qs stands in subst (λ (rs : List (Pending Row)). IsAt m u rs) (sym n.2) (here n.0 n.1 n.3 n.4)
    where
      here : (next : Pending Row) (rest : List (Pending Row)) → Waits m w.b w.undo q.multipliers w.prices.changes.items f next
          → AllWait m (released w.b w.undo f.mark) (take f.mark w.undo) next.multipliers (take f.changes w.prices.changes.items) (reverse fs) rest → Stands m u next rest
      here next rest waits others =
          let r : Box = released w.b w.undo f.mark in
          let l : length r ≡ length w.b = freed_length w.b (drop f.mark w.undo) in
          let lt : f.var < length w.b = waits.inside in
          let inside : f.var < length r = omega arith in
          let one : Fixes r (fixed r f.var false) (f.var ∷ []) = fixes_one r f.var false inside waits.free in
          let len : length (fixed r f.var false) ≡ length w.b = length-set r f.var (Some false) ∙ l in
          record {
            in_hand = done ∙ stands.in_hand;
            box = waits.box ∙ sym b;
            len = ap (λ (x : Box). length x) b ∙ len ∙ stands.len;
            inside = rw (b, undo, len) (All-append (λ k. k < length w.b) (take f.mark w.undo) (f.var ∷ []) (All-take (λ k. k < length w.b) f.mark w.undo stands.inside) (All-cons (λ k. k < length w.b) f.var [] lt (All-nil (λ k. k < length w.b))));
            priced = priced;
            carries = carries q.multipliers next.multipliers stands.carries waits.amounts waits.small waits.aside;
            sound = rw changes (All-take (IsSound m) f.changes w.prices.changes.items stands.sound);
            waits = rw (b, undo, changes, frames) (still_wait m r (fixed r f.var false) (take f.mark w.undo) (take f.mark w.undo ++ f.var ∷ []) (f.var ∷ []) next.multipliers next.multipliers (take f.changes w.prices.changes.items) (take f.changes w.prices.changes.items) refl one.back (moves_none m next.multipliers (take f.changes w.prices.changes.items)) (reverse fs) rest others);
          }

  pub before_next : (q next : Pending Row) → f.aside ≡ None → Waits m w.b w.undo q.multipliers w.prices.changes.items f next → Before next.multipliers f.changes w.prices.changes.items q.multipliers
  before_next q next none h = subst (λ (o : Option Aside). Before (in_hand o next.multipliers) f.changes w.prices.changes.items q.multipliers) none h.amounts

  pub before_none : (q next : Pending Row) (a : Aside) → f.aside ≡ Some a → Waits m w.b w.undo q.multipliers w.prices.changes.items f next → Before [] f.changes w.prices.changes.items q.multipliers
  before_none q next a some h = subst (λ (o : Option Aside). Before (in_hand o next.multipliers) f.changes w.prices.changes.items q.multipliers) some h.amounts

  pub aside_there : (q next : Pending Row) (a : Aside) → f.aside ≡ Some a → Waits m w.b w.undo q.multipliers w.prices.changes.items f next → IsAside m (released w.b w.undo f.mark) next.multipliers a
  aside_there q next a some h = subst (λ (o : Option Aside). IfSome o (IsAside m (released w.b w.undo f.mark) next.multipliers)) some h.aside

  -- no row has a multiplier, and those of the box that waits are aside
  pub anew : (q : Pending Row) (qs : List (Pending Row)) (u : Walk) (a : Aside) → StandsWith m w all q qs → u.b ≡ w.b → u.undo ≡ w.undo → u.priced ≡ u.b → u.prices.changes.items ≡ take f.changes w.prices.changes.items
      → u.frames.items ≡ fs ++ record { var = f.var; mark = f.mark; changes = f.changes; aside = Some a } ∷ [] → u.done ≡ w.done → Carries m u.b [] u.prices.sums
      → ((next : Pending Row) → Waits m w.b w.undo q.multipliers w.prices.changes.items f next → IsAside m (released w.b w.undo f.mark) next.multipliers a) → Stands m u (without q) qs
  anew q qs u a stands b undo priced changes frames done carries aside = record {
    in_hand = done ∙ stands.in_hand;
    box = stands.box ∙ sym b;
    len = ap (λ (x : Box). length x) b ∙ stands.len;
    inside = rw (b, undo) stands.inside;
    priced = priced;
    carries = carries;
    sound = rw changes (All-take (IsSound m) f.changes w.prices.changes.items stands.sound);
    waits = rw (b, undo, changes, frames) (subst (λ (gs : List Frame). AllWait m w.b w.undo [] (take f.changes w.prices.changes.items) gs qs) (sym (reverse-append fs (other ∷ [])))
        (subst (λ (rs : List (Pending Row)). AllWait m w.b w.undo [] (take f.changes w.prices.changes.items) (other ∷ reverse fs) rs) (sym n.2)
        (here n.0 n.3, subst (λ (k : List Change). AllWait m (released w.b w.undo f.mark) (take f.mark w.undo) n.0.multipliers k (reverse fs) n.1) (sym (take_twice f.changes w.prices.changes.items)) n.4)));
  }
    where
      n : Next q qs
      n = next_of q qs stands

      other : Frame
      other = record { var = f.var; mark = f.mark; changes = f.changes; aside = Some a }

      here : (next : Pending Row) → Waits m w.b w.undo q.multipliers w.prices.changes.items f next → Waits m w.b w.undo [] (take f.changes w.prices.changes.items) other next
      here next h =
          let le : f.changes ≤ length w.prices.changes.items = h.changes in
          let len : length (take f.changes w.prices.changes.items) ≡ f.changes = take_len f.changes w.prices.changes.items le in
          record {
            mark = h.mark;
            changes = omega arith;
            inside = h.inside;
            free = h.free;
            box = h.box;
            amounts = λ r. ap (back_at r 0) (drop_taken f.changes w.prices.changes.items);
            aside = aside next h;
            small = h.small;
          }

-- no box waits
pub none_left : (m : Voyage) (w u : Walk) (q : Pending Row) (qs : List (Pending Row)) → w.frames.items ≡ [] → u.done ≡ true → Stands m w q qs → IsAt m u qs
none_left m w u q qs none done stands = by qs (subst (λ (gs : List Frame). AllWait m w.b w.undo q.multipliers w.prices.changes.items (reverse gs) qs) none stands.waits)
  where
    by : (qs : List (Pending Row)) → AllWait m w.b w.undo q.multipliers w.prices.changes.items [] qs → IsAt m u qs
    by [] h = done
    by (q ∷ qs) h = absurd h

-- ## Steps and raises

-- what was noted past the end of a list
pub noted_past : (us us' xs : List ℕ) (mark : ℕ) (ys : List ℕ) → us' ≡ us ++ xs → mark ≡ length us → ys ≡ drop mark us' → ys ≡ xs
noted_past us us' xs mark ys is at past = past ∙ ap (λ (k : ℕ). drop k us') at ∙ ap (drop (length us)) is ∙ drop-append_seam us xs

module _ (m : Voyage) (node : ℕ) (w : Walk) (q : Pending Row) (qs : List (Pending Row)) (e : Entry Row) where
  pub not_stepped : (v : Walk) (r : Result (Unit {0}) BoundNo) (f : BoundNo) → r ≡ Err f → (f ≢ NoMemory → step_fault (whole m) node e.steps ≡ Some f) → Opens m node q qs e r v
  not_stepped v r f is some = subst (λ (r : Result (Unit {0}) BoundNo). Opens m node q qs e r v) (sym is) (λ other. inl (some other))

  pub not_begun : (v : Walk) (r : Result (Unit {0}) BoundNo) (f : BoundNo) → r ≡ Err f → f ≡ NoMemory → Opens m node q qs e r v
  not_begun v r f is none = subst (λ (r : Result (Unit {0}) BoundNo). Opens m node q qs e r v) (sym is) (λ other. absurd (other none))

module _ (m : Voyage) (w : Walk) (all : List Frame) (q : Pending Row) (qs : List (Pending Row)) where
  -- the steps are taken, the multipliers changed, and none of the boxes that wait is another
  pub stands_after : (v : Walk) (xs : List ℕ) (steps : List Row) (ms : Multipliers Row) → StandsWith m w all q qs → v.b ≡ tightened (whole m) w.b steps → v.undo ≡ w.undo ++ xs → v.priced ≡ v.b → Fixes w.b v.b xs
      → v.frames.items ≡ all → v.done ≡ w.done → Holds m v.b q.multipliers w.prices.changes.items ms v.prices → Stands m v (record { box = tightened (whole m) q.box steps; multipliers = ms }) qs
  stands_after v xs steps ms stands box undo priced fixes frames done holds = record {
    in_hand = done ∙ stands.in_hand;
    box = ap (λ (b : Box). tightened (whole m) b steps) stands.box ∙ sym box;
    len = len ∙ stands.len;
    inside = subst (λ (n : ℕ). All (λ k. k < n) v.undo) (sym len) inside;
    priced = priced;
    carries = holds.carries;
    sound = subst (λ (k : List Change). All (IsSound m) k) (sym holds.moves.added) (All-append (IsSound m) w.prices.changes.items holds.moves.more stands.sound holds.moves.sound);
    waits = subst (λ (fs : List Frame). AllWait m v.b v.undo ms v.prices.changes.items (reverse fs) qs) (sym frames)
        (still_wait m w.b v.b w.undo v.undo xs q.multipliers ms w.prices.changes.items v.prices.changes.items undo fixes.back holds.moves (reverse all) qs stands.waits);
  }
    where
      len : length v.b ≡ length w.b
      len = sym (freed_length v.b xs) ∙ ap (λ (b : Box). length b) fixes.back

      inside : All (λ k. k < length w.b) v.undo
      inside = subst (λ (us : List ℕ). All (λ k. k < length w.b) us) (sym undo) (All-append (λ k. k < length w.b) w.undo xs stands.inside fixes.inside)

  no_fixes : (b c : Box) → c ≡ b → Fixes b c []
  no_fixes b c same = record { back = same; inside = All-nil (λ v. v < length b); each = All-nil (λ v. is_some (at c v) ≡ true) }

  -- multipliers alone are changed
  pub stands_changed : (v : Walk) (ms : Multipliers Row) → StandsWith m w all q qs → v.b ≡ w.b → v.undo ≡ w.undo → v.priced ≡ v.b → v.frames.items ≡ all → v.done ≡ w.done
      → Holds m v.b q.multipliers w.prices.changes.items ms v.prices → Stands m v (record { box = q.box; multipliers = ms }) qs
  stands_changed v ms stands box undo priced frames done holds = stands_after v [] [] ms stands box (undo ∙ sym (append-nil w.undo)) priced (no_fixes w.b v.b box) frames done holds

  -- what is kept is another, of the same box and multipliers
  pub stands_like : (v : Walk) → StandsWith m w all q qs → v.b ≡ w.b → v.undo ≡ w.undo → v.priced ≡ w.priced → v.prices.changes.items ≡ w.prices.changes.items → v.done ≡ w.done → Carries m w.b q.multipliers v.prices.sums → StandsWith m v all q qs
  stands_like v stands box undo priced changes done carries = record {
    in_hand = done ∙ stands.in_hand;
    box = stands.box ∙ sym box;
    len = ap (λ (x : Box). length x) box ∙ stands.len;
    inside = rw (box, undo) stands.inside;
    priced = priced ∙ stands.priced ∙ sym box;
    carries = rw box carries;
    sound = rw changes stands.sound;
    waits = rw (box, undo, changes) stands.waits;
  }

  -- what was changed need not be taken back where no box waits
  pub forgotten : (v : Walk) → StandsWith m w all q qs → all ≡ [] → v.b ≡ w.b → v.undo ≡ w.undo → v.priced ≡ w.priced → v.prices.changes.items ≡ [] → v.done ≡ w.done → v.prices.sums ≡ w.prices.sums → StandsWith m v all q qs
  forgotten v stands none box undo priced changes done sums = record {
    in_hand = done ∙ stands.in_hand;
    box = stands.box ∙ sym box;
    len = ap (λ (x : Box). length x) box ∙ stands.len;
    inside = rw (box, undo) stands.inside;
    priced = priced ∙ stands.priced ∙ sym box;
    carries = rw (box, sums) stands.carries;
    sound = rw changes (All-nil (IsSound m));
    waits = rw none (by qs (subst (λ (fs : List Frame). AllWait m w.b w.undo q.multipliers w.prices.changes.items (reverse fs) qs) none stands.waits));
  }
    where
      by : (rs : List (Pending Row)) → AllWait m w.b w.undo q.multipliers w.prices.changes.items [] rs → AllWait m v.b v.undo q.multipliers v.prices.changes.items [] rs
      by [] h = tt
      by (r ∷ rs) h = absurd h

  pub tightened_stands : (v : Walk) (steps : List Row) → StandsWith m w all q qs → w.frames.items ≡ all → Tightens m w steps v → Stands m v (record { box = tightened (whole m) q.box steps; multipliers = q.multipliers }) qs
  tightened_stands v steps stands is t =
      stands_after v t.fixed steps q.multipliers stands t.goes.box t.goes.fixes t.goes.priced t.fixes (t.goes.waiting ∙ is) t.goes.done
      (record { carries = t.goes.carries q.multipliers stands.carries; moves = subst (λ k. Moves m q.multipliers w.prices.changes.items q.multipliers k.items) (sym t.goes.changes) (moves_none m q.multipliers w.prices.changes.items) })

-- the box is tightened, the multipliers begun, and those raised
pub opened : (m : Voyage) (node : ℕ) (q : Pending Row) (qs : List (Pending Row)) (e : Entry Row) (w v : Walk) (r : Result (Unit {0}) BoundNo) → step_fault (whole m) node e.steps ≡ None
    → Stands m w (record { box = tightened (whole m) q.box e.steps; multipliers = begun e.from_zero q.multipliers }) qs → v.b ≡ w.b → v.undo ≡ w.undo → v.priced ≡ v.b → v.frames.items ≡ w.frames.items → v.done ≡ w.done
    → Ends (λ ns. Holds m v.b (begun e.from_zero q.multipliers) w.prices.changes.items ns v.prices) (raised_rows (whole m) node (Ok (begun e.from_zero q.multipliers)) e.raises) r → Opens m node q qs e r v
opened m node q qs e w v r none stands box undo priced frames done ends = by (raised_rows (whole m) node (Ok (begun e.from_zero q.multipliers)) e.raises) refl r ends
  where
    start : Pending Row
    start = record { box = tightened (whole m) q.box e.steps; multipliers = begun e.from_zero q.multipliers }

    by : (o : Result (Multipliers Row) BoundNo) → raised_rows (whole m) node (Ok (begun e.from_zero q.multipliers)) e.raises ≡ o → (r : Result (Unit {0}) BoundNo)
        → Ends (λ ns. Holds m v.b (begun e.from_zero q.multipliers) w.prices.changes.items ns v.prices) o r → Opens m node q qs e r v
    by (Ok ms) is (Ok u) h = (none, (ms, is, stands_changed m w w.frames.items start qs v ms stands box undo priced frames done h))
    by (Ok ms) is (Err f) h = λ other. absurd (other h)
    by (Err f) is (Ok u) h = absurd h
    by (Err f) is (Err g) h = λ other. inr (none, is ∙ ap (λ (x : BoundNo). Err x) (sym (h other)))

-- ## The tree

behind_suc : {X Y : Type 0} (f : X → Y) (xs : List X) (k : ℕ) (x : X) → k < length xs → x ≡ get_or xs k x → map f (drop k xs) ≡ f x ∷ map f (drop (suc k) xs)
behind_suc f [] k x lt is = absurd (omega arith)
behind_suc f (y ∷ xs) zero x lt is = ap (λ z. f z ∷ map f xs) (sym is)
behind_suc f (y ∷ xs) (suc k) x lt is = behind_suc f xs k x (omega arith) is

pub behind : {X Y : Type 0} (f : X → Y) (xs : List X) (k : ℕ) (x : X) → k < length xs → x ≡ get_or xs k x → map f (drop k xs) ≡ f x ∷ map f (drop (k + 1) xs)
behind f xs k x lt is = let e : suc k ≡ k + 1 = omega arith in behind_suc f xs k x lt is ∙ ap (λ (n : ℕ). f x ∷ map f (drop n xs)) e

pub nothing_behind : {X Y : Type 0} (f : X → Y) (xs : List X) (k : ℕ) → length xs ≤ k → map f (drop k xs) ≡ []
nothing_behind f [] zero le = refl
nothing_behind f [] (suc k) le = refl
nothing_behind f (x ∷ xs) zero le = absurd (omega arith)
nothing_behind f (x ∷ xs) (suc k) le = nothing_behind f xs k (omega arith)

module _ (m : Voyage) (low high : ℕ) (first : ℕ → Option BoundNo) where
  -- These records are still to be read. At each bound up to the best the first fault is the first of theirs, and at each above it there was one.
  abbrev pub Reaches : ℕ → ℕ → Walk → List (Entry Row) → Type 0
  Reaches best node w es = (qs : List (Pending Row)) × IsAt m w qs × Narrows low high best (λ bound. first bound ≡ tree_fault (whole m) bound node qs es) (λ bound. first bound ≢ None)

  pub tree_more : (best best' node : ℕ) (w v : Walk) (e : Entry Row) (es all : List (Entry Row)) → all ≡ e ∷ es → Reaches best node w all
      → ((qs : List (Pending Row)) → IsAt m w qs → Takes m (record { low = low; high = best }) node qs e (Ok best') v) → Reaches best' (node + 1) v es
  tree_more best best' node w v e es all is h takes = (
    t.0,
    t.1,
    record {
      from = t.2.from;
      to = omega (arith, less, h.2.to);
      passes = λ bound le. so_far bound (omega (arith, less)) ∙ t.2.passes bound le es;
      fails = λ bound lt le none. elim (up_to bound best) [ inl here ↦ t.2.fails bound lt here es (sym (so_far bound here) ∙ none) | inr above ↦ h.2.fails bound above le none ];
    },
  )
    where
      t : (rest : List (Pending Row)) × IsAt m v rest × Narrows low best best' (λ bound. (es : List (Entry Row)) → tree_fault (whole m) bound node h.0 (e ∷ es) ≡ tree_fault (whole m) bound (node + 1) rest es) (λ bound. (es : List (Entry Row)) → tree_fault (whole m) bound node h.0 (e ∷ es) ≢ None) × IsBehind m node h.0 e rest
      t = takes h.0 h.1

      less : best' ≤ best
      less = t.2.to

      so_far : (bound : ℕ) → bound ≤ best → first bound ≡ tree_fault (whole m) bound node h.0 (e ∷ es)
      so_far bound le = h.2.passes bound le ∙ ap (λ (xs : List (Entry Row)). tree_fault (whole m) bound node h.0 xs) is

  pub tree_fails : (best node : ℕ) (w v : Walk) (e : Entry Row) (es all : List (Entry Row)) (f : BoundNo) → all ≡ e ∷ es → Reaches best node w all
      → ((qs : List (Pending Row)) → IsAt m w qs → Takes m (record { low = low; high = best }) node qs e (Err f) v) → f ≢ NoMemory → first low ≡ Some f
  tree_fails best node w v e es all f is h takes other = h.2.passes low h.2.from ∙ ap (λ (xs : List (Entry Row)). tree_fault (whole m) low node h.0 xs) is ∙ takes h.0 h.1 other es

  pub tree_ends : (best node : ℕ) (w : Walk) (all : List (Entry Row)) → all ≡ [] → Reaches best node w all → w.done ≡ false → first low ≡ Some TreeEnds
  tree_ends best node w all is h going = h.2.passes low h.2.from ∙ ap (λ (xs : List (Entry Row)). tree_fault (whole m) low node h.0 xs) is ∙ by h.0 h.1
    where
      by : (qs : List (Pending Row)) → IsAt m w qs → tree_fault (whole m) low node qs [] ≡ Some TreeEnds
      by [] h = absurd (no_two w.done h going)
      by (q ∷ qs) h = refl

  pub tree_done : (best node : ℕ) (w : Walk) (all : List (Entry Row)) → all ≡ [] → Reaches best node w all → w.done ≡ true → Narrows low high best (λ bound. first bound ≡ None) (λ bound. first bound ≢ None)
  tree_done best node w all is h done = record {
    from = h.2.from;
    to = h.2.to;
    passes = λ bound le. h.2.passes bound le ∙ ap (λ (xs : List (Entry Row)). tree_fault (whole m) bound node h.0 xs) is ∙ by bound h.0 h.1;
    fails = h.2.fails;
  }
    where
      by : (bound : ℕ) (qs : List (Pending Row)) → IsAt m w qs → tree_fault (whole m) bound node qs [] ≡ None
      by bound [] h = refl
      by bound (q ∷ qs) h = absurd (no_two w.done done h.in_hand)

-- the walk begins at the root, with all records ahead
pub begins : (m : Voyage) (low high : ℕ) (records : List Record) (w : Walk) → low ≤ high → IsAt m w (root (whole m) ∷ []) → Reaches m low high (first_fault m records) high 1 w (map (entry_of m) records)
begins m low high records w order at = (root (whole m) ∷ [], at, record { from = order; to = omega arith; passes = λ bound le. refl; fails = λ bound lt le. absurd (omega arith) })

-- all records are read
pub ends : (m : Voyage) (records : List Record) (k : ℕ) → length records ≤ k → map (entry_of m) (drop k records) ≡ []
ends m records k le = nothing_behind (entry_of m) records k le
