-- Where nodes stand along a way.
use Rattle.std.proofs.Common.{◌≡◌, ℕ, zero, suc, ◌+◌, ◌<◌, ◌≤◌, true, false, All, List, [], ◌∷◌, map, take, length, get_or, ℤ, refl, sym, subst, ◌∙◌, ap, add-one, arith}
use Rattle.zero_one_rows.specs.declared.program.Row.{Row}
use Rattle.zero_one_rows.specs.Variables.{Voyage, variables}
use Rattle.zero_one_rows.specs.Rows.{whole}
use Rattle.proof_trees.specs.Boxes.{Box, tightened}
use Rattle.proof_trees.specs.Multipliers.{Multipliers}
use Rattle.proof_trees.specs.Trees.{Entry, Pending, begun, root}
use Rattle.certificate.specs.declared.tree.Record.{Record}
use Rattle.certificate.specs.Entries.{same_row, entry_of, raise_of, end_of, number_of}
use Rattle.search_core.specs.Journals.{box_after, child, after, divided, known}
use Rattle.search_core.specs.Machine.{Handled, IsEntry, Divides, IsTrail}
use Rattle.search_core.proofs.Trails.{begins_sound}
use Rattle.search_core.specs.declared.records.Done.{Done}
use Rattle.search_core.specs.Told.{told}
use Rattle.event_search.specs.declared.event_nodes.Step.{Step}
use Rattle.event_search.specs.Nodes.{value_of, entry_in, along}
use Rattle.event_search.proofs.Ways.{entry_on, taken}
use Rattle.zero_one_rows.specs.Counted.{base_rows}
use Rattle.event_search.specs.declared.tally.Tally.{Tally}
use Rattle.event_search.specs.Counting.{AreNamed, Leads, Tallies}
use Rattle.event_search.specs.Standing.{standing, IsWay}
use Rattle.event_search.proofs.Listed.{here_all, default_any, all_map}

module _ (m : Voyage) (hs : List (Handled Row)) where
  -- with what the node behind these branches begins, from a box on
  abbrev pub beyond : Pending Row → List Step → Pending Row
  beyond q way = after same_row (whole m) q (map value_of way) (map (entry_in hs) way)

  -- the record on the branch is one that divides its box
  abbrev pub Turns : Pending Row → Step → Type 0
  Turns q s = IsEntry same_row (whole m) q (entry_in hs s) × Divides (whole m) (box_after same_row (whole m) q (entry_in hs s)) (entry_in hs s).end

  turn_at : (q : Pending Row) (way : List Step) (k : ℕ) (s : Step) → IsTrail same_row (whole m) q (map value_of way) (map (entry_in hs) way) → k < length way → s ≡ get_or way k s
      → Turns (beyond q (take k way)) s × (beyond q (take (suc k) way) ≡ child same_row (whole m) (beyond q (take k way)) (entry_in hs s) s.value)
  turn_at q [] k s h lt is = absurd (omega arith)
  turn_at q (x ∷ way) zero s h lt is =
      subst (λ (y : Step). Turns q y × (child same_row (whole m) q (entry_in hs x) x.value ≡ child same_row (whole m) q (entry_in hs y) y.value)) (sym is) ((h.0, h.1), refl)
  turn_at q (x ∷ way) (suc k) s h lt is = turn_at (child same_row (whole m) q (entry_in hs x) x.value) way k s h.2 (omega arith) is

-- the step of a way at a place, and the ended node that it tells
abbrev pub step_at : List Step → ℕ → Step
step_at way k = get_or way k (record { entry = 0; value = false })

abbrev pub done_at : List (Done Record) → List Step → ℕ → Done Record → Done Record
done_at ended way k r = get_or ended (step_at way k).entry r

pub step_is : (way : List Step) (k : ℕ) → k < length way → step_at way k ≡ get_or way k (step_at way k)
step_is way k lt = default_any way k (record { entry = 0; value = false }) (step_at way k) lt

pub inside_at : (m : Voyage) (ended : List (Done Record)) (way : List Step) → IsWay m ended way → (k : ℕ) → k < length way → (step_at way k).entry < length ended
inside_at m ended way w k lt = here_all way k (step_at way k) lt (step_is way k lt) (λ (s : Step). s.entry < length ended) w.inside

pub done_is : (m : Voyage) (ended : List (Done Record)) (way : List Step) → IsWay m ended way → (k : ℕ) (r : Done Record) → k < length way → done_at ended way k r ≡ get_or ended (step_at way k).entry (done_at ended way k r)
done_is m ended way w k r lt = default_any ended (step_at way k).entry r (done_at ended way k r) (inside_at m ended way w k lt)

module _ (m : Voyage) (ended : List (Done Record)) (way : List Step) (w : IsWay m ended way) where
  module _ (k : ℕ) (s : Step) (lt : k < length way) (is : s ≡ get_or way k s) where
    -- the ended node's record, as it is told
    module _ (d : Done Record) (there : d ≡ get_or ended s.entry d) where
      both : Turns m (told (entry_of m) ended) (standing m ended (take k way)) s
          × (standing m ended (take (suc k) way) ≡ child same_row (whole m) (standing m ended (take k way)) (entry_in (told (entry_of m) ended) s) s.value)
      both = turn_at m (told (entry_of m) ended) (root (whole m)) way k s w.trail lt is

      entry_is : entry_in (told (entry_of m) ended) s ≡ entry_of m d.entry
      entry_is = sym (entry_on m ended s d w.earlier (here_all way k s lt is (λ (t : Step). t.entry < length ended) w.inside) there)

      turn : IsEntry same_row (whole m) (standing m ended (take k way)) (entry_of m d.entry) × Divides (whole m) (tightened (whole m) (standing m ended (take k way)).box d.entry.steps) (end_of (number_of m) d.entry.end)
      turn = subst (λ (e : Entry Row). IsEntry same_row (whole m) (standing m ended (take k way)) e × Divides (whole m) (box_after same_row (whole m) (standing m ended (take k way)) e) e.end) entry_is both.0

      more : standing m ended (take (suc k) way) ≡ child same_row (whole m) (standing m ended (take k way)) (entry_of m d.entry) s.value
      more = both.1 ∙ ap (λ (e : Entry Row). child same_row (whole m) (standing m ended (take k way)) e s.value) entry_is

      pub rows : All (λ r. (whole m).has r ≡ true) d.entry.steps
      rows = turn.0.0.0

      pub named : AreNamed m d.entry.raises
      named = all_map raise_of (λ (x : Row × ℤ). (whole m).has x.0 ≡ true) d.entry.raises turn.0.0.1

      pub divides : (b : Box) → b ≡ (standing m ended (take k way)).box → Divides (whole m) (tightened (whole m) b d.entry.steps) (end_of (number_of m) d.entry.end)
      divides b here = subst (λ (c : Box). Divides (whole m) (tightened (whole m) c d.entry.steps) (end_of (number_of m) d.entry.end)) (sym here) turn.1

      pub box_more : (b c : Box) → b ≡ (standing m ended (take k way)).box → c ≡ divided (tightened (whole m) b d.entry.steps) (end_of (number_of m) d.entry.end) s.value → c ≡ (standing m ended (take (k + 1) way)).box
      box_more b c here is_half =
          is_half ∙ ap (λ (a : Box). divided (tightened (whole m) a d.entry.steps) (end_of (number_of m) d.entry.end) s.value) here
          ∙ rw add-one (ap (λ (q : Pending Row). q.box) (sym more))

      -- the multipliers after the record
      pub after_it : Multipliers Row
      after_it = turn.0.1.0

      pub leads : Leads (begun d.entry.from_zero (standing m ended (take k way)).multipliers) d.entry.raises after_it
      unfolding after_it
      leads = turn.0.1.1

      pub multipliers_more : after_it ≡ (standing m ended (take (k + 1) way)).multipliers
      unfolding after_it
      multipliers_more = rw add-one (sym (ap (λ (q : Pending Row). q.multipliers) more ∙ ap known turn.0.1.1))

  pub whole_way : (k : ℕ) → length way ≤ k → standing m ended (take k way) ≡ standing m ended way
  whole_way k le = ap (standing m ended) (taken way k le)

  pub tallies_whole : (k : ℕ) → length way ≤ k → (t : Tally) → Tallies m (standing m ended (take k way)).multipliers t → Tallies m (standing m ended way).multipliers t
  tallies_whole k le t h = subst (λ (q : Pending Row). Tallies m q.multipliers t) (whole_way k le) h

  pub length_there : length (standing m ended way).box ≡ length (variables m)
  length_there = (begins_sound same_row (whole m) (base_rows m) (along m ended way) w.trail).0
