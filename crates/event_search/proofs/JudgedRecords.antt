-- What is said of a record at the end of a way.
use Rattle.std.proofs.Common.{◌≡◌, ℕ, ◌<◌, length, true, false, All, List, Ok, Err, ℤ, pos, ◌+ℤ◌, ◌-ℤ◌, ◌*ℤ◌, ◌<ℤ◌, ◌≤ℤ◌, arith, sym, subst, ◌∙◌, ap}
use borrow.Author.Differences.{ints}
use Rattle.zero_one_rows.specs.declared.program.Row.{Row}
use Rattle.zero_one_rows.specs.Variables.{Voyage}
use Rattle.zero_one_rows.specs.Rows.{whole}
use Rattle.zero_one_rows.specs.Counted.{base_rows}
use Rattle.proof_trees.specs.Boxes.{Box}
use Rattle.proof_trees.specs.Multipliers.{Multipliers, worth}
use Rattle.certificate.specs.declared.tree.Record.{Record}
use Rattle.certificate.specs.Entries.{same_row, entry_of, raise_of}
use Rattle.search_core.specs.Journals.{NamesRows}
use Rattle.search_core.specs.Machine.{Node, Divides, is_full, price}
use Rattle.search_core.specs.declared.refused.Refused.TheVariants.{NotFull, Short, NotFree}
use Rattle.search_core.specs.declared.records.Done.{Done}
use Rattle.event_search.specs.declared.event_nodes.Step.{Step}
use Rattle.event_search.specs.JudgingEvents.{IsLeaf, IsBranch, HasTrail, box_there, JudgesClose, JudgesBranch, JudgesOffer}
use Rattle.event_search.specs.Nodes.{along}
use Rattle.search_core.specs.Told.{NameEarlier}
use Rattle.event_search.specs.Counting.{AreNamed, Leads}
use Rattle.event_search.specs.Standing.{begun_there, IsWay}
use Rattle.event_search.proofs.Listed.{all_map, all_mapped}

module _ (m : Voyage) (r : Record) where
  pub names : All (λ r. (whole m).has r ≡ true) r.steps → AreNamed m r.raises → NamesRows same_row (whole m) (entry_of m r)
  names steps raises = (steps, all_mapped raise_of (λ (x : Row × ℤ). (whole m).has x.0 ≡ true) r.raises raises)

  pub named_raises : NamesRows same_row (whole m) (entry_of m r) → AreNamed m r.raises
  named_raises h = all_map raise_of (λ (x : Row × ℤ). (whole m).has x.0 ≡ true) r.raises h.1

module _ (m : Voyage) (ended : List (Done Record)) (way : List Step) (r : Record) (b : Box) (there : b ≡ box_there m (along m ended way) (entry_of m r)) where
  -- the value is the dual value
  abbrev pub IsWorth : ℤ → Type 0
  IsWorth value = (ns : Multipliers Row) → Leads (begun_there m ended way r) r.raises ns → value ≡ worth (whole m) b ns

  worth_there : (ns : Multipliers Row) → worth (whole m) b ns ≡ worth (whole m) (box_there m (along m ended way) (entry_of m r)) ns
  worth_there ns = ap (λ (c : Box). worth (whole m) c ns) there

  module _ (leaf : IsLeaf m (along m ended way) (entry_of m r)) (seen : ℕ) (value needed : ℤ) (is : IsWorth value) (needs : needed ≡ (pos 16 *ℤ (pos seen -ℤ pos 1)) +ℤ pos 1) where
    value_is : value ≡ worth (whole m) (box_there m (along m ended way) (entry_of m r)) leaf.0.1.0
    value_is = is leaf.0.1.0 leaf.0.1.1 ∙ worth_there leaf.0.1.0

    pub closes : needed ≤ℤ value → JudgesClose m (along m ended way) (entry_of m r) seen (Ok tt)
    closes le =
        let above : (pos 16 *ℤ (pos seen -ℤ pos 1)) <ℤ value = omega (arith, ints, needs, le) in
        (leaf.0.1.0, (leaf.0.0, leaf.0.1.1, leaf.1), subst (λ (z : ℤ). (pos 16 *ℤ (pos seen -ℤ pos 1)) <ℤ z) value_is above)

    pub falls_short : value <ℤ needed → JudgesClose m (along m ended way) (entry_of m r) seen (Err (Short value needed))
    falls_short lt = (
      leaf.0.1.0,
      (leaf.0.0, leaf.0.1.1, leaf.1),
      (λ closed. (let low : (pos 16 *ℤ (pos seen -ℤ pos 1)) <ℤ value = subst (λ (z : ℤ). (pos 16 *ℤ (pos seen -ℤ pos 1)) <ℤ z) (sym value_is) closed in omega (arith, ints, needs, lt, low))),
      value_is,
      needs,
    )

  module _ (branch : IsBranch m (along m ended way) (entry_of m r)) where
    pub divides_here : Divides (whole m) b (entry_of m r).end → JudgesBranch m (along m ended way) (entry_of m r) (Ok tt)
    divides_here h = (branch.0, subst (λ (c : Box). Divides (whole m) c (entry_of m r).end) there h)

    pub not_free : (Divides (whole m) b (entry_of m r).end → ⊥) → JudgesBranch m (along m ended way) (entry_of m r) (Err NotFree)
    not_free h = (branch, λ d. h (subst (λ (c : Box). Divides (whole m) c (entry_of m r).end) (sym there) d))

  module _ (leaf : IsLeaf m (along m ended way) (entry_of m r)) where
    pub offers : (cost : ℕ) → is_full (whole m) (base_rows m) b ≡ true → cost ≡ price (whole m) b → JudgesOffer m (along m ended way) (entry_of m r) (Ok cost)
    offers cost full is = (leaf, subst (λ (c : Box). is_full (whole m) (base_rows m) c ≡ true) there full, is ∙ ap (λ (c : Box). price (whole m) c) there)

    pub not_full : is_full (whole m) (base_rows m) b ≡ false → JudgesOffer m (along m ended way) (entry_of m r) (Err NotFull)
    not_full h = (leaf, subst (λ (c : Box). is_full (whole m) (base_rows m) c ≡ false) there h)

-- the way to a node, read from a slice
module _ (m : Voyage) (ended : List (Done Record)) (way read : List Step) (n : Node Row) (same : read ≡ way) (is : n ≡ along m ended way) where
  pub is_way : NameEarlier ended → All (λ s. s.entry < length ended) way → HasTrail m n → IsWay m ended read
  is_way earlier inside trail = subst (λ (xs : List Step). IsWay m ended xs) (sym same) (record { earlier = earlier; inside = inside; trail = subst (λ (k : Node Row). HasTrail m k) is trail })

  pub at_end : along m ended read ≡ n
  at_end = ap (along m ended) same ∙ sym is
