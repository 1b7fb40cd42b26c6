-- A trail, record by record: where a node begins, and what belongs to the program on the way.
use Rattle.std.proofs.Common.{◌≡◌, ℕ, suc, ◌+◌, ◌-◌, ◌<◌, Bool, List, [], ◌∷◌, length, drop, map, get_or, refl, sym, subst, ◌∙◌, ap, arith}
use Rattle.std.proofs.lemmas.List.{length-drop}
use Rattle.zero_one_rows.specs.declared.program.Row.{Row}
use Rattle.zero_one_rows.specs.Variables.{Voyage}
use Rattle.zero_one_rows.specs.Rows.{whole}
use Rattle.proof_trees.specs.Boxes.{Box}
use Rattle.proof_trees.specs.Multipliers.{Multipliers}
use Rattle.proof_trees.specs.Trees.{Entry, Pending}
use Rattle.certificate.specs.declared.tree.Record.{Record}
use Rattle.certificate.specs.Entries.{same_row, entry_of}
use Rattle.search_core.specs.Journals.{Path, box_after, child}
use Rattle.search_core.specs.Machine.{IsEntry, Divides, IsTrail}
use Rattle.node_work.proofs.Folds.{rest_cons, default_any}

abbrev pub pending : Box → Multipliers Row → Pending Row
pending b ms = record { box = b; multipliers = ms }

module _ (m : Voyage) where
  abbrev pub entries : List Record → List (Entry Row)
  entries rs = map (entry_of m) rs

  -- what a trail says of its first record, at the value of its branch
  abbrev pub Turns : Pending Row → Record → Bool → Path → List Record → Type 0
  Turns q r y path rs =
      IsEntry same_row (whole m) q (entry_of m r) × Divides (whole m) (box_after same_row (whole m) q (entry_of m r)) (entry_of m r).end
      × IsTrail same_row (whole m) (child same_row (whole m) q (entry_of m r) y) path (entries rs)

  module _ (q : Pending Row) (path : Path) (trail : List Record) (k : ℕ) (r : Record) (lt : k < length trail) (is : r ≡ get_or trail k r) where
    first_is : entries (drop k trail) ≡ entry_of m r ∷ entries (drop (k + 1) trail)
    first_is = ap entries (rest_cons trail k r lt is)

    branch_by : (es : List (Entry Row)) (e : Entry Row) (ps : Path) → drop k path ≡ ps → IsTrail same_row (whole m) q ps (e ∷ es) → k < length path
    branch_by es e [] is h = absurd h
    branch_by es e (y ∷ ps) is h = let n : length path - k ≡ suc (length ps) = sym (length-drop k path) ∙ ap (λ (xs : Path). length xs) is in omega arith

    -- the path has a branch for the record
    pub has_branch : IsTrail same_row (whole m) q (drop k path) (entries (drop k trail)) → k < length path
    has_branch h = branch_by (entries (drop (k + 1) trail)) (entry_of m r) (drop k path) refl (subst (λ (es : List (Entry Row)). IsTrail same_row (whole m) q (drop k path) es) first_is h)

    -- at the path's value for the record, which is read with any default
    module _ (d : Bool) (h : IsTrail same_row (whole m) q (drop k path) (entries (drop k trail))) where
      path_is : drop k path ≡ get_or path k d ∷ drop (k + 1) path
      path_is = rest_cons path k (get_or path k d) (has_branch h) (default_any path k d (get_or path k d) (has_branch h))

      pub turns : Turns q r (get_or path k d) (drop (k + 1) path) (drop (k + 1) trail)
      turns = subst (λ (ps : Path). IsTrail same_row (whole m) q ps (entry_of m r ∷ entries (drop (k + 1) trail))) path_is (subst (λ (es : List (Entry Row)). IsTrail same_row (whole m) q (drop k path) es) first_is h)
