-- Where the checker stands in a tree. No public clause cites this module.
use Rattle.std.specs.Prelude.{◌≡◌, ◌≢◌, ℕ, ◌+◌, ◌<◌, ◌≤◌, true, false, All, List, [], ◌∷◌, ◌++◌, length, reverse, Option, Some, None, Result, Ok, Err, ◌⊎◌}
use Rattle.zero_one_rows.specs.declared.program.Row.{Row}
use Rattle.zero_one_rows.specs.Variables.{Voyage, variables}
use Rattle.zero_one_rows.specs.Rows.{whole}
use Rattle.proof_trees.specs.Boxes.{Box, fixed, tightened}
use Rattle.proof_trees.specs.Multipliers.{Multipliers}
use Rattle.proof_trees.specs.Trees.{End, Leaf, Left, Branch, Entry, Pending, begun}
use Rattle.certificate.specs.declared.refusals.BoundNo.{BoundNo}
use Rattle.certificate.specs.declared.refusals.BoundNo.TheVariants.{NoMemory}
use Rattle.bound_checker.specs.declared.walk.Bounds.{Bounds}
use Rattle.partial_plan.specs.Fixing.{Fixes}
use Rattle.bound_checker.specs.declared.walk.Frame.{Frame}
use Rattle.bound_checker.specs.declared.walk.Walk.{Walk}
use Rattle.bound_checker.specs.Faults.{step_fault, raised_rows, end_fault, tree_fault}
use Rattle.bound_checker.specs.Sums.{Carries, CarriesSome}
use Rattle.bound_checker.specs.Waits.{IsSound, AllWait}

-- the dual value that is kept is that of the box in hand
pub record IsPriced (m : Voyage) (w : Walk) : Type 0 where
  pub same : w.priced ≡ w.b
  pub carries : CarriesSome m w.b w.prices.sums

-- this box comes into hand, with the variables that were fixed and the frames; multipliers and their changes stay
pub record Goes (m : Voyage) (w : Walk) (b : Box) (undo : List ℕ) (frames : List Frame) (v : Walk) : Type 0 where
  pub box : v.b ≡ b
  pub fixes : v.undo ≡ undo
  pub waiting : v.frames.items ≡ frames
  pub priced : v.priced ≡ v.b
  pub carries : (ms : Multipliers Row) → Carries m w.b ms w.prices.sums → Carries m v.b ms v.prices.sums
  pub changes : v.prices.changes ≡ w.prices.changes
  pub done : v.done ≡ w.done

-- the box in hand is tightened
pub record Tightens (m : Voyage) (w : Walk) (steps : List Row) (v : Walk) : Type 0 where
  pub fixed : List ℕ
  pub fixes : Fixes w.b v.b fixed
  pub goes : Goes m w (tightened (whole m) w.b steps) (w.undo ++ fixed) w.frames.items v

-- what leads back to the half of value 0
abbrev pub frame_of : Walk → ℕ → Frame
frame_of w x = record { var = x; mark = length w.undo; changes = length w.prices.changes.items; aside = None }

-- this box is in hand, and these wait, with these frames
pub record StandsWith (m : Voyage) (w : Walk) (frames : List Frame) (q : Pending Row) (qs : List (Pending Row)) : Type 0 where
  pub in_hand : w.done ≡ false
  pub box : q.box ≡ w.b
  pub len : length w.b ≡ length (variables m)
  pub inside : All (λ v. v < length w.b) w.undo
  pub priced : w.priced ≡ w.b
  pub carries : Carries m w.b q.multipliers w.prices.sums
  pub sound : All (IsSound m) w.prices.changes.items
  pub waits : AllWait m w.b w.undo q.multipliers w.prices.changes.items (reverse frames) qs

abbrev pub StandsSomeWith : Voyage → Walk → List Frame → Type 0
StandsSomeWith m w frames = (q : Pending Row) × (qs : List (Pending Row)) × StandsWith m w frames q qs

abbrev pub Stands : Voyage → Walk → Pending Row → List (Pending Row) → Type 0
Stands m w q qs = StandsWith m w w.frames.items q qs

abbrev pub StandsSome : Voyage → Walk → Type 0
StandsSome m w = StandsSomeWith m w w.frames.items

-- the same, where no row has a multiplier
abbrev pub without : Pending Row → Pending Row
without q = record { box = q.box; multipliers = [] }

-- these boxes are to be proved still, the one in hand first
abbrev pub IsAt : Voyage → Walk → List (Pending Row) → Type 0
IsAt m w [] = w.done ≡ true
IsAt m w (q ∷ qs) = Stands m w q qs

abbrev pub IsSomewhere : Voyage → Walk → Type 0
IsSomewhere m w = (qs : List (Pending Row)) × IsAt m w qs

module _ (m : Voyage) (node : ℕ) where
  -- the box in hand is tightened and its multipliers raised; or that has a fault
  abbrev pub Opens : Pending Row → List (Pending Row) → Entry Row → Result (Unit {0}) BoundNo → Walk → Type 0
  Opens q qs e (Ok u) w =
      (step_fault (whole m) node e.steps ≡ None) × ((ms : Multipliers Row) × (raised_rows (whole m) node (Ok (begun e.from_zero q.multipliers)) e.raises ≡ Ok ms)
      × Stands m w (record { box = tightened (whole m) q.box e.steps; multipliers = ms }) qs)
  Opens q qs e (Err f) w = f ≢ NoMemory → (step_fault (whole m) node e.steps ≡ Some f)
      ⊎ ((step_fault (whole m) node e.steps ≡ None) × (raised_rows (whole m) node (Ok (begun e.from_zero q.multipliers)) e.raises ≡ Err f))

-- of the bounds up to `high`, those up to `best` pass and the others don't; `low` passes
pub record Narrows (low high best : ℕ) (Passes Fails : ℕ → Type 0) : Type 0 where
  pub from : low ≤ best
  pub to : best ≤ high
  pub passes : (bound : ℕ) → bound ≤ best → Passes bound
  pub fails : (bound : ℕ) → best < bound → bound ≤ high → Fails bound

-- what is to be proved still where a record has this end, and these boxes wait
abbrev pub behind_end : List (Pending Row) → Pending Row → End → List (Pending Row)
behind_end waiting q Leaf = waiting
behind_end waiting q Left = waiting
behind_end waiting q (Branch v) = record { box = fixed q.box v true; multipliers = q.multipliers } ∷ record { box = fixed q.box v false; multipliers = q.multipliers } ∷ waiting

-- what is to be proved still behind a record, whose raises bring no multiplier out of its range
abbrev pub IsBehind : Voyage → ℕ → List (Pending Row) → Entry Row → List (Pending Row) → Type 0
IsBehind m node [] e rest = ⊥
IsBehind m node (q ∷ waiting) e rest = (ms : Multipliers Row) × (raised_rows (whole m) node (Ok (begun e.from_zero q.multipliers)) e.raises ≡ Ok ms) × (rest ≡ behind_end waiting (record { box = tightened (whole m) q.box e.steps; multipliers = ms }) e.end)

module _ (m : Voyage) (bounds : Bounds) (node : ℕ) where
  -- a record's end is taken, or has a fault
  abbrev pub Closes : Pending Row → List (Pending Row) → End → Result ℕ BoundNo → Walk → Type 0
  Closes q qs end (Ok best) w = (rest : List (Pending Row)) × IsAt m w rest × Narrows bounds.low bounds.high best
      (λ bound. (R : List (Pending Row) → Option BoundNo) → end_fault (whole m) bound R node qs q.box (Ok q.multipliers) end ≡ R rest)
      (λ bound. (R : List (Pending Row) → Option BoundNo) → end_fault (whole m) bound R node qs q.box (Ok q.multipliers) end ≢ None)
      × (rest ≡ behind_end qs q end)
  Closes q qs end (Err f) w = f ≢ NoMemory → (R : List (Pending Row) → Option BoundNo) → end_fault (whole m) bounds.low R node qs q.box (Ok q.multipliers) end ≡ Some f

  -- a record is taken, or has a fault
  abbrev pub Takes : List (Pending Row) → Entry Row → Result ℕ BoundNo → Walk → Type 0
  Takes qs e (Ok best) w = (rest : List (Pending Row)) × IsAt m w rest × Narrows bounds.low bounds.high best
      (λ bound. (es : List (Entry Row)) → tree_fault (whole m) bound node qs (e ∷ es) ≡ tree_fault (whole m) bound (node + 1) rest es)
      (λ bound. (es : List (Entry Row)) → tree_fault (whole m) bound node qs (e ∷ es) ≢ None)
      × IsBehind m node qs e rest
  Takes qs e (Err f) w = f ≢ NoMemory → (es : List (Entry Row)) → tree_fault (whole m) bounds.low node qs (e ∷ es) ≡ Some f
