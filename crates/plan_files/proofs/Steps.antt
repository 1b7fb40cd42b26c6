-- Groups read one after the other, and containers looked through one after the other.
use Rattle.std.proofs.Common.{◌≡◌, ℕ, zero, suc, ◌+◌, ◌<◌, ◌≤◌, Bool, true, false, cond, List, ◌∷◌, length, get_or, drop, drop-cons, Some, None, Result, Ok, Err, refl, sym, ap, ◌∙◌, arith}
use Rattle.std.specs.Prelude.{find}
use Rattle.std.specs.List.{range_with_len}
use Rattle.std.proofs.lemmas.List.{drop_all}
use Rattle.stow_data.specs.Ship.{Ship}
use Rattle.stow_data.specs.Shipment.{Cargo}
use Rattle.stow_data.specs.Plans.{container_at}
use Rattle.baplie.specs.declared.parts.CellGroup.{CellGroup}
use Rattle.baplie.specs.declared.parts.Facts.{Facts}
use Rattle.plan_files.specs.declared.file_faults.FileNo.{FileNo}
use Rattle.plan_files.specs.declared.file_faults.FileNo.TheVariants.{MissingContainer}
use Rattle.plan_files.specs.declared.standing.Spot.{Spot}
use Rattle.plan_files.specs.declared.standing.Standing.{Standing}
use Rattle.plan_files.specs.PlanOf.{first_missing, plan_of, spotted, standing, with_facts, with_groups, with_spot}

front_group : (gs : List CellGroup) (i : ℕ) (g : CellGroup) → i < length gs → g ≡ get_or gs i g → drop i gs ≡ g ∷ drop (i + 1) gs
front_group gs i g l is =
    let s : suc i ≡ i + 1 = omega arith in
    drop-cons gs i g l ∙ (ap (λ (z : CellGroup). z ∷ drop (suc i) gs) (sym is) ∙ ap (λ (k : ℕ). g ∷ drop k gs) s)

module _ (ship : Ship) (cargo : Cargo) (call : ℕ) where
  pub goes_on : (gs : List CellGroup) (i : ℕ) (g : CellGroup) (before after : Standing) (total : Result Standing FileNo) → i < length gs → g ≡ get_or gs i g → with_facts ship cargo call before i g g.facts ≡ Ok after → with_groups ship cargo call before i (drop i gs) ≡ total → with_groups ship cargo call after (i + 1) (drop (i + 1) gs) ≡ total
  unfolding with_groups
  goes_on gs i g before after total l is h so_far =
      let one : with_groups ship cargo call before i (drop i gs) ≡ with_groups ship cargo call after (i + 1) (drop (i + 1) gs) = rw (front_group gs i g l is, h) refl in
      sym one ∙ so_far

  pub stops : (gs : List CellGroup) (i : ℕ) (g : CellGroup) (before : Standing) (e : FileNo) (total : Result Standing FileNo) → i < length gs → g ≡ get_or gs i g → with_facts ship cargo call before i g g.facts ≡ Err e → with_groups ship cargo call before i (drop i gs) ≡ total → total ≡ Err e
  unfolding with_groups
  stops gs i g before e total l is h so_far =
      let one : with_groups ship cargo call before i (drop i gs) ≡ Err e = rw (front_group gs i g l is, h) refl in
      sym so_far ∙ one

  pub is_told : (gs : List CellGroup) (i : ℕ) (before : Standing) (total : Result Standing FileNo) → length gs ≤ i → with_groups ship cargo call before i (drop i gs) ≡ total → total ≡ Ok before
  unfolding with_groups
  is_told gs i before total l so_far =
      let one : with_groups ship cargo call before i (drop i gs) ≡ Ok before = rw (drop_all i gs l) refl in
      sym so_far ∙ one

  pub added : (before : Standing) (i : ℕ) (g : CellGroup) (f : Facts) (s : Spot) → spotted ship cargo call before i g f ≡ Ok s → with_facts ship cargo call before i g (Some f) ≡ Ok (with_spot before s)
  added before i g f s h = rw h refl

  pub refused : (before : Standing) (i : ℕ) (g : CellGroup) (f : Facts) (e : FileNo) → spotted ship cargo call before i g f ≡ Err e → with_facts ship cargo call before i g (Some f) ≡ Err e
  refused before i g f e h = rw h refl

-- a container is missing
pub missing_told : (ship : Ship) (cargo : Cargo) (call : ℕ) (groups : List CellGroup) (s : Standing) (n : ℕ) → standing ship cargo call groups ≡ Ok s → first_missing cargo call s.placed ≡ Some n → plan_of ship cargo call groups ≡ Err (MissingContainer (container_at cargo n).id)
unfolding plan_of
missing_told ship cargo call groups s n h k = rw (h, k) refl

-- ## The first number of a range that passes a test

pub found_in : (t : ℕ → Bool) (a n k : ℕ) → k < n → ((j : ℕ) → j < k → t (a + j) ≡ false) → t (a + k) ≡ true → find t (range_with_len a n) ≡ Some (a + k)
found_in t a zero k l before here = absurd (omega arith)
found_in t a (suc n) zero l before here =
    let z : a + 0 ≡ a = omega arith in
    let now : t a ≡ true = ap t (sym z) ∙ here in
    ap (λ (b : Bool). cond b (Some a) (find t (range_with_len (a + 1) n))) now ∙ ap (λ (m : ℕ). Some m) (sym z)
found_in t a (suc n) (suc k) l before here =
    let z : a + 0 ≡ a = omega arith in
    let no : t a ≡ false = ap t (sym z) ∙ before 0 (omega arith) in
    let next : a + 1 + k ≡ a + suc k = omega arith in
    ap (λ (b : Bool). cond b (Some a) (find t (range_with_len (a + 1) n))) no
    ∙ (found_in t (a + 1) n k (omega arith) (λ j m. let e : a + 1 + j ≡ a + suc j = omega arith in ap t e ∙ before (suc j) (omega arith)) (ap t next ∙ here) ∙ ap (λ (m : ℕ). Some m) next)

pub none_in : (t : ℕ → Bool) (a n : ℕ) → ((j : ℕ) → j < n → t (a + j) ≡ false) → find t (range_with_len a n) ≡ None
none_in t a zero h = refl
none_in t a (suc n) h =
    let z : a + 0 ≡ a = omega arith in
    let no : t a ≡ false = ap t (sym z) ∙ h 0 (omega arith) in
    ap (λ (b : Bool). cond b (Some a) (find t (range_with_len (a + 1) n))) no ∙ none_in t (a + 1) n (λ j m. let e : a + 1 + j ≡ a + suc j = omega arith in ap t e ∙ h (suc j) (omega arith))
