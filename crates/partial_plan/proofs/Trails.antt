-- What was fixed, and where the box was quiet.
use Rattle.std.proofs.Common.{◌≡◌, ◌≢◌, ℕ, zero, suc, ◌+◌, ◌<◌, ◌≤◌, ◌⊎◌, inl, inr, Bool, true, false, All, List, [], ◌∷◌, ◌++◌, Some, None, length, length-append, set, get_or, take, drop, replicate, Vec, arith, refl, sym, ◌∙◌, ap, subst}
use Rattle.std.specs.Prelude.{vec_capacity}
use Rattle.std.specs.Global.{Global}
use Rattle.std.proofs.lemmas.List.{drop-append-le, get_or-set_same, get_or-set_other, length-set, length-replicate, get_or-replicate}
use Rattle.std.proofs.lemmas.List.Elements.{All-append, All-cons, All-nil}
use Rattle.proof_trees.specs.Boxes.{Box, at, fixed}
use Rattle.zero_one_rows.specs.Variables.{Voyage}
use Rattle.partial_plan.specs.Fixing.{freed, free_in, released}
use Rattle.zero_one_rows.specs.Tightening.{IsQuiet}
use Rattle.row_matrix.proofs.Summing.{same_or_other}
use Rattle.partial_plan.proofs.Freeing.{fixed_back, freed_more, release_one}
use Rattle.partial_plan.specs.declared.state.PropagationState.{PropagationState}
use Rattle.partial_plan.specs.PropagationState.{Trails}

-- ## How many variables are free

pub free_fixed : (b : Box) (v : ℕ) (y : Bool) → v < length b → at b v ≡ None → free_in (set b v (Some y)) + 1 ≡ free_in b
free_fixed [] v y lt e = absurd (omega arith)
free_fixed (None ∷ b) zero y lt e = refl
free_fixed (Some z ∷ b) zero y lt e = let k : Some z ≡ None = e in cc
free_fixed (None ∷ b) (suc v) y lt e = omega (arith, free_fixed b v y (omega arith) e)
free_fixed (Some z ∷ b) (suc v) y lt e = free_fixed b v y (omega arith) e

pub free_freed : (b : Box) (v : ℕ) → free_in (set b v None) ≤ free_in b + 1
free_freed [] v = omega arith
free_freed (None ∷ b) zero = omega arith
free_freed (Some z ∷ b) zero = omega arith
free_freed (None ∷ b) (suc v) = omega (arith, free_freed b v)
free_freed (Some z ∷ b) (suc v) = free_freed b v

pub free_most : (b : Box) → free_in b ≤ length b
free_most [] = omega arith
free_most (None ∷ b) = omega (arith, free_most b)
free_most (Some z ∷ b) = omega (arith, free_most b)

-- ## One more variable is fixed

released_fixed : (b : Box) (undo undo' : List ℕ) (v j : ℕ) (y : Bool) → at b v ≡ None → undo' ≡ undo ++ v ∷ [] → j ≤ length undo → released (fixed b v y) undo' j ≡ released b undo j
released_fixed b undo undo' v j y free e le =
    ap (λ (xs : List ℕ). freed (fixed b v y) (drop j xs)) e
    ∙ ap (freed (fixed b v y)) (drop-append-le j undo (v ∷ []) le)
    ∙ freed_more (released b undo j) b (fixed b v y) (drop j undo) (v ∷ []) refl (fixed_back b v y free)

pub push_length : (undo undo' : List ℕ) (v : ℕ) → undo' ≡ undo ++ v ∷ [] → length undo' ≡ length undo + 1
push_length undo undo' v e = ap (λ (xs : List ℕ). length xs) e ∙ length-append undo (v ∷ [])

pub trails_fixed : (m : Voyage) (d e : PropagationState) (v : ℕ) (y : Bool) → Trails m d → v < length d.b → at d.b v ≡ None → e.b ≡ fixed d.b v y → e.undo.items ≡ d.undo.items ++ v ∷ [] → vec_capacity d.undo ≤ vec_capacity e.undo
    → (i : ℕ) → i ≡ length e.undo.items → e.quiet.items ≡ set d.quiet.items i false → Trails m e
trails_fixed m d e v y h lt free box undo cap i i_is quiet_at =
    let quiet : e.quiet.items ≡ set d.quiet.items (length e.undo.items) false = quiet_at ∙ ap (λ (j : ℕ). set d.quiet.items j false) i_is in
    let len : length e.b ≡ length d.b = ap (λ (b : Box). length b) box ∙ length-set d.b v (Some y) in
    let n : length e.undo.items ≡ length d.undo.items + 1 = push_length d.undo.items e.undo.items v undo in
    let f : free_in e.b + 1 ≡ free_in d.b = ap (λ (b : Box). free_in b + 1) box ∙ free_fixed d.b v y lt free in
    let r : length d.undo.items + free_in d.b ≤ length d.b = h.room in
    let c : length d.b ≤ vec_capacity d.undo = h.capacity in
    let q : length e.quiet.items ≡ length d.quiet.items = ap (λ (xs : List Bool). length xs) quiet ∙ length-set d.quiet.items (length e.undo.items) false in
    let qq : length d.quiet.items ≡ length d.b + 1 = h.marks in
    record {
      inside = subst (λ (k : ℕ). All (λ w. w < k) e.undo.items) (sym len) (subst (λ (xs : List ℕ). All (λ w. w < length d.b) xs) (sym undo) (All-append (λ w. w < length d.b) d.undo.items (v ∷ []) h.inside (All-cons (λ w. w < length d.b) v [] lt (All-nil (λ w. w < length d.b)))));
      room = omega arith;
      capacity = omega arith;
      marks = omega arith;
      quiet = λ j le is. by j le is (same_or_other j (length e.undo.items));
    }
  where
    quiet' : e.quiet.items ≡ set d.quiet.items (length e.undo.items) false
    quiet' = quiet_at ∙ ap (λ (j : ℕ). set d.quiet.items j false) i_is

    not_marked : (j : ℕ) → j ≡ length e.undo.items → get_or e.quiet.items j false ≡ true → length e.undo.items < length d.quiet.items → ⊥
    not_marked j same is lt' =
        let k : get_or e.quiet.items j false ≡ false = ap (λ (i : ℕ). get_or e.quiet.items i false) same ∙ ap (λ (xs : List Bool). get_or xs (length e.undo.items) false) quiet' ∙ get_or-set_same d.quiet.items (length e.undo.items) false false lt' in
        let c : true ≡ false = sym is ∙ k in
        cc

    by : (j : ℕ) → j ≤ length e.undo.items → get_or e.quiet.items j false ≡ true → (j ≡ length e.undo.items) ⊎ (j ≢ length e.undo.items) → IsQuiet m (released e.b e.undo.items j)
    by j le is (inl same) = absurd (not_marked j same is (let n : length e.undo.items ≡ length d.undo.items + 1 = push_length d.undo.items e.undo.items v undo in let r : length d.undo.items + free_in d.b ≤ length d.b = h.room in let qq : length d.quiet.items ≡ length d.b + 1 = h.marks in let f : free_in (set d.b v (Some y)) + 1 ≡ free_in d.b = free_fixed d.b v y lt free in omega arith))
    by j le is (inr other) =
        let n : length e.undo.items ≡ length d.undo.items + 1 = push_length d.undo.items e.undo.items v undo in
        let l : j ≤ length d.undo.items = omega arith in
        let o : get_or d.quiet.items j false ≡ true = sym (get_or-set_other d.quiet.items (length e.undo.items) j false false other) ∙ sym (ap (λ (xs : List Bool). get_or xs j false) quiet') ∙ is in
        subst (λ (b : Box). IsQuiet m b) (sym (ap (λ (b : Box). released b e.undo.items j) box ∙ released_fixed d.b d.undo.items e.undo.items v j y free undo l)) (h.quiet j l o)

-- there is room for one more
pub room_left : (m : Voyage) (d : PropagationState) (v : ℕ) → Trails m d → v < length d.b → at d.b v ≡ None → length d.undo.items < vec_capacity d.undo
room_left m d v h lt free =
    let f : free_in (set d.b v (Some true)) + 1 ≡ free_in d.b = free_fixed d.b v true lt free in
    let r : length d.undo.items + free_in d.b ≤ length d.b = h.room in
    let c : length d.b ≤ vec_capacity d.undo = h.capacity in
    omega arith

-- ## The last variable is freed

pub trails_freed : (m : Voyage) (d e : PropagationState) (v : ℕ) → Trails m d → d.undo.items ≡ e.undo.items ++ v ∷ [] → vec_capacity e.undo ≡ vec_capacity d.undo → e.b ≡ set d.b v None → e.quiet ≡ d.quiet → Trails m e
trails_freed m d e v h undo cap box quiet =
    let len : length e.b ≡ length d.b = ap (λ (b : Box). length b) box ∙ length-set d.b v None in
    let n : length d.undo.items ≡ length e.undo.items + 1 = push_length e.undo.items d.undo.items v undo in
    let f : free_in e.b ≤ free_in d.b + 1 = subst (λ (k : ℕ). k ≤ free_in d.b + 1) (sym (ap free_in box)) (free_freed d.b v) in
    let r : length d.undo.items + free_in d.b ≤ length d.b = h.room in
    let c : length d.b ≤ vec_capacity d.undo = h.capacity in
    let q : length e.quiet.items ≡ length d.quiet.items = ap (λ (x : Vec Bool Global). length x.items) quiet in
    let qq : length d.quiet.items ≡ length d.b + 1 = h.marks in
    record {
      inside = λ i w lt.
          let i_lt : i < length d.undo.items = omega arith in
          let g : get_or d.undo.items i w ≡ get_or e.undo.items i w = ap (λ (xs : List ℕ). get_or xs i w) undo ∙ before e.undo.items (v ∷ []) i w lt in
          let k : get_or d.undo.items i w < length d.b = h.inside i w i_lt in
          omega arith;
      room = omega arith;
      capacity = omega arith;
      marks = omega arith;
      quiet = λ j le is.
          let l : j ≤ length d.undo.items = omega arith in
          let o : get_or d.quiet.items j false ≡ true = sym (ap (λ (x : Vec Bool Global). get_or x.items j false) quiet) ∙ is in
          subst (λ (b : Box). IsQuiet m b) (sym (ap (λ (b : Box). released b e.undo.items j) box ∙ release_one d.b (released d.b d.undo.items j) d.undo.items e.undo.items v j undo le refl)) (h.quiet j l o);
    }
  where
    before : (xs ys : List ℕ) (i d : ℕ) → i < length xs → get_or (xs ++ ys) i d ≡ get_or xs i d
    before [] ys i d lt = absurd (omega arith)
    before (x ∷ xs) ys zero d lt = refl
    before (x ∷ xs) ys (suc i) d lt = before xs ys i d (omega arith)

-- the last one is of the box
pub last_inside : (m : Voyage) (d : PropagationState) (vs : List ℕ) (v : ℕ) → Trails m d → d.undo.items ≡ vs ++ v ∷ [] → v < length d.b
last_inside m d vs v h undo =
    let n : length d.undo.items ≡ length vs + 1 = push_length vs d.undo.items v undo in
    let k : get_or d.undo.items (length vs) v < length d.b = h.inside (length vs) v (omega arith) in
    let g : get_or d.undo.items (length vs) v ≡ v = ap (λ (xs : List ℕ). get_or xs (length vs) v) undo ∙ seam vs in
    subst (λ (w : ℕ). w < length d.b) g k
  where
    seam : (xs : List ℕ) → get_or (xs ++ v ∷ []) (length xs) v ≡ v
    seam [] = refl
    seam (x ∷ xs) = seam xs

-- ## The box is quiet

drop_all : (xs : List ℕ) → drop (length xs) xs ≡ []
drop_all [] = refl
drop_all (x ∷ xs) = drop_all xs

pub released_all : (b : Box) (undo : List ℕ) (j : ℕ) → j ≡ length undo → released b undo j ≡ b
released_all b undo j e = ap (λ (i : ℕ). freed b (drop i undo)) e ∙ ap (freed b) (drop_all undo)

pub trails_settled : (m : Voyage) (d e : PropagationState) → Trails m d → IsQuiet m d.b → e.b ≡ d.b → e.undo ≡ d.undo → (i : ℕ) → i ≡ length d.undo.items → e.quiet.items ≡ set d.quiet.items i true → Trails m e
trails_settled m d e h here box undo i i_is quiet_at =
    let quiet : e.quiet.items ≡ set d.quiet.items (length d.undo.items) true = quiet_at ∙ ap (λ (j : ℕ). set d.quiet.items j true) i_is in
    let items : e.undo.items ≡ d.undo.items = ap (λ (x : Vec ℕ Global). x.items) undo in
    record {
      inside = subst (λ (b : Box). All (λ w. w < length b) e.undo.items) (sym box) (subst (λ (xs : List ℕ). All (λ w. w < length d.b) xs) (sym items) h.inside);
      room = subst (λ (b : Box). length e.undo.items + free_in b ≤ length b) (sym box) (subst (λ (xs : List ℕ). length xs + free_in d.b ≤ length d.b) (sym items) h.room);
      capacity = subst (λ (b : Box). length b ≤ vec_capacity e.undo) (sym box) (subst (λ (x : Vec ℕ Global). length d.b ≤ vec_capacity x) (sym undo) h.capacity);
      marks = ap (λ (xs : List Bool). length xs) quiet ∙ length-set d.quiet.items (length d.undo.items) true ∙ h.marks ∙ sym (ap (λ (b : Box). length b + 1) box);
      quiet = λ j le is. by j (subst (λ (xs : List ℕ). j ≤ length xs) items le) is (same_or_other j (length d.undo.items));
    }
  where
    quiet' : e.quiet.items ≡ set d.quiet.items (length d.undo.items) true
    quiet' = quiet_at ∙ ap (λ (j : ℕ). set d.quiet.items j true) i_is

    goes : (j : ℕ) → released e.b e.undo.items j ≡ released d.b d.undo.items j
    goes j = ap (λ (b : Box). released b e.undo.items j) box ∙ ap (λ (x : Vec ℕ Global). released d.b x.items j) undo

    by : (j : ℕ) → j ≤ length d.undo.items → get_or e.quiet.items j false ≡ true → (j ≡ length d.undo.items) ⊎ (j ≢ length d.undo.items) → IsQuiet m (released e.b e.undo.items j)
    by j le is (inl same) = subst (λ (b : Box). IsQuiet m b) (sym (goes j ∙ released_all d.b d.undo.items j same)) here
    by j le is (inr other) =
        let o : get_or d.quiet.items j false ≡ true = sym (get_or-set_other d.quiet.items (length d.undo.items) j true false other) ∙ sym (ap (λ (xs : List Bool). get_or xs j false) quiet') ∙ is in
        subst (λ (b : Box). IsQuiet m b) (sym (goes j)) (h.quiet j le o)

-- ## Nothing was fixed

pub trails_free : (m : Voyage) (d : PropagationState) (n : ℕ) → length d.b ≡ n → d.undo.items ≡ [] → n ≤ vec_capacity d.undo → d.quiet.items ≡ replicate (n + 1) false → Trails m d
trails_free m d n len undo cap quiet =
    let none : length d.undo.items ≡ 0 = ap (λ (xs : List ℕ). length xs) undo in
    record {
      inside = subst (λ (xs : List ℕ). All (λ w. w < length d.b) xs) (sym undo) (All-nil (λ w. w < length d.b));
      room = omega (arith, free_most d.b);
      capacity = omega arith;
      marks = ap (λ (xs : List Bool). length xs) quiet ∙ length-replicate (n + 1) false ∙ ap (λ (k : ℕ). k + 1) (sym len);
      quiet = λ j le is.
          let k : get_or d.quiet.items j false ≡ false = ap (λ (xs : List Bool). get_or xs j false) quiet ∙ get_or-replicate (n + 1) j false false (omega arith) in
          let c : true ≡ false = sym is ∙ k in
          cc;
    }

pub take_length : (xs ys : List ℕ) (n : ℕ) → n ≤ length xs → ys ≡ take n xs → n ≡ length ys
take_length xs ys n le e = by xs n le ∙ sym (ap (λ (zs : List ℕ). length zs) e)
  where
    by : (zs : List ℕ) (k : ℕ) → k ≤ length zs → k ≡ length (take k zs)
    by zs zero le = refl
    by [] (suc k) le = absurd (omega arith)
    by (z ∷ zs) (suc k) le = ap suc (by zs k (omega arith))
