-- Which variables touch a row.
use Rattle.std.proofs.Common.{◌≡◌, ◌≢◌, ℕ, zero, suc, ◌<◌, Bool, true, false, ◌&&◌, ◌==◌, List, [], ◌∷◌, ◌++◌, arith, refl, sym, ◌∙◌, ap, subst, length, ◌⊎◌, inl, inr, ⊎_elim}
use Rattle.std.specs.Prelude.{slice_index_or, map, pos, ◌-ℤ◌, All, Contains}
use Rattle.std.specs.List.{range_with_len}
use Rattle.std.proofs.lemmas.Bool.{ne_eqb, eqb-true, eq-eqb, cases_eq}
use Rattle.std.proofs.lemmas.List.{length-map, append-nil}
use Rattle.stow_data.specs.declared.geometry.Place.{Place}
use Rattle.stow_data.specs.declared.geometry.Half.{Half}
use Rattle.stow_data.proofs.Members.{Member, member_left, member_right, member_split, range_at, range_from}
use Rattle.stow_data.proofs.Distinct.{Each}
use Rattle.zero_one_rows.specs.declared.program.Var.{Var}
use Rattle.zero_one_rows.specs.declared.program.Row.{Row}
use Rattle.zero_one_rows.specs.declared.program.Row.TheVariants.{Flow, Start, Cell, Support, Twenty, Block, Hatch, Weight, Apart}
use Rattle.zero_one_rows.specs.Variables.{Voyage, place, kind, variables, var, no_var}
use Rattle.zero_one_rows.specs.Rows.{half, covers, below, above, bit, turned, coef, is_twenty}
use Rattle.zero_one_rows.proofs.VariableList.{filter_at, filter_from, get_member, member_get}
use Rattle.zero_one_rows.specs.Grouping.{with_key, IsGrouped}
use Rattle.zero_one_model.specs.Indexed.{Touches, IsCandidates, other_of}
use Rattle.zero_one_rows.proofs.Rising.{Rising, rising_append, rising_filter, rising_range, rising_get}
use Rattle.zero_one_model.proofs.Sized.{first_true, second_true}

pub get_any : {X : Type 0} (xs : List X) (k : ℕ) (d e : X) → k < length xs → slice_index_or xs k d ≡ slice_index_or xs k e
get_any [] k d e l = absurd (omega arith)
get_any (x ∷ xs) zero d e l = refl
get_any (x ∷ xs) (suc k) d e l = get_any xs k d e (omega arith)

pub get_mapped_or : {X Y : Type 0} (f : X → Y) (xs : List X) (k : ℕ) (d : X) (e : Y) → k < length xs → slice_index_or (map f xs) k e ≡ f (slice_index_or xs k d)
get_mapped_or f [] k d e l = absurd (omega arith)
get_mapped_or f (x ∷ xs) zero d e l = refl
get_mapped_or f (x ∷ xs) (suc k) d e l = get_mapped_or f xs k d e (omega arith)

-- the members of a group
pub group_at : {X : Type 0} (f : X → ℕ) (xs : List X) (d : X) (n k v : ℕ) (groups : List (List ℕ)) → IsGrouped (map f xs) n groups → k < n → Member v (slice_index_or groups k []) → (v < length xs) × (f (slice_index_or xs v d) ≡ k)
group_at f xs d n k v groups g l h =
    let at : Member v (with_key (map f xs) k) = subst (λ (ys : List ℕ). Member v ys) (g.of k l) h in
    let r = filter_at (λ v. slice_index_or (map f xs) v 0 == k) (range_with_len 0 (length (map f xs))) v at in
    let q = range_at 0 (length (map f xs)) v r.0 in
    let long : length (map f xs) ≡ length xs = length-map xs f in
    let low : v < length xs = omega (arith, q.1, long) in
    (low, sym (get_mapped_or f xs v d 0 low) ∙ eqb-true (slice_index_or (map f xs) v 0) k r.1)

pub group_from : {X : Type 0} (f : X → ℕ) (xs : List X) (d : X) (n k v : ℕ) (groups : List (List ℕ)) → IsGrouped (map f xs) n groups → k < n → v < length xs → f (slice_index_or xs v d) ≡ k → Member v (slice_index_or groups k [])
group_from f xs d n k v groups g l low e =
    let long : length (map f xs) ≡ length xs = length-map xs f in
    subst (λ (ys : List ℕ). Member v ys) (sym (g.of k l)) (filter_from (λ v. slice_index_or (map f xs) v 0 == k) (range_with_len 0 (length (map f xs))) v (range_from 0 (length (map f xs)) v (omega arith) (omega (arith, low, long)))
    (eq-eqb (slice_index_or (map f xs) v 0) k (get_mapped_or f xs v d 0 low ∙ e)))

pub group_rises : (keys : List ℕ) (n k : ℕ) (groups : List (List ℕ)) → IsGrouped keys n groups → k < n → Rising (λ (x y : ℕ). x < y) (slice_index_or groups k [])
group_rises keys n k groups g l = subst (λ (ys : List ℕ). Rising (λ (x y : ℕ). x < y) ys) (sym (g.of k l)) (rising_filter (λ (x y : ℕ). x < y) (λ v. slice_index_or keys v 0 == k) (range_with_len 0 (length keys)) (rising_range 0 (length keys)))

pub rising_weaker : {X : Type 0} (R S : X → X → Type 0) (xs : List X) → ((x y : X) → R x y → S x y) → Rising R xs → Rising S xs
rising_weaker R S [] h r = tt
rising_weaker R S (x ∷ xs) h r = (each_weaker (R x) (S x) xs (λ y. h x y) r.0, rising_weaker R S xs h r.1)
  where
    each_weaker : {X : Type 0} (P Q : X → Type 0) (xs : List X) → ((x : X) → P x → Q x) → Each P xs → Each Q xs
    each_weaker P Q [] h e = tt
    each_weaker P Q (x ∷ xs) h e = (h x e.0, each_weaker P Q xs h e.1)

pub contains_from : {X : Type 0} (xs : List X) (x : X) → Member x xs → Contains xs x
contains_from xs x h = member_get xs x x h

pub contains_at : {X : Type 0} (xs : List X) (x : X) → Contains xs x → Member x xs
contains_at xs x h = subst (λ y. Member y xs) h.2 (get_member xs h.0 x h.1)

all_from : {X : Type 0} (P : X → Type 0) (xs : List X) → ((x : X) → Member x xs → P x) → All P xs
all_from P xs h k d l = h (slice_index_or xs k d) (get_member xs k d l)

different : (x y : ℕ) → x < y → x ≢ y
different x y l e = omega (arith, l, e)

-- the variables of one key, and of two keys
module _ (m : Voyage) (r : Row) (f : Var → ℕ) (n : ℕ) (groups : List (List ℕ)) (g : IsGrouped (map f (variables m)) n groups) where
  apart_keys : (j k : ℕ) → j < n → k < n → j ≢ k → ((v : ℕ) → Touches m r v → (f (var m v) ≡ j) ⊎ (f (var m v) ≡ k)) → IsCandidates m r (slice_index_or groups j [] ++ slice_index_or groups k [])
  apart_keys j k lj lk ne near = record {
    inside = all_from (λ (v : ℕ). v < length (variables m)) (slice_index_or groups j [] ++ slice_index_or groups k []) (λ v h. ⊎_elim
        (λ (a : Member v (slice_index_or groups j [])). (group_at f (variables m) no_var n j v groups g lj a).0)
        (λ (b : Member v (slice_index_or groups k [])). (group_at f (variables m) no_var n k v groups g lk b).0)
        (member_split v (slice_index_or groups j []) (slice_index_or groups k []) h));
    each = λ v t. contains_from _ v (⊎_elim
        (λ (e : f (var m v) ≡ j). member_left v (slice_index_or groups j []) (slice_index_or groups k []) (group_from f (variables m) no_var n j v groups g lj t.inside e))
        (λ (e : f (var m v) ≡ k). member_right v (slice_index_or groups j []) (slice_index_or groups k []) (group_from f (variables m) no_var n k v groups g lk t.inside e))
        (near v t));
    once = λ a b d l q. rising_get (λ (x y : ℕ). x ≢ y) (slice_index_or groups j [] ++ slice_index_or groups k []) a b d
        (rising_append (λ (x y : ℕ). x ≢ y) (slice_index_or groups j []) (slice_index_or groups k [])
        (rising_weaker (λ (x y : ℕ). x < y) (λ (x y : ℕ). x ≢ y) (slice_index_or groups j []) different (group_rises (map f (variables m)) n j groups g lj))
        (rising_weaker (λ (x y : ℕ). x < y) (λ (x y : ℕ). x ≢ y) (slice_index_or groups k []) different (group_rises (map f (variables m)) n k groups g lk))
        (λ x y s t e. ne (sym ((group_at f (variables m) no_var n j x groups g lj s).1) ∙ (ap (λ (z : ℕ). f (var m z)) e ∙ (group_at f (variables m) no_var n k y groups g lk t).1))))
        l q;
  }

  pub one_key : (k : ℕ) → k < n → ((v : ℕ) → Touches m r v → f (var m v) ≡ k) → IsCandidates m r (slice_index_or groups k [] ++ [])
  one_key k lk near = rw (append-nil (slice_index_or groups k [])) (record {
    inside = all_from (λ (v : ℕ). v < length (variables m)) (slice_index_or groups k []) (λ v h. (group_at f (variables m) no_var n k v groups g lk h).0);
    each = λ v t. contains_from _ v (group_from f (variables m) no_var n k v groups g lk t.inside (near v t));
    once = λ a b d l q. rising_get (λ (x y : ℕ). x ≢ y) (slice_index_or groups k []) a b d
        (rising_weaker (λ (x y : ℕ). x < y) (λ (x y : ℕ). x ≢ y) (slice_index_or groups k []) different (group_rises (map f (variables m)) n k groups g lk)) l q;
  })

  pub two_keys : (j k : ℕ) → j < n → k < n → ((v : ℕ) → Touches m r v → (f (var m v) ≡ j) ⊎ (f (var m v) ≡ k)) → IsCandidates m r (slice_index_or groups j [] ++ other_of groups j k)
  two_keys j k lj lk near = ⊎_elim
      (λ (e : k ≡ j). rw (eq-eqb k j e) (one_key j lj (λ v t. ⊎_elim (λ (a : f (var m v) ≡ j). a) (λ (b : f (var m v) ≡ k). b ∙ e) (near v t))))
      (λ (ne : k ≡ j → ⊥). rw (ne_eqb k j ne) (apart_keys j k lj lk (λ q. ne (sym q)) near))
      (cases_eq k j)

-- a coefficient that isn't 0 shows where the variable stands
flow_none : (q : ℕ) (a b : Bool) → turned q (bit (a && false) -ℤ bit (b && false)) ≡ pos 0
flow_none zero true true = refl
flow_none zero true false = refl
flow_none zero false true = refl
flow_none zero false false = refl
flow_none (suc q) true true = refl
flow_none (suc q) true false = refl
flow_none (suc q) false true = refl
flow_none (suc q) false false = refl

pub flow_near : (m : Voyage) (q i g : ℕ) (x : Var) → coef m (Flow q i g) x ≢ pos 0 → x.kind ≡ g
flow_near m q i g x h = ⊎_elim
    (λ (e : x.kind ≡ g). e)
    (λ (ne : x.kind ≡ g → ⊥). absurd (h (rw (ne_eqb x.kind g ne) (flow_none q (x.put == i) (x.lifted == i)))))
    (cases_eq x.kind g)

pub covers_shelf : (p : Place) (h : Half) → covers p h ≡ true → (p.stack ≡ h.stack) × (p.tier ≡ h.tier)
covers_shelf p h e = (eqb-true p.stack h.stack (first_true _ _ e), eqb-true p.tier h.tier (first_true _ _ (second_true _ _ e)))

-- one test or the other passed
pub cell_near : (m : Voyage) (i h : ℕ) (x : Var) → coef m (Cell i h) x ≢ pos 0 → covers (place m x.place) (half m h) ≡ true
cell_near m i h x ne = go (covers (place m x.place) (half m h)) refl
  where
    go : (b : Bool) → covers (place m x.place) (half m h) ≡ b → covers (place m x.place) (half m h) ≡ true
    go true e = e
    go false e = absurd (ne (rw e refl))

pub support_near : (m : Voyage) (i h : ℕ) (x : Var) → coef m (Support i h) x ≢ pos 0 → (covers (place m x.place) (half m h) ≡ true) ⊎ (covers (place m x.place) (below (half m h)) ≡ true)
support_near m i h x ne = go (covers (place m x.place) (half m h)) (covers (place m x.place) (below (half m h))) refl refl
  where
    go : (a b : Bool) → covers (place m x.place) (half m h) ≡ a → covers (place m x.place) (below (half m h)) ≡ b → (covers (place m x.place) (half m h) ≡ true) ⊎ (covers (place m x.place) (below (half m h)) ≡ true)
    go true b e f = inl e
    go false true e f = inr f
    go false false e f = absurd (ne (rw (e, f) refl))

pub twenty_near : (m : Voyage) (i h : ℕ) (x : Var) → coef m (Twenty i h) x ≢ pos 0 → (covers (place m x.place) (half m h) ≡ true) ⊎ (covers (place m x.place) (below (half m h)) ≡ true)
twenty_near m i h x ne = go (is_twenty (kind m x.kind).long) (covers (place m x.place) (half m h)) (covers (place m x.place) (below (half m h))) refl refl refl
  where
    go : (t a b : Bool) → is_twenty (kind m x.kind).long ≡ t → covers (place m x.place) (half m h) ≡ a → covers (place m x.place) (below (half m h)) ≡ b → (covers (place m x.place) (half m h) ≡ true) ⊎ (covers (place m x.place) (below (half m h)) ≡ true)
    go t true b d e f = inl e
    go t false true d e f = inr f
    go true false false d e f = absurd (ne (rw (d, e, f) refl))
    go false false false d e f = absurd (ne (rw d refl))

pub block_near : (m : Voyage) (i h : ℕ) (x : Var) → coef m (Block i h) x ≢ pos 0 → (covers (place m x.place) (half m h) ≡ true) ⊎ (covers (place m x.place) (above (half m h)) ≡ true)
block_near m i h x ne = go (covers (place m x.place) (half m h)) (covers (place m x.place) (above (half m h))) refl refl
  where
    go : (a b : Bool) → covers (place m x.place) (half m h) ≡ a → covers (place m x.place) (above (half m h)) ≡ b → (covers (place m x.place) (half m h) ≡ true) ⊎ (covers (place m x.place) (above (half m h)) ≡ true)
    go true b e f = inl e
    go false true e f = inr f
    go false false e f = absurd (ne (rw (e, f) refl))

start_none : (q : ℕ) (a : Bool) → turned q (bit (a && false)) ≡ pos 0
start_none zero true = refl
start_none zero false = refl
start_none (suc q) true = refl
start_none (suc q) false = refl

pub start_near : (m : Voyage) (q p : ℕ) (x : Var) → coef m (Start q p) x ≢ pos 0 → x.place ≡ p
start_near m q p x h = ⊎_elim
    (λ (e : x.place ≡ p). e)
    (λ (ne : x.place ≡ p → ⊥). absurd (h (rw (ne_eqb x.place p ne) (start_none q (x.put == 0)))))
    (cases_eq x.place p)

pub hatch_near : (m : Voyage) (w j h d : ℕ) (x : Var) → coef m (Hatch w j h d) x ≢ pos 0 → (covers (place m x.place) (half m h) ≡ true) ⊎ (covers (place m x.place) (half m d) ≡ true)
hatch_near m w j h d x ne = go (w == 0) (covers (place m x.place) (half m h)) (covers (place m x.place) (half m d)) refl refl refl
  where
    go : (z a b : Bool) → (w == 0) ≡ z → covers (place m x.place) (half m h) ≡ a → covers (place m x.place) (half m d) ≡ b → (covers (place m x.place) (half m h) ≡ true) ⊎ (covers (place m x.place) (half m d) ≡ true)
    go z true b e f g = inl f
    go z false true e f g = inr g
    go true false false e f g = absurd (ne (rw (e, f, g) refl))
    go false false false e f g = absurd (ne (rw (e, f, g) refl))

pub weight_near : (m : Voyage) (i k : ℕ) (x : Var) → coef m (Weight i k) x ≢ pos 0 → (place m x.place).stack ≡ k
weight_near m i k x h = ⊎_elim
    (λ (e : (place m x.place).stack ≡ k). e)
    (λ (ne : (place m x.place).stack ≡ k → ⊥). absurd (h (rw (ne_eqb (place m x.place).stack k ne) refl)))
    (cases_eq (place m x.place).stack k)

pub apart_near : (m : Voyage) (i e p q : ℕ) (x : Var) → coef m (Apart i e p q) x ≢ pos 0 → (x.place ≡ p) ⊎ (x.place ≡ q)
apart_near m i e p q x h = ⊎_elim
    (λ (a : x.place ≡ p). inl a)
    (λ (np : x.place ≡ p → ⊥). ⊎_elim
    (λ (b : x.place ≡ q). inr b)
    (λ (nq : x.place ≡ q → ⊥). absurd (h (rw (ne_eqb x.place p np, ne_eqb x.place q nq) refl)))
    (cases_eq x.place q))
    (cases_eq x.place p)
