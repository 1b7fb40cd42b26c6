-- A test that tells rows tells nodes.
use Rattle.std.proofs.Common.{◌≡◌, ℕ, ◌⊎◌, inl, inr, Bool, true, false, List, [], ◌∷◌, ℤ, pos, negsuc, refl, ap}
use Rattle.proof_trees.specs.Trees.{End, Leaf, Left, Branch, Entry}
use Rattle.search_core.specs.Machine.{Node}
use Rattle.search_core.specs.Outcomes.{Tells}
use Rattle.search_core.proofs.OpenNodes.{same_or_other}

abbrev pub Same : {A : Type 0} → A → A → Type 0
Same a b = (a ≡ b) ⊎ (a ≡ b → ⊥)

same_bool : (a b : Bool) → Same a b
same_bool true true = inl refl
same_bool false false = inl refl
same_bool true false = inr (λ e. absurd (cc))
same_bool false true = inr (λ e. absurd (cc))

same_nat : (a b : ℕ) → Same a b
same_nat a b = same_or_other a b

same_int : (a b : ℤ) → Same a b
same_int (pos a) (pos b) = elim (same_nat a b) [ inl e ↦ inl (ap pos e) | inr other ↦ inr (λ e. other (cc)) ]
same_int (negsuc a) (negsuc b) = elim (same_nat a b) [ inl e ↦ inl (ap negsuc e) | inr other ↦ inr (λ e. other (cc)) ]
same_int (pos a) (negsuc b) = inr (λ e. absurd (cc))
same_int (negsuc a) (pos b) = inr (λ e. absurd (cc))

same_end : (a b : End) → Same a b
same_end Leaf Leaf = inl refl
same_end Left Left = inl refl
same_end (Branch v) (Branch w) = elim (same_nat v w) [ inl e ↦ inl (ap Branch e) | inr other ↦ inr (λ e. other (cc)) ]
same_end Leaf Left = inr (λ e. absurd (cc))
same_end Leaf (Branch w) = inr (λ e. absurd (cc))
same_end Left Leaf = inr (λ e. absurd (cc))
same_end Left (Branch w) = inr (λ e. absurd (cc))
same_end (Branch v) Leaf = inr (λ e. absurd (cc))
same_end (Branch v) Left = inr (λ e. absurd (cc))

both_same : {A B : Type 0} (a c : A) (b d : B) → Same a c → Same b d → Same {A = A × B} (a, b) (c, d)
both_same a c b d (inl e) (inl f) = inl (cc)
both_same {A} {B} a c b d (inr e) s = inr (λ is. e (ap (λ (x : A × B). x.0) is))
both_same {A} {B} a c b d (inl e) (inr f) = inr (λ is. f (ap (λ (x : A × B). x.1) is))

module _ {A : Type 0} (told : (a b : A) → Same a b) where
  same_list : (xs ys : List A) → Same xs ys
  same_list [] [] = inl refl
  same_list [] (y ∷ ys) = inr (λ e. absurd (cc))
  same_list (x ∷ xs) [] = inr (λ e. absurd (cc))
  same_list (x ∷ xs) (y ∷ ys) = elim (told x y) [
    | inr other ↦ inr (λ e. other (cc))
    | inl e ↦ elim (same_list xs ys) [ inr other ↦ inr (λ f. other (cc)) | inl f ↦ inl (cc) ]
  ]

module _ {R : Type 0} (told : (a b : R) → Same a b) where
  same_raise : (a b : R × ℤ) → Same a b
  same_raise a b = both_same a.0 b.0 a.1 b.1 (told a.0 b.0) (same_int a.1 b.1)

  abbrev Parts : Type 0
  Parts = (Bool × List R) × (List (R × ℤ) × End)

  abbrev parts : Entry R → Parts
  parts e = ((e.from_zero, e.steps), (e.raises, e.end))

  abbrev joined : Parts → Entry R
  joined q = record { from_zero = q.0.0; steps = q.0.1; raises = q.1.0; end = q.1.1 }

  same_parts : (e f : Entry R) → Same (parts e) (parts f)
  same_parts e f = both_same (e.from_zero, e.steps) (f.from_zero, f.steps) (e.raises, e.end) (f.raises, f.end)
      (both_same e.from_zero f.from_zero e.steps f.steps (same_bool e.from_zero f.from_zero) (same_list told e.steps f.steps))
      (both_same e.raises f.raises e.end f.end (same_list same_raise e.raises f.raises) (same_end e.end f.end))

  same_entry : (e f : Entry R) → Same e f
  same_entry e f = elim (same_parts e f) [ inl is ↦ inl (ap joined is) | inr other ↦ inr (λ is. other (ap parts is)) ]

  same_node : (n m : Node R) → Same n m
  same_node n m = elim (both_same n.path m.path n.trail m.trail (same_list same_bool n.path m.path) (same_list same_entry n.trail m.trail)) [
    | inl is ↦ inl (ap (λ (q : List Bool × List (Entry R)). record { path = q.0; trail = q.1 }) is)
    | inr other ↦ inr (λ is. other (ap (λ (k : Node R). (k.path, k.trail)) is))
  ]

  abbrev as_bool : {n m : Node R} → Same n m → Bool
  as_bool (inl e) = true
  as_bool (inr e) = false

  as_told : {n m : Node R} (s : Same n m) → (as_bool s ≡ true → n ≡ m) × (n ≡ m → as_bool s ≡ true)
  as_told (inl e) = ((λ _. e), (λ _. refl))
  as_told (inr e) = ((λ f. absurd (cc)), (λ f. absurd (e f)))

  pub alike : Node R → Node R → Bool
  alike n m = as_bool (same_node n m)

  pub alike_tells : Tells alike
  unfolding alike
  alike_tells n m = as_told (same_node n m)

told_by : {R : Type 0} (same : R → R → Bool) → Tells same → (c : Bool) (a b : R) → same a b ≡ c → Same a b
told_by same tells true a b e = inl ((tells a b).0 e)
told_by same tells false a b e = inr (λ is. let yes_it : same a b ≡ true = (tells a b).1 is in absurd (cc))

pub rows_told : {R : Type 0} (same : R → R → Bool) → Tells same → (a b : R) → Same a b
rows_told same tells a b = told_by same tells (same a b) a b refl
