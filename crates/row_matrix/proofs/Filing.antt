-- Lists with one item more.
use Rattle.std.proofs.Common.{◌≡◌, ◌≢◌, ◌==◌, true, refl, ◌⊎◌, inl, inr, ℕ, ◌<◌, ◌+◌, ◌≤◌, List, [], ◌∷◌, ◌++◌, length, length-append, get_or, ℤ, pos, sym, ◌∙◌, ap, subst, arith}
use Rattle.std.specs.Int.RustNames.{unsigned_abs}
use Rattle.std.proofs.Math.ListN.{get_or-append}
use Rattle.std.proofs.Math.Seq.{get_or-append_seam}
use Rattle.row_matrix.proofs.Summing.{same_or_other}
use Rattle.std.proofs.lemmas.List.{length-map}
use Rattle.stow_data.specs.Ship.{Ship}
use Rattle.stow_data.specs.Shipment.{Cargo}
use Rattle.zero_one_rows.specs.declared.program.Var.{Var}
use Rattle.zero_one_rows.specs.Variables.{Voyage, variables, kind}
use Rattle.row_matrix.specs.Counted.{all_weights}
use Rattle.zero_one_rows.specs.Rows.{whole}
use Rattle.row_matrix.specs.declared.margins.Margin.{Margin}
use Rattle.row_matrix.specs.declared.margins.Margins.{Margins}
use Rattle.row_matrix.specs.Terms.{row_at}
use Rattle.row_matrix.specs.Margins.{margin, AreMargins, IsMargin}

items_before : {X : Type 0} (xs : List X) (x d : X) (k : ℕ) → k < length xs → get_or (xs ++ x ∷ []) k d ≡ get_or xs k d
items_before xs x d k lt = get_or-append xs (x ∷ []) d k lt

items_at : {X : Type 0} (xs : List X) (x d : X) (k : ℕ) → k ≡ length xs → get_or (xs ++ x ∷ []) k d ≡ x
items_at xs x d k e = ap (λ (i : ℕ). get_or (xs ++ x ∷ []) i d) e ∙ get_or-append_seam xs x [] d

more_length : {X : Type 0} (xs ys : List X) (x : X) (n : ℕ) → ys ≡ xs ++ x ∷ [] → length xs ≡ n → length ys ≡ n + 1
more_length {X = X} xs ys x n e h = ap (λ (zs : List X). length zs) e ∙ length-append xs (x ∷ []) ∙ ap (λ (i : ℕ). i + 1) h

-- a fact on each item of a list by its number
pub listed : {X : Type 0} (P : ℕ → X → Type 0) (d : X) (old new : List X) (n : ℕ) (x : X) → length old ≡ n → ((k : ℕ) → k < n → P k (get_or old k d)) → new ≡ old ++ x ∷ [] → P n x → (length new ≡ n + 1) × ((k : ℕ) → k < n + 1 → P k (get_or new k d))
listed {X = X} P d old new n x len each e here = (more_length old new x n e len, λ k lt. by k lt (same_or_other k n))
  where
    by : (k : ℕ) → k < n + 1 → (k ≡ n) ⊎ (k ≢ n) → P k (get_or new k d)
    by k lt (inl same) = subst (P k) (sym (ap (λ (xs : List X). get_or xs k d) e ∙ items_at old x d k (same ∙ sym len))) (subst (λ (i : ℕ). P i x) (sym same) here)
    by k lt (inr other) =
        let l : k < n = omega arith in
        subst (P k) (sym (ap (λ (xs : List X). get_or xs k d) e ∙ items_before old x d k (omega (arith, len)))) (each k l)

pub margins_none : (m : Voyage) (a : Margins) → a.slacks ≡ [] → a.tops ≡ [] → AreMargins m a 0
margins_none m a f g = record { slacks = ap (λ (xs : List ℤ). length xs) f; tops = ap (λ (xs : List ℕ). length xs) g; each = λ k lt. absurd (omega arith) }

pub margins_more : (m : Voyage) (old new : Margins) (n : ℕ) (p : Margin) → AreMargins m old n → IsMargin m (row_at m n) p → new.slacks ≡ old.slacks ++ p.slack ∷ [] → new.tops ≡ old.tops ++ p.top ∷ [] → AreMargins m new (n + 1)
margins_more m old new n p h here s o = record {
  slacks = more_length old.slacks new.slacks p.slack n s h.slacks;
  tops = more_length old.tops new.tops p.top n o h.tops;
  each = λ k lt. by k lt (same_or_other k n);
}
  where
    parts : (k : ℕ) (q : Margin) → get_or new.slacks k (pos 0) ≡ q.slack → get_or new.tops k 0 ≡ q.top → IsMargin m (row_at m k) q → IsMargin m (row_at m k) (margin new k)
    parts k q b c i = record {
      slack = b ∙ i.slack;
      top = λ v lt. subst (λ (z : ℕ). unsigned_abs ((whole m).coef (row_at m k) v) ≤ z) (sym c) (i.top v lt);
      small = i.small;
    }

    by : (k : ℕ) → k < n + 1 → (k ≡ n) ⊎ (k ≢ n) → IsMargin m (row_at m k) (margin new k)
    by k lt (inl same) =
        parts k p
        (ap (λ (xs : List ℤ). get_or xs k (pos 0)) s ∙ items_at old.slacks p.slack (pos 0) k (same ∙ sym h.slacks))
        (ap (λ (xs : List ℕ). get_or xs k 0) o ∙ items_at old.tops p.top 0 k (same ∙ sym h.tops))
        (subst (λ (i : ℕ). IsMargin m (row_at m i) p) (sym same) here)
    by k lt (inr other) =
        let l : k < n = omega arith in
        parts k (margin old k)
        (ap (λ (xs : List ℤ). get_or xs k (pos 0)) s ∙ items_before old.slacks p.slack (pos 0) k (let e : length old.slacks ≡ n = h.slacks in omega arith))
        (ap (λ (xs : List ℕ). get_or xs k 0) o ∙ items_before old.tops p.top 0 k (let e : length old.tops ≡ n = h.tops in omega arith))
        (h.each k l)

-- there is a weight for each variable
pub as_long : (m : Voyage) (ws : List ℕ) → ws ≡ all_weights m → length ws ≡ length (variables m)
as_long m ws e = ap (λ (us : List ℕ). length us) e ∙ length-map (variables m) (λ (x : Var). (kind m x.kind).kg)

pub empty_is : (xs : List ℕ) → (length xs == 0) ≡ true → xs ≡ []
empty_is [] h = refl
empty_is (x ∷ xs) h = absurd (grind arith)

pub same_voyage : (m : Voyage) (ship : Ship) (cargo : Cargo) → ship ≡ m.ship → cargo ≡ m.cargo → record { ship = ship; cargo = cargo } ≡ m
same_voyage m ship cargo e f = ap (λ (s : Ship). record { ship = s; cargo = cargo }) e ∙ ap (λ (g : Cargo). record { ship = m.ship; cargo = g }) f
