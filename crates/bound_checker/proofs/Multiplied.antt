-- The multiplier of a row, where one is changed.
use Rattle.std.proofs.Common.{◌≡◌, ℕ, ◌≤◌, ◌^◌, Bool, true, false, cond, [], ◌∷◌, arith, refl, sym, ◌∙◌, ap}
use Rattle.zero_one_rows.specs.declared.program.Row.{Row}
use Rattle.zero_one_rows.specs.Variables.{Voyage}
use Rattle.proof_trees.specs.Multipliers.{Multipliers, amount_of, with_amount}
use Rattle.certificate.specs.Entries.{same_row}
use Rattle.certificate.proofs.RowsAlike.{same_equal, same_itself}
use Rattle.dual_bound.specs.Costs.{AreSmall}

twice : (c : Bool) (n k a : ℕ) → cond c n a ≡ cond c n (cond c k a)
twice true n k a = refl
twice false n k a = refl

swapped : (c d : Bool) (k n a : ℕ) → (c ≡ true → d ≡ true → ⊥) → cond c k (cond d n a) ≡ cond d n (cond c k a)
swapped true true k n a apart = absurd (apart refl refl)
swapped true false k n a apart = refl
swapped false d k n a apart = refl

not_both : (x r q : Row) → same_row x r ≡ false → same_row x q ≡ true → same_row r q ≡ true → ⊥
not_both x r q e h k =
    let f : x ≡ r = same_equal x q h ∙ sym (same_equal r q k) in
    let g : same_row x r ≡ true = ap (λ (y : Row). same_row x y) (sym f) ∙ same_itself x in
    absurd (grind arith)

pub amount_with : (ms : Multipliers Row) (r q : Row) (n : ℕ) → amount_of same_row (with_amount same_row ms r n) q ≡ cond (same_row r q) n (amount_of same_row ms q)
amount_with [] r q n = refl
amount_with (x ∷ ms) r q n = by (same_row x.0 r) refl (amount_with ms r q n)
  where
    by : (b : Bool) → same_row x.0 r ≡ b → amount_of same_row (with_amount same_row ms r n) q ≡ cond (same_row r q) n (amount_of same_row ms q)
        → amount_of same_row (cond b ((x.0, n) ∷ ms) (x ∷ with_amount same_row ms r n)) q ≡ cond (same_row r q) n (cond (same_row x.0 q) x.1 (amount_of same_row ms q))
    by true e rest = twice (same_row x.0 q) n x.1 (amount_of same_row ms q) ∙ ap (λ (y : Row). cond (same_row y q) n (cond (same_row x.0 q) x.1 (amount_of same_row ms q))) (same_equal x.0 r e)
    by false e rest = ap (λ (k : ℕ). cond (same_row x.0 q) x.1 k) rest ∙ swapped (same_row x.0 q) (same_row r q) x.1 n (amount_of same_row ms q) (λ h k. not_both x.0 r q e h k)

pub amount_low : (m : Voyage) (ms : Multipliers Row) (r : Row) → AreSmall m ms → amount_of same_row ms r ≤ 2 ^ 40
amount_low m [] r h = omega arith
amount_low m (x ∷ ms) r h = by (same_row x.0 r) (amount_low m ms r h.3)
  where
    by : (b : Bool) → amount_of same_row ms r ≤ 2 ^ 40 → cond b x.1 (amount_of same_row ms r) ≤ 2 ^ 40
    by true rest = h.1
    by false rest = rest
