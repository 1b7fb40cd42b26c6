-- Multipliers of a program's rows stay such when one of them is changed.
use Rattle.std.proofs.Common.{◌≡◌, ℕ, ◌≤◌, ◌^◌, Bool, true, false, cond, [], ◌∷◌, Option, Some, None, Result, Ok, Err, ℤ, pos, negsuc, ◌+ℤ◌, arith, refl, sym, ◌∙◌, subst}
use Rattle.std.specs.Prelude.{nat_le}
use Rattle.std.proofs.lemmas.Bool.Decides.{nat_tests}
use Rattle.zero_one_rows.specs.declared.program.Row.{Row}
use Rattle.zero_one_rows.specs.Variables.{Voyage}
use Rattle.zero_one_rows.specs.Rows.{whole}
use Rattle.proof_trees.specs.Multipliers.{Multipliers, amount_of, with_amount, changed_to, raised}
use Rattle.certificate.specs.Entries.{same_row}
use Rattle.certificate.proofs.RowsTold.{same_turned}
use Rattle.dual_bound.specs.Raising.{Lacks, AreMultipliers}
use Rattle.dual_bound.specs.declared.multipliers.AddNo.{AddNo}
use Rattle.dual_bound.specs.declared.multipliers.AddNo.TheVariants.{OutOfRange, NoMemory}
use Rattle.dual_bound.specs.Adding.{Adds}

lacks_with : (ms : Multipliers Row) (r q : Row) (n : ℕ) → same_row r q ≡ false → Lacks ms q → Lacks (with_amount same_row ms r n) q
lacks_with [] r q n e h = (e, tt)
lacks_with (x ∷ ms) r q n e h = by (same_row x.0 r) (lacks_with ms r q n e h.1)
  where
    by : (b : Bool) → Lacks (with_amount same_row ms r n) q → Lacks (cond b ((x.0, n) ∷ ms) (x ∷ with_amount same_row ms r n)) q
    by true rest = (h.0, h.1)
    by false rest = (h.0, rest)

module _ (m : Voyage) where
  are_with : (ms : Multipliers Row) (r : Row) (n : ℕ) → (whole m).has r ≡ true → n ≤ 2 ^ 40 → AreMultipliers m ms → AreMultipliers m (with_amount same_row ms r n)
  are_with [] r n named low h = (named, low, tt, tt)
  are_with (x ∷ ms) r n named low h = by (same_row x.0 r) refl (are_with ms r n named low h.3)
    where
      by : (b : Bool) → same_row x.0 r ≡ b → AreMultipliers m (with_amount same_row ms r n) → AreMultipliers m (cond b ((x.0, n) ∷ ms) (x ∷ with_amount same_row ms r n))
      by true e rest = (h.0, low, h.2, h.3)
      by false e rest = (h.0, h.1, lacks_with ms r x.0 n (same_turned r x.0 ∙ e) h.2, rest)

  are_changed : (ms : Multipliers Row) (r : Row) (z : ℤ) (ns : Multipliers Row) → (whole m).has r ≡ true → AreMultipliers m ms → changed_to same_row ms r z ≡ Some ns → AreMultipliers m ns
  are_changed ms r (pos n) ns named h is = by (nat_le n (2 ^ 40)) refl is
    where
      by : (b : Bool) → nat_le n (2 ^ 40) ≡ b → cond b (Some (with_amount same_row ms r n)) None ≡ Some ns → AreMultipliers m ns
      by true e k =
          let same : with_amount same_row ms r n ≡ ns = cc in
          let low : n ≤ 2 ^ 40 = grind (arith, nat_tests) in
          subst (AreMultipliers m) same (are_with ms r n named low h)
      by false e k = absurd (let bad : ⊥ = cc in bad)
  are_changed ms r (negsuc n) ns named h is = absurd (let bad : ⊥ = cc in bad)

  pub are_added : (old new : Multipliers Row) (r : Row) (z : ℤ) (o : Option (Multipliers Row)) → o ≡ raised same_row old r z → (result : Result (Unit {0}) AddNo) → (whole m).has r ≡ true → AreMultipliers m old → Adds o old new result → AreMultipliers m new
  are_added old new r z o is (Ok u) named h adds = are_changed old r (pos (amount_of same_row old r) +ℤ z) new named h (sym is ∙ adds)
  are_added old new r z o is (Err OutOfRange) named h adds = subst (AreMultipliers m) (sym adds.1) h
  are_added old new r z (Some ms) is (Err NoMemory) named h adds = subst (AreMultipliers m) (sym adds) h
  are_added old new r z None is (Err NoMemory) named h adds = absurd adds
