-- The equality of rows in the program is the test of rows.
use Rattle.std.proofs.Common.{◌≡◌, true, refl, subst}
use Rattle.zero_one_rows.specs.declared.program.Row.{Row}
use Rattle.zero_one_rows.specs.declared.program.Row.TheVariants.{Flow, Start, Cell, Support, Twenty, Block, Hatch, Weight, Apart, Cross}
use Rattle.zero_one_rows.specs.contracts.program.RowPartialEq.TheImpl as equality
use Rattle.certificate.specs.Entries.{same_row}
use Rattle.certificate.proofs.RowsAlike.{same_equal, same_itself, bits_equal}

pub equal_same : (r s : Row) → equality.ghosts.eq r s ≡ same_row r s
equal_same (Flow q i g) (Flow q' i' g') = refl
equal_same (Start q p) (Start q' p') = refl
equal_same (Cell i l) (Cell i' l') = refl
equal_same (Support i l) (Support i' l') = refl
equal_same (Twenty i l) (Twenty i' l') = refl
equal_same (Block i l) (Block i' l') = refl
equal_same (Hatch w j l d) (Hatch w' j' l' d') = refl
equal_same (Weight i k) (Weight i' k') = refl
equal_same (Apart i e p q) (Apart i' e' p' q') = refl
equal_same (Cross l p c) (Cross l' p' c') = refl
equal_same r s = refl

pub same_turned : (r s : Row) → same_row r s ≡ same_row s r
same_turned r s = bits_equal (same_row r s) (same_row s r) (λ h. turn r s (same_equal r s h)) (λ h. turn s r (same_equal s r h))
  where
    turn : (r s : Row) → r ≡ s → same_row s r ≡ true
    turn r s e = subst (λ (t : Row). same_row t r ≡ true) e (same_itself r)
