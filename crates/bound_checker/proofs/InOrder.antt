-- Raises one after the other.
use Rattle.std.proofs.Common.{◌≡◌, ℕ, ◌+◌, ◌<◌, ◌≤◌, List, [], ◌∷◌, ◌++◌, length, map, take, drop, get_or, Result, Ok, Err, ℤ, arith, refl, sym, ◌∙◌, ap, subst}
use Rattle.std.proofs.lemmas.List.{take-append-drop, take_more}
use Rattle.std.proofs.lemmas.Grind.{common_steps}
use Rattle.zero_one_rows.specs.declared.program.Row.{Row}
use Rattle.zero_one_rows.specs.declared.program.Raise.{Raise}
use Rattle.zero_one_rows.specs.Variables.{Voyage}
use Rattle.zero_one_rows.specs.Rows.{whole}
use Rattle.proof_trees.specs.Program.{Program}
use Rattle.proof_trees.specs.Multipliers.{Multipliers}
use Rattle.certificate.specs.declared.refusals.BoundNo.{BoundNo}
use Rattle.certificate.specs.Entries.{raise_of}
use Rattle.bound_checker.specs.Faults.{raised_row, raised_rows}
use Rattle.bound_checker.specs.Prices.{Ends, Held}
use Rattle.bound_checker.proofs.Raising.{ends_none}

pub take_over : {X : Type 0} (xs : List X) (k : ℕ) → length xs ≤ k → take k xs ≡ xs
take_over xs k le = grind (arith, common_steps)

abbrev Outcome : Type 0
Outcome = Result (Multipliers Row) BoundNo

module _ (p : Program Row) (node : ℕ) where
  -- one more raise
  abbrev pub after : Outcome → Raise → Outcome
  after (Err f) r = Err f
  after (Ok ms) r = raised_row p node ms (raise_of r)

  none_more : (o : Outcome) → raised_rows p node o [] ≡ o
  none_more (Err f) = refl
  none_more (Ok ms) = refl

  pub failed : (f : BoundNo) (rs : List (Row × ℤ)) → raised_rows p node (Err f) rs ≡ Err f
  failed f [] = refl
  failed f (r ∷ rs) = refl

  first : (o : Outcome) (r : Raise) (rs : List (Row × ℤ)) → raised_rows p node o (raise_of r ∷ rs) ≡ raised_rows p node (after o r) rs
  first (Err f) r rs = sym (failed f rs)
  first (Ok ms) r rs = refl

  raised_append : (o : Outcome) (xs ys : List Raise) → raised_rows p node o (map raise_of (xs ++ ys)) ≡ raised_rows p node (raised_rows p node o (map raise_of xs)) (map raise_of ys)
  raised_append o [] ys = ap (λ (q : Outcome). raised_rows p node q (map raise_of ys)) (sym (none_more o))
  raised_append o (x ∷ xs) ys = first o x (map raise_of (xs ++ ys)) ∙ raised_append (after o x) xs ys ∙ ap (λ (q : Outcome). raised_rows p node q (map raise_of ys)) (sym (first o x (map raise_of xs)))

  module _ (o : Outcome) (xs : List Raise) (k : ℕ) (x : Raise) (lt : k < length xs) (is : x ≡ get_or xs k x) where
    pub raised_more : raised_rows p node o (map raise_of (take (k + 1) xs)) ≡ after (raised_rows p node o (map raise_of (take k xs))) x
    raised_more =
        ap (λ (ys : List Raise). raised_rows p node o (map raise_of ys)) (take_more xs k x lt ∙ ap (λ (y : Raise). take k xs ++ y ∷ []) (sym is)) ∙ raised_append o (take k xs) (x ∷ []) ∙ first (raised_rows p node o (map raise_of (take k xs))) x [] ∙ none_more (after (raised_rows p node o (map raise_of (take k xs))) x)

    pub raised_rest : raised_rows p node o (map raise_of xs) ≡ raised_rows p node (after (raised_rows p node o (map raise_of (take k xs))) x) (map raise_of (drop (k + 1) xs))
    raised_rest =
        ap (λ (ys : List Raise). raised_rows p node o (map raise_of ys)) (sym (take-append-drop (k + 1) xs)) ∙ raised_append o (take (k + 1) xs) (drop (k + 1) xs) ∙ ap (λ (q : Outcome). raised_rows p node q (map raise_of (drop (k + 1) xs))) raised_more

module _ (m : Voyage) (node : ℕ) where
  ends_held : (H : Multipliers Row → Type 0) (o : Outcome) → Ends H o (Ok tt) → Held H o
  ends_held H (Ok ms) h = h
  ends_held H (Err f) h = h

  pub held_ends : (H : Multipliers Row → Type 0) (o : Outcome) → Held H o → Ends H o (Ok tt)
  held_ends H (Ok ms) h = h
  held_ends H (Err f) h = h

  -- a raise that went well
  pub held_more : (H K : Multipliers Row → Type 0) (o : Outcome) (x : Raise) → Held H o → ((ms : Multipliers Row) → H ms → Ends K (raised_row (whole m) node ms (raise_of x)) (Ok tt)) → Held K (after (whole m) node o x)
  held_more H K (Err f) x h step = absurd h
  held_more H K (Ok ms) x h step = ends_held K (raised_row (whole m) node ms (raise_of x)) (step ms h)

  ends_on : (H : Multipliers Row → Type 0) (o : Outcome) (g : BoundNo) (rs : List (Row × ℤ)) → Ends H o (Err g) → Ends H (raised_rows (whole m) node o rs) (Err g)
  ends_on H (Ok ms) g rs h = ends_none H (raised_rows (whole m) node (Ok ms) rs) (Err g) g refl h
  ends_on H (Err f) g rs h = subst (λ (q : Outcome). Ends H q (Err g)) (sym (failed (whole m) node f rs)) h

  -- a raise that failed, and the raises behind it
  pub fails_more : (H K : Multipliers Row → Type 0) (o : Outcome) (x : Raise) (g : BoundNo) (rs : List (Row × ℤ)) → Held H o → ((ms : Multipliers Row) → H ms → Ends K (raised_row (whole m) node ms (raise_of x)) (Err g))
      → Ends K (raised_rows (whole m) node (after (whole m) node o x) rs) (Err g)
  fails_more H K (Err f) x g rs h step = absurd h
  fails_more H K (Ok ms) x g rs h step = ends_on K (raised_row (whole m) node ms (raise_of x)) g rs (step ms h)

  pub one_held : (H : Multipliers Row → Type 0) (o : Outcome) → Held H o → (ms : Multipliers Row) × H ms
  one_held H (Ok ms) h = (ms, h)
  one_held H (Err f) h = absurd h
