-- Raises, one after the other.
use Rattle.std.proofs.Common.{◌≡◌, ℕ, ◌+◌, ◌≤◌, ◌^◌, true, List, [], ◌∷◌, ◌++◌, Option, Some, None, map, ℤ, pos, ◌<ℤ◌, arith, refl, sym, ◌∙◌, ap, subst, append_assoc, append-nil, length-append}
use Rattle.std.specs.Int.RustNames.{unsigned_abs}
use Rattle.std.proofs.lemmas.List.{map-append}
use Rattle.std.proofs.lemmas.List.Elements.{All-append, All-nil, All-cons}
use Rattle.zero_one_rows.specs.declared.program.Row.{Row}
use Rattle.zero_one_rows.specs.declared.program.Raise.{Raise}
use Rattle.zero_one_rows.specs.Variables.{Voyage}
use Rattle.zero_one_rows.specs.Rows.{whole}
use Rattle.proof_trees.specs.Boxes.{Box}
use Rattle.proof_trees.specs.Multipliers.{Multipliers, amount_of, with_amount, raised, raised_all, worth}
use Rattle.certificate.specs.Entries.{same_row, raise_of}
use Rattle.dual_bound.specs.Raising.{IsRaise, RiseAll, Raises}
use Rattle.dual_bound.specs.Rising.{raised_by}
use Rattle.dual_bound.proofs.Multiplied.{raised_within}

all_append : (ms ns : Multipliers Row) (us vs : List (Row × ℤ)) → raised_all same_row (Some ms) us ≡ Some ns → raised_all same_row (Some ms) (us ++ vs) ≡ raised_all same_row (Some ns) vs
all_append ms ns us vs e = by (Some ms) us vs ∙ ap (λ (o : Option (Multipliers Row)). raised_all same_row o vs) e
  where
    by : (o : Option (Multipliers Row)) (us vs : List (Row × ℤ)) → raised_all same_row o (us ++ vs) ≡ raised_all same_row (raised_all same_row o us) vs
    by None us vs = none us vs
      where
        none : (us vs : List (Row × ℤ)) → raised_all same_row None (us ++ vs) ≡ raised_all same_row (raised_all same_row None us) vs
        none [] vs = refl
        none (u ∷ us) vs = refl
    by (Some ms) [] vs = refl
    by (Some ms) (u ∷ us) vs = by (raised same_row ms u.0 u.1) us vs

module _ (m : Voyage) (b : Box) where
  rise_append : (ms ns : Multipliers Row) (us vs : List Raise) → raised_all same_row (Some ms) (map raise_of us) ≡ Some ns → RiseAll m b ms us → RiseAll m b ns vs → RiseAll m b ms (us ++ vs)
  rise_append ms ns [] vs e h k = let s : ms ≡ ns = cc in subst (λ (w : Multipliers Row). RiseAll m b w vs) (sym s) k
  rise_append ms ns (u ∷ us) vs e h k =
      (h.0, h.1, h.2, rise_append h.0 ns us vs (ap (λ (o : Option (Multipliers Row)). raised_all same_row o (map raise_of us)) (sym h.1) ∙ e) h.3 k)

  pub raises_none : (ms : Multipliers Row) (most : ℕ) (raises : List Raise) → Raises m b most ms ms raises raises
  raises_none ms most raises = record { made = []; added = sym (append-nil raises); rows = All-nil (IsRaise m); few = omega arith; to = refl; rise = tt }

  pub raises_one : (ms : Multipliers Row) (old new : List Raise) (r : Raise) (more : ℕ) → r.amount ≡ pos more → (whole m).has r.row ≡ true → amount_of same_row ms r.row + more ≤ 2 ^ 40
      → worth (whole m) b ms <ℤ worth (whole m) b (raised_by ms r.row more) → new ≡ old ++ r ∷ [] → Raises m b 1 ms (raised_by ms r.row more) old new
  raises_one ms old new r more is has low up added =
      let to : raised same_row ms r.row r.amount ≡ Some (raised_by ms r.row more) = ap (λ (z : ℤ). raised same_row ms r.row z) is ∙ raised_within ms r.row more low in
      record {
        made = r ∷ [];
        added = added;
        rows = All-cons (IsRaise m) r [] (record { row = has; amount = subst (λ (z : ℤ). unsigned_abs z ≤ 2 ^ 40) (sym is) (omega arith) }) (All-nil (IsRaise m));
        few = omega arith;
        to = ap (λ (o : Option (Multipliers Row)). raised_all same_row o []) to;
        rise = (raised_by ms r.row more, to, up, tt);
      }

  -- one raise as it is made and appended
  pub raise_step : (ms now : Multipliers Row) (old new : List Raise) (r : Raise) (row : Row) (more n : ℕ) → r.row ≡ row → r.amount ≡ pos more → (whole m).has row ≡ true → n ≡ amount_of same_row ms row + more → n ≤ 2 ^ 40
      → worth (whole m) b ms <ℤ worth (whole m) b (raised_by ms row more) → now ≡ with_amount same_row ms row n → new ≡ old ++ r ∷ [] → Raises m b 1 ms now old new
  raise_step ms now old new r row more n same is has sum low up with_n added =
      let e : now ≡ raised_by ms r.row more = with_n ∙ ap (λ (k : ℕ). with_amount same_row ms row k) sum ∙ ap (λ (q : Row). raised_by ms q more) (sym same) in
      let le : amount_of same_row ms row + more ≤ 2 ^ 40 = subst (λ (k : ℕ). k ≤ 2 ^ 40) sum low in
      subst (λ (w : Multipliers Row). Raises m b 1 ms w old new) (sym e)
      (raises_one ms old new r more is (subst (λ (q : Row). (whole m).has q ≡ true) (sym same) has) (subst (λ (q : Row). amount_of same_row ms q + more ≤ 2 ^ 40) (sym same) le)
      (subst (λ (q : Row). worth (whole m) b ms <ℤ worth (whole m) b (raised_by ms q more)) (sym same) up) added)

  pub raises_more : (ms ns ks : Multipliers Row) (us vs ws : List Raise) (n k : ℕ) → Raises m b n ms ns us vs → Raises m b k ns ks vs ws → Raises m b (n + k) ms ks us ws
  raises_more ms ns ks us vs ws n k h j = record {
    made = h.made ++ j.made;
    added = j.added ∙ ap (λ (x : List Raise). x ++ j.made) h.added ∙ append_assoc us h.made j.made;
    rows = All-append (IsRaise m) h.made j.made h.rows j.rows;
    few = omega (arith, length-append h.made j.made, h.few, j.few);
    to = ap (λ (rs : List (Row × ℤ)). raised_all same_row (Some ms) rs) (map-append raise_of h.made j.made) ∙ all_append ms ns (map raise_of h.made) (map raise_of j.made) h.to ∙ j.to;
    rise = rise_append ms ns h.made j.made h.to h.rise j.rise;
  }

  pub raises_at_most : (ms ns : Multipliers Row) (us vs : List Raise) (n k : ℕ) → n ≤ k → Raises m b n ms ns us vs → Raises m b k ms ns us vs
  raises_at_most ms ns us vs n k le h = record { made = h.made; added = h.added; rows = h.rows; few = omega (arith, h.few); to = h.to; rise = h.rise }
