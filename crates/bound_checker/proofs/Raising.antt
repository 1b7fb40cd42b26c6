-- What a changed multiplier leaves of the sums.
use Rattle.std.proofs.Common.{◌≡◌, ℕ, ◌<◌, ◌≤◌, ◌^◌, Bool, true, false, cond, List, [], ◌∷◌, Option, Some, None, Result, Ok, Err, ℤ, pos, ◌+ℤ◌, ◌-ℤ◌, ◌*ℤ◌, arith, refl, sym, ◌∙◌, ap, subst}
use Rattle.std.specs.Option.{option_map, ok_or}
use Rattle.zero_one_rows.specs.declared.program.Row.{Row}
use Rattle.zero_one_rows.specs.Variables.{Voyage}
use Rattle.zero_one_rows.specs.Rows.{whole}
use Rattle.proof_trees.specs.Boxes.{Box}
use Rattle.proof_trees.specs.Multipliers.{Multipliers, amount_of, with_amount, raised, worth}
use Rattle.certificate.specs.declared.refusals.BoundNo.{BoundNo}
use Rattle.certificate.specs.declared.refusals.BoundNo.TheVariants.{Multiplier, StepRow, NoMemory}
use Rattle.dual_bound.specs.Adding.{in_range}
use Rattle.dual_bound.specs.Costs.{AreSmall, Priced}
use Rattle.dual_bound.proofs.Multiplied.{changed_is}
use Rattle.dual_bound.proofs.Pricing.{value_is}
use Rattle.dual_bound.specs.declared.costs.Costs.{Costs}
use Rattle.bound_checker.specs.declared.blank.Blank.{Blank}
use Rattle.bound_checker.specs.declared.sums.Sums.{Sums}
use Rattle.bound_checker.specs.declared.prices.Change.{Change}
use Rattle.bound_checker.specs.declared.prices.Prices.{Prices}
use Rattle.certificate.specs.Entries.{same_row}
use Rattle.bound_checker.specs.Faults.{raised_row}
use Rattle.bound_checker.specs.Sums.{Carries, IsBlank}
use Rattle.bound_checker.specs.Prices.{Holds, Ends}
use Rattle.certificate.proofs.RowsAlike.{same_equal}
use Rattle.bound_checker.proofs.Multiplied.{amount_with, amount_low}
use Rattle.bound_checker.proofs.Alike.{dot_alike}
use Rattle.bound_checker.proofs.Waiting.{moves_alike}

-- the costs are those of other multipliers that are alike
pub priced_alike : (m : Voyage) (b : Box) (ms : Multipliers Row) (c : Costs) → Priced m b ms c → (ns : Multipliers Row) → AreSmall m ns → ((r : Row) → amount_of same_row ns r ≡ amount_of same_row ms r) → Priced m b ns c
priced_alike m b ms c priced ns small same = record {
  gauged = priced.gauged;
  right = priced.right ∙ sym (dot_alike m (whole m).rhs ns ms small priced.small same);
  reduced = λ v lt. priced.reduced v lt ∙ ap (λ (z : ℤ). pos 16 *ℤ (whole m).cost v -ℤ z) (sym (dot_alike m (λ r. (whole m).coef r v) ns ms small priced.small same));
  small = small;
}

module _ (m : Voyage) (b : Box) (ms : Multipliers Row) (s : Sums) (carries : Carries m b ms s) where
  pub amounts_low : (r : Row) → amount_of same_row s.amounts r ≤ 2 ^ 40
  amounts_low r = subst (λ (n : ℕ). n ≤ 2 ^ 40) (sym (carries.amounts r)) (amount_low m ms r carries.priced.small)

  pub value_here : s.costs.value ≡ worth (whole m) b ms
  value_here = value_is m b ms s.costs carries.priced

  -- one multiplier is changed
  pub carries_more : (r : Row) (n : ℕ) (s' : Sums) → ((q : Row) → amount_of same_row s'.amounts q ≡ cond (same_row r q) n (amount_of same_row s.amounts q)) → Priced m b (with_amount same_row ms r n) s'.costs → s'.blank ≡ s.blank → s'.rows ≡ s.rows → Carries m b (with_amount same_row ms r n) s'
  carries_more r n s' amounts priced blank rows = record {
    whole = carries.whole;
    amounts = λ q. amounts q ∙ ap (λ (k : ℕ). cond (same_row r q) n k) (carries.amounts q) ∙ sym (amount_with ms r q n);
    priced = priced;
    blank = subst (IsBlank m b) (sym blank) carries.blank;
    rows = rows ∙ carries.rows;
  }

  -- the rows that are kept are as they were
  pub carries_kept : (s' : Sums) → s'.amounts ≡ s.amounts → s'.costs ≡ s.costs → s'.blank ≡ s.blank → s'.rows ≡ s.rows → Carries m b ms s'
  carries_kept s' amounts costs blank rows = record {
    whole = carries.whole;
    amounts = λ q. ap (λ (es : Multipliers Row). amount_of same_row es q) amounts ∙ carries.amounts q;
    priced = subst (Priced m b ms) (sym costs) carries.priced;
    blank = subst (IsBlank m b) (sym blank) carries.blank;
    rows = rows ∙ carries.rows;
  }

  -- other costs to begin with
  pub carries_blank : (z : Blank) → IsBlank m b z → Carries m b ms (record { amounts = s.amounts; costs = s.costs; blank = z; rows = s.rows })
  carries_blank z blank = record { whole = carries.whole; amounts = carries.amounts; priced = carries.priced; blank = blank; rows = carries.rows }

  -- the sums are those of other multipliers that are alike
  pub carries_alike : (ns : Multipliers Row) → AreSmall m ns → ((r : Row) → amount_of same_row ns r ≡ amount_of same_row ms r) → Carries m b ns s
  carries_alike ns small same = record {
    whole = carries.whole;
    amounts = λ r. carries.amounts r ∙ sym (same r);
    priced = priced_alike m b ms s.costs carries.priced ns small same;
    blank = carries.blank;
    rows = carries.rows;
  }

  -- no multipliers are left
  pub carries_none : s.amounts ≡ [] → Carries m b [] s
  carries_none none = carries_alike [] tt (λ r. sym (ap (λ (a : Multipliers Row). amount_of same_row a r) none) ∙ carries.amounts r)

pub holds_none : (m : Voyage) (b : Box) (first ms : Multipliers Row) (k : List Change) (p : Prices) → p.sums.amounts ≡ [] → Holds m b first k ms p → Holds m b first k [] p
holds_none m b first ms k p none h = record {
  carries = carries_none m b ms p.sums h.carries none;
  moves = moves_alike m first ms [] k p.changes.items (λ r. sym (ap (λ (a : Multipliers Row). amount_of same_row a r) none) ∙ h.carries.amounts r) h.moves;
}

-- a row with a multiplier is one of the program
pub named : (m : Voyage) (ms : Multipliers Row) (r : Row) → AreSmall m ms → 0 < amount_of same_row ms r → (whole m).has r ≡ true
named m [] r small lt = absurd (omega arith)
named m (x ∷ ms) r small lt = by (same_row x.0 r) refl lt (named m ms r small.3)
  where
    by : (c : Bool) → same_row x.0 r ≡ c → 0 < cond c x.1 (amount_of same_row ms r) → (0 < amount_of same_row ms r → (whole m).has r ≡ true) → (whole m).has r ≡ true
    by true e lt rest = subst (λ (q : Row). (whole m).has q ≡ true) (same_equal x.0 r e) small.0.named
    by false e lt rest = rest lt

-- ## Sums while a row is taken out

module _ (m : Voyage) (b : Box) (ms : Multipliers Row) (s t : Sums) (r : Row) (a : ℕ) (carries : Carries m b ms s)
    (was : amount_of same_row s.amounts r ≡ a) (rest : (q : Row) → amount_of same_row t.amounts q ≡ cond (same_row r q) 0 (amount_of same_row s.amounts q)) where
  pub out_low : a ≤ 2 ^ 40
  out_low = let h : amount_of same_row s.amounts r ≤ 2 ^ 40 = amounts_low m b ms s carries r in omega arith

  pub out_named : 0 < a → (whole m).has r ≡ true
  out_named lt = named m ms r carries.priced.small (let e : amount_of same_row s.amounts r ≡ amount_of same_row ms r = carries.amounts r in omega arith)

  same_cond : (q : Row) → a ≡ 0 → amount_of same_row t.amounts q ≡ amount_of same_row s.amounts q
  same_cond q none = rest q ∙ by (same_row r q) refl
    where
      by : (c : Bool) → same_row r q ≡ c → cond c 0 (amount_of same_row s.amounts q) ≡ amount_of same_row s.amounts q
      by true e = sym (ap (amount_of same_row s.amounts) (sym (same_equal r q e)) ∙ was ∙ none)
      by false e = refl

  -- a row that had none
  pub out_none : t.costs ≡ s.costs → t.blank ≡ s.blank → t.rows ≡ s.rows → a ≡ 0 → Carries m b ms t
  out_none costs blank rows none = record {
    whole = carries.whole;
    amounts = λ q. same_cond q none ∙ carries.amounts q;
    priced = subst (Priced m b ms) (sym costs) carries.priced;
    blank = subst (IsBlank m b) (sym blank) carries.blank;
    rows = rows ∙ carries.rows;
  }

  -- what the row's multiplier becomes
  pub out_sum : (z : ℤ) → pos a +ℤ z ≡ pos 0 → pos (amount_of same_row ms r) +ℤ z ≡ pos 0
  out_sum z sum = ap (λ (n : ℕ). pos n +ℤ z) (sym (carries.amounts r) ∙ was) ∙ sum

  -- a row that had one
  pub out_some : (u : Sums) → u.amounts ≡ t.amounts → Priced m b (with_amount same_row ms r 0) u.costs → u.blank ≡ s.blank → u.rows ≡ s.rows → Carries m b (with_amount same_row ms r 0) u
  out_some u amounts priced blank rows = carries_more m b ms s carries r 0 u (λ q. ap (λ (es : Multipliers Row). amount_of same_row es q) amounts ∙ rest q) priced blank rows

-- ## Answers

pub ends_none : (H : Multipliers Row → Type 0) (o : Result (Multipliers Row) BoundNo) (r : Result (Unit {0}) BoundNo) (f : BoundNo) → r ≡ Err f → f ≡ NoMemory → Ends H o r
ends_none H (Ok ms) r f e h = rw (e, h) refl
ends_none H (Err g) r f e h = rw (e, h) (λ k. absurd (k refl))

module _ (m : Voyage) (node : ℕ) (ms : Multipliers Row) (r : Row) (z : ℤ) where
  pub no_row : (H : Multipliers Row → Type 0) → (whole m).has r ≡ false → Ends H (raised_row (whole m) node ms (r, z)) (Err (StepRow node))
  no_row H e = rw e (λ k. refl)

  pub raised_is : (o : Option ℕ) → (whole m).has r ≡ true → in_range (pos (amount_of same_row ms r) +ℤ z) ≡ o
      → raised_row (whole m) node ms (r, z) ≡ ok_or (option_map (with_amount same_row ms r) o) (Multiplier node)
  raised_is o has e = ap (λ (b : Bool). cond b (ok_or (raised same_row ms r z) (Multiplier node)) (Err (StepRow node))) has
      ∙ ap (λ (k : Option (Multipliers Row)). ok_or k (Multiplier node)) (changed_is ms r (pos (amount_of same_row ms r) +ℤ z) ∙ ap (λ (k : Option ℕ). option_map (with_amount same_row ms r) k) e)

  pub out_of_range : (H : Multipliers Row → Type 0) (b : Box) (s : Sums) → Carries m b ms s → (whole m).has r ≡ true → in_range (pos (amount_of same_row s.amounts r) +ℤ z) ≡ None → Ends H (raised_row (whole m) node ms (r, z)) (Err (Multiplier node))
  out_of_range H b s carries has e =
      let k : raised_row (whole m) node ms (r, z) ≡ Err (Multiplier node) = raised_is None has (ap (λ (n : ℕ). in_range (pos n +ℤ z)) (sym (carries.amounts r)) ∙ e) in
      subst (λ (o : Result (Multipliers Row) BoundNo). Ends H o (Err (Multiplier node))) (sym k) (λ h. refl)

  pub raised_well : (H : Multipliers Row → Type 0) (b : Box) (s : Sums) (n : ℕ) → Carries m b ms s → (whole m).has r ≡ true → in_range (pos (amount_of same_row s.amounts r) +ℤ z) ≡ Some n → H (with_amount same_row ms r n) → Ends H (raised_row (whole m) node ms (r, z)) (Ok tt)
  raised_well H b s n carries has e h =
      let k : raised_row (whole m) node ms (r, z) ≡ Ok (with_amount same_row ms r n) = raised_is (Some n) has (ap (λ (n : ℕ). in_range (pos n +ℤ z)) (sym (carries.amounts r)) ∙ e) in
      subst (λ (o : Result (Multipliers Row) BoundNo). Ends H o (Ok tt)) (sym k) h
