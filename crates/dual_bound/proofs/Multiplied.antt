-- One multiplier changed: what the rows add up to, and how large it is.
use Rattle.std.proofs.Common.{◌≡◌, ℕ, ◌+◌, ◌*◌, ◌≤◌, ◌^◌, Bool, true, false, cond, [], ◌∷◌, ◌++◌, length, take, get_or, suc, zero, ◌<◌, Option, Some, None, Result, Ok, Err, ℤ, pos, negsuc, ◌+ℤ◌, ◌*ℤ◌, arith, add-one, refl, sym, ◌∙◌, ap, subst}
use Rattle.std.specs.Prelude.{nat_le}
use Rattle.std.specs.Option.{option_map}
use Rattle.std.specs.Result.{IsErrAnd}
use Rattle.std.specs.Int.RustNames.{unsigned_abs}
use borrow.Author.Differences.{ints}
use Rattle.std.proofs.lemmas.Bool.Decides.{nat_tests}
use Rattle.zero_one_rows.specs.declared.program.Row.{Row}
use Rattle.zero_one_rows.specs.Variables.{Voyage}
use Rattle.zero_one_rows.specs.Rows.{whole}
use Rattle.proof_trees.specs.Multipliers.{Multipliers, dot, amount_of, with_amount, changed_to, raised}
use Rattle.certificate.specs.Entries.{same_row}
use Rattle.dual_bound.specs.Raising.{Lacks, AreMultipliers}
use Rattle.dual_bound.specs.declared.multipliers.AddNo.{AddNo}
use Rattle.dual_bound.specs.declared.multipliers.AddNo.TheVariants.{NoMemory}
use Rattle.dual_bound.specs.Adding.{in_range, Adds}
use Rattle.dual_bound.specs.Costs.{IsSmall, AreSmall}
use Rattle.certificate.proofs.RowsAlike.{same_equal}
use Rattle.certificate.proofs.RowsTold.{same_turned}
use Rattle.dual_bound.proofs.Summing.{product_size, abs_sum, sum_times, all_taken}

pub dot_with : (ms : Multipliers Row) (r : Row) (n : ℕ) (z : ℤ) (f : Row → ℤ) → pos (amount_of same_row ms r) +ℤ z ≡ pos n → dot (with_amount same_row ms r n) f ≡ dot ms f +ℤ z *ℤ f r
dot_with [] r n z f e = let k : z ≡ pos n = omega (arith, ints) in rw (k) (omega (arith, ints))
dot_with (x ∷ ms) r n z f e = by (same_row x.0 r) refl e (dot_with ms r n z f)
  where
    by : (b : Bool) → same_row x.0 r ≡ b → pos (cond b x.1 (amount_of same_row ms r)) +ℤ z ≡ pos n → (pos (amount_of same_row ms r) +ℤ z ≡ pos n → dot (with_amount same_row ms r n) f ≡ dot ms f +ℤ z *ℤ f r)
        → dot (cond b ((x.0, n) ∷ ms) (x ∷ with_amount same_row ms r n)) f ≡ pos x.1 *ℤ f x.0 +ℤ dot ms f +ℤ z *ℤ f r
    by true h k rest =
        let d : pos n *ℤ f r ≡ pos x.1 *ℤ f r +ℤ z *ℤ f r = ap (λ (w : ℤ). w *ℤ f r) (sym k) ∙ sum_times (pos x.1) z (f r) in
        subst (λ (y : Row). pos n *ℤ f y +ℤ dot ms f ≡ pos x.1 *ℤ f y +ℤ dot ms f +ℤ z *ℤ f r) (sym (same_equal x.0 r h)) (omega (arith, ints))
    by false h k rest = omega (arith, ints, rest k)

-- ## Sizes

lacks_with : (ms : Multipliers Row) (r q : Row) (n : ℕ) → same_row r q ≡ false → Lacks ms q → Lacks (with_amount same_row ms r n) q
lacks_with [] r q n e h = (e, tt)
lacks_with (x ∷ ms) r q n e h = by (same_row x.0 r) (lacks_with ms r q n e h.1)
  where
    by : (b : Bool) → Lacks (with_amount same_row ms r n) q → Lacks (cond b ((x.0, n) ∷ ms) (x ∷ with_amount same_row ms r n)) q
    by true rest = (h.0, h.1)
    by false rest = (h.0, rest)

pub small_with : (m : Voyage) (ms : Multipliers Row) (r : Row) (n : ℕ) → IsSmall m r → n ≤ 2 ^ 40 → AreSmall m ms → AreSmall m (with_amount same_row ms r n)
small_with m [] r n small low h = (small, low, tt, tt)
small_with m (x ∷ ms) r n small low h = by (same_row x.0 r) refl (small_with m ms r n small low h.3)
  where
    by : (b : Bool) → same_row x.0 r ≡ b → AreSmall m (with_amount same_row ms r n) → AreSmall m (cond b ((x.0, n) ∷ ms) (x ∷ with_amount same_row ms r n))
    by true e rest = (h.0, low, h.2, h.3)
    by false e rest = (h.0, h.1, lacks_with ms r x.0 n (same_turned r x.0 ∙ e) h.2, rest)

pub are_multipliers : (m : Voyage) (ms : Multipliers Row) → AreSmall m ms → AreMultipliers m ms
are_multipliers m [] h = tt
are_multipliers m (x ∷ ms) h = (h.0.named, h.1, h.2, are_multipliers m ms h.3)

pub amount_low : (m : Voyage) (ms : Multipliers Row) (r : Row) → AreMultipliers m ms → amount_of same_row ms r ≤ 2 ^ 40
amount_low m [] r h = omega arith
amount_low m (x ∷ ms) r h = by (same_row x.0 r) (amount_low m ms r h.3)
  where
    by : (b : Bool) → amount_of same_row ms r ≤ 2 ^ 40 → cond b x.1 (amount_of same_row ms r) ≤ 2 ^ 40
    by true rest = h.1
    by false rest = rest

pub dot_low : (m : Voyage) (f : Row → ℤ) (low : ℕ) → ((r : Row) → IsSmall m r → unsigned_abs (f r) ≤ low) → (ms : Multipliers Row) → AreSmall m ms → unsigned_abs (dot ms f) ≤ length ms * (2 ^ 40 * low)
dot_low m f low each [] h = omega arith
dot_low m f low each (x ∷ ms) h =
    omega (arith, abs_sum (pos x.1 *ℤ f x.0) (dot ms f), dot_low m f low each ms h.3, product_size (pos x.1) (f x.0) (2 ^ 40) low h.1 (each x.0 h.0))

-- ## Changes

pub changed_is : (ms : Multipliers Row) (r : Row) (z : ℤ) → changed_to same_row ms r z ≡ option_map (with_amount same_row ms r) (in_range z)
changed_is ms r (pos n) = by (nat_le n (2 ^ 40))
  where
    by : (b : Bool) → cond b (Some (with_amount same_row ms r n)) None ≡ option_map (with_amount same_row ms r) (cond b (Some n) None)
    by true = refl
    by false = refl
changed_is ms r (negsuc n) = refl

pub in_range_some : (z : ℤ) (n : ℕ) → in_range z ≡ Some n → (z ≡ pos n) × (n ≤ 2 ^ 40)
in_range_some (pos k) n e = by (nat_le k (2 ^ 40)) refl e
  where
    by : (b : Bool) → nat_le k (2 ^ 40) ≡ b → cond b (Some k) None ≡ Some n → (pos k ≡ pos n) × (n ≤ 2 ^ 40)
    by true h e = let same : k ≡ n = cc in let le : k ≤ 2 ^ 40 = grind (arith, nat_tests) in (ap pos same, subst (λ (i : ℕ). i ≤ 2 ^ 40) same le)
    by false h e = absurd (let bad : ⊥ = cc in bad)
in_range_some (negsuc k) n e = absurd (let bad : ⊥ = cc in bad)

pub raised_some : (ms : Multipliers Row) (r : Row) (z : ℤ) (n : ℕ) → in_range (pos (amount_of same_row ms r) +ℤ z) ≡ Some n → raised same_row ms r z ≡ Some (with_amount same_row ms r n)
raised_some ms r z n e = changed_is ms r (pos (amount_of same_row ms r) +ℤ z) ∙ ap (λ (o : Option ℕ). option_map (with_amount same_row ms r) o) e

pub raised_none : (ms : Multipliers Row) (r : Row) (z : ℤ) → in_range (pos (amount_of same_row ms r) +ℤ z) ≡ None → raised same_row ms r z ≡ None
raised_none ms r z e = changed_is ms r (pos (amount_of same_row ms r) +ℤ z) ∙ ap (λ (o : Option ℕ). option_map (with_amount same_row ms r) o) e

-- want of memory, where the multiplier would stay in range
pub adds_nothing : (o : Option (Multipliers Row)) (old new : Multipliers Row) {ms : Multipliers Row} → o ≡ Some ms → new ≡ old → (result : Result (Unit {0}) AddNo) → IsErrAnd result (λ e. e ≡ NoMemory) → Adds o old new result
adds_nothing o old new is same (Ok u) h = absurd h
adds_nothing None old new is same (Err e) h = absurd (let bad : ⊥ = cc in bad)
adds_nothing (Some ms) old new is same (Err e) h = subst (λ (f : AddNo). Adds (Some ms) old new (Err f)) (sym h) same

pub raised_within : (ms : Multipliers Row) (r : Row) (more : ℕ) → amount_of same_row ms r + more ≤ 2 ^ 40 → raised same_row ms r (pos more) ≡ Some (with_amount same_row ms r (amount_of same_row ms r + more))
raised_within ms r more le =
    let t : nat_le (amount_of same_row ms r + more) (2 ^ 40) ≡ true = grind (arith, nat_tests) in
    rw t refl

-- ## Multipliers taken one after the other

lacks_amount : (ms : Multipliers Row) (r : Row) → Lacks ms r → amount_of same_row ms r ≡ 0
lacks_amount [] r h = refl
lacks_amount (x ∷ ms) r h = rw (h.0) (lacks_amount ms r h.1)

lacks_append : (ms : Multipliers Row) (r : Row) (n : ℕ) → Lacks ms r → with_amount same_row ms r n ≡ ms ++ (r, n) ∷ []
lacks_append [] r n h = refl
lacks_append (x ∷ ms) r n h = rw (h.0) (ap (λ (es : Multipliers Row). x ∷ es) (lacks_append ms r n h.1))

others_lack : (ms : Multipliers Row) (x : Row) (i : ℕ) (d : Row × ℕ) → Lacks ms x → i < length ms → same_row x (get_or ms i d).0 ≡ false
others_lack [] x i d h lt = absurd (omega arith)
others_lack (y ∷ ms) x zero d h lt = same_turned x y.0 ∙ h.0
others_lack (y ∷ ms) x (suc i) d h lt = others_lack ms x i d h.1 (omega arith)

first_lack : (m : Voyage) (ms : Multipliers Row) (i : ℕ) (d : Row × ℕ) → AreMultipliers m ms → i < length ms → Lacks (take i ms) (get_or ms i d).0
first_lack m [] i d h lt = absurd (omega arith)
first_lack m (x ∷ ms) zero d h lt = tt
first_lack m (x ∷ ms) (suc i) d h lt = (others_lack ms x.0 i d h.2 (omega arith), first_lack m ms i d h.3 (omega arith))

pub named_at : (m : Voyage) (ms : Multipliers Row) (i : ℕ) (d : Row × ℕ) → AreMultipliers m ms → i < length ms → ((whole m).has (get_or ms i d).0 ≡ true) × ((get_or ms i d).1 ≤ 2 ^ 40)
named_at m [] i d h lt = absurd (omega arith)
named_at m (x ∷ ms) zero d h lt = (h.0, h.1)
named_at m (x ∷ ms) (suc i) d h lt = named_at m ms i d h.3 (omega arith)

take_more : (ms : Multipliers Row) (i : ℕ) (d : Row × ℕ) → i < length ms → take (suc i) ms ≡ take i ms ++ get_or ms i d ∷ []
take_more [] i d lt = absurd (omega arith)
take_more (x ∷ ms) zero d lt = refl
take_more (x ∷ ms) (suc i) d lt = ap (λ (es : Multipliers Row). x ∷ es) (take_more ms i d (omega arith))

module _ (m : Voyage) (ms : Multipliers Row) (i : ℕ) (d : Row × ℕ) (are : AreMultipliers m ms) (lt : i < length ms) where
  pub none_before : amount_of same_row (take i ms) (get_or ms i d).0 ≡ 0
  none_before = lacks_amount (take i ms) (get_or ms i d).0 (first_lack m ms i d are lt)

  pub one_behind : with_amount same_row (take i ms) (get_or ms i d).0 (get_or ms i d).1 ≡ take (suc i) ms
  one_behind = lacks_append (take i ms) (get_or ms i d).0 (get_or ms i d).1 (first_lack m ms i d are lt) ∙ sym (take_more ms i d lt)

-- a sum over the first multipliers
pub dot_more : (ms : Multipliers Row) (i : ℕ) (d : Row × ℕ) (f : Row → ℤ) → i < length ms → dot (take (suc i) ms) f ≡ dot (take i ms) f +ℤ pos (get_or ms i d).1 *ℤ f (get_or ms i d).0
dot_more [] i d f lt = absurd (omega arith)
dot_more (x ∷ ms) zero d f lt = omega (arith, ints)
dot_more (x ∷ ms) (suc i) d f lt = omega (arith, ints, dot_more ms i d f (omega arith))

-- ## Multipliers read one after the other from a slice

module _ (m : Voyage) (ms xs : Multipliers Row) (i : ℕ) (e : Row × ℕ) (are : AreMultipliers m ms) (same : xs ≡ ms) (lt : i < length xs) (here : e ≡ get_or xs i e) where
  lt_ms : i < length ms
  lt_ms = subst (λ (ys : Multipliers Row). i < length ys) same lt

  here_ms : get_or ms i e ≡ e
  here_ms = ap (λ (ys : Multipliers Row). get_or ys i e) (sym same) ∙ sym here

  pub named_here : ((whole m).has e.0 ≡ true) × (e.1 ≤ 2 ^ 40)
  named_here = subst (λ (x : Row × ℕ). ((whole m).has x.0 ≡ true) × (x.1 ≤ 2 ^ 40)) here_ms (named_at m ms i e are lt_ms)

  pub none_here : amount_of same_row (take i ms) e.0 ≡ 0
  none_here = subst (λ (x : Row × ℕ). amount_of same_row (take i ms) x.0 ≡ 0) here_ms (none_before m ms i e are lt_ms)

  pub behind_here : with_amount same_row (take i ms) e.0 e.1 ≡ take (i + 1) ms
  behind_here = subst (λ (x : Row × ℕ). with_amount same_row (take i ms) x.0 x.1 ≡ take (suc i) ms) here_ms (one_behind m ms i e are lt_ms) ∙ rw add-one refl

  pub dot_here : (f : Row → ℤ) (total result : ℤ) → total ≡ dot (take i ms) f → result ≡ total +ℤ pos e.1 *ℤ f e.0 → result ≡ dot (take (i + 1) ms) f
  dot_here f total result was is =
      let more : dot (take (suc i) ms) f ≡ dot (take i ms) f +ℤ pos e.1 *ℤ f e.0 = subst (λ (x : Row × ℕ). dot (take (suc i) ms) f ≡ dot (take i ms) f +ℤ pos x.1 *ℤ f x.0) here_ms (dot_more ms i e f lt_ms) in
      is ∙ ap (λ (z : ℤ). z +ℤ pos e.1 *ℤ f e.0) was ∙ sym more ∙ rw add-one refl

pub all_read : (ms xs : Multipliers Row) (i : ℕ) → xs ≡ ms → length xs ≤ i → take i ms ≡ ms
all_read ms xs i same le = all_taken ms i (subst (λ (ys : Multipliers Row). length ys ≤ i) same le)
