-- The place of a row among those that have multipliers.
use Rattle.std.proofs.Common.{◌≡◌, ℕ, zero, suc, ◌-◌, ◌<◌, ◌≤◌, Bool, true, false, cond, [], ◌∷◌, ◌++◌, Option, Some, None, length, length-append, take, get_or, set, arith, refl, sym, ◌∙◌, ap}
use Rattle.std.specs.Prelude.{nat_lt}
use Rattle.std.specs.Option.{IfSome}
use Rattle.std.specs.List.{position_or_len}
use Rattle.std.proofs.lemmas.Bool.Decides.{nat_tests}
use Rattle.std.proofs.lemmas.List.Quantifiers.{position-Some}
use Rattle.std.proofs.lemmas.List.Sums.{fails_before_first}
use Rattle.zero_one_rows.specs.declared.program.Row.{Row}
use Rattle.zero_one_rows.specs.declared.program.Row.TheVariants.{Flow}
use Rattle.proof_trees.specs.Multipliers.{Multipliers, amount_of, with_amount}
use Rattle.certificate.specs.Entries.{same_row}
use Rattle.dual_bound.specs.Adding.{place_in, amount_there}

abbrev pub Entry : Type 0
Entry = Row × ℕ

abbrev pub no_entry : Entry
no_entry = (Flow 0 0 0, 0)

amount_at : (ms : Multipliers Row) (r : Row) (k : ℕ) (d : Entry) → k < length ms → same_row (get_or ms k d).0 r ≡ true → ((j : ℕ) → j < k → same_row (get_or ms j d).0 r ≡ false) → (get_or ms k d).1 ≡ amount_of same_row ms r
amount_at [] r k d lt here before = absurd (omega arith)
amount_at (x ∷ ms) r zero d lt here before = rw here refl
amount_at (x ∷ ms) r (suc k) d lt here before = rw (before 0 (omega arith)) (amount_at ms r k d (omega arith) here (λ j h. before (suc j) (omega arith)))

with_at : (ms : Multipliers Row) (r : Row) (k n : ℕ) (d : Entry) → k < length ms → same_row (get_or ms k d).0 r ≡ true → ((j : ℕ) → j < k → same_row (get_or ms j d).0 r ≡ false) → set ms k ((get_or ms k d).0, n) ≡ with_amount same_row ms r n
with_at [] r k n d lt here before = absurd (omega arith)
with_at (x ∷ ms) r zero n d lt here before = rw here refl
with_at (x ∷ ms) r (suc k) n d lt here before = rw (before 0 (omega arith)) (ap (λ (es : Multipliers Row). x ∷ es) (with_at ms r k n d (omega arith) here (λ j h. before (suc j) (omega arith))))

amount_nowhere : (ms : Multipliers Row) (r : Row) (d : Entry) → ((j : ℕ) → j < length ms → same_row (get_or ms j d).0 r ≡ false) → 0 ≡ amount_of same_row ms r
amount_nowhere [] r d none = refl
amount_nowhere (x ∷ ms) r d none = rw (none 0 (omega arith)) (amount_nowhere ms r d (λ j h. none (suc j) (omega arith)))

with_nowhere : (ms : Multipliers Row) (r : Row) (n : ℕ) (d : Entry) → ((j : ℕ) → j < length ms → same_row (get_or ms j d).0 r ≡ false) → ms ++ (r, n) ∷ [] ≡ with_amount same_row ms r n
with_nowhere [] r n d none = refl
with_nowhere (x ∷ ms) r n d none = rw (none 0 (omega arith)) (ap (λ (es : Multipliers Row). x ∷ es) (with_nowhere ms r n d (λ j h. none (suc j) (omega arith))))

past_all : (a n : ℕ) → cond (nat_lt a n) (Some a) None ≡ None → n ≤ a
past_all a n e = by (nat_lt a n) refl e
  where
    by : (b : Bool) → nat_lt a n ≡ b → cond b (Some a) None ≡ None → n ≤ a
    by true h e = absurd (let bad : ⊥ = cc in bad)
    by false h e = grind (arith, nat_tests)

nowhere : (ms : Multipliers Row) (r : Row) → place_in ms r ≡ None → (j : ℕ) → j < length ms → same_row (get_or ms j no_entry).0 r ≡ false
nowhere ms r e j lt =
    let le : length ms ≤ position_or_len (λ (e : Entry). same_row e.0 r) ms = past_all (position_or_len (λ (e : Entry). same_row e.0 r) ms) (length ms) e in
    fails_before_first (λ (e : Entry). same_row e.0 r) ms j no_entry (omega arith)

-- the multiplier that stands at a row's place is the row's
pub amount_there_is : (ms : Multipliers Row) (r : Row) (o : Option ℕ) → place_in ms r ≡ o → amount_there ms o ≡ amount_of same_row ms r
amount_there_is ms r (Some k) e = let p = position-Some (λ (e : Entry). same_row e.0 r) ms k no_entry e in amount_at ms r k no_entry p.0 p.1 p.2
amount_there_is ms r None e = amount_nowhere ms r no_entry (nowhere ms r e)

-- a row's multiplier put behind the others
pub given_behind : (ms : Multipliers Row) (r : Row) (n : ℕ) → place_in ms r ≡ None → ms ++ (r, n) ∷ [] ≡ with_amount same_row ms r n
given_behind ms r n e = with_nowhere ms r n no_entry (nowhere ms r e)

back_at : (ms : Multipliers Row) (r : Row) (k given : ℕ) (d : Entry) → k < length ms → same_row (get_or ms k d).0 r ≡ true → ((j : ℕ) → j < k → same_row (get_or ms j d).0 r ≡ false)
    → set (with_amount same_row ms r given) k ((get_or (with_amount same_row ms r given) k d).0, amount_of same_row ms r) ≡ ms
back_at [] r k given d lt here before = absurd (omega arith)
back_at (x ∷ ms) r zero given d lt here before = rw here refl
back_at (x ∷ ms) r (suc k) given d lt here before = rw (before 0 (omega arith)) (ap (λ (es : Multipliers Row). x ∷ es) (back_at ms r k given d (omega arith) here (λ j h. before (suc j) (omega arith))))

take_front : (ms : Multipliers Row) (e : Entry) → take (length ms) (ms ++ e ∷ []) ≡ ms
take_front [] e = refl
take_front (x ∷ ms) e = ap (λ (es : Multipliers Row). x ∷ es) (take_front ms e)

-- the same, where the place is read and written
pub here_or : (es ms : Multipliers Row) (r : Row) (k n : ℕ) (e : Entry) → es ≡ ms → place_in ms r ≡ Some k → e ≡ get_or es k e → set es k (e.0, n) ≡ with_amount same_row ms r n
here_or es ms r k n e same is read =
    let p = position-Some (λ (x : Entry). same_row x.0 r) ms k e is in
    ap (λ (x : Entry). set es k (x.0, n)) (read ∙ ap (λ (ys : Multipliers Row). get_or ys k e) same) ∙ ap (λ (ys : Multipliers Row). set ys k ((get_or ms k e).0, n)) same ∙ with_at ms r k n e p.0 p.1 p.2

pub back_here : (ms es : Multipliers Row) (r : Row) (k given amount : ℕ) (e : Entry) → place_in ms r ≡ Some k → es ≡ with_amount same_row ms r given → amount ≡ amount_of same_row ms r → e ≡ get_or es k e → set es k (e.0, amount) ≡ ms
back_here ms es r k given amount e is same was read =
    let p = position-Some (λ (x : Entry). same_row x.0 r) ms k e is in
    ap (λ (x : Entry). set es k (x.0, amount)) read ∙ ap (λ (n : ℕ). set es k ((get_or es k e).0, n)) was
    ∙ ap (λ (ys : Multipliers Row). set ys k ((get_or ys k e).0, amount_of same_row ms r)) same ∙ back_at ms r k given e p.0 p.1 p.2

pub back_popped : (ms es : Multipliers Row) (r : Row) (given : ℕ) (new : Multipliers Row) → place_in ms r ≡ None → es ≡ with_amount same_row ms r given → new ≡ take (length es - 1) es → new ≡ ms
back_popped ms es r given new is same rest =
    let k : es ≡ ms ++ (r, given) ∷ [] = same ∙ sym (given_behind ms r given is) in
    let l : length es - 1 ≡ length ms = omega (arith, ap (λ (ys : Multipliers Row). length ys) k, length-append ms ((r, given) ∷ [])) in
    rest ∙ ap (λ (ys : Multipliers Row). take (length es - 1) ys) k ∙ ap (λ (i : ℕ). take i (ms ++ (r, given) ∷ [])) l ∙ take_front ms (r, given)

long_with : (ms : Multipliers Row) (r : Row) (n : ℕ) → length ms ≤ length (with_amount same_row ms r n)
long_with [] r n = omega arith
long_with (x ∷ ms) r n = by (same_row x.0 r) (long_with ms r n)
  where
    by : (b : Bool) → length ms ≤ length (with_amount same_row ms r n) → suc (length ms) ≤ length (cond b ((x.0, n) ∷ ms) (x ∷ with_amount same_row ms r n))
    by true h = omega arith
    by false h = omega arith

pub still_inside : (ms es : Multipliers Row) (r : Row) (n : ℕ) (o : Option ℕ) → es ≡ with_amount same_row ms r n → IfSome o (λ k. k < length ms) → IfSome o (λ k. k < length es)
still_inside ms es r n None e h = tt
still_inside ms es r n (Some k) e h = omega (arith, long_with ms r n, ap (λ (ys : Multipliers Row). length ys) e)
