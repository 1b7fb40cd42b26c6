-- What `all` and `any` answer over a range, said of the numbers in it.
use Rattle.std.proofs.Common.{◌≡◌, Bool, ℕ, ◌+◌, ◌-◌, ◌≤◌, ◌<◌, List, length, get_or, arith, subst, refl, true, false}
use denote.Param.Members.{Mut}
use Rattle.std.specs.declared.option.Option.{Option}
use Rattle.std.specs.Iterator.{YieldsThen}
use Rattle.std.specs.List.{FoldsTo, range_with_len, AllWithin, HoldsAt}
use Rattle.std.specs.Fn.{Called}
use Rattle.std.specs.Option.{MatchOption}
use Rattle.std.specs.Bool.{MatchBool, IsTrue}
use Rattle.std.specs.Range.{range_steps}
use Rattle.std.proofs.lemmas.Bool.{both_ways}
use Rattle.std.proofs.lemmas.Iterator.{cases_from_all, cases_from_any, YieldsList-from_range}
use Rattle.std.proofs.lemmas.List.FromFn.{length-range_with_len, get_or-range_with_len}

-- a number of a range stands in its list, and each item of the list is one of its numbers
within : (a b : ℕ) (P : ℕ → Type 0) → AllWithin P (range_with_len a (b - a)) 0 (length (range_with_len a (b - a))) → (k : ℕ) → a ≤ k → k < b → P k
within a b P h k low high =
    subst P {x = get_or (range_with_len a (b - a)) (k - a) 0} {y = k} (omega (arith, get_or-range_with_len a (b - a) (k - a) 0 (omega arith)))
    (h (k - a) 0 (omega arith) (omega (arith, length-range_with_len a (b - a))))

one_of : (a b : ℕ) (P : ℕ → Type 0) → (k : ℕ) × (k < length (range_with_len a (b - a))) × HoldsAt P (range_with_len a (b - a)) k → (k : ℕ) × (a ≤ k) × (k < b) × P k
one_of a b P h =
    let i : h.0 < b - a = omega (arith, length-range_with_len a (b - a), h.1) in
    (a + h.0, omega arith, omega (arith, i), subst P (get_or-range_with_len a (b - a) h.0 0 i) (h.2 0))

pub all_from_Range : {F : Type 0} {g : Mut F (ℕ × Unit {0}) Bool} (s u : _) (f : F) (r : Bool) (Yes No : ℕ → Type 0)
    → (xs : List ℕ) × (o : Option ℕ) × (j : F) × YieldsThen (range_steps (λ a b. b - a) (λ a b. b ≡ a + 1)) s xs o u × FoldsTo (λ p x q. Called g p (x, tt) true q) f xs j × MatchOption o (r ≡ true) (λ x. (r ≡ false) × ((h : F) × Called g j (x, tt) false h))
    → ((x : ℕ) (q : F) → Called g f (x, tt) true q → (q ≡ f) × Yes x) → ((x : ℕ) (q : F) → Called g f (x, tt) false q → No x)
    → MatchBool r ((k : ℕ) → s.start ≤ k → k < s.end → Yes k) ((k : ℕ) × (s.start ≤ k) × (k < s.end) × No k)
all_from_Range s u f r Yes No d holds fails = by r (cases_from_all u f r Yes No d (YieldsList-from_range s.start s.end _ refl refl) holds fails)
  where
    all : List ℕ
    all = range_with_len s.start (s.end - s.start)

    by : (o : Bool) → MatchBool o (AllWithin Yes all 0 (length all)) ((k : ℕ) × (k < length all) × HoldsAt No all k) → MatchBool o ((k : ℕ) → s.start ≤ k → k < s.end → Yes k) ((k : ℕ) × (s.start ≤ k) × (k < s.end) × No k)
    by true h = within s.start s.end Yes h
    by false h = one_of s.start s.end No h

pub any_from_Range : {F : Type 0} {g : Mut F (ℕ × Unit {0}) Bool} (s u : _) (f : F) (r : Bool) (Yes No : ℕ → Type 0)
    → (xs : List ℕ) × (o : Option ℕ) × (j : F) × YieldsThen (range_steps (λ a b. b - a) (λ a b. b ≡ a + 1)) s xs o u × FoldsTo (λ p x q. Called g p (x, tt) false q) f xs j × MatchOption o (r ≡ false) (λ x. (r ≡ true) × ((h : F) × Called g j (x, tt) true h))
    → ((x : ℕ) (q : F) → Called g f (x, tt) true q → Yes x) → ((x : ℕ) (q : F) → Called g f (x, tt) false q → (q ≡ f) × No x)
    → MatchBool r ((k : ℕ) × (s.start ≤ k) × (k < s.end) × Yes k) ((k : ℕ) → s.start ≤ k → k < s.end → No k)
any_from_Range s u f r Yes No d holds fails = by r (cases_from_any u f r Yes No d (YieldsList-from_range s.start s.end _ refl refl) holds fails)
  where
    all : List ℕ
    all = range_with_len s.start (s.end - s.start)

    by : (o : Bool) → MatchBool o ((k : ℕ) × (k < length all) × HoldsAt Yes all k) (AllWithin No all 0 (length all)) → MatchBool o ((k : ℕ) × (s.start ≤ k) × (k < s.end) × Yes k) ((k : ℕ) → s.start ≤ k → k < s.end → No k)
    by true h = one_of s.start s.end Yes h
    by false h = within s.start s.end No h

-- what holds of all numbers, if it holds of those below n
pub tells_all : (P : ℕ → Type 0) (All : Type 0) (r : Bool) (n : ℕ) → MatchBool r ((k : ℕ) → 0 ≤ k → k < n → P k) ((k : ℕ) × (0 ≤ k) × (k < n) × (P k → ⊥))
    → (((k : ℕ) → k < n → P k) → All) → (All → (k : ℕ) → P k) → (IsTrue r → All) × (All → IsTrue r)
tells_all P All true n m whole each = (λ h. whole (λ k l. m k (omega arith) l), λ x. refl)
tells_all P All false n m whole each = (λ h. absurd (both_ways false refl h), λ x. absurd (m.3 (each x m.0)))

-- what holds if it holds of some number, and doesn't if it holds of none below n
pub tells_any : (P : ℕ → Type 0) (Any : Type 0) (r : Bool) (n : ℕ) → MatchBool r ((k : ℕ) × (0 ≤ k) × (k < n) × P k) ((k : ℕ) → 0 ≤ k → k < n → P k → ⊥)
    → ((k : ℕ) → P k → Any) → (((k : ℕ) → k < n → P k → ⊥) → Any → ⊥) → (IsTrue r → Any) × (Any → IsTrue r)
tells_any P Any true n m some none = (λ h. some m.0 m.3, λ x. refl)
tells_any P Any false n m some none = (λ h. absurd (both_ways false refl h), λ x. absurd (none (λ k l. m k (omega arith) l) x))
