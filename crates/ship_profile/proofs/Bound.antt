-- What a test or a chain of steps that came out well tells of its parts.
use Rattle.std.proofs.Common.{◌≡◌, ℕ, suc, ◌+◌, Bool, true, false, ◌||◌, ◌&&◌, List, [], ◌∷◌, ◌++◌, length, get_or, Err, Ok, ◌⊎◌, inl, inr, refl, arith}
use Rattle.std.specs.Prelude.{All, Result, if◌then◌else◌}
use Rattle.std.proofs.lemmas.Bool.{false≢true}
use Rattle.std.proofs.lemmas.List.Elements.{All-cons, All-nil}
use Rattle.toml.specs.Data.{Data, Items, Members}
use Rattle.toml_values.specs.declared.of_values.Unread.{Unread}
use Rattle.toml_values.specs.declared.of_values.Unread.TheVariants as unread
use Rattle.toml_values.specs.Values.{at_key, or_default, passing, table_of}
use Rattle.toml_values.proofs.ValueLaws.{bound, same_Ok, err_is_no_ok, under_key, default_or}
use Rattle.toml_values.proofs.ArrayLaws.{each_keeps}
use Rattle.ship_profile.specs.declared.faults.ProfileKey.{ProfileKey}
use Rattle.ship_profile.specs.declared.faults.ProfileFault.{ProfileFault}
use Rattle.ship_profile.specs.declared.faults.ProfileFault.TheVariants.{Missing, BadValue}
use Rattle.ship_profile.specs.Keys.{unless, keyed, need, may, spelling, entry_after, entries}

pub unless_is : (b : Bool) (e : ProfileFault) (u : Unit {0}) → unless b e ≡ Ok u → b ≡ true
unless_is true e u h = refl
unless_is false e u h = absurd (err_is_no_ok e u h)

pub keyed_is : {X : Type 0} (k : ProfileKey) (index : ℕ) (r : Result X Unread) (x : X) → keyed k index r ≡ Ok x → r ≡ Ok x
keyed_is k index (Ok y) x h = cc
keyed_is k index (Err unread.Missing) x h = absurd (err_is_no_ok (Missing k index) x h)
keyed_is k index (Err unread.BadValue) x h = absurd (err_is_no_ok (BadValue k index) x h)

-- what was read under a key was read of a value
pub need_is : {X : Type 0} (value_of : Data → Result X Unread) (P : X → Type 0) → ((d : Data) (x : X) → value_of d ≡ Ok x → P x) → (k : ProfileKey) (index : ℕ) (entry : Members) (x : X) → need value_of k index entry ≡ Ok x → P x
need_is value_of P f k index entry x h = under_key value_of P f (spelling k) entry x (keyed_is k index (at_key value_of (spelling k) entry) x h)

pub may_is : {X : Type 0} (value_of : Data → Result X Unread) (default : X) (P : X → Type 0) → P default → ((d : Data) (x : X) → value_of d ≡ Ok x → P x) → (k : ProfileKey) (index : ℕ) (entry : Members) (x : X) → may value_of default k index entry ≡ Ok x → P x
may_is value_of default P p f k index entry x h = default_or P default (at_key value_of (spelling k) entry) x p (under_key value_of P f (spelling k) entry) (keyed_is k index (or_default default (at_key value_of (spelling k) entry)) x h)

-- what each entry keeps, the entries have
pub entries_keep : {X : Type 0} (k : ProfileKey) (entry_of : ℕ → List X → Members → Result X ProfileFault) (P : List X → Type 0)
    → ((index : ℕ) (before : List X) (m : Members) (x : X) → P before → entry_of index before m ≡ Ok x → P (before ++ x ∷ []))
    → P [] → (ds : Items) (xs : List X) → entries k entry_of ds ≡ Ok xs → P xs
entries_keep {X} k entry_of P step none ds xs h =
    each_keeps (entry_after k entry_of) P (λ before d x p r. let t = bound (keyed k 0 (table_of d)) (entry_of (length before + 1) before) x r in step (length before + 1) before t.value x p t.goes_on) [] ds xs none h

pub both : (a b : Bool) → (a && b) ≡ true → (a ≡ true) × (b ≡ true)
both true b h = (refl, h)
both false b h = absurd (false≢true h)

pub either : (a b : Bool) → (a || b) ≡ true → (a ≡ true) ⊎ (b ≡ true)
either true b h = inl refl
either false b h = inr h

pub or_left : (a b : Bool) → a ≡ true → (a || b) ≡ true
or_left true b h = refl
or_left false b h = absurd (false≢true h)

pub or_right : (a b : Bool) → b ≡ true → (a || b) ≡ true
or_right true b h = refl
or_right false b h = h

pub and_true : (a b : Bool) → a ≡ true → b ≡ true → (a && b) ≡ true
and_true true b h k = k
and_true false b h k = absurd (false≢true h)

pub all_map : {X : Type 0} (P Q : X → Type 0) (xs : List X) → ((x : X) → P x → Q x) → All P xs → All Q xs
all_map P Q xs f h = λ k d lt. f (get_or xs k d) (h k d lt)

pub All-push : {X : Type 0} (P : X → Type 0) (xs : List X) (x : X) → All P xs → P x → All P (xs ++ x ∷ [])
All-push P [] x h p = All-cons P x [] p (All-nil P)
All-push P (y ∷ ys) x h p = All-cons P y (ys ++ x ∷ []) (h 0 y (omega arith)) (All-push P ys x (λ k d lt. h (suc k) d (omega arith)) p)

-- what passed a test is what was tested
pub passed : {X : Type 0} (test : X → Bool) (x y : X) → passing test x ≡ Ok y → x ≡ y
passed test x y h = of_test (test x) x y h
  where
    of_test : {X : Type 0} (b : Bool) (x y : X) → (if b then Ok x else Err unread.BadValue) ≡ Ok y → x ≡ y
    of_test true x y h = same_Ok x y h
    of_test false x y h = absurd (err_is_no_ok unread.BadValue y h)
