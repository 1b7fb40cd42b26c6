-- Entries read one after the other.
use Rattle.std.proofs.Common.{◌≡◌, ℕ, ◌+◌, ◌<◌, ◌≤◌, List, Ok, Err, [], ◌∷◌, ◌++◌, drop, get_or, length, Result, sym, ap, ◌∙◌, arith}
use Rattle.std.proofs.lemmas.Option.{same_Some}
use Rattle.std.proofs.lemmas.List.{length-append}
use Rattle.std.specs.Result.{result_err}
use Rattle.toml.specs.Data.{Data}
use Rattle.toml.specs.View.{view, items_view}
use Rattle.toml.specs.declared.value.Value.{Value}
use Rattle.toml_values.specs.declared.of_values.Unread.{Unread}
use Rattle.toml_values.specs.declared.of_values.Unread.TheVariants as unread
use Rattle.toml_values.specs.Arrays.{each_after, each_of}
use Rattle.toml_values.proofs.ValueLaws.{err_is_no_ok, same_Ok}
use Rattle.toml_values.proofs.ArrayLaws.{goes_on, stops, is_read}
use Rattle.bookings.specs.declared.booking_keys.BookingKey.{BookingKey}
use Rattle.bookings.specs.declared.faults.BookingFault.{BookingFault}
use Rattle.bookings.specs.Reading.{of_key}

-- the items before an index gave these, and the rest is read after them
pub record IsReading {X E : Type 0} (read : List X → Data → Result X E) (vs : List Value) (i : ℕ) (before : List X) : Type 0 where
  pub same : each_after read before (items_view (drop i vs)) ≡ each_after read [] (items_view vs)
  pub count : length before ≡ i

pub reads_on : {X E : Type 0} (read : List X → Data → Result X E) (vs : List Value) (i : ℕ) (before : List X) (v : Value) (x : X) → i < length vs → v ≡ get_or vs i v → read before (view v) ≡ Ok x → IsReading read vs i before → IsReading read vs (i + 1) (before ++ x ∷ [])
reads_on read vs i before v x lt is h so_far =
    let count = so_far.count in
    record {
      same = goes_on read before vs i v x (each_after read [] (items_view vs)) lt is h so_far.same;
      count = omega (arith, length-append before (x ∷ []), count);
    }

pub stops_at : {X E : Type 0} (read : List X → Data → Result X E) (vs : List Value) (i : ℕ) (before : List X) (v : Value) (e : E) → i < length vs → v ≡ get_or vs i v → read before (view v) ≡ Err e → IsReading read vs i before → each_after read [] (items_view vs) ≡ Err e
stops_at read vs i before v e lt is h so_far = stops read before vs i v e (each_after read [] (items_view vs)) lt is h so_far.same

pub all_read : {X E : Type 0} (read : List X → Data → Result X E) (vs : List Value) (i : ℕ) (before : List X) → length vs ≤ i → IsReading read vs i before → each_after read [] (items_view vs) ≡ Ok before
all_read read vs i before le so_far = is_read read before vs i (each_after read [] (items_view vs)) le so_far.same

abbrev err : {A E : Type 0} → E → Result A E
err e = Err e

same_Err : {A E : Type 0} (d e : E) → err {A = A} d ≡ Err e → d ≡ e
same_Err {A} {E} d e h = same_Some d e (ap (λ (r : Result A E). result_err r) h)

-- what was read of a key was read
pub key_read : {X : Type 0} (key : BookingKey) (index : ℕ) (r : Result X Unread) (x : X) → of_key key index r ≡ Ok x → r ≡ Ok x
key_read key index (Ok y) x h = ap (λ z. Ok z) (same_Ok y x h)
key_read key index (Err unread.Missing) x h = absurd (err_is_no_ok _ x h)
key_read key index (Err unread.BadValue) x h = absurd (err_is_no_ok _ x h)

-- the fault of an item under a key is that of all of them
pub key_stops : {X : Type 0} (key : BookingKey) (index : ℕ) (read : Data → Result X Unread) (vs : List Value) (i : ℕ) (before : List X) (v : Value) (r : Result X Unread) (e : BookingFault) → i < length vs → v ≡ get_or vs i v → r ≡ read (view v) → of_key key index r ≡ Err e → IsReading (λ _. read) vs i before
    → of_key key index (each_of read (items_view vs)) ≡ Err e
key_stops key index read vs i before v (Ok x) e lt is same h so_far = absurd (err_is_no_ok e x (sym h))
key_stops key index read vs i before v (Err unread.Missing) e lt is same h so_far = ap (of_key key index) (stops_at (λ _. read) vs i before v unread.Missing lt is (sym same) so_far) ∙ ap (λ d. Err d) (same_Err _ e h)
key_stops key index read vs i before v (Err unread.BadValue) e lt is same h so_far = ap (of_key key index) (stops_at (λ _. read) vs i before v unread.BadValue lt is (sym same) so_far) ∙ ap (λ d. Err d) (same_Err _ e h)
