-- Separations that were read obey the rules.
use Rattle.std.proofs.Common.{◌≡◌, ℕ, ◌≤◌, Bool, true, false, ◌&&◌, List, [], ◌∷◌, ◌++◌, get_or, Ok, Err, inl, inr, subst, refl, sym, ◌∙◌, arith}
use Rattle.std.specs.Prelude.{All, AllPairs, bytes_eq, Result, if◌then◌else◌}
use Rattle.std.specs.List.{list_any}
use Rattle.std.proofs.lemmas.Bool.{false≢true}
use Rattle.std.proofs.lemmas.List.Elements.{All-nil}
use Rattle.std.proofs.lemmas.List.Quantifiers.{all_pairs_push}
use Rattle.std.proofs.lemmas.Slice.Eq.{bytes_eq-Decides}
use Rattle.toml.specs.Data.{Items, Members}
use Rattle.toml_values.specs.declared.of_values.Unread.{Unread}
use Rattle.toml_values.specs.Values.{at_key, number_of, text_that}
use Rattle.toml_values.proofs.ValueLaws.{bound, same_Ok, err_is_no_ok, text_passes, number_within, under_key}
use Rattle.stow_data.specs.declared.geometry.Separation.{Separation}
use Rattle.stow_data.specs.Profile.{is_class, IsSeparation, SamePair}
use Rattle.ship_profile.specs.declared.faults.ProfileKey.TheVariants as key
use Rattle.ship_profile.specs.declared.faults.ProfileFault.TheVariants.{BadSeparation}
use Rattle.ship_profile.specs.Keys.{spelling}
use Rattle.ship_profile.specs.Separations.{classes_and_level, is_same_pair, unless_again, unless_unread, separation_of, separations_of}
use Rattle.ship_profile.proofs.Bound.{or_left, or_right, and_true, entries_keep, All-push}
use Rattle.ship_profile.proofs.Apart.{any_at}

class_read : (k : List ℕ) (entry : Members) (s : List ℕ) → at_key (text_that is_class) k entry ≡ Ok s → is_class s ≡ true
class_read k entry s h = under_key (text_that is_class) (λ (t : List ℕ). is_class t ≡ true) (text_passes is_class) k entry s h

entry_is : (entry : Members) (e : Separation) → classes_and_level entry ≡ Ok e → IsSeparation e
unfolding classes_and_level
entry_is entry e h =
    let a = bound (at_key (text_that is_class) (spelling key.A) entry) _ e h in
    let b = bound (at_key (text_that is_class) (spelling key.B) entry) _ e a.goes_on in
    let level = bound (at_key (number_of 1 3) (spelling key.Level) entry) _ e b.goes_on in
    let level_in = under_key (number_of 1 3) (λ n. (1 ≤ n) × (n ≤ 3)) (number_within 1 3) (spelling key.Level) entry level.value level.is in
    subst IsSeparation (same_Ok _ e level.goes_on) record { first = class_read (spelling key.A) entry a.value a.is; second = class_read (spelling key.B) entry b.value b.is; level_from = level_in.0; level_to = level_in.1 }

unread_is : (index : ℕ) (r : Result Separation Unread) (e : Separation) → unless_unread index r ≡ Ok e → r ≡ Ok e
unread_is index (Ok d) e h = cc
unread_is index (Err _) e h = absurd (err_is_no_ok (BadSeparation index) e h)

new_is : (index : ℕ) (earlier : List Separation) (d e : Separation) → unless_again index earlier d ≡ Ok e → (list_any (λ c. is_same_pair c d) earlier ≡ false) × (d ≡ e)
new_is index earlier d e h = of_test (list_any (λ c. is_same_pair c d) earlier) h
  where
    of_test : (b : Bool) → (if b then Err (BadSeparation index) else Ok d) ≡ Ok e → (b ≡ false) × (d ≡ e)
    of_test true r = absurd (err_is_no_ok (BadSeparation index) e r)
    of_test false r = (refl, same_Ok d e r)

same_bytes : (a b : List ℕ) → a ≡ b → bytes_eq a b ≡ true
same_bytes a b h = (bytes_eq-Decides a b).1 h

pair_found : (d e : Separation) → SamePair d e → is_same_pair d e ≡ true
pair_found d e (inl h) = or_left (bytes_eq d.a e.a && bytes_eq d.b e.b) _ (and_true (bytes_eq d.a e.a) _ (same_bytes d.a e.a h.0) (same_bytes d.b e.b h.1))
pair_found d e (inr h) = or_right (bytes_eq d.a e.a && bytes_eq d.b e.b) _ (and_true (bytes_eq d.a e.b) _ (same_bytes d.a e.b h.0) (same_bytes d.b e.a h.1))

pub record AreSeparations (es : List Separation) : Type 0 where
  pub each : All IsSeparation es
  pub pairs_once : AllPairs (λ d e. SamePair d e → ⊥) es

next_is : (index : ℕ) (earlier : List Separation) (m : Members) (e : Separation) → AreSeparations earlier → separation_of index earlier m ≡ Ok e → AreSeparations (earlier ++ e ∷ [])
unfolding separation_of
next_is index earlier m e p h =
    let read = bound (unless_unread index (classes_and_level m)) (unless_again index earlier) e h in
    let new = new_is index earlier read.value e read.goes_on in
    let rules = entry_is m read.value (unread_is index (classes_and_level m) read.value read.is) in
    let next : AreSeparations (earlier ++ read.value ∷ []) = record {
      each = All-push IsSeparation earlier read.value p.each rules;
      pairs_once = all_pairs_push (λ d e. SamePair d e → ⊥) earlier read.value p.pairs_once (λ k d lt same. false≢true (sym new.0 ∙ any_at (λ c. is_same_pair c read.value) earlier k d lt (pair_found (get_or earlier k d) read.value same)));
    } in
    subst (λ (x : Separation). AreSeparations (earlier ++ x ∷ [])) new.1 next

pub separations_are : (ds : Items) (es : List Separation) → separations_of ds ≡ Ok es → AreSeparations es
separations_are ds es h = entries_keep key.Separate separation_of AreSeparations next_is (record { each = All-nil IsSeparation; pairs_once = λ i j d lt within. absurd (omega arith) }) ds es h
