-- In a message, no part of a cell group is left out.
use Rattle.std.proofs.Common.{◌≡◌, ◌⊎◌, inl, inr, ℕ, suc, zero, ◌+◌, refl, sym, ap, subst, cond, Bool, true, false, ◌&&◌, ◌||◌, not, List, [], ◌∷◌, length, map, take, Option, Some, None, is_none, unwrap_or, slice_get, find, ◌∙◌}
use Rattle.std.specs.List.{list_any}
use Rattle.std.specs.Option.{option_or}
use Rattle.edifact_segments.specs.declared.segments.Segment.{Segment}
use Rattle.stow_data.specs.declared.geometry.Length.{Length}
use Rattle.baplie.specs.declared.causes.Cause.{Cause}
use Rattle.baplie.specs.declared.causes.Cause.TheVariants.{BadCell, NoId, NameTooLong, LengthLeftOut, BadWeight, NoWeightOrPort}
use Rattle.baplie.specs.declared.parts.CellGroup.{CellGroup}
use Rattle.baplie.specs.declared.parts.Message.{Message}
use Rattle.stow_data.specs.Types.{length_of_type}
use Rattle.baplie.specs.Texts.{cell_of, weight_of}
use Rattle.baplie.specs.Segments.{component, is_empty_text, opens, is_container, names_port, weighs, is_verified, is_unverified, is_danger}
use Rattle.baplie.specs.Groups.{prior, shows, is_long, name_of, text_in, cell_in, long_of_bay, weight_in, class_from, class_in, facts_at, facts_from, cell_group}
use Rattle.baplie.specs.Faults.{body, head, groups, numbered, numbered_groups}
use Rattle.baplie.specs.Messages.{IsMessage}
use Rattle.baplie.specs.Told.{AreTold, IsTold}

none≢some : {A : Type 0} {x : A} → None ≡ Some x → ⊥
none≢some e = cc

some-same : {A : Type 0} {x y : A} → Some x ≡ Some y → x ≡ y
some-same e = cc

false≢true : false ≡ true → ⊥
false≢true e = cc

-- ## Tests

and_second : (a b : Bool) → a ≡ true → (a && b) ≡ false → b ≡ false
and_second true b e h = h
and_second false b e h = absurd (false≢true e)

not_both : (a b : Bool) → not (a && b) ≡ false → (a ≡ true) × (b ≡ true)
not_both true true h = (refl, refl)
not_both true false h = absurd (false≢true (sym h))
not_both false b h = absurd (false≢true (sym h))

or_neither : (a b : Bool) → (a || b) ≡ false → (a ≡ false) × (b ≡ false)
or_neither true b h = absurd (false≢true (sym h))
or_neither false b h = (refl, h)

once_second : (n p : Bool) → n ≡ true → p ≡ false → (n && not p) ≡ true
once_second true false e h = refl
once_second true true e h = absurd (false≢true (sym h))
once_second false p e h = absurd (false≢true e)

or_first : (a b : Bool) → a ≡ true → (a || b) ≡ true
or_first true b e = refl
or_first false b e = absurd (false≢true e)

or_second : (a b : Bool) → b ≡ true → (a || b) ≡ true
or_second true b e = refl
or_second false b e = e

is_some : {A : Type 0} (o : Option A) → is_none o ≡ false → (x : A) × (o ≡ Some x)
is_some None h = absurd (false≢true (sym h))
is_some (Some x) h = (x, refl)

-- ## Searches

-- the first one stands at a place, and none before it
abbrev pub StandsAt : (Segment → Bool) → List Segment → Segment → Type 0
StandsAt p xs s = (k : ℕ) × (slice_get xs k ≡ Some s) × (p s ≡ true) × (list_any p (take k xs) ≡ false)

stands : (p : Segment → Bool) (xs : List Segment) (s : Segment) → find p xs ≡ Some s → StandsAt p xs s
stands p [] s e = absurd (none≢some e)
stands p (x ∷ xs) s e = go (p x) refl e (stands p xs s)
  where
    go : (t : Bool) → p x ≡ t → cond t (Some x) (find p xs) ≡ Some s → (find p xs ≡ Some s → StandsAt p xs s) → StandsAt p (x ∷ xs) s
    go true h e k =
        let Q : Segment → Type 0 = λ y. p y ≡ true in
        (0, e, subst Q (some-same e) h, refl)
    go false h e k =
        let r = k e in
        let none : (p x || list_any p (take r.0 xs)) ≡ false = rw h r.3 in
        (suc r.0, r.1, r.2, none)

any_found : (p : Segment → Bool) (xs : List Segment) → list_any p xs ≡ true → (s : Segment) × (find p xs ≡ Some s)
any_found p [] h = absurd (false≢true h)
any_found p (x ∷ xs) h = go (p x) h (any_found p xs)
  where
    go : (t : Bool) → (t || list_any p xs) ≡ true → (list_any p xs ≡ true → (s : Segment) × (find p xs ≡ Some s)) → (s : Segment) × (cond t (Some x) (find p xs) ≡ Some s)
    go true h k = (x, refl)
    go false h k = k h

found_any : (p : Segment → Bool) (xs : List Segment) (s : Segment) → find p xs ≡ Some s → list_any p xs ≡ true
found_any p [] s e = absurd (none≢some e)
found_any p (x ∷ xs) s e = go (p x) e (found_any p xs s)
  where
    go : (t : Bool) → cond t (Some x) (find p xs) ≡ Some s → (find p xs ≡ Some s → list_any p xs ≡ true) → (t || list_any p xs) ≡ true
    go true e k = refl
    go false e k = k e

-- what weighs, and isn't verified, is unverified
unverified : (xs : List Segment) → list_any weighs xs ≡ true → find is_verified xs ≡ None → list_any is_unverified xs ≡ true
unverified [] h e = absurd (false≢true h)
unverified (x ∷ xs) h e = go (is_verified x) (is_unverified x) h e (unverified xs)
  where
    go : (t u : Bool) → ((t || u) || list_any weighs xs) ≡ true → cond t (Some x) (find is_verified xs) ≡ None → (list_any weighs xs ≡ true → find is_verified xs ≡ None → list_any is_unverified xs ≡ true) → (u || list_any is_unverified xs) ≡ true
    go true u h e k = absurd (none≢some (sym e))
    go false true h e k = refl
    go false false h e k = k h e

-- the segment that gives the weight, at its place
abbrev pub IsWeighed : List Segment → Type 0
IsWeighed xs = (s : Segment) × (k : ℕ) × (option_or (find is_verified xs) (find is_unverified xs) ≡ Some s) × (slice_get xs k ≡ Some s) × (weighs s ≡ true)

weigher : (xs : List Segment) → list_any weighs xs ≡ true → IsWeighed xs
weigher xs h = go (find is_verified xs) refl
  where
    go : (r : Option Segment) → find is_verified xs ≡ r → IsWeighed xs
    go (Some s) e =
        let at = stands is_verified xs s e in
        let which : option_or (find is_verified xs) (find is_unverified xs) ≡ Some s = rw e refl in
        (s, at.0, which, at.1, or_first (is_verified s) (is_unverified s) at.2)
    go None e =
        let other = any_found is_unverified xs (unverified xs h e) in
        let at = stands is_unverified xs other.0 other.1 in
        let which : option_or (find is_verified xs) (find is_unverified xs) ≡ Some other.0 = rw e other.1 in
        (other.0, at.0, which, at.1, or_second (is_verified other.0) (is_unverified other.0) at.2)

-- ## Groups

numbered_at : (n : ℕ) (gs : List (List Segment)) (i : ℕ) (g : List Segment) → slice_get gs i ≡ Some g → (m : ℕ) × (slice_get (numbered n gs) i ≡ Some (m, g))
numbered_at n [] i g e = absurd (none≢some e)
numbered_at n (h ∷ gs) zero g e = (n, ap (λ x. Some (n, x)) (some-same e))
numbered_at n (h ∷ gs) (suc i) g e = numbered_at (n + length h) gs i g e

abbrev pub Begins : List Segment → Type 0
Begins g = (s : Segment) × (ss : List Segment) × (g ≡ s ∷ ss)

begins : (xs : List Segment) (i : ℕ) (g : List Segment) → slice_get (groups xs) i ≡ Some g → Begins g
begins [] i g e = absurd (none≢some e)
begins (x ∷ xs) i g e = go (opens x) i e (λ j. begins xs j g)
  where
    go : (t : Bool) (i : ℕ) → slice_get (cond t ((x ∷ head xs) ∷ groups xs) (groups xs)) i ≡ Some g → ((j : ℕ) → slice_get (groups xs) j ≡ Some g → Begins g) → Begins g
    go true zero e k = (x, head xs, sym (some-same e))
    go true (suc i) e k = k i e
    go false i e k = k i e

short : (text : List ℕ) → is_long text ≡ false → name_of text ≡ text
short text h = rw h refl

-- a group in which there is no cause
abbrev pub IsFaultless : List Segment → Type 0
IsFaultless group = (place : ℕ) (s : Segment) (c : Cause) → slice_get group place ≡ Some s → shows (prior group (take place group)) s c ≡ false

faultless : (segments : List Segment) (message : Message) → IsMessage segments message → (i : ℕ) (group : List Segment) → slice_get (groups (body segments)) i ≡ Some group → IsFaultless group
faultless segments message m i group e place s c at = go (shows (prior group (take place group)) s c) refl
  where
    n : (m : ℕ) × (slice_get (numbered_groups segments) i ≡ Some (m, group))
    n = numbered_at (3 + length (head (body segments))) (groups (body segments)) i group e

    go : (t : Bool) → shows (prior group (take place group)) s c ≡ t → shows (prior group (take place group)) s c ≡ false
    go false h = h
    go true h = absurd (m.faultless (n.0 + place) c (inr (inl (record { index = i; first = n.0; group = group; is_group = n.1; place = place; number = refl; segment = s; is_segment = at; is_cause = h }))))

-- the names that are read are of no more than 35 bytes
long_container : (c l m x : Bool) → c ≡ true → ((c && (l || m)) || x) ≡ false → (l ≡ false) × (m ≡ false)
long_container true l m x e h = or_neither l m (or_neither (l || m) x h).0
long_container false l m x e h = absurd (false≢true e)

long_first : (a n q l : Bool) → n ≡ true → (a || ((n || q) && l)) ≡ false → l ≡ false
long_first a true q l e h = (or_neither a l h).1
long_first a false q l e h = absurd (false≢true e)

long_other : (a n q l : Bool) → q ≡ true → (a || ((n || q) && l)) ≡ false → l ≡ false
long_other a n q l e h = and_second (n || q) l (or_second n q e) (or_neither a ((n || q) && l) h).1

module _ (group : List Segment) (no : IsFaultless group) where
  port_short : (s : Segment) → find names_port group ≡ Some s → is_long (component s 2 1) ≡ false
  port_short s e =
      let at = stands names_port group s e in
      let p = prior group (take at.0 group) in
      long_first (is_container s && (is_long (component s 2 1) || is_long (component s 3 1))) (names_port s && not (list_any names_port (take at.0 group))) (is_danger s && not (list_any is_danger (take at.0 group))) (is_long (component s 2 1)) (once_second (names_port s) (list_any names_port (take at.0 group)) at.2 at.3) (no at.0 s NameTooLong at.1)

  danger_short : (s : Segment) → find is_danger group ≡ Some s → is_long (component s 2 1) ≡ false
  danger_short s e =
      let at = stands is_danger group s e in
      long_other (is_container s && (is_long (component s 2 1) || is_long (component s 3 1))) (names_port s && not (list_any names_port (take at.0 group))) (is_danger s && not (list_any is_danger (take at.0 group))) (is_long (component s 2 1)) (once_second (is_danger s) (list_any is_danger (take at.0 group)) at.2 at.3) (no at.0 s NameTooLong at.1)

  class_told : class_in group ≡ class_from (text_in (find is_danger group) 2 1)
  class_told = go (find is_danger group) refl
    where
      go : (r : Option Segment) → find is_danger group ≡ r → class_from (name_of (text_in r 2 1)) ≡ class_from (text_in r 2 1)
      go None e = refl
      go (Some s) e = ap class_from (short (component s 2 1) (danger_short s e))

  kg_told : (s : Segment) → option_or (find is_verified group) (find is_unverified group) ≡ Some s → (k : ℕ) → slice_get group k ≡ Some s → weighs s ≡ true → weight_of (component s 3 2) ≡ Some (weight_in group)
  kg_told s e k at w =
      let x = is_some (weight_of (component s 3 2)) (and_second (weighs s) (is_none (weight_of (component s 3 2))) w (no k s BadWeight at)) in
      let same : weight_in group ≡ x.0 = ap (λ r. unwrap_or (weight_of (text_in r 3 2)) 0) e ∙ ap (λ r. unwrap_or r 0) x.1 in
      x.1 ∙ ap Some (sym same)

  long_told : (s : Segment) (k : ℕ) → slice_get group k ≡ Some s → is_container s ≡ true → (bay : ℕ)
      → (length_of_type (component s 3 1) ≡ Some (unwrap_or (length_of_type (component s 3 1)) (long_of_bay bay))) ⊎ ((is_empty_text (component s 3 1) ≡ true) × (unwrap_or (length_of_type (component s 3 1)) (long_of_bay bay) ≡ long_of_bay bay))
  long_told s k at c bay = go (component s 3 1) (and_second (is_container s) (not (is_empty_text (component s 3 1)) && is_none (length_of_type (component s 3 1))) c (no k s LengthLeftOut at))
    where
      known : (r : Option Length) → is_none r ≡ false → r ≡ Some (unwrap_or r (long_of_bay bay))
      known None h = absurd (false≢true (sym h))
      known (Some x) h = refl

      go : (text : List ℕ) → (not (is_empty_text text) && is_none (length_of_type text)) ≡ false
          → (length_of_type text ≡ Some (unwrap_or (length_of_type text) (long_of_bay bay))) ⊎ ((is_empty_text text ≡ true) × (unwrap_or (length_of_type text) (long_of_bay bay) ≡ long_of_bay bay))
      go [] h = inr (refl, refl)
      go (b ∷ text) h = inl (known (length_of_type (b ∷ text)) h)

  told : (first : Segment) (others : List Segment) → group ≡ first ∷ others → (s : Segment) → find is_container group ≡ Some s → AreTold group (cell_in group).0 s (facts_at group s)
  told first others b s e =
      let at = stands is_container group s e in
      let opening : slice_get group 0 ≡ Some first = ap (λ (g : List Segment). slice_get g 0) b in
      let both = not_both (list_any weighs group) (list_any names_port group) (and_second (list_any is_container group) (not (list_any weighs group && list_any names_port group)) (found_any is_container group s e) (no 0 first NoWeightOrPort opening)) in
      let w = weigher group both.0 in
      let port = any_found names_port group both.1 in
      let names = long_container (is_container s) (is_long (component s 2 1)) (is_long (component s 3 1)) _ at.2 (no at.0 s NameTooLong at.1) in
      let id = short (component s 2 1) names.0 in
      let iso = short (component s 3 1) names.1 in
      let dest : name_of (text_in (find names_port group) 2 1) ≡ component port.0 2 1 = ap (λ r. name_of (text_in r 2 1)) port.1 ∙ short (component port.0 2 1) (port_short port.0 port.1) in
      let P : List ℕ → Type 0 = λ x. (length_of_type x ≡ Some (facts_at group s).long) ⊎ ((is_empty_text x ≡ true) × ((facts_at group s).long ≡ long_of_bay (cell_in group).0)) in
      record {
        id = id;
        named = ap is_empty_text id ∙ and_second (is_container s) (is_empty_text (component s 2 1)) at.2 (no at.0 s NoId at.1);
        iso = iso;
        long = subst P (sym iso) (long_told s at.0 at.1 at.2 (cell_in group).0);
        weigher = w.0;
        is_weighed = w.2;
        kg = kg_told w.0 w.2 w.1 w.3 w.4;
        port = port.0;
        is_bound = port.1;
        dest = dest;
        class = class_told;
      }

  cell_told : (first : Segment) (others : List Segment) → group ≡ first ∷ others → cell_of (component first 2 1) ≡ Some (cell_in group)
  cell_told first others b =
      let opening : slice_get group 0 ≡ Some first = ap (λ (g : List Segment). slice_get g 0) b in
      let x = is_some (cell_of (component first 2 1)) (no 0 first BadCell opening) in
      let same : cell_in group ≡ x.0 = ap cell_in b ∙ ap (λ r. unwrap_or r (0, 0, 0)) x.1 in
      x.1 ∙ ap Some (sym same)

  is_told : Begins group → IsTold group (cell_group group)
  is_told b = record {
    first = b.0;
    others = b.1;
    begins = b.2;
    place = cell_told b.0 b.1 b.2;
    empty = λ e. ap (facts_from group) e;
    facts = λ s e. (facts_at group s, ap (facts_from group) e, told b.0 b.1 b.2 s e);
  }

mapped_at : (gs : List (List Segment)) (i : ℕ) (g : List Segment) → slice_get gs i ≡ Some g → slice_get (map cell_group gs) i ≡ Some (cell_group g)
mapped_at [] i g e = absurd (none≢some e)
mapped_at (h ∷ gs) zero g e = ap (λ x. Some (cell_group x)) (some-same e)
mapped_at (h ∷ gs) (suc i) g e = mapped_at gs i g e

pub all_told : (segments : List Segment) (message : Message) (i : ℕ) (group : List Segment) → IsMessage segments message → slice_get (groups (body segments)) i ≡ Some group
    → (cell : CellGroup) × (slice_get message.groups i ≡ Some cell) × IsTold group cell
all_told segments message i group m e =
    (cell_group group, ap (λ (gs : List CellGroup). slice_get gs i) m.groups ∙ mapped_at (groups (body segments)) i group e, is_told group (faultless segments message m i group e) (begins (body segments) i group e))
