-- Variables that are freed, one after the other.
use Rattle.std.proofs.Common.{◌≡◌, ℕ, zero, suc, ◌+◌, ◌<◌, ◌≤◌, Bool, true, List, [], ◌∷◌, ◌++◌, Option, Some, None, length, length-append, set, get_or, take, drop, All, arith, refl, sym, ◌∙◌, ap, subst, append_assoc, append-nil}
use Rattle.std.specs.Option.{is_some}
use Rattle.std.proofs.Math.Seq.{get_or-append_seam}
use Rattle.std.proofs.lemmas.List.{drop-append-le, take-append-le, length-set, get_or-set_same}
use Rattle.std.proofs.lemmas.List.Elements.{All-append, All-cons, All-nil}
use Rattle.proof_trees.specs.Boxes.{Box, at, fixed}
use Rattle.partial_plan.specs.Fixing.{freed, released, Fixes}

set_twice : (b : Box) (v : ℕ) (x y : Option Bool) → set (set b v x) v y ≡ set b v y
set_twice [] v x y = refl
set_twice (z ∷ b) zero x y = refl
set_twice (z ∷ b) (suc v) x y = ap (λ c. z ∷ c) (set_twice b v x y)

none_twice : (b : Box) (v w : ℕ) → set (set b v None) w None ≡ set (set b w None) v None
none_twice [] v w = refl
none_twice (z ∷ b) zero zero = refl
none_twice (z ∷ b) zero (suc w) = refl
none_twice (z ∷ b) (suc v) zero = refl
none_twice (z ∷ b) (suc v) (suc w) = ap (λ c. z ∷ c) (none_twice b v w)

pub set_itself : (b : Box) (v : ℕ) → at b v ≡ None → set b v None ≡ b
set_itself [] v e = refl
set_itself (z ∷ b) zero e = ap (λ (o : Option Bool). o ∷ b) (sym e)
set_itself (z ∷ b) (suc v) e = ap (λ c. z ∷ c) (set_itself b v e)

freed_set : (b : Box) (v : ℕ) (vs : List ℕ) → freed (set b v None) vs ≡ set (freed b vs) v None
freed_set b v [] = refl
freed_set b v (w ∷ vs) = ap (λ c. freed c vs) (none_twice b v w) ∙ freed_set (set b w None) v vs

pub freed_append : (b : Box) (xs ys : List ℕ) → freed b (xs ++ ys) ≡ freed (freed b xs) ys
freed_append b [] ys = refl
freed_append b (x ∷ xs) ys = freed_append (set b x None) xs ys

freed_turned : (b : Box) (xs ys : List ℕ) → freed (freed b xs) ys ≡ freed (freed b ys) xs
freed_turned b [] ys = refl
freed_turned b (x ∷ xs) ys = freed_turned (set b x None) xs ys ∙ ap (λ c. freed c xs) (freed_set b x ys)

pub freed_length : (b : Box) (vs : List ℕ) → length (freed b vs) ≡ length b
freed_length b [] = refl
freed_length b (v ∷ vs) = freed_length (set b v None) vs ∙ length-set b v None

-- what is freed behind other variables
pub freed_more : (b c d : Box) (xs ys : List ℕ) → freed c xs ≡ b → freed d ys ≡ c → freed d (xs ++ ys) ≡ b
freed_more b c d xs ys h k = freed_append d xs ys ∙ freed_turned d xs ys ∙ ap (λ e. freed e xs) k ∙ h

-- ## Fixes

pub fixed_back : (b : Box) (v : ℕ) (y : Bool) → at b v ≡ None → freed (fixed b v y) (v ∷ []) ≡ b
fixed_back b v y free = set_twice b v (Some y) None ∙ set_itself b v free

length_back : (b c : Box) (vs : List ℕ) → freed c vs ≡ b → length c ≡ length b
length_back b c vs h = sym (freed_length c vs) ∙ ap (λ (x : Box). length x) h

some_stays : (b c : Box) (vs : List ℕ) (v : ℕ) → freed c vs ≡ b → is_some (at b v) ≡ true → is_some (at c v) ≡ true
some_stays b c [] v h e = ap (λ (x : Box). is_some (at x v)) h ∙ e
some_stays b c (w ∷ vs) v h e = before c w v (some_stays b (set c w None) vs v h e)
  where
    before : (c : Box) (w v : ℕ) → is_some (at (set c w None) v) ≡ true → is_some (at c v) ≡ true
    before [] w v e = e
    before (z ∷ c) zero zero e = absurd (grind arith)
    before (z ∷ c) zero (suc v) e = e
    before (z ∷ c) (suc w) zero e = e
    before (z ∷ c) (suc w) (suc v) e = before c w v e

pub fixes_none : (b : Box) → Fixes b b []
fixes_none b = record { back = refl; inside = All-nil (λ v. v < length b); each = All-nil (λ v. is_some (at b v) ≡ true) }

pub fixes_one : (b : Box) (v : ℕ) (y : Bool) → v < length b → at b v ≡ None → Fixes b (fixed b v y) (v ∷ [])
fixes_one b v y lt free = record {
  back = fixed_back b v y free;
  inside = All-cons (λ w. w < length b) v [] lt (All-nil (λ w. w < length b));
  each = All-cons (λ w. is_some (at (fixed b v y) w) ≡ true) v [] (ap is_some (get_or-set_same b v (Some y) None lt)) (All-nil (λ w. is_some (at (fixed b v y) w) ≡ true));
}

pub fixes_more : (b c d : Box) (xs ys : List ℕ) → Fixes b c xs → Fixes c d ys → Fixes b d (xs ++ ys)
fixes_more b c d xs ys h k = record {
  back = freed_more b c d xs ys h.back k.back;
  inside = All-append (λ v. v < length b) xs ys h.inside (subst (λ (n : ℕ). All (λ v. v < n) ys) (length_back b c xs h.back) k.inside);
  each = All-append (λ v. is_some (at d v) ≡ true) xs ys (λ i e lt. some_stays c d ys (get_or xs i e) k.back (h.each i e lt)) k.each;
}

pub noted_more : (b c d : Box) (u u' u'' : List ℕ) → ((xs : List ℕ) × (u' ≡ u ++ xs) × Fixes b c xs) → ((xs : List ℕ) × (u'' ≡ u' ++ xs) × Fixes c d xs) → (xs : List ℕ) × (u'' ≡ u ++ xs) × Fixes b d xs
noted_more b c d u u' u'' h k = (h.0 ++ k.0, k.1 ∙ ap (λ (x : List ℕ). x ++ k.0) h.1 ∙ append_assoc u h.0 k.0, fixes_more b c d h.0 k.0 h.2 k.2)

pub noted_none : (b : Box) (u : List ℕ) → (xs : List ℕ) × (u ≡ u ++ xs) × Fixes b b xs
noted_none b u = ([], sym (append-nil u), fixes_none b)

-- ## Releasing, the last first

pub release_one : (b first : Box) (us vs : List ℕ) (v to : ℕ) → us ≡ vs ++ v ∷ [] → to ≤ length vs → released b us to ≡ first → released (set b v None) vs to ≡ first
release_one b first us vs v to is le h =
    freed_set b v (drop to vs) ∙ sym (freed_append b (drop to vs) (v ∷ [])) ∙ sym (ap (freed b) (drop-append-le to vs (v ∷ []) le)) ∙ sym (ap (λ (xs : List ℕ). released b xs to) is) ∙ h

pub take_one : (us vs first : List ℕ) (v to : ℕ) → us ≡ vs ++ v ∷ [] → to ≤ length vs → take to us ≡ first → take to vs ≡ first
take_one us vs first v to is le h = sym (take-append-le to vs (v ∷ []) le) ∙ sym (ap (take to) is) ∙ h

drop_all : (xs : List ℕ) → drop (length xs) xs ≡ []
drop_all [] = refl
drop_all (x ∷ xs) = drop_all xs

take_all : (xs : List ℕ) → take (length xs) xs ≡ xs
take_all [] = refl
take_all (x ∷ xs) = ap (λ ys. x ∷ ys) (take_all xs)

pub release_end : (b first : Box) (us : List ℕ) (to : ℕ) → to ≡ length us → released b us to ≡ first → b ≡ first
release_end b first us to e h = sym (ap (λ (k : ℕ). freed b (drop k us)) e ∙ ap (freed b) (drop_all us)) ∙ h

pub take_end : (us first : List ℕ) (to : ℕ) → to ≡ length us → take to us ≡ first → us ≡ first
take_end us first to e h = sym (ap (λ (k : ℕ). take k us) e ∙ take_all us) ∙ h

get_before : (xs ys : List ℕ) (i d : ℕ) → i < length xs → get_or (xs ++ ys) i d ≡ get_or xs i d
get_before [] ys i d lt = absurd (omega arith)
get_before (x ∷ xs) ys zero d lt = refl
get_before (x ∷ xs) ys (suc i) d lt = get_before xs ys i d (omega arith)

pub inside_less : (b c : Box) (us vs : List ℕ) (v to : ℕ) → us ≡ vs ++ v ∷ [] → to ≤ length vs → c ≡ set b v None → All (λ w. w < length b) (drop to us) → All (λ w. w < length c) (drop to vs)
inside_less b c us vs v to is le e h i d lt =
    let split : drop to us ≡ drop to vs ++ v ∷ [] = ap (drop to) is ∙ drop-append-le to vs (v ∷ []) le in
    let n : length (drop to us) ≡ length (drop to vs) + 1 = ap (λ (xs : List ℕ). length xs) split ∙ length-append (drop to vs) (v ∷ []) in
    let l : length c ≡ length b = ap (λ (x : Box). length x) e ∙ length-set b v None in
    let g : get_or (drop to us) i d ≡ get_or (drop to vs) i d = ap (λ (xs : List ℕ). get_or xs i d) split ∙ get_before (drop to vs) (v ∷ []) i d lt in
    let k : get_or (drop to us) i d < length b = h i d (omega arith) in
    omega arith

-- the last one stands past the place
pub last_in : (b : Box) (us vs : List ℕ) (v to : ℕ) → us ≡ vs ++ v ∷ [] → to ≤ length vs → All (λ w. w < length b) (drop to us) → v < length b
last_in b us vs v to is le h =
    let split : drop to us ≡ drop to vs ++ v ∷ [] = ap (drop to) is ∙ drop-append-le to vs (v ∷ []) le in
    let n : length (drop to us) ≡ length (drop to vs) + 1 = ap (λ (xs : List ℕ). length xs) split ∙ length-append (drop to vs) (v ∷ []) in
    let g : get_or (drop to us) (length (drop to vs)) v ≡ v = ap (λ (xs : List ℕ). get_or xs (length (drop to vs)) v) split ∙ get_or-append_seam (drop to vs) v [] v in
    let k : get_or (drop to us) (length (drop to vs)) v < length b = h (length (drop to vs)) v (omega arith) in
    subst (λ (w : ℕ). w < length b) g k
