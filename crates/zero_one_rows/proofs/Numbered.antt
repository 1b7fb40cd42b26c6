-- Rows by their numbers.
use Rattle.std.proofs.Common.{◌≡◌, ℕ, zero, suc, ◌<◌, ◌≤◌, ◌+◌, ◌-◌, ◌*◌, ◌/◌, ◌%◌, List, [], ◌∷◌, ◌++◌, arith, sym, ◌∙◌, ap, length, subst, Some, length-append, mul-zero, ⊎_elim}
use Rattle.std.specs.Prelude.{flat_map, map, slice_get}
use Rattle.std.specs.List.{range_with_len}
use Rattle.std.proofs.Math.Nat.{suc-mul, zero-mul, div-lt_iff_lt-mul, mod-lt}
use Rattle.std.proofs.lemmas.Nat.{div-add-mod'}
use Rattle.std.proofs.lemmas.List.{length-map}
use Rattle.std.proofs.lemmas.List.FromFn.{length-range_with_len}
use Rattle.std.proofs.lemmas.Option.{none-some, same_Some}
use Rattle.stow_data.proofs.InOrder.{get_left, get_right}
use Rattle.zero_one_rows.specs.declared.program.Row.{Row}
use Rattle.zero_one_rows.specs.Counted.{per_call, IsOfTwo}

pub get_mapped : {X Y : Type 0} (f : X → Y) (xs : List X) (k : ℕ) (x : X) → slice_get xs k ≡ Some x → slice_get (map f xs) k ≡ Some (f x)
get_mapped f [] k x h = absurd (none-some x h)
get_mapped f (y ∷ ys) zero x h = ap (λ z. Some (f z)) (same_Some y x h)
get_mapped f (y ∷ ys) (suc k) x h = get_mapped f ys k x h

nth_call : {X : Type 0} (f : ℕ → X → Row) (ks : List X) (a c j r : ℕ) (x : X) (i : ℕ) → i ≡ a + j → j < c → slice_get ks r ≡ Some x → slice_get (flat_map (λ i. map (f i) ks) (range_with_len a c)) (j * length ks + r) ≡ Some (f i x)
nth_call f ks a zero j r x i e l h = absurd (omega arith)
nth_call f ks a (suc c) zero r x i e l h =
    let here : i ≡ a = omega (arith, e) in
    let low : zero * length ks + r ≡ r = let z = zero-mul (length ks) in omega (arith, z) in
    rw (low, here) (get_left (map (f a) ks) _ r (f a x) (get_mapped (f a) ks r x h))
nth_call f ks a (suc c) (suc j) r x i e l h =
    let m = suc-mul j (length ks) in
    let long : length (map (f a) ks) ≡ length ks = length-map ks (f a) in
    get_right (map (f a) ks) _ (j * length ks + r) (suc j * length ks + r) (omega (arith, m, long)) ∙ nth_call f ks (a + 1) c j r x i (omega (arith, e)) (omega arith) h

pub positive : (c n k : ℕ) → k < c * n → 0 < n
positive c zero k l = absurd (let z = mul-zero c in omega (arith, z))
positive c (suc n) k l = omega arith

pub call_low : (c n k : ℕ) → k < c * n → k / n < c
call_low c n k l = let some : 0 < n = positive c n k l in (div-lt_iff_lt-mul some).1 l

pub place_low : (c n k : ℕ) → k < c * n → k % n < n
place_low c n k l = mod-lt k (positive c n k l)

-- the row of a number, by its call and its place in the call
pub numbered_row : {X : Type 0} (f : ℕ → X → Row) (ks : List X) (c k i j : ℕ) (x : X) → k < c * length ks → i ≡ k / length ks + 1 → j ≡ k % length ks → slice_get ks j ≡ Some x → slice_get (per_call f c ks) k ≡ Some (f i x)
numbered_row {X} f ks c k i j x l e g h =
    let low : k / length ks < c = call_low c (length ks) k l in
    let same : k / length ks * length ks + k % length ks ≡ k = div-add-mod' k (length ks) in
    let at : slice_get ks (k % length ks) ≡ Some x = subst (λ (z : ℕ). slice_get ks z ≡ Some x) g h in
    subst (λ (z : ℕ). slice_get (per_call f c ks) z ≡ Some (f i x)) same (nth_call f ks 1 c (k / length ks) (k % length ks) x i (omega (arith, e)) low at)

pub get_range : (a n k : ℕ) → k < n → slice_get (range_with_len a n) k ≡ Some (a + k)
get_range a zero k l = absurd (omega arith)
get_range a (suc n) zero l = ap (λ (z : ℕ). Some z) (let q : a ≡ a + 0 = omega arith in q)
get_range a (suc n) (suc k) l = get_range (a + 1) n k (omega arith) ∙ ap (λ (z : ℕ). Some z) (let q : a + 1 + k ≡ a + suc k = omega arith in q)

pub numbered_first : (f : ℕ → ℕ → Row) (n c k i j : ℕ) → k < c * n → i ≡ k / n + 1 → j ≡ k % n → slice_get (per_call f c (range_with_len 0 n)) k ≡ Some (f i j)
numbered_first f n c k i j l e g =
    let long : length (range_with_len 0 n) ≡ n = length-range_with_len 0 n in
    let low : j < n = let p = place_low c n k l in omega (arith, p, g) in
    let at : slice_get (range_with_len 0 n) j ≡ Some j = get_range 0 n j low ∙ ap (λ (z : ℕ). Some z) (let q : 0 + j ≡ j = omega arith in q) in
    numbered_row f (range_with_len 0 n) c k i j j (subst (λ (z : ℕ). k < c * z) (sym long) l) (subst (λ (z : ℕ). i ≡ k / z + 1) (sym long) e) (subst (λ (z : ℕ). j ≡ k % z) (sym long) g) at

calls_long : {X : Type 0} (f : ℕ → X → Row) (ks : List X) (a c : ℕ) → length (flat_map (λ i. map (f i) ks) (range_with_len a c)) ≡ c * length ks
calls_long f ks a zero = sym (zero-mul (length ks))
calls_long f ks a (suc c) =
    let m = suc-mul c (length ks) in
    let long : length (map (f a) ks) ≡ length ks = length-map ks (f a) in
    let rest = calls_long f ks (a + 1) c in
    let joined = length-append (map (f a) ks) (flat_map (λ i. map (f i) ks) (range_with_len (a + 1) c)) in
    omega (arith, m, long, rest, joined)

pub length_calls : {X : Type 0} (f : ℕ → X → Row) (ks : List X) (c : ℕ) → length (per_call f c ks) ≡ c * length ks
length_calls f ks c = calls_long f ks 1 c

pub length_first : (f : ℕ → ℕ → Row) (n c : ℕ) → length (per_call f c (range_with_len 0 n)) ≡ c * n
length_first f n c = length_calls f (range_with_len 0 n) c ∙ ap (λ (z : ℕ). c * z) (length-range_with_len 0 n)

-- ## One list behind another

pub in_first : {X : Type 0} (xs ys : List X) (n k : ℕ) (x : X) → n ≡ length xs → k < n → slice_get xs k ≡ Some x → slice_get (xs ++ ys) k ≡ Some x
in_first xs ys n k x e l h = get_left xs ys k x h

pub in_rest : {X : Type 0} (xs ys : List X) (n k : ℕ) (x : X) → n ≡ length xs → n ≤ k → slice_get ys (k - n) ≡ Some x → slice_get (xs ++ ys) k ≡ Some x
in_rest xs ys n k x e l h = get_right xs ys (k - n) k (omega (arith, e, l)) ∙ h

pub rest_inside : {X : Type 0} (xs ys : List X) (n k : ℕ) → n ≡ length xs → n ≤ k → k < length (xs ++ ys) → k - n < length ys
rest_inside xs ys n k e l h = let a = length-append xs ys in omega (arith, a, e, l, h)

pub first_few : {X : Type 0} (xs ys : List X) (m : ℕ) → length (xs ++ ys) ≤ m → length xs ≤ m
first_few xs ys m h = let a = length-append xs ys in omega (arith, a, h)

pub rest_few : {X : Type 0} (xs ys : List X) (m : ℕ) → length (xs ++ ys) ≤ m → length ys ≤ m
rest_few xs ys m h = let a = length-append xs ys in omega (arith, a, h)

-- ## Two lists of the same items

pub two_long : {X Y : Type 0} (f g : X → Y) (xs : List X) → length (map f xs ++ map g xs) ≡ length xs + length xs
two_long f g xs =
    let a : length (map f xs) ≡ length xs = length-map xs f in
    let b : length (map g xs) ≡ length xs = length-map xs g in
    let c = length-append (map f xs) (map g xs) in
    omega (arith, a, b, c)

pub two_mapped : {X : Type 0} (f : ℕ → X → Row) (xs : List X) (k q j : ℕ) (x : X) → IsOfTwo (length xs) k q j → slice_get xs j ≡ Some x → slice_get (map (f 0) xs ++ map (f 1) xs) k ≡ Some (f q x)
two_mapped {X} f xs k q j x is h = ⊎_elim
    (λ (a : (q ≡ 0) × (k ≡ j)). rw (a.0, a.1) (get_left (map (f 0) xs) (map (f 1) xs) j (f 0 x) (get_mapped (f 0) xs j x h)))
    (λ (b : (q ≡ 1) × (k ≡ length xs + j)).
    let long : length (map (f 0) xs) ≡ length xs = length-map xs (f 0) in
    rw b.0 (get_right (map (f 0) xs) (map (f 1) xs) j k (omega (arith, long, b.1)) ∙ get_mapped (f 1) xs j x h))
    is.which

pub two_calls_long : {X : Type 0} (f g : ℕ → X → Row) (c : ℕ) (xs : List X) → length (per_call f c xs ++ per_call g c xs) ≡ c * length xs + c * length xs
two_calls_long f g c xs =
    let a = length_calls f xs c in
    let b = length_calls g xs c in
    let d = length-append (per_call f c xs) (per_call g c xs) in
    omega (arith, a, b, d)

pub two_calls : {X : Type 0} (f : ℕ → ℕ → X → Row) (c : ℕ) (xs : List X) (n k q j : ℕ) (r : Row) → n ≡ c * length xs → IsOfTwo n k q j → ((w : ℕ) → w ≡ q → slice_get (per_call (f w) c xs) j ≡ Some r) → slice_get (per_call (f 0) c xs ++ per_call (f 1) c xs) k ≡ Some r
two_calls f c xs n k q j r e is h = ⊎_elim
    (λ (a : (q ≡ 0) × (k ≡ j)). rw a.1 (get_left (per_call (f 0) c xs) (per_call (f 1) c xs) j r (h 0 (sym a.0))))
    (λ (b : (q ≡ 1) × (k ≡ n + j)).
    let long = length_calls (f 0) xs c in
    get_right (per_call (f 0) c xs) (per_call (f 1) c xs) j k (omega (arith, long, b.1, e)) ∙ h 1 (sym b.0))
    is.which
