-- A container's kind: what it shows, its first load, and how many of a kind load at a call.
use Rattle.std.proofs.Common.{◌≡◌, ℕ, zero, suc, ◌+◌, ◌<◌, ◌≤◌, Bool, true, false, cond, ◌&&◌, List, [], ◌∷◌, length, map, min, Some, refl, ap, sym, subst, arith, ◌∙◌}
use Rattle.std.specs.Prelude.{◌==◌, slice_get, slice_index_or, filter}
use Rattle.std.specs.List.{sum_by}
use Rattle.std.proofs.lemmas.Bool.{and_parts, eqb-true, false≢true}
use Rattle.std.proofs.lemmas.Option.{none-some, same_Some}
use Rattle.std.proofs.lemmas.List.Sums.{sum_by-cons}
use Rattle.stow_data.specs.declared.geometry.Length.{Length}
use Rattle.stow_data.specs.declared.geometry.Length.TheVariants.{Twenty, Forty}
use Rattle.stow_data.specs.declared.cargoes.Container.{Container}
use Rattle.stow_data.specs.declared.kind_list.Kind.{Kind}
use Rattle.stow_data.specs.Ship.{same_length}
use Rattle.stow_data.specs.Kinds.{kind_of, alike, of_one_kind, first_ones, least_load, kind_among, kinds_of, number_in, kind_number, loads_in}
use Rattle.stow_data.specs.Plans.{no_container}
use Rattle.stow_data.proofs.KindLemmas.{kind_in}
use Rattle.zero_one_rows.specs.Variables.{no_kind}
use Rattle.crossing_law.proofs.Worlds.{total_to, one_if, count_to}

-- what holds of the entry that is alike
number_alike : (P : Kind → Type 0) (k : Kind) (ks : List Kind) → ((n : ℕ) (y : Kind) → slice_get ks n ≡ Some y → alike y k ≡ true → P y) → number_in ks k < length ks → P (slice_index_or ks (number_in ks k) no_kind)
number_alike P k [] h lt = absurd (omega arith)
number_alike P k (y ∷ ys) h lt = go (alike y k) refl lt (λ l. number_alike P k ys (λ n z q. h (suc n) z q) l)
  where
    go : (b : Bool) → alike y k ≡ b → cond b 0 (suc (number_in ys k)) < suc (length ys) → (number_in ys k < length ys → P (slice_index_or ys (number_in ys k) no_kind)) → P (slice_index_or (y ∷ ys) (cond b 0 (suc (number_in ys k))) no_kind)
    go true e l rest = h 0 y refl e
    go false e l rest = rest (omega arith)

-- the kind of a container among them is alike to what it shows
pub kind_alike : (step : ℕ) (cs : List Container) (i : ℕ) (c : Container) → slice_get cs i ≡ Some c → alike (slice_index_or (kinds_of step cs) (kind_number step cs c) no_kind) (kind_of step c) ≡ true
kind_alike step cs i c e = number_alike (λ y. alike y (kind_of step c) ≡ true) (kind_of step c) (kinds_of step cs) (λ n y q a. a) (kind_in step cs i c e)

pub alike_dest : (a b : Kind) → alike a b ≡ true → a.dest ≡ b.dest
alike_dest a b h = eqb-true _ _ (and_parts (a.dest == b.dest) _ h).0

pub same_length_is : (a b : Length) → same_length a b ≡ true → a ≡ b
same_length_is Twenty Twenty h = refl
same_length_is Forty Forty h = refl
same_length_is Twenty Forty h = absurd (false≢true h)
same_length_is Forty Twenty h = absurd (false≢true h)

pub alike_long : (a b : Kind) → alike a b ≡ true → a.long ≡ b.long
alike_long a b h = same_length_is _ _ (and_parts (same_length a.long b.long) _ (and_parts (a.dest == b.dest) _ h).1).0

-- the least load is at most each load
least_low : (n : ℕ) (cs : List Container) → least_load n cs ≤ n
least_low n [] = omega arith
least_low n (c ∷ cs) = let r = least_low (min n c.load) cs in omega (arith, r)

least_passes : (test : Container → Bool) (n : ℕ) (cs : List Container) (i : ℕ) (c : Container) → slice_get cs i ≡ Some c → test c ≡ true → least_load n (filter test cs) ≤ c.load
least_passes test n [] i c e h = absurd (none-some c e)
least_passes test n (d ∷ ds) zero c e h = go (test d) (ap test (same_Some d c e) ∙ h)
  where
    go : (b : Bool) → b ≡ true → least_load n (cond b (d ∷ filter test ds) (filter test ds)) ≤ c.load
    go true q = let r = least_low (min n d.load) (filter test ds) in let s : d.load ≡ c.load = ap (λ (z : Container). z.load) (same_Some d c e) in omega (arith, r)
    go false q = absurd (false≢true q)
least_passes test n (d ∷ ds) (suc i) c e h = go (test d) (least_passes test (min n d.load) ds i c e h) (least_passes test n ds i c e h)
  where
    go : (b : Bool) → least_load (min n d.load) (filter test ds) ≤ c.load → least_load n (filter test ds) ≤ c.load → least_load n (cond b (d ∷ filter test ds) (filter test ds)) ≤ c.load
    go true with_it without = with_it
    go false with_it without = without

get_map : {X Y : Type 0} (f : X → Y) (xs : List X) (n : ℕ) (y : Y) → slice_get (map f xs) n ≡ Some y → (x : X) × (f x ≡ y)
get_map f [] n y h = absurd (none-some y h)
get_map f (x ∷ xs) zero y h = (x, same_Some _ y h)
get_map f (x ∷ xs) (suc n) y h = get_map f xs n y h

-- a kind begins at its containers' loads or before
pub kind_first : (step : ℕ) (cs : List Container) (i : ℕ) (c : Container) → slice_get cs i ≡ Some c → (slice_index_or (kinds_of step cs) (kind_number step cs c) no_kind).first ≤ c.load
kind_first step cs i c e = number_alike (λ y. y.first ≤ c.load) (kind_of step c) (kinds_of step cs)
    (λ n y q a. let d = get_map (kind_among step cs) (first_ones (of_one_kind step) cs) n y q in
    subst (λ (z : Kind). z.first ≤ c.load) d.1 (least_passes (of_one_kind step d.0) d.0.load cs i c e (subst (λ (z : Kind). alike z (kind_of step c) ≡ true) (sym d.1) a)))
    (kind_in step cs i c e)

-- sums over lists as sums over numbers
pub total_front : (n : ℕ) (f : ℕ → ℕ) → total_to (suc n) f ≡ f 0 + total_to n (λ k. f (suc k))
total_front zero f = omega arith
total_front (suc n) f = omega (arith, total_front n f)

pub loads_total : (i g : ℕ) (kn : Container → ℕ) (cs : List Container) → loads_in i cs (map kn cs) g ≡ count_to (length cs) (λ c. ((slice_index_or cs c no_container).load == i) && (kn (slice_index_or cs c no_container) == g))
loads_total i g kn [] = refl
loads_total i g kn (c ∷ cs) = omega (arith, loads_total i g kn cs, total_front (length cs) (λ k. one_if (((slice_index_or (c ∷ cs) k no_container).load == i) && (kn (slice_index_or (c ∷ cs) k no_container) == g))))

pub sum_total : {X : Type 0} (g : X → ℕ) (d : X) (xs : List X) → sum_by g xs ≡ total_to (length xs) (λ k. g (slice_index_or xs k d))
sum_total g d [] = refl
sum_total g d (x ∷ xs) = omega (arith, sum_total g d xs, sum_by-cons g x xs, total_front (length xs) (λ k. g (slice_index_or (x ∷ xs) k d)))

pub sum_map_total : {X : Type 0} (g : ℕ → ℕ) (f : X → ℕ) (d : X) (xs : List X) → sum_by g (map f xs) ≡ total_to (length xs) (λ k. g (f (slice_index_or xs k d)))
sum_map_total g f d [] = refl
sum_map_total g f d (x ∷ xs) = omega (arith, sum_map_total g f d xs, sum_by-cons g (f x) (map f xs), total_front (length xs) (λ k. g (f (slice_index_or (x ∷ xs) k d))))
