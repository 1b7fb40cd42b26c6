-- Tiers, looked at one after the other.
use Rattle.std.proofs.Common.{◌≡◌, ◌≢◌, ℕ, suc, ◌+◌, ◌<◌, ◌≤◌, Bool, true, false, List, ◌∷◌, length, get_or, drop, refl, sym, ap, ◌∙◌, arith}
use Rattle.std.proofs.lemmas.List.{drop_all}
use Rattle.std.proofs.lemmas.Bool.{ne_eqb, eq-eqb}
use Rattle.std.proofs.Math.Seq.{drop-cons}
use Rattle.ship_profile.specs.Stacks.{rises_from}

pub front : {X : Type 0} (xs : List X) (i : ℕ) (d : X) → i < length xs → drop i xs ≡ get_or xs i d ∷ drop (i + 1) xs
front xs i d lt = drop-cons xs i d lt ∙ ap (λ k. get_or xs i d ∷ drop k xs) (let e : suc i ≡ i + 1 = omega arith in e)

pub front_is : {X : Type 0} (xs : List X) (i : ℕ) (x : X) → i < length xs → x ≡ get_or xs i x → drop i xs ≡ x ∷ drop (i + 1) xs
front_is xs i x lt is = front xs i x lt ∙ ap (λ y. y ∷ drop (i + 1) xs) (sym is)

pub rises_on : (ts : List ℕ) (i next : ℕ) (total : Bool) → i < length ts → get_or ts i 0 ≡ next → rises_from next (drop i ts) ≡ total → rises_from (next + 2) (drop (i + 1) ts) ≡ total
unfolding rises_from
rises_on ts i next total lt e so_far = rw (front ts i 0 lt, eq-eqb (get_or ts i 0) next e) at so_far

pub rises_no_more : (ts : List ℕ) (i next : ℕ) → i < length ts → get_or ts i 0 ≢ next → rises_from next (drop i ts) ≡ false
unfolding rises_from
rises_no_more ts i next lt ne = rw (front ts i 0 lt, ne_eqb (get_or ts i 0) next ne) refl

pub has_risen : (ts : List ℕ) (i next : ℕ) → length ts ≤ i → rises_from next (drop i ts) ≡ true
unfolding rises_from
has_risen ts i next le = rw (drop_all i ts le) refl
