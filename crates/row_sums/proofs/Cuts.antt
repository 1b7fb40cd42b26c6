-- Lists in one: reading one, and one more.
use Rattle.std.proofs.Common.{◌≡◌, ℕ, zero, suc, ◌<◌, ◌≤◌, ◌-◌, Bool, true, false, if◌then◌else◌, length-append, length-drop, List, [], ◌∷◌, ◌++◌, length, take, drop, get_or, refl, sym, ◌∙◌, ap, subst, arith}
use Rattle.std.specs.Prelude.{slice_range, slice_index_or}
use Rattle.std.proofs.lemmas.List.{take-append-le, drop-append-le}
use Rattle.std.proofs.Math.Seq.{drop-append_seam}
use Rattle.row_sums.specs.Cut.{cut, lists_in, Rise, IsCut, begins}

pub cut_length : {X : Type 0} (from : ℕ) (ends : List ℕ) (xs : List X) → length (cut from ends xs) ≡ length ends
cut_length from [] xs = refl
cut_length from (e ∷ es) xs = ap suc (cut_length e es xs)

pub cut_at : {X : Type 0} (from : ℕ) (ends : List ℕ) (xs : List X) (i : ℕ) → i < length ends → slice_index_or (cut from ends xs) i [] ≡ slice_range xs (begins from ends i) (get_or ends i 0)
cut_at from [] xs i l = absurd (omega arith)
cut_at from (e ∷ es) xs zero l = refl
cut_at from (e ∷ es) xs (suc i) l = cut_at e es xs i (omega arith)

begins_at : (from : ℕ) (ends : List ℕ) (i : ℕ) → i < length ends → begins from ends (suc i) ≡ get_or ends i 0
begins_at from [] i l = absurd (omega arith)
begins_at from (e ∷ es) zero l = refl
begins_at from (e ∷ es) (suc i) l = begins_at e es i (omega arith)

-- where the one before ends
pub begins_there : (ends : List ℕ) (i : ℕ) → 0 < i → i ≤ length ends → get_or ends (i - 1) 0 ≡ begins 0 ends i
begins_there ends zero p l = absurd (omega arith)
begins_there ends (suc i) p l = let e : suc i - 1 ≡ i = omega arith in ap (λ (j : ℕ). get_or ends j 0) e ∙ sym (begins_at 0 ends i (omega arith))

rise_least : (e : ℕ) (es : List ℕ) (to : ℕ) → Rise e es to → e ≤ to
rise_least e [] to r = omega (arith, r)
rise_least e (f ∷ fs) to r = let s = rise_least f fs to r.1 in omega (arith, r.0, s)

-- an end is no less than its begin, and no more than the last
pub rises_at : (from : ℕ) (ends : List ℕ) (to i : ℕ) → i < length ends → Rise from ends to → (begins from ends i ≤ get_or ends i 0) × (get_or ends i 0 ≤ to)
rises_at from [] to i l r = absurd (omega arith)
rises_at from (e ∷ es) to zero l r = (r.0, rise_least e es to r.1)
rises_at from (e ∷ es) to (suc i) l r = rises_at e es to i (omega arith) r.1

pub rise_next : (from : ℕ) (ends : List ℕ) (to more : ℕ) → to ≤ more → Rise from ends to → Rise from (ends ++ more ∷ []) more
rise_next from [] to more l r = (omega (arith, r), refl)
rise_next from (e ∷ es) to more l r = (r.0, rise_next e es to more l r.1)

-- the rest of a list
whole : {X : Type 0} (xs ys : List X) → slice_range (xs ++ ys) (length xs) (length (xs ++ ys)) ≡ ys
whole {X} xs ys =
    let n : length (xs ++ ys) - length xs ≡ length ys = omega (arith, length-append xs ys) in
    ap (λ (zs : List X). take (length (xs ++ ys) - length xs) zs) (drop-append_seam xs ys) ∙ ap (λ (k : ℕ). take k ys) n ∙ take_all ys
  where
    take_all : (zs : List X) → take (length zs) zs ≡ zs
    take_all [] = refl
    take_all (z ∷ zs) = ap (λ (ys : List X). z ∷ ys) (take_all zs)

-- what comes after changes nothing
earlier : {X : Type 0} (from e : ℕ) (xs ys : List X) → from ≤ e → e ≤ length xs → slice_range (xs ++ ys) from e ≡ slice_range xs from e
earlier {X} from e xs ys l r =
    let le : e - from ≤ length (drop from xs) = omega (arith, length-drop from xs) in
    ap (λ (zs : List X). take (e - from) zs) (drop-append-le from xs ys (omega arith)) ∙ take-append-le (e - from) (drop from xs) ys le

-- one list more
pub cut_next : {X : Type 0} (from : ℕ) (ends : List ℕ) (xs ys : List X) → Rise from ends (length xs) → cut from (ends ++ length (xs ++ ys) ∷ []) (xs ++ ys) ≡ cut from ends xs ++ ys ∷ []
cut_next {X} from [] xs ys r = ap (λ (zs : List X). zs ∷ []) (subst (λ (f : ℕ). slice_range (xs ++ ys) f (length (xs ++ ys)) ≡ ys) (sym r) (whole xs ys))
cut_next {X} from (e ∷ es) xs ys r =
    let here : slice_range (xs ++ ys) from e ≡ slice_range xs from e = earlier from e xs ys r.0 (rise_least e es (length xs) r.1) in
    ap (λ (z : List X). z ∷ cut e (es ++ length (xs ++ ys) ∷ []) (xs ++ ys)) here ∙ ap (λ (zs : List (List X)). slice_range xs from e ∷ zs) (cut_next e es xs ys r.1)

-- a list appended, or not
pub pushed : {X : Type 0} (b : Bool) (ends more : List ℕ) (xs all ys : List X) → all ≡ (if b then xs ++ ys else xs) → more ≡ (if b then ends ++ length all ∷ [] else ends) → IsCut ends xs
    → IsCut more all × (lists_in more all ≡ (if b then lists_in ends xs ++ ys ∷ [] else lists_in ends xs))
pushed {X} true ends more xs all ys e f r =
    let l : length xs ≤ length all = omega (arith, ap length e, length-append xs ys) in (
      subst (λ (es : List ℕ). IsCut es all) (sym f) (rise_next 0 ends (length xs) (length all) l r),
      ap (λ (es : List ℕ). lists_in es all) f ∙ subst (λ (zs : List X). lists_in (ends ++ length zs ∷ []) zs ≡ lists_in ends xs ++ ys ∷ []) (sym e) (cut_next 0 ends xs ys r),
    )
pushed {X} false ends more xs all ys e f r = (
  subst (λ (es : List ℕ). IsCut es all) (sym f) (subst (λ (zs : List X). IsCut ends zs) (sym e) r),
  ap (λ (es : List ℕ). lists_in es all) f ∙ ap (λ (zs : List X). lists_in ends zs) e,
)
