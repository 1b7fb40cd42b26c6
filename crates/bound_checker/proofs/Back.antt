-- Changes that are taken back, the last first.
use Rattle.std.proofs.Common.{◌≡◌, ℕ, zero, suc, ◌+◌, ◌<◌, ◌≤◌, List, [], ◌∷◌, ◌++◌, length, take, drop, get_or, All, arith, refl, sym, ◌∙◌, ap, subst, length-append}
use Rattle.std.proofs.lemmas.List.{drop-append-le, take-append-le}
use Rattle.proof_trees.specs.Multipliers.{Multipliers, amount_of, with_amount}
use Rattle.zero_one_rows.specs.declared.program.Row.{Row}
use Rattle.zero_one_rows.specs.Variables.{Voyage}
use Rattle.certificate.specs.Entries.{same_row}
use Rattle.bound_checker.specs.declared.prices.Change.{Change}
use Rattle.bound_checker.specs.Waits.{back_at, Before, IsSound}
use Rattle.bound_checker.proofs.Waiting.{back_append}
use Rattle.bound_checker.proofs.Multiplied.{amount_with}

pub before_less : (ns ms : Multipliers Row) (to : ℕ) (k l : List Change) (c : Change) → k ≡ l ++ c ∷ [] → to ≤ length l → Before ns to k ms → Before ns to l (with_amount same_row ms c.row c.old)
before_less ns ms to k l c is le h r =
    ap (λ (n : ℕ). back_at r n (drop to l)) (amount_with ms c.row r c.old)
    ∙ sym (back_append r (amount_of same_row ms r) (drop to l) (c ∷ []))
    ∙ ap (back_at r (amount_of same_row ms r)) (sym (drop-append-le to l (c ∷ []) le) ∙ ap (drop to) (sym is))
    ∙ h r

no_more : {X : Type 0} (xs : List X) → drop (length xs) xs ≡ []
no_more [] = refl
no_more (x ∷ xs) = no_more xs

whole_list : {X : Type 0} (xs : List X) → take (length xs) xs ≡ xs
whole_list [] = refl
whole_list (x ∷ xs) = ap (λ ys. x ∷ ys) (whole_list xs)

pub before_end : (ns ms : Multipliers Row) (to : ℕ) (k : List Change) → to ≡ length k → Before ns to k ms → (r : Row) → amount_of same_row ns r ≡ amount_of same_row ms r
before_end ns ms to k e h r = sym (h r) ∙ ap (λ (n : ℕ). back_at r (amount_of same_row ms r) (drop n k)) e ∙ ap (back_at r (amount_of same_row ms r)) (no_more k)

pub changes_less : (k l first : List Change) (c : Change) (to : ℕ) → k ≡ l ++ c ∷ [] → to ≤ length l → take to k ≡ first → take to l ≡ first
changes_less k l first c to is le h = sym (take-append-le to l (c ∷ []) le) ∙ sym (ap (take to) is) ∙ h

pub changes_end : (k first : List Change) (to : ℕ) → to ≡ length k → take to k ≡ first → k ≡ first
changes_end k first to e h = sym (ap (λ (n : ℕ). take n k) e ∙ whole_list k) ∙ h

get_append : {X : Type 0} (l : List X) (c d : X) → get_or (l ++ c ∷ []) (length l) d ≡ c
get_append [] c d = refl
get_append (x ∷ l) c d = get_append l c d

get_before : {X : Type 0} (l ys : List X) (i : ℕ) (d : X) → i < length l → get_or (l ++ ys) i d ≡ get_or l i d
get_before [] ys i d lt = absurd (omega arith)
get_before (x ∷ l) ys zero d lt = refl
get_before (x ∷ l) ys (suc i) d lt = get_before l ys i d (omega arith)

pub last_sound : (m : Voyage) (k l : List Change) (c : Change) → k ≡ l ++ c ∷ [] → All (IsSound m) k → IsSound m c
last_sound m k l c is h =
    let n : length k ≡ length l + 1 = ap (λ (x : List Change). length x) is ∙ length-append l (c ∷ []) in
    subst (IsSound m) (ap (λ (x : List Change). get_or x (length l) c) is ∙ get_append l c c) (h (length l) c (omega arith))

pub others_sound : (m : Voyage) (k l : List Change) (c : Change) → k ≡ l ++ c ∷ [] → All (IsSound m) k → All (IsSound m) l
others_sound m k l c is h i d lt =
    let n : length k ≡ length l + 1 = ap (λ (x : List Change). length x) is ∙ length-append l (c ∷ []) in
    subst (IsSound m) (ap (λ (x : List Change). get_or x i d) is ∙ get_before l (c ∷ []) i d lt) (h i d (omega arith))
