-- Lists of numbers that grow by sums.
use Rattle.std.proofs.Common.{◌≡◌, ◌⊎◌, ℕ, zero, suc, ◌<◌, ◌≤◌, Bool, true, false, List, [], ◌∷◌, ◌++◌, ◌+◌, length, get_or, inl, inr, ⊎_elim, refl, sym, ◌∙◌, ap, subst, arith, eq-eqb}
use Rattle.std.specs.Prelude.{nat_eq, slice_index_or, ◌||◌, OnOk, Result, Ok, Err, is_ok, if◌then◌else◌}
use Rattle.std.proofs.lemmas.Bool.{both_ways, eqb-true, cases_lt}
use Rattle.std.proofs.lemmas.List.Folds.{list_any-append}
use Rattle.zero_one_rows.specs.declared.program.Var.{Var}
use Rattle.zero_one_rows.specs.Variables.{Voyage}
use Rattle.row_sums.specs.declared.sums.Sum.{Sum}
use Rattle.row_sums.specs.Sums.{holds}
use Rattle.row_sums.specs.declared.numbering.Numbering.{Numbering}
use Rattle.row_sums.specs.Numbers.{number, IsThere}
use Rattle.row_sums.specs.Held.{stands, IsHeldBy, AreSumsOf}
use Rattle.row_sums.specs.Noted.{Grows, HasEnds, HasMoves, HasCall}
use Rattle.row_sums.proofs.Holding.{all_noted}

or_left : (a b : Bool) → a ≡ true → (a || b) ≡ true
or_left true b h = refl
or_left false b h = absurd (both_ways false refl h)

or_right : (a b : Bool) → b ≡ true → (a || b) ≡ true
or_right true b h = refl
or_right false b h = h

or_cases : (a b : Bool) → (a || b) ≡ true → (a ≡ true) ⊎ (b ≡ true)
or_cases true b h = inl refl
or_cases false b h = inr h

pub same : (m : Voyage) (z : Numbering) (x : Var) (ns : List ℕ) → Grows m z x ns ns
same m z x ns = record { only = λ n h. inl h; keeps = λ n h. h }

pub both : (m : Voyage) (z : Numbering) (x : Var) (a b c : List ℕ) → Grows m z x a b → Grows m z x b c → Grows m z x a c
both m z x a b c g h = record {
  only = λ n s. ⊎_elim (λ (k : stands n b ≡ true). g.only n k) (λ (k : IsHeldBy m z x n). inr k) (h.only n s);
  keeps = λ n s. h.keeps n (g.keeps n s);
}

-- one number more
one_more : (n k : ℕ) (old : List ℕ) → stands n (old ++ k ∷ []) ≡ (stands n old || (nat_eq n k || false))
one_more n k old = list_any-append (nat_eq n) old (k ∷ [])

pub pushed_grows : (m : Voyage) (z : Numbering) (x : Var) (s : Sum) (old new : List ℕ) (k : ℕ) → IsThere m s → holds m s x ≡ true → k ≡ number z s → new ≡ old ++ k ∷ [] → Grows m z x old new
pushed_grows m z x s old new k there h e f = record {
  only = λ n t. ⊎_elim
      (λ (a : stands n old ≡ true). inl a)
      (λ (b : (nat_eq n k || false) ≡ true). ⊎_elim
      (λ (d : nat_eq n k ≡ true). inr (record { sum = s; there = there; is_number = sym (eqb-true n k d ∙ e); holds_it = h }))
      (λ (d : false ≡ true). absurd (both_ways false refl d))
      (or_cases (nat_eq n k) false b))
      (or_cases (stands n old) (nat_eq n k || false) (sym (one_more n k old) ∙ ap (stands n) (sym f) ∙ t));
  keeps = λ n t. ap (stands n) f ∙ one_more n k old ∙ or_left (stands n old) (nat_eq n k || false) t;
}

pub pushed_has : (n : ℕ) (old new : List ℕ) (k : ℕ) → k ≡ n → new ≡ old ++ k ∷ [] → stands n new ≡ true
pushed_has n old new k e f = ap (stands n) f ∙ one_more n k old ∙ or_right (stands n old) (nat_eq n k || false) (or_left (nat_eq n k) false (eq-eqb n k (sym e)))

pub pushed_if_ok : {A E : Type 0} (m : Voyage) (z : Numbering) (x : Var) (s : Sum) (old new : List ℕ) (k : ℕ) (r : Result A E) → IsThere m s → holds m s x ≡ true → k ≡ number z s → new ≡ (if is_ok r then old ++ k ∷ [] else old) → OnOk r (Grows m z x old new)
pushed_if_ok m z x s old new k (Ok a) there h e f = pushed_grows m z x s old new k there h e f
pushed_if_ok m z x s old new k (Err a) there h e f = tt

pub on_ok : {A E : Type 0} (r : Result A E) (P Q : Type 0) → (P → Q) → OnOk r P → OnOk r Q
on_ok (Ok a) P Q h k = h k
on_ok (Err a) P Q h k = tt

-- the steps of the gathering, from nothing
pub gathered : (m : Voyage) (z : Numbering) (x : Var) (a b c d : List ℕ) → Grows m z x [] a → HasEnds m z x a → Grows m z x a b → HasMoves m z x false b → Grows m z x b c → HasMoves m z x true c → Grows m z x c d
    → ((i : ℕ) → x.put ≤ i → i < x.lifted → HasCall m z x i d) → AreSumsOf m z x d
gathered m z x a b c d g e h v k w l calls =
    let later : Grows m z x b d = both m z x b c d k l in
    let all : Grows m z x [] d = both m z x [] a d g (both m z x a b d h later) in
    let kept : Grows m z x a d = both m z x a b d h later in
    record {
      only = λ n s. ⊎_elim (λ (f : stands n [] ≡ true). absurd (both_ways false refl f)) (λ (i : IsHeldBy m z x n). i) (all.only n s);
      all = all_noted m z x d
          (record { put = λ q. kept.keeps _ (e.put q); lifted = λ q. kept.keeps _ (e.lifted q); start = λ q. kept.keeps _ (e.start q) })
          (sides later l)
          calls;
    }
  where
    sides : Grows m z x b d → Grows m z x c d → (side : Bool) → HasMoves m z x side d
    sides g l false = record { lifted_from = λ q. g.keeps _ (v.lifted_from q); put_into = λ q. g.keeps _ (v.put_into q) }
    sides g l true = record { lifted_from = λ q. l.keeps _ (w.lifted_from q); put_into = λ q. l.keeps _ (w.put_into q) }

at_end : (xs : List (List ℕ)) (x : List ℕ) → get_or (xs ++ x ∷ []) (length xs) [] ≡ x
at_end [] x = refl
at_end (y ∷ ys) x = at_end ys x

at_before : (xs : List (List ℕ)) (x : List ℕ) (i : ℕ) → i < length xs → get_or (xs ++ x ∷ []) i [] ≡ get_or xs i []
at_before [] x i l = absurd (omega arith)
at_before (y ∷ ys) x zero l = refl
at_before (y ∷ ys) x (suc i) l = at_before ys x i (omega arith)

length_more : (xs : List (List ℕ)) (x : List ℕ) → length (xs ++ x ∷ []) ≡ length xs + 1
length_more [] x = refl
length_more (y ∷ ys) x = let l = length_more ys x in omega (arith, l)

-- one list more, of which the same is known
pub listed : (P : ℕ → List ℕ → Type 0) (old new : List (List ℕ)) (i : ℕ) (ns : List ℕ) → length old ≡ i → ((v : ℕ) → v < i → P v (slice_index_or old v [])) → new ≡ old ++ ns ∷ [] → P i ns
    → (length new ≡ i + 1) × ((v : ℕ) → v < i + 1 → P v (slice_index_or new v []))
listed P old new i ns e h f p = (
  ap length f ∙ length_more old ns ∙ ap (λ (k : ℕ). k + 1) e,
  λ v l. ⊎_elim
      (λ (k : v < i). subst (P v) (sym (ap (λ (ls : List (List ℕ)). slice_index_or ls v []) f ∙ at_before old ns v (omega (arith, k, e)))) (h v k))
      (λ (k : i ≤ v).
      let same : i ≡ v = omega (arith, k, l) in
      let at : length old ≡ v = omega (arith, e, same) in
      subst (P v) (sym (ap (λ (ls : List (List ℕ)). slice_index_or ls v []) f ∙ ap (λ (j : ℕ). get_or (old ++ ns ∷ []) j []) (sym at) ∙ at_end old ns)) (subst (λ (j : ℕ). P j ns) same p))
      (cases_lt v i),
)

-- an item that is there doesn't depend on what stands for none
pub any_default : {X : Type 0} (xs : List X) (i : ℕ) (d e : X) → i < length xs → get_or xs i d ≡ get_or xs i e
any_default [] i d e l = absurd (omega arith)
any_default (x ∷ xs) zero d e l = refl
any_default (x ∷ xs) (suc i) d e l = any_default xs i d e (omega arith)

-- what follows from two facts of a success
pub on_ok_both : {T E P Q R : Type 0} (r : Result T E) → (P → Q → R) → OnOk r P → OnOk r Q → OnOk r R
on_ok_both (Ok x) f p q = f p q
on_ok_both (Err e) f p q = tt
