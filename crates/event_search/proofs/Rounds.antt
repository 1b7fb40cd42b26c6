-- Amounts that count in one round.
use Rattle.std.proofs.Common.{◌≡◌, ℕ, zero, suc, ◌<◌, ◌==◌, Bool, true, false, cond, List, [], ◌∷◌, All, map, length, replicate, set, refl, ◌∙◌, ap, arith}
use Rattle.std.proofs.lemmas.List.{map-set}
use Rattle.std.proofs.lemmas.Bool.Decides.{nat_tests}
use Rattle.event_search.specs.declared.amounts.Stamped.{Stamped}
use Rattle.event_search.specs.Rounds.{amount_in}

-- what was set before this round counts no more
past : (s : Stamped) (n : ℕ) → s.round < n → amount_in n s ≡ 0
past s n lt =
    let no : (s.round == n) ≡ false = grind (arith, nat_tests) in
    ap (λ (b : Bool). cond b s.amount 0) no

pub all_past : (xs : List Stamped) (n : ℕ) → All (λ s. s.round < n) xs → map (amount_in n) xs ≡ replicate (length xs) 0
all_past [] n h = refl
all_past (x ∷ xs) n h =
    ap (λ (k : ℕ). k ∷ map (amount_in n) xs) (past x n (h zero x (omega arith)))
    ∙ ap (λ (ks : List ℕ). 0 ∷ ks) (all_past xs n (λ k d lt. h (suc k) d (omega (arith, lt))))

pub none_set : (n : ℕ) (s : Stamped) (round : ℕ) → amount_in round s ≡ 0 → map (amount_in round) (replicate n s) ≡ replicate n 0
none_set zero s round h = refl
none_set (suc n) s round h = ap (λ (k : ℕ). k ∷ map (amount_in round) (replicate n s)) h ∙ ap (λ (ks : List ℕ). 0 ∷ ks) (none_set n s round h)

now_set : (round amount : ℕ) → amount_in round (record { round = round; amount = amount }) ≡ amount
now_set round amount =
    let yes : (round == round) ≡ true = grind (arith, nat_tests) in
    ap (λ (b : Bool). cond b amount 0) yes

pub set_now : (xs : List Stamped) (k round amount : ℕ) → map (amount_in round) (set xs k (record { round = round; amount = amount })) ≡ set (map (amount_in round) xs) k amount
set_now xs k round amount = map-set (amount_in round) xs k (record { round = round; amount = amount }) ∙ ap (λ (n : ℕ). set (map (amount_in round) xs) k n) (now_set round amount)
