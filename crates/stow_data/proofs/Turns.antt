-- What a closure may be asked over a list: what holds of each of its items.
use Rattle.std.proofs.Common.{◌≡◌, ℕ, suc, List, [], ◌∷◌, length, subst, sym, refl, Bor, Iter}
use Rattle.std.specs.Iterator.{Yields, CallableAtEachTurn}
use Rattle.std.specs.List.{FoldsTo, slice_get}
use Rattle.std.proofs.lemmas.Fn.{fronts}
use Rattle.std.specs.Prelude.{Some}

-- what each call leaves, all calls leave
unmoved : {A P : Type 0} {R : P → Bor A → P → Type 0} (stays : (p : P) (x : Bor A) (q : P) → R p x q → q ≡ p) (xs : List (Bor A)) (p q : P) → FoldsTo R p xs q → q ≡ p
unmoved stays [] p q c = sym c
unmoved {A} {P} {R} stays (x ∷ xs) p q c = unmoved stays xs p q (subst (λ k. FoldsTo R k xs q) (stays p x c.0 c.1) c.2)

-- the first item after some is the one behind them
behind : {A : Type 0} (xs : List (Bor A)) (s t : Iter A) (x : A) → Yields fronts s xs t → slice_get t.rest.now 0 ≡ Some x → slice_get s.rest.now (length xs) ≡ Some x
behind [] s t x y e = subst (λ (j : Iter _). slice_get j.rest.now 0 ≡ Some x) (sym y) e
behind (z ∷ xs) s t x y e = subst (λ r. slice_get r (suc (length xs)) ≡ Some x) (sym y.1) (behind xs y.0 t x y.2 e)

pub serves_from_slice : {A P : Type 0} {R : P → Bor A → P → Type 0} {Q : P → Bor A → Type 0} {s : Iter A} {p : P}
    → ((q : P) (x : Bor A) (r : P) → R q x r → r ≡ q) → ((k : ℕ) (x : Bor A) → slice_get s.rest.now k ≡ Some x.now → Q p x) → CallableAtEachTurn fronts R Q s p
serves_from_slice {A} {P} {R} {Q} {s} {p} stays h = record {
  at = λ xs t q x u y c e. subst (λ k. Q k x) (sym (unmoved stays xs p q c)) (h (length xs) x (behind xs s t x.now y (subst (λ r. slice_get r 0 ≡ Some x.now) (sym e) refl)));
}
