-- Texts printed one after the other.
use Rattle.std.proofs.Common.{◌≡◌, ℕ, ◌+◌, Bool, true, false, List, ◌++◌, length, take, Option, Some, None, refl, sym, ap, ◌∙◌, append_assoc, arith, inl, inr}
use Rattle.std.proofs.Math.Seq.{take-append_seam, take-append-add}
use Rattle.stow_io.specs.Files.{append, Appends}
use Rattle.std.specs.Prelude.{Result, Ok, Err, OnErr, is_ok}
use Rattle.stow_io.specs.Ends.{Says}
use Rattle.std.proofs.lemmas.Bool.{cases_lt}
use Rattle.std.proofs.lemmas.List.{take-append-le, take_all}

append-append : (front rest : List ℕ) (text : Option (List ℕ)) → append rest (append front text) ≡ append (front ++ rest) text
unfolding append
append-append front rest None = refl
append-append front rest (Some w) = ap (λ (x : List ℕ). Some x) (append_assoc w front rest)

front_of : (j : ℕ) (front rest : List ℕ) → (n : ℕ) × (take j front ≡ take n (front ++ rest))
front_of j front rest =
    elim (cases_lt j (length front)) [
      | inl lt ↦ (j, sym (take-append-le j front rest (omega arith)))
      | inr le ↦ (length front, take_all j front le ∙ sym (take-append_seam front rest))
    ]

pub says_front : (front rest : List ℕ) (ok : Bool) (before now : Option (List ℕ)) (rose : Type 0) → ok ≡ false → rose → Appends front ok before now → Says (front ++ rest) before now rose
says_front front rest true before now rose e r p = absurd cc
says_front front rest false before now rose e r p =
    let f = front_of p.0 front rest in
    inr (r, (f.0, p.1 ∙ ap (λ (x : List ℕ). append x before) f.1))

pub says_rest : (front rest : List ℕ) (before mid now : Option (List ℕ)) (rose rose' : Type 0) → (rose → rose') → mid ≡ append front before → Says rest mid now rose → Says (front ++ rest) before now rose'
says_rest front rest before mid now rose rose' up e (inl p) = inl (p ∙ ap (append rest) e ∙ append-append front rest before)
says_rest front rest before mid now rose rose' up e (inr p) =
    inr (up p.0, (length front + p.1.0, p.1.1 ∙ ap (append (take p.1.0 rest)) e ∙ append-append front (take p.1.0 rest) before ∙ ap (λ (x : List ℕ). append x before) (sym (take-append-add front rest p.1.0))))

pub on_err : {T E : Type 0} (P : Type 0) (r : Result T E) → is_ok r ≡ false → OnErr r P → P
on_err P (Ok x) e p = absurd cc
on_err P (Err x) e p = p

pub on_ok : (bytes : List ℕ) (ok : Bool) (before now : Option (List ℕ)) → ok ≡ true → Appends bytes ok before now → now ≡ append bytes before
on_ok bytes true before now e p = p
on_ok bytes false before now e p = absurd cc
