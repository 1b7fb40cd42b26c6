-- What a loop of writes has written: a part of the bytes from the front.
use Rattle.std.proofs.Common.{◌≡◌, ℕ, ◌-◌, List, ◌++◌, sym, ◌∙◌, ap, length, take, drop, None, Some, append_assoc, take-append-drop, le_refl}
use Rattle.std.specs.Prelude.{Option}
use Rattle.std.specs.Io.KnownBytes.{Appends, Keeps}
use Rattle.std.proofs.lemmas.List.{take_rest, take_all, take-append-le}

pub kept : (a b c : Option (List ℕ)) (bs : List ℕ) → Appends a b bs → Keeps b c → Appends a c bs
kept None b c bs p q = tt
kept (Some x) None c bs p q = absurd p
kept (Some x) (Some y) None bs p q = absurd q
kept (Some x) (Some y) (Some z) bs p q = q ∙ p

pub front : (all done rest : List ℕ) → all ≡ done ++ rest → done ≡ take (length done) all
front all done rest e = sym (ap (take (length done)) e ∙ (take-append-le (length done) done rest (le_refl (length done)) ∙ take_all (length done) done (le_refl (length done))))

pub moves_front : (all done rest : List ℕ) (n : ℕ) → all ≡ done ++ rest → all ≡ (done ++ take n rest) ++ take (length rest - n) (drop n rest)
moves_front all done rest n e =
    e ∙ ap (λ l. done ++ l) (sym (take-append-drop n rest)) ∙ sym (append_assoc done (take n rest) (drop n rest)) ∙ ap (λ l. (done ++ take n rest) ++ l) (sym (take_rest rest n))
