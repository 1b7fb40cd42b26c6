-- Records that are the same part by part, and the first items of lists.
use Rattle.std.proofs.Common.{◌≡◌, ℕ, ◌+◌, ◌≤◌, Bool, List, take, map, sym, ◌∙◌, ap, arith}
use Rattle.std.proofs.lemmas.List.{take-take, take-map}
use Rattle.zero_one_rows.specs.declared.program.Row.{Row}
use Rattle.zero_one_rows.specs.declared.program.Raise.{Raise}
use Rattle.certificate.specs.declared.tree.End.{End}
use Rattle.certificate.specs.declared.tree.Record.{Record}

abbrev record_of : Bool → List Row → List Raise → End → Record
record_of z steps raises e = record { from_zero = z; steps = steps; raises = raises; end = e }

pub same_parts : (a b : Record) → a.from_zero ≡ b.from_zero → a.end ≡ b.end → a.steps ≡ b.steps → a.raises ≡ b.raises → a ≡ b
same_parts a b z e s r =
    ap (λ (x : Bool). record_of x a.steps a.raises a.end) z ∙ ap (λ (x : List Row). record_of b.from_zero x a.raises a.end) s
    ∙ ap (λ (x : List Raise). record_of b.from_zero b.steps x a.end) r ∙ ap (λ (x : End). record_of b.from_zero b.steps b.raises x) e

pub fewer : {A B : Type 0} (f : A → B) (xs : List A) (ys : List B) (n k : ℕ) → n ≡ k + 1 → map f (take n xs) ≡ take n ys → map f (take k xs) ≡ take k ys
fewer f xs ys n k is h =
    let le : k ≤ n = omega arith in
    ap (map f) (sym (take-take k n xs le)) ∙ sym (take-map f k (take n xs)) ∙ ap (take k) h ∙ take-take k n ys le
