-- What the number of a sum tells: its family, and so what its variables count.
use Rattle.std.proofs.Common.{◌≡◌, ℕ, ◌<◌, ◌+◌, ◌*◌, ◌/◌, ◌==◌, Bool, false, cond, All, List, [], ◌∷◌, length, refl, ◌∙◌, ap, arith}
use Rattle.std.specs.Prelude.{map, slice_index_or}
use Rattle.std.proofs.lemmas.Nat.{div-mul-add}
use Rattle.std.proofs.lemmas.List.{get_or-map}
use Rattle.std.proofs.lemmas.List.Elements.{All-head, All-tail}
use Rattle.zero_one_rows.specs.declared.program.Var.{Var}
use Rattle.zero_one_rows.specs.Variables.{Voyage, variables, var, kind, no_var}
use Rattle.row_sums.specs.declared.sums.Sum.{Sum}
use Rattle.row_sums.specs.declared.sums.Sum.TheVariants.{Put, Lifted, Start, Occupied, OccupiedByTwenty, OccupiedByClass, Staying, LiftedFrom, PutInto, Weight}
use Rattle.row_sums.specs.Sums.{counts}
use Rattle.row_sums.specs.declared.numbering.Numbering.{Numbering}
use Rattle.row_sums.specs.Numbers.{family, call_of, item, number, IsNumbering, IsThere}
use Rattle.row_sums.proofs.Telling.{has_room}
use Rattle.row_matrix.specs.declared.entries.Entry.{Entry}
use Rattle.row_matrix.specs.Counted.{counted, weight_of, all_weights, entry_by, entry_of}

family_is : (m : Voyage) (z : Numbering) (s : Sum) → IsNumbering m z → IsThere m s → number z s / z.width / z.calls ≡ family s
family_is m z s n t =
    let l = has_room m z s n t in
    ap (λ (k : ℕ). k / z.calls) (div-mul-add (family s * z.calls + call_of s) z.width (item z s) l.item_low) ∙ div-mul-add (family s) z.calls (call_of s) l.call_low

by_family : (m : Voyage) (s : Sum) (v : ℕ) → cond (family s == 8) (weight_of m v) 1 ≡ counts m s (var m v)
by_family m (Put i g) v = refl
by_family m (Lifted i g) v = refl
by_family m (Start p) v = refl
by_family m (Occupied i h) v = refl
by_family m (OccupiedByTwenty i h) v = refl
by_family m (Staying i h) v = refl
by_family m (LiftedFrom i h) v = refl
by_family m (PutInto i h) v = refl
by_family m (Weight i k) v = refl
by_family m (OccupiedByClass i p c) v = let e : (9 + c == 8) ≡ false = grind arith in ap (λ (b : Bool). cond b (weight_of m v) 1) e

pub counted_is : (m : Voyage) (z : Numbering) (s : Sum) (v : ℕ) → IsNumbering m z → IsThere m s → counted z (number z s) (weight_of m v) ≡ counts m s (var m v)
counted_is m z s v n t = ap (λ (f : ℕ). cond (f == 8) (weight_of m v) 1) (family_is m z s n t) ∙ by_family m s v

pub weight_at : (m : Voyage) (v : ℕ) → v < length (variables m) → slice_index_or (all_weights m) v 0 ≡ weight_of m v
weight_at m v l = get_or-map (λ (x : Var). (kind m x.kind).kg) (variables m) v no_var 0 l

-- entries by the list of weights
pub entries_same : (m : Voyage) (z : Numbering) (n : ℕ) (ws vs : List ℕ) → ws ≡ all_weights m → All (λ v. v < length (variables m)) vs → map (entry_by z n ws) vs ≡ map (entry_of m z n) vs
entries_same m z n ws [] e h = refl
entries_same m z n ws (v ∷ vs) e h =
    let w : slice_index_or ws v 0 ≡ weight_of m v = ap (λ (us : List ℕ). slice_index_or us v 0) e ∙ weight_at m v (All-head (λ v. v < length (variables m)) v vs h) in
    ap (λ (x : ℕ). record { at = v; by = counted z n x } ∷ map (entry_by z n ws) vs) w ∙ ap (λ (es : List Entry). entry_of m z n v ∷ es) (entries_same m z n ws vs e (All-tail (λ v. v < length (variables m)) v vs h))
