-- A tree doesn't depend on the order in which its nodes are listed.
use Rattle.std.proofs.Common.{◌≡◌, ℕ, zero, suc, ◌<◌, ◌≤◌, Bool, true, false, List, [], ◌∷◌, length, refl, ap, ◌∙◌, sym, subst, slice_index_or, slice_set, arith}
use Rattle.std.specs.List.{swap}
use Rattle.std.specs.List.Sorted.{IsPermutation}
use Rattle.std.proofs.lemmas.List.Sorted.{IsPermutation-keeps}
use Rattle.proof_trees.specs.Trees.{Entry}
use Rattle.search_core.specs.Journals.{Path, Placed, Tree, Tip, Fork, root_of, roots, in_half, half, Gathers}

-- by exchanges of neighbours
pub data Moved {X : Type 0} : List X → List X → Type 0 where
  Same : (xs : List X) → Moved xs xs
  Flip : (x y : X) (zs : List X) → Moved (x ∷ y ∷ zs) (y ∷ x ∷ zs)
  Under : (x : X) (xs ys : List X) → Moved xs ys → Moved (x ∷ xs) (x ∷ ys)
  Then : (xs ys zs : List X) → Moved xs ys → Moved ys zs → Moved xs zs

module _ {X : Type 0} where
  to_front : (x : X) (xs : List X) (j : ℕ) (d : X) → j < length xs → Moved (x ∷ xs) (slice_index_or xs j d ∷ slice_set xs j x)
  to_front x [] j d lt = absurd (omega arith)
  to_front x (y ∷ ys) zero d lt = Flip x y ys
  to_front x (y ∷ ys) (suc j) d lt =
      let z : X = slice_index_or ys j d in
      let zs : List X = slice_set ys j x in
      Then (x ∷ y ∷ ys) (y ∷ x ∷ ys) (z ∷ y ∷ zs) (Flip x y ys) (Then (y ∷ x ∷ ys) (y ∷ z ∷ zs) (z ∷ y ∷ zs) (Under y (x ∷ ys) (z ∷ zs) (to_front x ys j d (omega arith))) (Flip y z zs))

  exchanged : (xs : List X) (i j : ℕ) (d : X) → i < length xs → j < length xs → Moved xs (slice_set (slice_set xs i (slice_index_or xs j d)) j (slice_index_or xs i d))
  exchanged [] i j d a b = absurd (omega arith)
  exchanged (x ∷ xs) zero zero d a b = Same (x ∷ xs)
  exchanged (x ∷ xs) zero (suc j) d a b = to_front x xs j d (omega arith)
  exchanged (x ∷ xs) (suc i) zero d a b = to_front x xs i d (omega arith)
  exchanged (x ∷ xs) (suc i) (suc j) d a b = Under x xs _ (exchanged xs i j d (omega arith) (omega arith))

  swapped : (xs : List X) (i j : ℕ) → i < length xs → j < length xs → Moved xs (swap xs i j)
  swapped [] i j a b = Same []
  swapped (x ∷ xs) i j a b = exchanged (x ∷ xs) i j x a b

  pub from_permutation : (xs ys : List X) → IsPermutation xs ys → Moved xs ys
  from_permutation xs ys is = IsPermutation-keeps xs (λ l. Moved xs l) (Same xs) (λ l i j a b m. Then xs l (swap l i j) m (swapped l i j a b)) ys is

  few : (xs ys : List X) → Moved xs ys → length xs ≤ 1 → xs ≡ ys
  few xs ys (Same zs) le = refl
  few xs ys (Flip x y zs) le = absurd (omega arith)
  few xs ys (Under x us vs m) le = ap (λ (zs : List X). x ∷ zs) (few us vs m (omega arith))
  few xs ys (Then us vs ws m k) le =
      let is : us ≡ vs = few us vs m le in
      is ∙ few vs ws k (subst (λ (zs : List X). length zs ≤ 1) is le)

module _ {R : Type 0} where
  root_under : (p : Path) (e : Entry R) (es fs : List (Entry R)) → Moved es fs → Moved (root_of p e es) (root_of p e fs)
  root_under [] e es fs m = Under e es fs m
  root_under (y ∷ p) e es fs m = m

  root_flip : (p q : Path) (e f : Entry R) (es : List (Entry R)) → Moved (root_of p e (root_of q f es)) (root_of q f (root_of p e es))
  root_flip [] [] e f es = Flip e f es
  root_flip [] (z ∷ q) e f es = Same (e ∷ es)
  root_flip (y ∷ p) q e f es = Same (root_of q f es)

  roots_moved : (ns ms : List (Placed R)) → Moved ns ms → Moved (roots ns) (roots ms)
  roots_moved ns ms (Same xs) = Same (roots xs)
  roots_moved ns ms (Flip x y zs) = root_flip x.path y.path x.entry y.entry (roots zs)
  roots_moved ns ms (Under x xs ys m) = root_under x.path x.entry (roots xs) (roots ys) (roots_moved xs ys m)
  roots_moved ns ms (Then xs ys zs m k) = Then (roots xs) (roots ys) (roots zs) (roots_moved xs ys m) (roots_moved ys zs k)

  in_half_under : (y : Bool) (p : Path) (e : Entry R) (ns ms : List (Placed R)) → Moved ns ms → Moved (in_half y p e ns) (in_half y p e ms)
  in_half_under y [] e ns ms m = m
  in_half_under true (true ∷ p) e ns ms m = Under (record { path = p; entry = e }) ns ms m
  in_half_under false (false ∷ p) e ns ms m = Under (record { path = p; entry = e }) ns ms m
  in_half_under true (false ∷ p) e ns ms m = m
  in_half_under false (true ∷ p) e ns ms m = m

  in_half_flip : (y : Bool) (p q : Path) (e f : Entry R) (ns : List (Placed R)) → Moved (in_half y p e (in_half y q f ns)) (in_half y q f (in_half y p e ns))
  in_half_flip y [] q e f ns = Same (in_half y q f ns)
  in_half_flip true (false ∷ p) q e f ns = Same (in_half true q f ns)
  in_half_flip false (true ∷ p) q e f ns = Same (in_half false q f ns)
  in_half_flip true (true ∷ p) [] e f ns = Same (record { path = p; entry = e } ∷ ns)
  in_half_flip true (true ∷ p) (false ∷ q) e f ns = Same (record { path = p; entry = e } ∷ ns)
  in_half_flip true (true ∷ p) (true ∷ q) e f ns = Flip (record { path = p; entry = e }) (record { path = q; entry = f }) ns
  in_half_flip false (false ∷ p) [] e f ns = Same (record { path = p; entry = e } ∷ ns)
  in_half_flip false (false ∷ p) (true ∷ q) e f ns = Same (record { path = p; entry = e } ∷ ns)
  in_half_flip false (false ∷ p) (false ∷ q) e f ns = Flip (record { path = p; entry = e }) (record { path = q; entry = f }) ns

  half_moved : (y : Bool) (ns ms : List (Placed R)) → Moved ns ms → Moved (half y ns) (half y ms)
  half_moved y ns ms (Same xs) = Same (half y xs)
  half_moved y ns ms (Flip a b zs) = in_half_flip y a.path b.path a.entry b.entry (half y zs)
  half_moved y ns ms (Under a xs ys m) = in_half_under y a.path a.entry (half y xs) (half y ys) (half_moved y xs ys m)
  half_moved y ns ms (Then xs ys zs m k) = Then (half y xs) (half y ys) (half y zs) (half_moved y xs ys m) (half_moved y ys zs k)

  one_root : (e : Entry R) (ns ms : List (Placed R)) → Moved ns ms → roots ns ≡ e ∷ [] → roots ms ≡ e ∷ []
  one_root e ns ms m is = sym (few (roots ns) (roots ms) (roots_moved ns ms m) (omega (arith, ap (λ (es : List (Entry R)). length es) is))) ∙ is

  no_half : (y : Bool) (ns ms : List (Placed R)) → Moved ns ms → half y ns ≡ [] → half y ms ≡ []
  no_half y ns ms m is = sym (few (half y ns) (half y ms) (half_moved y ns ms m) (omega (arith, ap (λ (es : List (Placed R)). length es) is))) ∙ is

  pub gathers_moved : (t : Tree R) (ns ms : List (Placed R)) → Moved ns ms → Gathers ns t → Gathers ms t
  gathers_moved (Tip e) ns ms m g = (one_root e ns ms m g.0, g.1, no_half true ns ms m g.2, no_half false ns ms m g.3)
  gathers_moved (Fork e a b) ns ms m g =
      (one_root e ns ms m g.0, g.1, gathers_moved a (half true ns) (half true ms) (half_moved true ns ms m) g.2, gathers_moved b (half false ns) (half false ms) (half_moved false ns ms m) g.3)
