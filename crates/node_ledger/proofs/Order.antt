-- Sorted nodes have a tree's records in preorder.
use Rattle.std.proofs.Common.{◌≡◌, ℕ, suc, ◌<◌, ◌≤◌, Bool, true, false, not, List, [], ◌∷◌, ◌++◌, map, length, refl, ap, ◌∙◌, sym, slice_index_or, arith}
use Rattle.std.specs.Cmp.{IsStrictWeakOrder, IsTotalOrder, bool_cmp_total, on_total}
use Rattle.std.specs.Cmp.Lexicographic.{lists_total}
use Rattle.std.specs.Ordering.{is_lt}
use Rattle.std.proofs.lemmas.List.Sorted.{ranks_by, sorted_far}
use Rattle.certificate.specs.declared.journals.Entry.{Entry as Line}
use Rattle.proof_trees.specs.Trees.{Entry}
use Rattle.search_core.specs.Bags.{Every}
use Rattle.search_core.specs.Journals.{Path, Placed, Tree, Tip, Fork, preorder, root_of, roots, in_half, half, Gathers, under}
use Rattle.node_ledger.specs.Preorder.{by_preorder, InPreorder}

abbrev before : Path → Path → Bool
before a b = is_lt (by_preorder a b)

preorder_total : IsTotalOrder by_preorder
preorder_total = on_total (λ (p : Path). map not p) (lists_total bool_cmp_total)

pub is_order : IsStrictWeakOrder (λ (a b : Line). is_lt (by_preorder a.path b.path))
is_order = ranks_by preorder_total (λ (e : Line). e.path)

-- none comes behind one that it should be before
abbrev pub Rising : {A : Type 0} → (A → Path) → List A → Type 0
Rising path [] = Unit {0}
Rising path (n ∷ ns) = Every (λ m. before (path m) (path n) ≡ false) ns × Rising path ns

module _ {A : Type 0} where
  every_at : (P : A → Type 0) (xs : List A) → ((k : ℕ) (d : A) → k < length xs → P (slice_index_or xs k d)) → Every P xs
  every_at P [] f = tt
  every_at P (x ∷ xs) f = (f 0 x (omega arith), every_at P xs (λ k d lt. f (suc k) d (omega arith)))

  every_map : {B : Type 0} (g : A → B) (P : B → Type 0) (xs : List A) → Every (λ a. P (g a)) xs → Every P (map g xs)
  every_map g P [] h = tt
  every_map g P (x ∷ xs) h = (h.0, every_map g P xs h.1)

  far_rises : (path : A → Path) (xs : List A) → ((i j : ℕ) (d : A) → i ≤ j → j < length xs → before (path (slice_index_or xs j d)) (path (slice_index_or xs i d)) ≡ false) → Rising path xs
  far_rises path [] f = tt
  far_rises path (x ∷ xs) f =
      (every_at (λ m. before (path m) (path x) ≡ false) xs (λ k d lt. f 0 (suc k) d (omega arith) (omega arith)), far_rises path xs (λ i j d le lt. f (suc i) (suc j) d (omega arith) (omega arith)))

  pub rising_map : {B : Type 0} (g : A → B) (path : B → Path) (xs : List A) → Rising (λ a. path (g a)) xs → Rising path (map g xs)
  rising_map g path [] h = tt
  rising_map g path (x ∷ xs) h = (every_map g (λ m. before (path m) (path (g x)) ≡ false) xs h.0, rising_map g path xs h.1)

pub sorted_rises : (es : List Line) → InPreorder es → Rising (λ (e : Line). e.path) es
sorted_rises es up = far_rises (λ (e : Line). e.path) es (sorted_far (λ (a b : Line). is_lt (by_preorder a.path b.path)) is_order es up)

module _ {R : Type 0} where
  abbrev path_of : Placed R → Path
  path_of n = n.path

  abbrev Behind : Path → List (Placed R) → Type 0
  Behind p ns = Every (λ m. before m.path p ≡ false) ns

  -- what isn't before a node below the root isn't the root
  root_first : (y : Bool) (p q : Path) (e : Entry R) (es : List (Entry R)) → before q (y ∷ p) ≡ false → es ≡ [] → root_of q e es ≡ []
  root_first y p [] e es later is = absurd (cc)
  root_first y p (z ∷ q) e es later is = is

  no_root : (y : Bool) (p : Path) (ns : List (Placed R)) → Behind (y ∷ p) ns → roots ns ≡ []
  no_root y p [] h = refl
  no_root y p (n ∷ ns) h = root_first y p n.path n.entry (roots ns) h.0 (no_root y p ns h.1)

  -- what isn't before a node at value 0 isn't at value 1
  one_first : (p q : Path) (e : Entry R) (ns : List (Placed R)) → before q (false ∷ p) ≡ false → ns ≡ [] → in_half true q e ns ≡ []
  one_first p [] e ns later is = is
  one_first p (true ∷ q) e ns later is = absurd (cc)
  one_first p (false ∷ q) e ns later is = is

  no_one : (p : Path) (ns : List (Placed R)) → Behind (false ∷ p) ns → half true ns ≡ []
  no_one p [] h = refl
  no_one p (n ∷ ns) h = one_first p n.path n.entry (half true ns) h.0 (no_one p ns h.1)

  -- the root, then the nodes at value 1, then those at value 0
  abbrev at_root : Entry R → Placed R
  at_root e = record { path = []; entry = e }

  abbrev joined : List (Entry R) → List (Placed R) → List (Placed R) → List (Placed R)
  joined es ts fs = map at_root es ++ (map (under true) ts ++ map (under false) fs)

  parted_one : (p : Path) (e : Entry R) (ns : List (Placed R)) → Behind p ns → ns ≡ joined (roots ns) (half true ns) (half false ns)
      → record { path = p; entry = e } ∷ ns ≡ joined (root_of p e (roots ns)) (in_half true p e (half true ns)) (in_half false p e (half false ns))
  parted_one [] e ns h is = ap (λ (ms : List (Placed R)). at_root e ∷ ms) is
  parted_one (true ∷ p) e ns h is =
      let none : roots ns ≡ [] = no_root true p ns h in
      let rest : ns ≡ joined [] (half true ns) (half false ns) = is ∙ ap (λ (es : List (Entry R)). joined es (half true ns) (half false ns)) none in
      ap (λ (ms : List (Placed R)). record { path = true ∷ p; entry = e } ∷ ms) rest ∙ sym (ap (λ (es : List (Entry R)). joined es (record { path = p; entry = e } ∷ half true ns) (half false ns)) none)
  parted_one (false ∷ p) e ns h is =
      let none : roots ns ≡ [] = no_root false p ns h in
      let none_at_one : half true ns ≡ [] = no_one p ns h in
      let rest : ns ≡ joined [] [] (half false ns) = is ∙ ap (λ (es : List (Entry R)). joined es (half true ns) (half false ns)) none ∙ ap (λ (ts : List (Placed R)). joined [] ts (half false ns)) none_at_one in
      ap (λ (ms : List (Placed R)). record { path = false ∷ p; entry = e } ∷ ms) rest
      ∙ sym (ap (λ (es : List (Entry R)). joined es (half true ns) (record { path = p; entry = e } ∷ half false ns)) none ∙ ap (λ (ts : List (Placed R)). joined [] ts (record { path = p; entry = e } ∷ half false ns)) none_at_one)

  parted : (ns : List (Placed R)) → Rising path_of ns → ns ≡ joined (roots ns) (half true ns) (half false ns)
  parted [] h = refl
  parted (n ∷ ns) h = parted_one n.path n.entry ns h.0 (parted ns h.1)

  -- what is in one half rises too
  behind_one : (y : Bool) (p q : Path) (e : Entry R) (ns : List (Placed R)) → before q (y ∷ p) ≡ false → Behind p ns → Behind p (in_half y q e ns)
  behind_one y p [] e ns later h = h
  behind_one true p (true ∷ q) e ns later h = (later, h)
  behind_one false p (false ∷ q) e ns later h = (later, h)
  behind_one true p (false ∷ q) e ns later h = h
  behind_one false p (true ∷ q) e ns later h = h

  behind_half : (y : Bool) (p : Path) (ns : List (Placed R)) → Behind (y ∷ p) ns → Behind p (half y ns)
  behind_half y p [] h = tt
  behind_half y p (n ∷ ns) h = behind_one y p n.path n.entry (half y ns) h.0 (behind_half y p ns h.1)

  rising_one : (y : Bool) (p : Path) (e : Entry R) (ns : List (Placed R)) → Behind p ns → Rising path_of (half y ns) → Rising path_of (in_half y p e (half y ns))
  rising_one y [] e ns h up = up
  rising_one true (true ∷ p) e ns h up = (behind_half true p ns h, up)
  rising_one false (false ∷ p) e ns h up = (behind_half false p ns h, up)
  rising_one true (false ∷ p) e ns h up = up
  rising_one false (true ∷ p) e ns h up = up

  rising_half : (y : Bool) (ns : List (Placed R)) → Rising path_of ns → Rising path_of (half y ns)
  rising_half y [] h = tt
  rising_half y (n ∷ ns) h = rising_one y n.path n.entry ns h.0 (rising_half y ns h.1)

  abbrev told : List (Placed R) → List (Entry R)
  told ns = map (λ (n : Placed R). n.entry) ns

  told_append : (ns ms : List (Placed R)) → told (ns ++ ms) ≡ told ns ++ told ms
  told_append [] ms = refl
  told_append (n ∷ ns) ms = ap (λ (es : List (Entry R)). n.entry ∷ es) (told_append ns ms)

  told_under : (y : Bool) (ns : List (Placed R)) → told (map (under y) ns) ≡ told ns
  told_under y [] = refl
  told_under y (n ∷ ns) = ap (λ (es : List (Entry R)). n.entry ∷ es) (told_under y ns)

  told_joined : (e : Entry R) (ts fs : List (Placed R)) → told (joined (e ∷ []) ts fs) ≡ e ∷ (told ts ++ told fs)
  told_joined e ts fs =
      ap (λ (es : List (Entry R)). e ∷ es) (told_append (map (under true) ts) (map (under false) fs) ∙ ap (λ (es : List (Entry R)). es ++ told (map (under false) fs)) (told_under true ts) ∙ ap (λ (es : List (Entry R)). told ts ++ es) (told_under false fs))

  pub in_preorder : (t : Tree R) (ns : List (Placed R)) → Rising path_of ns → Gathers ns t → told ns ≡ preorder t
  in_preorder (Tip e) ns up g =
      ap told (parted ns up) ∙ ap (λ (es : List (Entry R)). told (joined es (half true ns) (half false ns))) g.0 ∙ told_joined e (half true ns) (half false ns)
      ∙ ap (λ (ms : List (Placed R)). e ∷ (told ms ++ told (half false ns))) g.2 ∙ ap (λ (ms : List (Placed R)). e ∷ told ms) g.3
  in_preorder (Fork e a b) ns up g =
      ap told (parted ns up) ∙ ap (λ (es : List (Entry R)). told (joined es (half true ns) (half false ns))) g.0 ∙ told_joined e (half true ns) (half false ns)
      ∙ ap (λ (es : List (Entry R)). e ∷ (es ++ told (half false ns))) (in_preorder a (half true ns) (rising_half true ns up) g.2)
      ∙ ap (λ (es : List (Entry R)). e ∷ (preorder a ++ es)) (in_preorder b (half false ns) (rising_half false ns up) g.3)
