-- Rows gathered run by run.
use Rattle.std.proofs.Common.{◌≡◌, ℕ, ◌<◌, ◌+◌, Bool, true, false, ◌&&◌, not, List, [], ◌∷◌, ◌++◌, refl, sym, ◌∙◌, ap, length, take}
use Rattle.std.specs.Prelude.{map, flat_map, filter, pos, All, slice_index_or}
use Rattle.std.specs.List.{range_with_len}
use Rattle.std.specs.Ordering.{int_eq}
use Rattle.std.proofs.lemmas.List.{append-nil, append_assoc, take_more, map-append}
use Rattle.std.proofs.lemmas.List.Elements.{filter-append}
use Rattle.std.proofs.lemmas.Grind.{flat_map-append}
use Rattle.stow_data.specs.Ship.{same_length}
use Rattle.stow_data.proofs.Members.{Member, map_at, range-more}
use Rattle.zero_one_rows.specs.Chains.{is_pair}
use Rattle.zero_one_rows.specs.declared.program.Row.{Row}
use Rattle.zero_one_rows.specs.declared.program.Row.TheVariants.{Cross}
use Rattle.zero_one_rows.specs.Variables.{Voyage, var, kind, is_rehandled}
use Rattle.zero_one_rows.specs.Crossing.{crosses, tallest, length_of}
use Rattle.zero_one_rows.specs.Rows.{bit, has}
use Rattle.zero_one_rows.proofs.VariableList.{get_member}
use Rattle.zero_one_rows.specs.Counted.{base_rows}
use Rattle.zero_one_rows.specs.Grouping.{IsGrouped}
use Rattle.zero_one_rows.proofs.Filters.{filter_same, filter_none}
use Rattle.zero_one_model.specs.Runs.{run_of, meets, no_row}
use Rattle.zero_one_model.proofs.Touched.{group_at}

-- one more row of a run
pub more_calls : (t : Row → Bool) (f : ℕ → Row) (a n : ℕ) (front old new : List Row) → old ≡ front ++ filter t (map f (range_with_len a n)) → new ≡ old ++ filter t (f (a + n) ∷ []) → new ≡ front ++ filter t (map f (range_with_len a (n + 1)))
more_calls t f a n front old new h e =
    e ∙ ap (λ (rs : List Row). rs ++ filter t (f (a + n) ∷ [])) h ∙ append_assoc front (filter t (map f (range_with_len a n))) (filter t (f (a + n) ∷ []))
    ∙ ap (λ (rs : List Row). front ++ rs) (sym (ap (filter t) (ap (map f) (range-more a n) ∙ map-append f (range_with_len a n) ((a + n) ∷ [])) ∙ filter-append t (map f (range_with_len a n)) (f (a + n) ∷ [])))

module _ (t : Row → Bool) (f : Row → List Row) where
  abbrev pub kept : List Row → List Row
  kept rs = filter t (flat_map f rs)

  kept_append : (rs ss : List Row) → kept (rs ++ ss) ≡ kept rs ++ kept ss
  kept_append rs ss = ap (filter t) (flat_map-append f rs ss) ∙ filter-append t (flat_map f rs) (flat_map f ss)

  -- one more run
  pub more_run : (rs : List Row) (r : Row) (front old new : List Row) → old ≡ front ++ kept rs → new ≡ old ++ filter t (f r) → new ≡ front ++ kept (rs ++ r ∷ [])
  more_run rs r front old new h e =
      e ∙ ap (λ (xs : List Row). xs ++ filter t (f r)) h ∙ append_assoc front (kept rs) (filter t (f r))
      ∙ ap (λ (xs : List Row). front ++ xs) (ap (λ (xs : List Row). kept rs ++ filter t xs) (sym (append-nil (f r))) ∙ sym (kept_append rs (r ∷ [])))

  pub more_mapped : {X : Type 0} (g : X → Row) (xs : List X) (i : ℕ) (d : X) (front old new : List Row) → i < length xs → old ≡ front ++ kept (map g (take i xs)) → new ≡ old ++ filter t (f (g (slice_index_or xs i d))) → new ≡ front ++ kept (map g (take (i + 1) xs))
  more_mapped {X} g xs i d front old new l h e =
      let more : map g (take (i + 1) xs) ≡ map g (take i xs) ++ g (slice_index_or xs i d) ∷ [] = ap (map g) (take_more xs i d l) ∙ map-append g (take i xs) (slice_index_or xs i d ∷ []) in
      more_run (map g (take i xs)) (g (slice_index_or xs i d)) front old new h e ∙ ap (λ (rs : List Row). front ++ kept rs) (sym more)

  -- five runs
  pub five_runs : (a b c d e : Row) (l0 l1 l2 l3 l4 l5 : List Row) → l1 ≡ l0 ++ filter t (f a) → l2 ≡ l1 ++ filter t (f b) → l3 ≡ l2 ++ filter t (f c) → l4 ≡ l3 ++ filter t (f d) → l5 ≡ l4 ++ filter t (f e) → l5 ≡ l0 ++ kept (a ∷ b ∷ c ∷ d ∷ e ∷ [])
  five_runs a b c d e l0 l1 l2 l3 l4 l5 h1 h2 h3 h4 h5 =
      more_run (a ∷ b ∷ c ∷ d ∷ []) e l0 l4 l5 (more_run (a ∷ b ∷ c ∷ []) d l0 l3 l4 (more_run (a ∷ b ∷ []) c l0 l2 l3 (more_run (a ∷ []) b l0 l1 l2 (more_run [] a l0 l0 l1 (sym (append-nil l0)) h1) h2) h3) h4) h5

  -- five lists of runs
  pub five_lists : (a b c d e l1 l2 l3 l4 l5 : List Row) → l1 ≡ kept a → l2 ≡ l1 ++ kept b → l3 ≡ l2 ++ kept c → l4 ≡ l3 ++ kept d → l5 ≡ l4 ++ kept e → l5 ≡ kept (a ++ (b ++ (c ++ (d ++ e))))
  five_lists a b c d e l1 l2 l3 l4 l5 h1 h2 h3 h4 h5 =
      let m2 : l2 ≡ kept (a ++ b) = h2 ∙ ap (λ (xs : List Row). xs ++ kept b) h1 ∙ sym (kept_append a b) in
      let m3 : l3 ≡ kept ((a ++ b) ++ c) = h3 ∙ ap (λ (xs : List Row). xs ++ kept c) m2 ∙ sym (kept_append (a ++ b) c) in
      let m4 : l4 ≡ kept (((a ++ b) ++ c) ++ d) = h4 ∙ ap (λ (xs : List Row). xs ++ kept d) m3 ∙ sym (kept_append ((a ++ b) ++ c) d) in
      let m5 : l5 ≡ kept ((((a ++ b) ++ c) ++ d) ++ e) = h5 ∙ ap (λ (xs : List Row). xs ++ kept e) m4 ∙ sym (kept_append (((a ++ b) ++ c) ++ d) e) in
      m5 ∙ ap kept (append_assoc ((a ++ b) ++ c) d e ∙ append_assoc (a ++ b) c (d ++ e) ∙ append_assoc a b (c ++ (d ++ e)))

and_false : (b : Bool) → (b && false) ≡ false
and_false true = refl
and_false false = refl

-- a variable that doesn't cross stands in no row of the chain
pub no_crossing : (m : Voyage) (x l : ℕ) (c : List ℕ) → crosses m l c (var m x) ≡ false → filter (meets m x) (run_of m (var m x) (Cross l 1 c)) ≡ []
no_crossing m x l c h = filter_same (meets m x) (λ y. false) (run_of m (var m x) (Cross l 1 c)) none ∙ filter_none (run_of m (var m x) (Cross l 1 c))
  where
    none : (y : Row) → Member y (run_of m (var m x) (Cross l 1 c)) → meets m x y ≡ false
    none y k =
        let a = map_at (λ (n : ℕ). Cross l n c) (range_with_len 1 (tallest m.ship (length_of l))) y k in
        ap (meets m x) a.2 ∙ (ap (λ (b : Bool). has m (Cross l a.0 c) && not (int_eq (bit b) (pos 0))) h ∙ and_false (has m (Cross l a.0 c)))

neither : (a b c : Bool) → (a && c) ≡ false → (a && (b && c)) ≡ false
neither false b c h = refl
neither true true c h = h
neither true false c h = refl

-- one that has another length, or is lifted at its destination, stands in no crossing row of the length
pub no_crossings : (m : Voyage) (x l : ℕ) (cs : List (List ℕ)) → (same_length (length_of l) (kind m (var m x).kind).long && is_rehandled m (var m x)) ≡ false → filter (meets m x) (flat_map (run_of m (var m x)) (map (λ c. Cross l 1 c) cs)) ≡ []
no_crossings m x l [] h = refl
no_crossings m x l (c ∷ cs) h =
    let here : filter (meets m x) (run_of m (var m x) (Cross l 1 c)) ≡ [] = no_crossing m x l c (neither (same_length (length_of l) (kind m (var m x).kind).long) (is_pair c (var m x).put (kind m (var m x).kind).dest) (is_rehandled m (var m x)) h) in
    filter-append (meets m x) (run_of m (var m x) (Cross l 1 c)) (flat_map (run_of m (var m x)) (map (λ c. Cross l 1 c) cs))
    ∙ ap (λ (rs : List Row). rs ++ filter (meets m x) (flat_map (run_of m (var m x)) (map (λ c. Cross l 1 c) cs))) here
    ∙ no_crossings m x l cs h

-- what is filed are numbers of base rows
pub filed_inside : (m : Voyage) (f : Row → ℕ) (n k : ℕ) (groups : List (List ℕ)) → IsGrouped (map f (base_rows m)) n groups → k < n → All (λ i. i < length (base_rows m)) (slice_index_or groups k [])
filed_inside m f n k groups g l i d q = (group_at f (base_rows m) no_row n k (slice_index_or (slice_index_or groups k []) i d) groups g l (get_member (slice_index_or groups k []) i d q)).0
