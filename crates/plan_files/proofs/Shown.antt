-- A message shows exactly the plan that its groups tell.
use Rattle.std.proofs.Common.{◌≡◌, ◌≢◌, ℕ, zero, suc, ◌+◌, ◌<◌, Bool, true, false, List, [], ◌∷◌, length, get_or, Option, Some, None, Ok, refl, sym, ap, subst, ◌∙◌, arith, inl, inr, cond}
use Rattle.std.specs.Prelude.{◌&&◌, find, not, slice_get, slice_index_or}
use Rattle.std.specs.List.{flat_map}
use Rattle.std.proofs.lemmas.Bool.{and_from, both_ways}
use Rattle.std.proofs.lemmas.Option.{get_or_from_slice_get, none-some, same_Some, slice_get-get_or, slice_get_within}
use Rattle.stow_data.specs.declared.cargoes.Container.{Container}
use Rattle.stow_data.specs.Ship.{Ship}
use Rattle.stow_data.specs.Shipment.{Cargo, IsAboard, IsCargo}
use Rattle.stow_data.specs.Profile.{IsShip}
use Rattle.stow_data.specs.Plans.{Plan, container_at, container_numbers}
use Rattle.stow_data.proofs.Members.{Member, index_of, member_of, range_from}
use Rattle.stow_data.proofs.PlanLookups.{container_is, is_container}
use Rattle.stowage_rules.specs.Plan.{Holds}
use Rattle.toml_values.proofs.ValueLaws.{bound, err_is_no_ok, same_Ok}
use Rattle.baplie.specs.declared.parts.CellGroup as baplie
use Rattle.plan_files.specs.Shown.{CellGroup, IsAboardGroup, SharesHalf, Shows, SomeSays, shown_in}
use Rattle.plan_files.proofs.Pairs.{InPairs, all_pairs, all_pairs_at}
use Rattle.plan_files.specs.declared.file_faults.FileNo.TheVariants.{MissingContainer}
use Rattle.plan_files.specs.declared.standing.Standing.{Standing}
use Rattle.stow_data.specs.Shipment.{is_aboard}
use Rattle.plan_files.specs.PlanOf.{first_missing, is_missing, nothing, plan_of, standing, unless_missing}
use Rattle.plan_files.proofs.Spots.{aboard_is, is_aboard_from}
use Rattle.plan_files.proofs.SoFar.{AreApart, IsSaid, IsSoFar, all_told, so_far_first, so_far_groups}
use Rattle.plan_files.proofs.Steps.{none_in}

-- ## Lists

-- two plans that hold the same are one
same_plans : (xs ys : Plan) → length xs ≡ length ys → ((p c : ℕ) → Holds xs p c → Holds ys p c) → ((p c : ℕ) → Holds ys p c → Holds xs p c) → xs ≡ ys
same_plans [] [] l f g = refl
same_plans [] (y ∷ ys) l f g = absurd (omega arith)
same_plans (x ∷ xs) [] l f g = absurd (omega arith)
same_plans (x ∷ xs) (y ∷ ys) l f g = ap (λ (z : Option ℕ). z ∷ xs) (one x y (λ c e. same_Some y (Some c) (f zero c (ap (λ (z : Option ℕ). Some z) e))) (λ c e. same_Some x (Some c) (g zero c (ap (λ (z : Option ℕ). Some z) e)))) ∙ ap (λ (zs : Plan). y ∷ zs) (same_plans xs ys (omega arith) (λ p c. f (suc p) c) (λ p c. g (suc p) c))
  where
    one : (x y : Option ℕ) → ((c : ℕ) → x ≡ Some c → y ≡ Some c) → ((c : ℕ) → y ≡ Some c → x ≡ Some c) → x ≡ y
    one (Some c) y f g = sym (f c refl)
    one None None f g = refl
    one None (Some c) f g = g c refl

find_none : (t : ℕ → Bool) (xs : List ℕ) (x : ℕ) → find t xs ≡ None → Member x xs → t x ≡ false
find_none t [] x h m = absurd m
find_none t (y ∷ ys) x h m = go (t y) refl h m (λ k n. find_none t ys x k n)
  where
    go : (b : Bool) → t y ≡ b → cond b (Some y) (find t ys) ≡ None → Member x (y ∷ ys) → (find t ys ≡ None → Member x ys → t x ≡ false) → t x ≡ false
    go true e k n rest = absurd (none-some y (sym k))
    go false e k (inl same) rest = ap t same ∙ e
    go false e k (inr n) rest = rest k n

pairs_from : (R : CellGroup → CellGroup → Type 0) (xs : List CellGroup) → ((i j : ℕ) (x y : CellGroup) → i < j → slice_get xs i ≡ Some x → slice_get xs j ≡ Some y → R x y) → InPairs R xs
pairs_from R [] h = tt
pairs_from R (x ∷ xs) h = (λ y m. let at = index_of xs y m in h zero (suc at.0) x y (omega arith) refl at.1, pairs_from R xs (λ i j a b l k n. h (suc i) (suc j) a b (omega arith) k n))

module _ (ship : Ship) (cargo : Cargo) (call : ℕ) (rules : IsShip ship) (shipped : IsCargo cargo) where
  says_from : (shown : List CellGroup) (p c : ℕ) → IsSaid ship cargo call shown p c → SomeSays ship cargo shown p c
  says_from shown p c x = let at = index_of shown x.group x.among in record { index = at.0; group = x.group; is_group = at.1; says = x.says }

  says_to : (shown : List CellGroup) (p c : ℕ) → SomeSays ship cargo shown p c → IsSaid ship cargo call shown p c
  says_to shown p c x = record { group = x.group; among = member_of shown x.index x.group x.is_group; says = x.says }

  -- none is missing
  no_gap : (s : Standing) (shown : List CellGroup) → IsSoFar ship cargo call s shown → first_missing cargo call s.placed ≡ None → (c : ℕ) (x : Container) → slice_get cargo.containers c ≡ Some x → IsAboard call x → slice_index_or s.placed c false ≡ true
  unfolding first_missing
  no_gap s shown so h c x is aboard =
      let low = slice_get_within cargo.containers c x is in
      let off = find_none (λ c. is_missing cargo call s.placed c) (container_numbers cargo) c h (range_from 0 (length cargo.containers) c (omega arith) (omega (arith, low))) in
      let on : is_aboard call (container_at cargo c) ≡ true = ap (is_aboard call) (container_is cargo c x is) ∙ is_aboard_from call x aboard in
      by_flag (slice_index_or s.placed c false) on off
    where
      by_flag : (b : Bool) → is_aboard call (container_at cargo c) ≡ true → (is_aboard call (container_at cargo c) && not b) ≡ false → b ≡ true
      by_flag true on off = refl
      by_flag false on off = absurd (both_ways (is_aboard call (container_at cargo c) && not false) off (and_from (is_aboard call (container_at cargo c)) true on refl))

  -- what the groups tell is shown
  pub told_shows : (groups : List baplie.CellGroup) (plan : Plan) → plan_of ship cargo call groups ≡ Ok plan → Shows ship cargo call (flat_map shown_in groups) plan
  unfolding plan_of
  told_shows groups plan h =
      let s = bound (standing ship cargo call groups) (λ s. unless_missing cargo s.plan (first_missing cargo call s.placed)) plan h in
      let shown = flat_map shown_in groups in
      let so = so_far_groups ship cargo call rules shipped (nothing ship cargo) s.value [] 0 groups s.is (so_far_first ship cargo call) in
      let none = no_missing s.value (first_missing cargo call s.value.placed) refl s.goes_on in
      subst (Shows ship cargo call shown) none.1 record {
        each_aboard = λ k d l. so.each_aboard (get_or shown k d) (member_of shown k (get_or shown k d) (slice_get-get_or shown k d l));
        ids_differ = all_pairs (λ a b. a.id ≢ b.id) shown so.ids;
        halves_differ = all_pairs (λ a b. SharesHalf ship a b → ⊥) shown so.halves;
        all_aboard = λ c x is aboard. let at = so.flags c (no_gap s.value shown so none.0 c x is aboard) in (at.0, says_from shown at.0 c at.1);
        each_place = so.each_place;
        holds = λ p c. (λ k. says_from shown p c (so.holds p c k), λ k. so.said p c (says_to shown p c k));
      }
    where
      no_missing : (s : Standing) (o : Option ℕ) → first_missing cargo call s.placed ≡ o → unless_missing cargo s.plan o ≡ Ok plan → (first_missing cargo call s.placed ≡ None) × (s.plan ≡ plan)
      no_missing s None e k = (e, same_Ok s.plan plan k)
      no_missing s (Some c) e k = absurd (err_is_no_ok (MissingContainer (container_at cargo c).id) plan k)

  -- what is shown, the groups tell
  told_ok : (groups : List baplie.CellGroup) (s : Standing) → standing ship cargo call groups ≡ Ok s → first_missing cargo call s.placed ≡ None → plan_of ship cargo call groups ≡ Ok s.plan
  unfolding plan_of
  told_ok groups s h none = rw (h, none) refl

  nothing_missing : (s : Standing) (shown : List CellGroup) → IsSoFar ship cargo call s shown → ((c : ℕ) (x : Container) → slice_get cargo.containers c ≡ Some x → IsAboard call x → (p : ℕ) × IsSaid ship cargo call shown p c) → (j : ℕ) → j < length cargo.containers → is_missing cargo call s.placed j ≡ false
  nothing_missing s shown so all j l = go (is_aboard call (container_at cargo j)) refl
    where
      go : (b : Bool) → is_aboard call (container_at cargo j) ≡ b → is_missing cargo call s.placed j ≡ false
      go false e = ap (λ (t : Bool). t && not (slice_index_or s.placed j false)) e
      go true e =
          let at = all j (container_at cargo j) (is_container cargo j l) (aboard_is call (container_at cargo j) e) in
          let on = so.flagged at.0 j at.1 in
          ap (λ (t : Bool). t && not (slice_index_or s.placed j false)) e ∙ ap (λ (t : Bool). not t) on

  none_missing : (s : Standing) (shown : List CellGroup) → IsSoFar ship cargo call s shown → ((c : ℕ) (x : Container) → slice_get cargo.containers c ≡ Some x → IsAboard call x → (p : ℕ) × IsSaid ship cargo call shown p c) → first_missing cargo call s.placed ≡ None
  unfolding first_missing
  none_missing s shown so all = none_in (λ c. is_missing cargo call s.placed c) 0 (length cargo.containers) (λ j l. let z : 0 + j ≡ j = omega arith in ap (is_missing cargo call s.placed) z ∙ nothing_missing s shown so all j l)

  pub shows_told : (groups : List baplie.CellGroup) (plan : Plan) → Shows ship cargo call (flat_map shown_in groups) plan → plan_of ship cargo call groups ≡ Ok plan
  shows_told groups plan h =
      let shown = flat_map shown_in groups in
      let apart : AreApart ship cargo call shown = record {
        each_aboard = λ g m. let at = index_of shown g m in subst (IsAboardGroup ship cargo call) (get_or_from_slice_get shown at.0 g g at.1) (h.each_aboard at.0 g (slice_get_within shown at.0 g at.1));
        ids = pairs_from (λ a b. a.id ≢ b.id) shown (λ i j x y l a b. all_pairs_at (λ a b. a.id ≢ b.id) shown i j x y h.ids_differ a b l);
        halves = pairs_from (λ a b. SharesHalf ship a b → ⊥) shown (λ i j x y l a b. all_pairs_at (λ a b. SharesHalf ship a b → ⊥) shown i j x y h.halves_differ a b l);
      } in
      let s = all_told ship cargo call rules shipped (nothing ship cargo) [] 0 groups (so_far_first ship cargo call) apart in
      let so = so_far_groups ship cargo call rules shipped (nothing ship cargo) s.0 [] 0 groups s.1 (so_far_first ship cargo call) in
      let none = none_missing s.0 shown so (λ c x is aboard. let at = h.all_aboard c x is aboard in (at.0, says_to shown at.0 c at.1)) in
      let same : s.0.plan ≡ plan = same_plans s.0.plan plan (so.each_place ∙ sym h.each_place) (λ p c k. (h.holds p c).1 (says_from shown p c (so.holds p c k))) (λ p c k. so.said p c (says_to shown p c ((h.holds p c).0 k))) in
      told_ok groups s.0 s.1 none ∙ ap (λ (z : Plan). Ok z) same
