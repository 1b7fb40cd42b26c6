-- What the groups so far tell, and what stands where.
use Rattle.std.proofs.Common.{◌≡◌, ◌≢◌, ℕ, zero, suc, ◌+◌, ◌<◌, Bool, true, false, List, [], ◌∷◌, ◌++◌, length, Option, Some, None, Result, Ok, refl, sym, ap, subst, ◌∙◌, arith, ◌⊎◌, inl, inr, ⊎_elim, length-set}
use Rattle.std.specs.Prelude.{replicate, slice_get, slice_index_or, slice_set}
use Rattle.std.specs.List.{flat_map}
use Rattle.std.proofs.lemmas.Bool.{both_ways, cases_eq, false_from_ne_true}
use Rattle.std.proofs.lemmas.List.{append_assoc, append-nil}
use Rattle.std.proofs.lemmas.Option.{none-some, same_Some, slice_get_within}
use Rattle.stow_data.specs.declared.geometry.Half.{Half}
use Rattle.stow_data.specs.declared.geometry.Place.{Place}
use Rattle.stow_data.specs.declared.cargoes.Container.{Container}
use Rattle.stow_data.specs.Ship.{Ship, HasHalf, half_at, places}
use Rattle.stow_data.specs.Shipment.{Cargo, IsAboard, IsCargo}
use Rattle.stow_data.specs.Profile.{IsShip}
use Rattle.stow_data.specs.Plans.{place_at}
use Rattle.stow_data.proofs.Members.{Member, member_left, member_right, member_split}
use Rattle.stow_data.proofs.PlanLookups.{is_place, place_is}
use Rattle.stowage_rules.specs.Plan.{Fills, Holds}
use Rattle.stowage_rules.proofs.Items.{slice_get-set_other, slice_get-set_same, slice_get_in}
use Rattle.toml_values.specs.Values.{◌>>=◌}
use Rattle.toml_values.proofs.ValueLaws.{bound, same_Ok}
use Rattle.baplie.specs.declared.parts.CellGroup as baplie
use Rattle.baplie.specs.declared.parts.Facts.{Facts}
use Rattle.arrival_plan.specs.Cells.{is_taken}
use Rattle.arrival_plan.proofs.CellLaws.{taken_from, taken_somewhere}
use Rattle.arrival_plan.proofs.Sound.{get_replicated, length_replicated, put_from, some_side}
use Rattle.plan_files.specs.Shown.{CellGroup, IsAboardGroup, IsCellOf, Says, SharesHalf, shown_at, shown_in}
use Rattle.plan_files.proofs.Numbers.{number_once}
use Rattle.plan_files.proofs.Pairs.{InPairs, pairs_append}
use Rattle.plan_files.proofs.Showing.{id_once}
use Rattle.plan_files.specs.declared.file_faults.FileNo.{FileNo}
use Rattle.plan_files.specs.declared.standing.Spot.{Spot}
use Rattle.plan_files.specs.declared.standing.Standing.{Standing}
use Rattle.plan_files.specs.PlanOf.{nothing, spotted, with_facts, with_groups, with_spot}
use Rattle.plan_files.proofs.Spots.{is_free, shown_as, spotted_from}

flag_on : (flags : List Bool) (c : ℕ) → c < length flags → slice_index_or (slice_set flags c true) c false ≡ true
flag_on [] c l = absurd (omega arith)
flag_on (b ∷ bs) zero l = refl
flag_on (b ∷ bs) (suc c) l = flag_on bs c (omega arith)

flag_kept : (flags : List Bool) (c d : ℕ) → (d ≡ c → ⊥) → slice_index_or (slice_set flags c true) d false ≡ slice_index_or flags d false
flag_kept [] c d ne = refl
flag_kept (b ∷ bs) zero zero ne = absurd (ne refl)
flag_kept (b ∷ bs) zero (suc d) ne = refl
flag_kept (b ∷ bs) (suc c) zero ne = refl
flag_kept (b ∷ bs) (suc c) (suc d) ne = flag_kept bs c d (λ e. ne (ap suc e))

flags_off : (n c : ℕ) → slice_index_or (replicate n false) c false ≡ false
flags_off zero c = refl
flags_off (suc n) zero = refl
flags_off (suc n) (suc c) = flags_off n c

half_here : (place : Place) (h : Half) → HasHalf place h → h ≡ half_at place h.aft
half_here place h has = ap (λ (n : ℕ). record { stack = n; tier = h.tier; aft = h.aft }) has.same_stack ∙ ap (λ (n : ℕ). record { stack = place.stack; tier = n; aft = h.aft }) has.same_tier

module _ (ship : Ship) (cargo : Cargo) (call : ℕ) where
  -- one of the groups says where a container is
  pub record IsSaid (shown : List CellGroup) (p c : ℕ) : Type 0 where
    pub group : CellGroup
    pub among : Member group shown
    pub says : Says ship cargo group p c

  pub record IsSoFar (s : Standing) (shown : List CellGroup) : Type 0 where
    pub each_place : length s.plan ≡ length (places ship)
    pub each_container : length s.placed ≡ length cargo.containers
    pub each_aboard : (g : CellGroup) → Member g shown → IsAboardGroup ship cargo call g
    pub ids : InPairs (λ g h. g.id ≢ h.id) shown
    pub halves : InPairs (λ g h. SharesHalf ship g h → ⊥) shown
    pub holds : (p c : ℕ) → Holds s.plan p c → IsSaid shown p c
    pub said : (p c : ℕ) → IsSaid shown p c → Holds s.plan p c
    pub flags : (c : ℕ) → slice_index_or s.placed c false ≡ true → (p : ℕ) × IsSaid shown p c
    pub flagged : (p c : ℕ) → IsSaid shown p c → slice_index_or s.placed c false ≡ true

  -- they are all aboard, and neither ids nor half-cells stand twice
  pub record AreApart (shown : List CellGroup) : Type 0 where
    pub each_aboard : (g : CellGroup) → Member g shown → IsAboardGroup ship cargo call g
    pub ids : InPairs (λ g h. g.id ≢ h.id) shown
    pub halves : InPairs (λ g h. SharesHalf ship g h → ⊥) shown

  pub so_far_first : IsSoFar (nothing ship cargo) []
  so_far_first = record {
    each_place = length_replicated (length (places ship)) None;
    each_container = length_replicated (length cargo.containers) false;
    each_aboard = λ g m. absurd m;
    ids = tt;
    halves = tt;
    holds = λ p c h. absurd (none-some c (sym (get_replicated (length (places ship)) p None (Some c) h)));
    said = λ p c x. absurd x.among;
    flags = λ c e. absurd (both_ways (slice_index_or (replicate (length cargo.containers) false) c false) (flags_off (length cargo.containers) c) e);
    flagged = λ p c x. absurd x.among;
  }

  module _ (rules : IsShip ship) (shipped : IsCargo cargo) where
    -- a group says one thing alone
    pub one_place : (g : CellGroup) (p q c d : ℕ) → Says ship cargo g p c → Says ship cargo g q d → p ≡ q
    one_place g p q c d x y = number_once ship p q (g.bay, g.row, g.tier) rules x.cell y.cell

    pub one_container : (g : CellGroup) (p q c d : ℕ) → Says ship cargo g p c → Says ship cargo g q d → c ≡ d
    one_container g p q c d x y = id_once cargo c d x.container y.container shipped x.is_container y.is_container (sym x.same_id ∙ y.same_id)

    module _ (before : Standing) (shown : List CellGroup) (so : IsSoFar before shown) (g : CellGroup) (spot : Spot) (says : Says ship cargo g spot.place spot.container) where
      low : spot.place < length (places ship)
      low = slice_get_within (places ship) spot.place says.cell.place says.cell.is_place

      low_container : spot.container < length before.placed
      low_container = let l = slice_get_within cargo.containers spot.container says.container says.is_container in let each = so.each_container in omega arith

      -- what fills a half-cell of the place is in the way
      in_the_way : (h : Half) (d : ℕ) → HasHalf (place_at ship spot.place) h → Fills ship before.plan h d → is_taken ship before.plan spot.place ≡ true
      in_the_way h d has fills = taken_from ship before.plan spot.place h.aft (has.side, (d, subst (λ (z : Half). Fills ship before.plan z d) (half_here (place_at ship spot.place) h has) fills))

      -- groups so far whose cells have a half-cell in common with the group's are in the way
      shared_taken : (x : CellGroup) → Member x shown → SharesHalf ship x g → is_taken ship before.plan spot.place ≡ true
      shared_taken x m s =
          let a = so.each_aboard x m in
          let at : a.place ≡ s.has_first.number = number_once ship a.place s.has_first.number (x.bay, x.row, x.tier) rules a.says.cell s.has_first.cell in
          let stands : Holds before.plan s.has_first.number a.number = subst (λ (z : ℕ). Holds before.plan z a.number) at (so.said a.place a.number (record { group = x; among = m; says = a.says })) in
          let here : s.has_second.number ≡ spot.place = number_once ship s.has_second.number spot.place (g.bay, g.row, g.tier) rules s.has_second.cell says.cell in
          let place : place_at ship spot.place ≡ s.second = place_is ship spot.place s.second (subst (λ (z : ℕ). slice_get (places ship) z ≡ Some s.second) here s.has_second.is_place) in
          in_the_way s.half a.number (subst (λ (z : Place). HasHalf z s.half) (sym place) s.in_second) (record { number = s.has_first.number; place = s.first; is_place = s.has_first.is_place; has_half = s.in_first; holds = stands })

      -- a group so far with the id has placed the container
      same_id_placed : (x : CellGroup) → Member x shown → x.id ≡ g.id → slice_index_or before.placed spot.container false ≡ true
      same_id_placed x m e =
          let a = so.each_aboard x m in
          let one : a.number ≡ spot.container = id_once cargo a.number spot.container a.says.container says.container shipped a.says.is_container says.is_container (sym a.says.same_id ∙ (e ∙ says.same_id)) in
          subst (λ (z : ℕ). slice_index_or before.placed z false ≡ true) one (so.flagged a.place a.number (record { group = x; among = m; says = a.says }))

      -- a filled place is in the way
      filled_taken : (d : ℕ) → Holds before.plan spot.place d → is_taken ship before.plan spot.place ≡ true
      filled_taken d h =
          let side = some_side (place_at ship spot.place).span in
          in_the_way (half_at (place_at ship spot.place) side.0) d (record { same_stack = refl; same_tier = refl; side = side.1 }) (record { number = spot.place; place = place_at ship spot.place; is_place = is_place ship spot.place low; has_half = record { same_stack = refl; same_tier = refl; side = side.1 }; holds = h })

      module _ (aboard : IsAboard call says.container) (new : slice_index_or before.placed spot.container false ≡ false) (free : is_taken ship before.plan spot.place ≡ false) where
        abbrev after : Standing
        after = with_spot before spot

        said_now : IsSaid (shown ++ g ∷ []) spot.place spot.container
        said_now = record { group = g; among = member_right g shown (g ∷ []) (inl refl); says = says }

        said_before : (p c : ℕ) → IsSaid shown p c → IsSaid (shown ++ g ∷ []) p c
        said_before p c x = record { group = x.group; among = member_left x.group shown (g ∷ []) x.among; says = x.says }

        -- one of them says it, or the group
        said_split : (p c : ℕ) → IsSaid (shown ++ g ∷ []) p c → IsSaid shown p c ⊎ ((p ≡ spot.place) × (c ≡ spot.container))
        said_split p c x = ⊎_elim
            (λ (m : Member x.group shown). inl (record { group = x.group; among = m; says = x.says }))
            (λ (m : (x.group ≡ g) ⊎ ⊥). ⊎_elim
            (λ (e : x.group ≡ g). let own = subst (λ (z : CellGroup). Says ship cargo z p c) e x.says in inr (one_place g p spot.place c spot.container own says, one_container g p spot.place c spot.container own says))
            (λ (n : ⊥). absurd n)
            m)
            (member_split x.group shown (g ∷ []) x.among)

        elsewhere : (p c : ℕ) → Holds before.plan p c → p ≡ spot.place → ⊥
        elsewhere p c h e = both_ways (is_taken ship before.plan spot.place) free (filled_taken c (subst (λ (z : ℕ). Holds before.plan z c) e h))

        stands_there : Holds after.plan spot.place spot.container
        stands_there =
            let each = so.each_place in
            let there = slice_get_in before.plan spot.place (let l = low in omega arith) in
            slice_get-set_same before.plan spot.place (Some spot.container) there.0 there.1

        pub so_far_more : IsSoFar after (shown ++ g ∷ [])
        so_far_more = record {
          each_place = length-set before.plan spot.place (Some spot.container) ∙ so.each_place;
          each_container = length-set before.placed spot.container true ∙ so.each_container;
          each_aboard = λ x m. ⊎_elim
              (λ (k : Member x shown). so.each_aboard x k)
              (λ (k : (x ≡ g) ⊎ ⊥). ⊎_elim (λ (e : x ≡ g). subst (IsAboardGroup ship cargo call) (sym e) (record { place = spot.place; number = spot.container; says = says; aboard = aboard })) (λ (n : ⊥). absurd n) k)
              (member_split x shown (g ∷ []) m);
          ids = pairs_append (λ a b. a.id ≢ b.id) shown (g ∷ []) so.ids (λ y m. absurd m, tt) (λ x y a b e. absurd (both_ways (slice_index_or before.placed spot.container false) new (same_id_placed x a (e ∙ ap (λ (z : CellGroup). z.id) (only y b)))));
          halves = pairs_append (λ a b. SharesHalf ship a b → ⊥) shown (g ∷ []) so.halves (λ y m. absurd m, tt) (λ x y a b s. both_ways (is_taken ship before.plan spot.place) free (shared_taken x a (subst (SharesHalf ship x) (only y b) s)));
          holds = λ p c h. ⊎_elim
              (λ (e : (p ≡ spot.place) × (c ≡ spot.container)). subst (λ (z : ℕ). IsSaid (shown ++ g ∷ []) z c) (sym e.0) (subst (λ (z : ℕ). IsSaid (shown ++ g ∷ []) spot.place z) (sym e.1) said_now))
              (λ (e : (p ≡ spot.place → ⊥) × Holds before.plan p c). said_before p c (so.holds p c e.1))
              (put_from before.plan spot.place spot.container p c h);
          said = λ p c x. ⊎_elim
              (λ (k : IsSaid shown p c). let h = so.said p c k in slice_get-set_other before.plan spot.place p (Some spot.container) (elsewhere p c h) ∙ h)
              (λ (e : (p ≡ spot.place) × (c ≡ spot.container)). subst (λ (z : ℕ). Holds after.plan z c) (sym e.0) (subst (λ (z : ℕ). Holds after.plan spot.place z) (sym e.1) stands_there))
              (said_split p c x);
          flags = λ c e. ⊎_elim
              (λ (same : c ≡ spot.container). (spot.place, subst (λ (z : ℕ). IsSaid (shown ++ g ∷ []) spot.place z) (sym same) said_now))
              (λ (ne : c ≡ spot.container → ⊥). let x = so.flags c (sym (flag_kept before.placed spot.container c ne) ∙ e) in (x.0, said_before x.0 c x.1))
              (cases_eq c spot.container);
          flagged = λ p c x. ⊎_elim
              (λ (same : c ≡ spot.container). subst (λ (z : ℕ). slice_index_or after.placed z false ≡ true) (sym same) (flag_on before.placed spot.container low_container))
              (λ (ne : c ≡ spot.container → ⊥). flag_kept before.placed spot.container c ne ∙ ⊎_elim (λ (k : IsSaid shown p c). so.flagged p c k) (λ (e : (p ≡ spot.place) × (c ≡ spot.container)). absurd (ne e.1)) (said_split p c x))
              (cases_eq c spot.container);
        }
          where
            only : (y : CellGroup) → Member y (g ∷ []) → y ≡ g
            only y (inl e) = e
            only y (inr n) = absurd n

    -- ## Group after group

    pub so_far_facts : (before after : Standing) (shown : List CellGroup) (i : ℕ) (g : baplie.CellGroup) (o : Option Facts) → g.facts ≡ o → with_facts ship cargo call before i g o ≡ Ok after → IsSoFar before shown → IsSoFar after (shown ++ shown_in g)
    so_far_facts before after shown i g None e h so = subst (λ (gs : List CellGroup). IsSoFar after (shown ++ gs)) (sym (ap (shown_at g.bay g.row g.tier) e)) (subst (IsSoFar after) (sym (append-nil shown)) (subst (λ (s : Standing). IsSoFar s shown) (same_Ok before after h) so))
    so_far_facts before after shown i g (Some f) e h so =
        let s = bound (spotted ship cargo call before i g f) (λ s. Ok (with_spot before s)) after h in
        let free = is_free ship cargo call before i g f s.value shipped s.is in
        subst (λ (gs : List CellGroup). IsSoFar after (shown ++ gs)) (sym (ap (shown_at g.bay g.row g.tier) e))
        (subst (λ (t : Standing). IsSoFar t (shown ++ shown_as g f ∷ [])) (same_Ok (with_spot before s.value) after s.goes_on) (so_far_more before shown so (shown_as g f) s.value free.says free.aboard free.new free.free))

    pub so_far_groups : (before after : Standing) (shown : List CellGroup) (i : ℕ) (gs : List baplie.CellGroup) → with_groups ship cargo call before i gs ≡ Ok after → IsSoFar before shown → IsSoFar after (shown ++ flat_map shown_in gs)
    unfolding with_groups
    so_far_groups before after shown i [] h so = subst (IsSoFar after) (sym (append-nil shown)) (subst (λ (s : Standing). IsSoFar s shown) (same_Ok before after h) so)
    so_far_groups before after shown i (g ∷ gs) h so =
        let one = bound (with_facts ship cargo call before i g g.facts) (λ s. with_groups ship cargo call s (i + 1) gs) after h in
        let more = so_far_groups one.value after (shown ++ shown_in g) (i + 1) gs one.goes_on (so_far_facts before one.value shown i g g.facts refl one.is so) in
        subst (IsSoFar after) (append_assoc shown (shown_in g) (flat_map shown_in gs)) more

    -- ## The other way: groups at no fault

    pair_across : (R : CellGroup → CellGroup → Type 0) (xs : List CellGroup) (x y : CellGroup) (ys : List CellGroup) → InPairs R (xs ++ y ∷ ys) → Member x xs → R x y
    pair_across R [] x y ys h m = absurd m
    pair_across R (z ∷ xs) x y ys h (inl e) = subst (λ (w : CellGroup). R w y) (sym e) (h.0 y (member_right y xs (y ∷ ys) (inl refl)))
    pair_across R (z ∷ xs) x y ys h (inr m) = pair_across R xs x y ys h.1 m

    module _ (before : Standing) (shown more : List CellGroup) (g : CellGroup) (so : IsSoFar before shown) (apart : AreApart (shown ++ g ∷ more)) where
      own : IsAboardGroup ship cargo call g
      own = apart.each_aboard g (member_right g shown (g ∷ more) (inl refl))

      not_placed : slice_index_or before.placed own.number false ≡ false
      not_placed = false_from_ne_true (slice_index_or before.placed own.number false) (λ e.
          let x = so.flags own.number e in
          let id : x.1.says.container.id ≡ own.says.container.id = ap (λ (c : Container). c.id) (same_Some x.1.says.container own.says.container (sym x.1.says.is_container ∙ own.says.is_container)) in
          pair_across (λ a b. a.id ≢ b.id) shown x.1.group g more apart.ids x.1.among (x.1.says.same_id ∙ (id ∙ sym own.says.same_id)))

      not_taken : is_taken ship before.plan own.place ≡ false
      not_taken = false_from_ne_true (is_taken ship before.plan own.place) (λ e.
          let t = taken_somewhere ship before.plan own.place e in
          let fills = t.1.1.1 in
          let x = so.holds fills.number t.1.1.0 fills.holds in
          let low = slice_get_within (places ship) own.place own.says.cell.place own.says.cell.is_place in
          let first : IsCellOf ship x.group fills.place = record { number = fills.number; is_place = fills.is_place; cell = x.says.cell } in
          let second : IsCellOf ship g (place_at ship own.place) = record { number = own.place; is_place = is_place ship own.place low; cell = own.says.cell } in
          pair_across (λ a b. SharesHalf ship a b → ⊥) shown x.group g more apart.halves x.among (record {
            first = fills.place;
            has_first = first;
            second = place_at ship own.place;
            has_second = second;
            half = half_at (place_at ship own.place) t.0;
            in_first = fills.has_half;
            in_second = record { same_stack = refl; same_tier = refl; side = t.1.0 };
          }))

      abbrev spot : Spot
      spot = record { place = own.place; container = own.number }

      free_spot : IsSoFar (with_spot before spot) (shown ++ g ∷ [])
      free_spot = so_far_more before shown so g spot own.says own.aboard not_placed not_taken

    -- where the groups behind are told of, so are these
    told_more : (before : Standing) (shown : List CellGroup) (i : ℕ) (g : baplie.CellGroup) (gs : List baplie.CellGroup) → IsSoFar before shown → AreApart (shown ++ (shown_in g ++ flat_map shown_in gs))
        → ((b : Standing) (xs : List CellGroup) → IsSoFar b xs → AreApart (xs ++ flat_map shown_in gs) → (after : Standing) × (with_groups ship cargo call b (i + 1) gs ≡ Ok after))
        → (after : Standing) × ((with_facts ship cargo call before i g g.facts >>= λ s. with_groups ship cargo call s (i + 1) gs) ≡ Ok after)
    told_more before shown i g gs so apart later = by_facts g.facts refl
      where
        by_facts : (o : Option Facts) → g.facts ≡ o → (after : Standing) × ((with_facts ship cargo call before i g g.facts >>= λ s. with_groups ship cargo call s (i + 1) gs) ≡ Ok after)
        by_facts None e =
            let none : shown_in g ≡ [] = ap (shown_at g.bay g.row g.tier) e in
            let rest = later before shown so (subst (λ (xs : List CellGroup). AreApart (shown ++ (xs ++ flat_map shown_in gs))) none apart) in
            (rest.0, ap (λ (o : Option Facts). with_facts ship cargo call before i g o >>= λ s. with_groups ship cargo call s (i + 1) gs) e ∙ rest.1)
        by_facts (Some f) e =
            let one : shown_in g ≡ shown_as g f ∷ [] = ap (shown_at g.bay g.row g.tier) e in
            let more = flat_map shown_in gs in
            let here : AreApart (shown ++ shown_as g f ∷ more) = subst (λ (xs : List CellGroup). AreApart (shown ++ (xs ++ more))) one apart in
            let s = spot before shown more (shown_as g f) so here in
            let a = own before shown more (shown_as g f) so here in
            let told = spotted_from ship cargo call before i g f s rules shipped (record { says = a.says; aboard = a.aboard; new = not_placed before shown more (shown_as g f) so here; free = not_taken before shown more (shown_as g f) so here }) in
            let next : AreApart ((shown ++ shown_as g f ∷ []) ++ more) = subst AreApart (sym (append_assoc shown (shown_as g f ∷ []) more)) here in
            let rest = later (with_spot before s) (shown ++ shown_as g f ∷ []) (free_spot before shown more (shown_as g f) so here) next in (
              rest.0,
              ap (λ (o : Option Facts). with_facts ship cargo call before i g o >>= λ s. with_groups ship cargo call s (i + 1) gs) e
                  ∙ (ap (λ (r : Result Spot FileNo). (r >>= λ s. Ok (with_spot before s)) >>= λ s. with_groups ship cargo call s (i + 1) gs) told ∙ rest.1),
            )

    pub all_told : (before : Standing) (shown : List CellGroup) (i : ℕ) (gs : List baplie.CellGroup) → IsSoFar before shown → AreApart (shown ++ flat_map shown_in gs) → (after : Standing) × (with_groups ship cargo call before i gs ≡ Ok after)
    unfolding with_groups
    all_told before shown i [] so apart = (before, refl)
    all_told before shown i (g ∷ gs) so apart = told_more before shown i g gs so apart (λ b xs k a. all_told b xs (i + 1) gs k a)
