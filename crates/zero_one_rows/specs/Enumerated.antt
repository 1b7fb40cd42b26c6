-- The list of variables, gathered place by place.
use Rattle.std.specs.Prelude.{◌≡◌, ℕ, ◌+◌, ◌≤◌, cond, ◌&&◌, nat_lt, nat_le, List, [], ◌++◌, length, map, flat_map}
use Rattle.std.specs.List.{range_with_len}
use Rattle.zero_one_rows.specs.declared.program.Var.{Var}
use Rattle.zero_one_rows.specs.Variables.{Voyage, calls, kind, all_kinds, variables}
use Rattle.zero_one_rows.specs.Offering.{offered}
use Rattle.zero_one_rows.specs.declared.listing.Listing.{Listing}

-- these are counted, and appended while the list is within its limit
pub record Adds (old new : Listing) (xs : List Var) : Type 0 where
  pub counted : new.total ≡ old.total + length xs
  pub appended : new.total ≤ 200000 → new.vars ≡ old.vars ++ xs

-- put, kind and lifting at each of these places
abbrev pub at_places : ℕ → ℕ → ℕ → List ℕ → List Var
at_places i g v places = map (λ s. record { put = i; kind = g; lifted = v; place = s }) places

-- lifted at call v, where that is after the put and not after the destination
abbrev pub at_lift : ℕ → ℕ → ℕ → List ℕ → ℕ → List Var
at_lift i g dest places v = cond (nat_lt i v && nat_le v dest) (at_places i g v places) []

abbrev pub at_lifts : ℕ → ℕ → ℕ → ℕ → List ℕ → List Var
at_lifts n i g dest places = flat_map (λ v. at_lift i g dest places v) (range_with_len 0 (n + 1))

abbrev pub at_put : Voyage → ℕ → List Var
at_put m i = flat_map (λ g. at_lifts (calls m) i g (kind m g).dest (offered m i g)) (range_with_len 0 (length (all_kinds m)))

-- every variable counted, and the list whole where it is within its limit
pub record IsListing (m : Voyage) (l : Listing) : Type 0 where
  pub counted : l.total ≡ length (variables m)
  pub whole : l.total ≤ 200000 → l.vars ≡ variables m
