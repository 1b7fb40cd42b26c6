-- What fills a half-cell, place by place.
use Rattle.std.specs.Prelude.{ℕ, ◌<◌, ◌≤◌, length}
use Rattle.std.proofs.Common.{arith}
use Rattle.std.proofs.lemmas.Option.{slice_get_within}
use Rattle.stow_data.specs.declared.geometry.Half.{Half}
use Rattle.stow_data.specs.Ship.{Ship, places}
use Rattle.stow_data.specs.Plans.{Plan}
use Rattle.stowage_rules.specs.Plan.{Fills}
use Rattle.stowage_rules.specs.Places.{FillsFrom, IsTaken, IsTakenFrom}

pub fills : {ship : Ship} {plan : Plan} {n : ℕ} {h : Half} {c : ℕ} → FillsFrom ship plan n h c → Fills ship plan h c
fills {n = n} x = record { number = n; place = x.place; is_place = x.is_place; has_half = x.has_half; holds = x.holds }

pub from : {ship : Ship} {plan : Plan} {h : Half} {c : ℕ} (x : Fills ship plan h c) → FillsFrom ship plan x.number h c
from x = record { place = x.place; is_place = x.is_place; has_half = x.has_half; holds = x.holds }

pub inside : {ship : Ship} {plan : Plan} {h : Half} {c : ℕ} (x : Fills ship plan h c) → x.number < length (places ship)
inside {ship = ship} x = slice_get_within (places ship) x.number x.place x.is_place

pub some_taken : (ship : Ship) (plan : Plan) (h : Half) (n : ℕ) → IsTakenFrom ship plan h n → IsTaken ship plan h
some_taken ship plan h n x = (x.0, fills x.1)

pub none_taken : (ship : Ship) (plan : Plan) (h : Half) (m : ℕ) → length (places ship) ≤ m → ((n : ℕ) → n < m → IsTakenFrom ship plan h n → ⊥) → IsTaken ship plan h → ⊥
none_taken ship plan h m e none x = none x.1.number (omega (arith, inside x.1)) (x.0, from x.1)
