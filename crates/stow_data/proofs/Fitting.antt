-- What fits a place, as a fact and as a truth value.
use Rattle.std.proofs.Common.{◌≡◌, ℕ, Bool, true, false, refl, sym, ◌∙◌, Some, subst}
use Rattle.std.specs.Prelude.{◌||◌, ◌↔◌, not, slice_get, IsTrue}
use Rattle.std.proofs.lemmas.Bool.{and_from, and_parts}
use Rattle.std.proofs.lemmas.Option.{same_Some}
use Rattle.stow_data.specs.declared.geometry.Place.{Place}
use Rattle.stow_data.specs.declared.geometry.Length.{Length}
use Rattle.stow_data.specs.declared.geometry.Length.TheVariants.{Twenty, Forty}
use Rattle.stow_data.specs.Ship.{Ship, places, length_in, same_length, Takes, takes_length, Fits, FitsAt, fits}

same : (a b : Length) → same_length a b ≡ true → a ≡ b
same Twenty Twenty h = refl
same Forty Forty h = refl
same Twenty Forty h = absurd (cc)
same Forty Twenty h = absurd (cc)

same_self : (a : Length) → same_length a a ≡ true
same_self Twenty = refl
same_self Forty = refl

plug_said : (reefer plug : Bool) → (not reefer || plug) ≡ true → reefer ≡ true → plug ≡ true
plug_said true plug h e = h
plug_said false plug h e = absurd (cc)

plug_shown : (reefer plug : Bool) → (reefer ≡ true → plug ≡ true) → (not reefer || plug) ≡ true
plug_shown true plug h = h refl
plug_shown false plug h = refl

takes_said : (p : Place) (long : Length) → takes_length p long ≡ true → Takes p long
takes_said p long = same long (length_in p.span)

takes_shown : (p : Place) (long : Length) → Takes p long → takes_length p long ≡ true
takes_shown p long h = subst (λ (l : Length). same_length long l ≡ true) h (same_self long)

pub fits_said : (p : Place) (long : Length) (reefer : Bool) → fits p long reefer ≡ true → Fits p long reefer
fits_said p long reefer h = let both = and_parts _ _ h in record { length_fits = takes_said p long both.0; has_plug = plug_said reefer p.plug both.1 }

pub fits_shown : (p : Place) (long : Length) (reefer : Bool) → Fits p long reefer → fits p long reefer ≡ true
fits_shown p long reefer h = and_from _ _ (takes_shown p long h.length_fits) (plug_shown reefer p.plug h.has_plug)

one_value : (a b : Bool) → (a ≡ true → b ≡ true) → (b ≡ true → a ≡ true) → a ≡ b
one_value true b f g = sym (f refl)
one_value false true f g = g refl
one_value false false f g = refl

-- what a ship answers of a place is what its definition gives
pub fits_value : (ship : Ship) (p : ℕ) (place : Place) (long : Length) (reefer answer : Bool) → slice_get (places ship) p ≡ Some place → (IsTrue answer ↔ FitsAt ship p long reefer) → answer ≡ fits place long reefer
fits_value ship p place long reefer answer is says = one_value answer (fits place long reefer)
    (λ a. let at = says.0 a in fits_shown place long reefer (subst (λ (z : Place). Fits z long reefer) (same_Some at.place place (sym at.is_place ∙ is)) at.fits))
    (λ b. says.1 (record { place = place; is_place = is; fits = fits_said place long reefer b }))
