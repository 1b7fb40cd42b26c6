-- How the sums of a variable are gathered: at its ends, on both sides of its place, and at each call of its stay.
use Rattle.std.specs.Prelude.{◌≡◌, ◌⊎◌, ℕ, Bool, true, List}
use Rattle.stow_data.specs.Ship.{half_at}
use Rattle.zero_one_rows.specs.declared.program.Var.{Var}
use Rattle.zero_one_rows.specs.Variables.{Voyage, place}
use Rattle.row_sums.specs.declared.sums.Sum.{Sum}
use Rattle.row_sums.specs.declared.sums.Sum.TheVariants.{Put, Lifted, Start, Occupied, OccupiedByTwenty, OccupiedByClass, Staying, LiftedFrom, PutInto, Weight}
use Rattle.row_sums.specs.Sums.{holds}
use Rattle.row_sums.specs.declared.numbering.Numbering.{Numbering}
use Rattle.row_sums.specs.Numbers.{number, IsClass}
use Rattle.row_sums.specs.Held.{stands, IsHeldBy}

-- nothing goes, and what comes is the number of a sum that holds the variable
pub record Grows (m : Voyage) (z : Numbering) (x : Var) (old new : List ℕ) : Type 0 where
  pub only : (n : ℕ) → stands n new ≡ true → (stands n old ≡ true) ⊎ IsHeldBy m z x n
  pub keeps : (n : ℕ) → stands n old ≡ true → stands n new ≡ true

-- the sum's number stands there, where it holds the variable
abbrev pub Has : Voyage → Numbering → Var → List ℕ → Sum → Type 0
Has m z x ns s = holds m s x ≡ true → stands (number z s) ns ≡ true

pub record HasEnds (m : Voyage) (z : Numbering) (x : Var) (ns : List ℕ) : Type 0 where
  pub put : Has m z x ns (Put x.put x.kind)
  pub lifted : Has m z x ns (Lifted x.lifted x.kind)
  pub start : Has m z x ns (Start x.place)

pub record HasMoves (m : Voyage) (z : Numbering) (x : Var) (side : Bool) (ns : List ℕ) : Type 0 where
  pub lifted_from : Has m z x ns (LiftedFrom x.lifted (half_at (place m x.place) side))
  pub put_into : Has m z x ns (PutInto x.put (half_at (place m x.place) side))

pub record HasSide (m : Voyage) (z : Numbering) (x : Var) (i : ℕ) (side : Bool) (ns : List ℕ) : Type 0 where
  pub occupied : Has m z x ns (Occupied i (half_at (place m x.place) side))
  pub by_twenty : Has m z x ns (OccupiedByTwenty i (half_at (place m x.place) side))
  pub staying : Has m z x ns (Staying i (half_at (place m x.place) side))

pub record HasWhole (m : Voyage) (z : Numbering) (x : Var) (i : ℕ) (ns : List ℕ) : Type 0 where
  pub weight : Has m z x ns (Weight i (place m x.place).stack)
  pub by_class : (c : ℕ) → IsClass m c → Has m z x ns (OccupiedByClass i x.place c)

pub record HasCall (m : Voyage) (z : Numbering) (x : Var) (i : ℕ) (ns : List ℕ) : Type 0 where
  pub sides : (side : Bool) → HasSide m z x i side ns
  pub whole : HasWhole m z x i ns
