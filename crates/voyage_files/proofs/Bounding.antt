-- From the bound at which a tree is checked to the bound that a certificate says.
use Rattle.std.proofs.Common.{◌≡◌, ℕ, ◌+◌, ◌<◌, List, Option, Some, None, refl, sym, subst, ⊎_elim, arith}
use Rattle.std.specs.Prelude.{◌⊎◌, is_some, IsSome}
use Rattle.std.proofs.lemmas.Bool.{cases_order}
use Rattle.stow_data.specs.Ship.{Ship}
use Rattle.stow_data.specs.Shipment.{Cargo, most_cost}
use Rattle.stowage_rules.specs.Departure.{HasArrival}
use Rattle.zero_one_rows.specs.Variables.{Voyage}
use Rattle.certificate.specs.declared.tree.Head.{Head}
use Rattle.certificate.specs.declared.tree.Outcome.{Outcome}
use Rattle.certificate.specs.declared.tree.Outcome.TheVariants.{Optimal, Gap, NoPlan, Undecided}
use Rattle.certificate.specs.declared.tree.Record.{Record}
use Rattle.bound_checker.specs.Entries.{ProvesBound}
use Rattle.model_bridge.specs.Laws.{IsVoyageBound, HasNoVoyage}
use Rattle.voyage_files.specs.declared.refusals.JudgeNo.{JudgeNo}
use Rattle.voyage_files.specs.declared.refusals.JudgeNo.TheVariants.{Text, Plan, Bound, Numbers, NoMemory}
use Rattle.voyage_files.specs.Files.{AreLegal, FilesTake, IsFilesNo, IsTakenNo}
use Rattle.voyage_files.specs.Judged.{Bounds, Fits, Holds, IsNo, IsTreeNo, NumbersHold, checked}

-- where departure files are a legal file set there is a legal voyage
sails : (m : Voyage) (texts : List (List ℕ)) (n : ℕ) → AreLegal m.ship m.cargo texts n → HasNoVoyage m → ⊥
sails m texts n files none = none files.set.costs.moves files.set.departures files.set.costs.is_legal

-- a bound that isn't above the cost of all least lifts is checked as it is
low : (m : Voyage) (bound : ℕ) → (most_cost m.cargo < bound → ⊥) → checked m bound ≡ bound
low m bound h = ⊎_elim
    (λ (e : bound ≡ most_cost m.cargo). omega (arith, e))
    (λ (o : (bound < most_cost m.cargo) ⊎ (most_cost m.cargo < bound)). ⊎_elim (λ (l : bound < most_cost m.cargo). omega (arith, l)) (λ (l : most_cost m.cargo < bound). absurd (h l)) o)
    (cases_order bound (most_cost m.cargo))

-- an outcome that fits has a bound that is checked as it is
pub unlowered : (m : Voyage) (texts : List (List ℕ)) (outcome : Outcome) (cost : Option ℕ) (bound : ℕ) → FilesTake m.ship m.cargo texts cost cost → (most_cost m.cargo < bound → HasNoVoyage m) → Fits m outcome cost bound → checked m bound ≡ bound
unlowered m texts Optimal (Some n) bound files none fits = low m bound (λ l. sails m texts n files (none l))
unlowered m texts Gap (Some n) bound files none fits = low m bound (λ l. sails m texts n files (none l))
unlowered m texts NoPlan None bound files none fits = omega (arith, fits)
unlowered m texts Undecided None bound files none fits = omega (arith, fits)
unlowered m texts Optimal None bound files none fits = absurd fits
unlowered m texts Gap None bound files none fits = absurd fits
unlowered m texts NoPlan (Some n) bound files none fits = absurd fits
unlowered m texts Undecided (Some n) bound files none fits = absurd fits

no_voyage : (m : Voyage) (outcome : Outcome) (cost : Option ℕ) (bound : ℕ) → (most_cost m.cargo < bound → HasNoVoyage m) → Fits m outcome cost bound → outcome ≡ NoPlan → HasNoVoyage m
no_voyage m NoPlan None bound none fits is = none (omega (arith, fits))
no_voyage m NoPlan (Some n) bound none fits is = absurd fits
no_voyage m Optimal cost bound none fits is = absurd (let bad : ⊥ = cc in bad)
no_voyage m Gap cost bound none fits is = absurd (let bad : ⊥ = cc in bad)
no_voyage m Undecided cost bound none fits is = absurd (let bad : ⊥ = cc in bad)

module _ (m : Voyage) (head : Head) (tree : List Record) (texts : List (List ℕ)) (found : Option ℕ) (files : FilesTake m.ship m.cargo texts head.rehandles found) where
  above : (checked m head.bound ≡ most_cost m.cargo + 1 → HasNoVoyage m) → most_cost m.cargo < head.bound → HasNoVoyage m
  above full l = full (omega (arith, l))

  same_files : found ≡ head.rehandles → FilesTake m.ship m.cargo texts head.rehandles head.rehandles
  same_files e = subst (λ (o : Option ℕ). FilesTake m.ship m.cargo texts head.rehandles o) e files

  pub holds : ProvesBound m tree (checked m head.bound) → (checked m head.bound ≡ most_cost m.cargo + 1 → HasNoVoyage m) → NumbersHold m head tree found → Holds m head tree texts
  holds proves full h = let none : most_cost m.cargo < head.bound → HasNoVoyage m = above full in record {
    files = same_files h.cost;
    proves = subst (λ (b : ℕ). ProvesBound m tree b) (unlowered m texts head.outcome head.rehandles head.bound (same_files h.cost) none h.fits) proves;
    nodes = h.nodes;
    fits = h.fits;
  }

  pub bounds : IsVoyageBound m (checked m head.bound) → (checked m head.bound ≡ most_cost m.cargo + 1 → HasNoVoyage m) → NumbersHold m head tree found → Bounds m head
  bounds bounded full h = let none : most_cost m.cargo < head.bound → HasNoVoyage m = above full in record {
    bounds = subst (λ (b : ℕ). IsVoyageBound m b) (unlowered m texts head.outcome head.rehandles head.bound (same_files h.cost) none h.fits) bounded;
    none = no_voyage m head.outcome head.rehandles head.bound none h.fits;
  }

  pub tree_refused : (cause : JudgeNo) → IsTreeNo m tree (checked m head.bound) cause → IsNo m head tree texts cause
  tree_refused (Text at fault) h = absurd h
  tree_refused (Plan cause) h = absurd h
  tree_refused (Bound cause) h = record { found = found; files = files; first = h }
  tree_refused (Numbers cause) h = absurd h
  tree_refused NoMemory h = tt

taken_refused : (m : Voyage) (head : Head) (tree : List Record) (texts : List (List ℕ)) (cause : JudgeNo) → IsSome head.rehandles → IsTakenNo m.ship m.cargo texts cause → IsNo m head tree texts cause
taken_refused m head tree texts (Text at fault) says h = (says, h)
taken_refused m head tree texts (Plan cause) says h = (says, h)
taken_refused m head tree texts (Bound cause) says h = absurd h
taken_refused m head tree texts (Numbers cause) says h = absurd h
taken_refused m head tree texts NoMemory says h = tt

says : (o : Option ℕ) (n : ℕ) → o ≡ Some n → IsSome o
says o n e = subst (λ (p : Option ℕ). IsSome p) (sym e) refl

pub files_refused : (m : Voyage) (head : Head) (tree : List Record) (texts : List (List ℕ)) (said : Option ℕ) (cause : JudgeNo) → head.rehandles ≡ said → IsFilesNo m.ship m.cargo texts said cause → IsNo m head tree texts cause
files_refused m head tree texts None cause e h = absurd h
files_refused m head tree texts (Some n) cause e h = taken_refused m head tree texts cause (says head.rehandles n e) h

-- ## The voyage of a ship and a cargo

-- where a cost is said one is found, and else none
pub alike : (ship : Ship) (cargo : Cargo) (texts : List (List ℕ)) (said found : Option ℕ) → FilesTake ship cargo texts said found → is_some said ≡ is_some found
alike ship cargo texts None None h = refl
alike ship cargo texts (Some said) (Some found) h = refl
alike ship cargo texts None (Some found) h = absurd h
alike ship cargo texts (Some said) None h = absurd h

module _ (m : Voyage) (ship : Ship) (cargo : Cargo) (same : m ≡ record { ship = ship; cargo = cargo }) (texts : List (List ℕ)) (said : Option ℕ) where
  pub of_voyage : (found : Option ℕ) → FilesTake ship cargo texts said found → FilesTake m.ship m.cargo texts said found
  of_voyage found h = subst (λ (v : Voyage). FilesTake v.ship v.cargo texts said found) (sym same) h

  pub no_of_voyage : (cause : JudgeNo) → IsFilesNo ship cargo texts said cause → IsFilesNo m.ship m.cargo texts said cause
  no_of_voyage cause h = subst (λ (v : Voyage). IsFilesNo v.ship v.cargo texts said cause) (sym same) h

pub arrives : (m : Voyage) (ship : Ship) (cargo : Cargo) → m ≡ record { ship = ship; cargo = cargo } → HasArrival m.ship m.cargo → HasArrival ship cargo
arrives m ship cargo same h = subst (λ (v : Voyage). HasArrival v.ship v.cargo) same h
