-- Words of the plain form: the program's name, a subcommand, exactly its positionals, and then each of its options at most once as `--x v`, where no positional and no value is empty or begins with `-`.
use Rattle.std.specs.Prelude.{◌≡◌, ◌≢◌, ◌⊎◌, Bool, true, false, not, ◌==◌, List, [], ◌∷◌, Option, Some, None, codes}
use Rattle.clap.specs.Words.{Text}

-- not empty, and not begun with `-`
abbrev pub is_plain : Text → Bool
is_plain [] = false
is_plain (x ∷ xs) = not (x == 45)

-- the options of `plan`
pub data Opt : Type 0 where
  Arrival : Opt
  Workers : Opt
  Budget : Opt

abbrev pub id_of : Opt → Text
id_of Arrival = codes "arrival"
id_of Workers = codes "workers"
id_of Budget = codes "budget"

-- each option at most once
abbrev pub AreOnce : List (Opt × Text) → Type 0
AreOnce [] = Unit {0}
AreOnce (a ∷ []) = Unit {0}
AreOnce (a ∷ b ∷ []) = a.0 ≢ b.0
AreOnce (a ∷ b ∷ c ∷ []) = (a.0 ≢ b.0) × (a.0 ≢ c.0) × (b.0 ≢ c.0)
AreOnce (a ∷ b ∷ c ∷ d ∷ rest) = ⊥

abbrev pub ArePlain : List (Opt × Text) → Type 0
ArePlain [] = Unit {0}
ArePlain (a ∷ rest) = (is_plain a.1 ≡ true) × ArePlain rest

abbrev pub words_of : List (Opt × Text) → List Text
words_of [] = []
words_of (a ∷ rest) = (45 ∷ 45 ∷ id_of a.0) ∷ a.1 ∷ words_of rest

pub record IsPlainPlan (words : List Text) : Type 0 where
  pub name : Text
  pub profile : Text
  pub bookings : Text
  pub base : Text
  pub options : List (Opt × Text)
  pub words_are : words ≡ name ∷ codes "plan" ∷ profile ∷ bookings ∷ base ∷ words_of options
  pub profile_plain : is_plain profile ≡ true
  pub bookings_plain : is_plain bookings ≡ true
  pub base_plain : is_plain base ≡ true
  pub once : AreOnce options
  pub plain : ArePlain options

-- the option of `check` and of `cranes`
abbrev pub arrival_words : Option Text → List Text
arrival_words None = []
arrival_words (Some file) = codes "--arrival" ∷ file ∷ []

abbrev pub IsPlainOption : Option Text → Type 0
IsPlainOption None = Unit {0}
IsPlainOption (Some file) = is_plain file ≡ true

pub record IsPlainCheck (words : List Text) : Type 0 where
  pub name : Text
  pub profile : Text
  pub bookings : Text
  pub base : Text
  pub arrival : Option Text
  pub words_are : words ≡ name ∷ codes "check" ∷ profile ∷ bookings ∷ base ∷ arrival_words arrival
  pub profile_plain : is_plain profile ≡ true
  pub bookings_plain : is_plain bookings ≡ true
  pub base_plain : is_plain base ≡ true
  pub plain : IsPlainOption arrival

pub record IsPlainShow (words : List Text) : Type 0 where
  pub name : Text
  pub file : Text
  pub words_are : words ≡ name ∷ codes "show" ∷ file ∷ []
  pub file_plain : is_plain file ≡ true

pub record IsPlainMake (words : List Text) : Type 0 where
  pub name : Text
  pub number : Text
  pub base : Text
  pub words_are : words ≡ name ∷ codes "make" ∷ number ∷ base ∷ []
  pub number_plain : is_plain number ≡ true
  pub base_plain : is_plain base ≡ true

pub record IsPlainCranes (words : List Text) : Type 0 where
  pub name : Text
  pub profile : Text
  pub bookings : Text
  pub base : Text
  pub call : Text
  pub count : Text
  pub arrival : Option Text
  pub words_are : words ≡ name ∷ codes "cranes" ∷ profile ∷ bookings ∷ base ∷ call ∷ count ∷ arrival_words arrival
  pub profile_plain : is_plain profile ≡ true
  pub bookings_plain : is_plain bookings ≡ true
  pub base_plain : is_plain base ≡ true
  pub call_plain : is_plain call ≡ true
  pub count_plain : is_plain count ≡ true
  pub plain : IsPlainOption arrival

abbrev pub IsPlainForm : List Text → Type 0
IsPlainForm words = IsPlainPlan words ⊎ (IsPlainCheck words ⊎ (IsPlainShow words ⊎ (IsPlainMake words ⊎ IsPlainCranes words)))
