-- The texts of departure files and their messages, one after the other.
use Rattle.std.proofs.Common.{◌≡◌, ℕ, suc, ◌+◌, ◌<◌, ◌≤◌, ◌^◌, List, [], ◌∷◌, ◌++◌, length, get_or, take, drop, map, refl, sym, ap, ◌∙◌, arith, inl, inr}
use Rattle.std.specs.Prelude.{All, MatchResult, Result, Ok, Err}
use Rattle.std.proofs.lemmas.List.{drop_more, take-append-drop}
use Rattle.std.proofs.lemmas.List.Elements.{All-nil, All-cons, All-head, All-tail}
use Rattle.stow_data.specs.Ship.{Ship}
use Rattle.stow_data.specs.Shipment.{Cargo}
use Rattle.baplie.specs.declared.parts.Message.{Message}
use Rattle.baplie.specs.Messages.{IsMessageOf}
use Rattle.baplie.specs.declared.faults.BaplieFault.{BaplieFault}
use Rattle.arrival_plan.specs.Settled.{AreRead}
use Rattle.plan_files.specs.Shown.{shown_by}
use Rattle.plan_files.specs.Checked.{IsSetOf}
use Rattle.plan_files.specs.declared.checking.FileSet.{FileSet}
use Rattle.voyage_files.specs.declared.refusals.JudgeNo.{JudgeNo}
use Rattle.voyage_files.specs.declared.refusals.JudgeNo.TheVariants.{Text, Plan, Bound, Numbers, NoMemory}
use Rattle.voyage_files.specs.Files.{AreLegal, AreMessages, AreSetOf, HasTextFault, IsFirstFaulty, IsSetNo, IsTakenNo, IsTextNo, IsTextsNo}

pub messages_more : (texts : List (List ℕ)) (ms : List Message) (text : List ℕ) (m : Message) → AreMessages texts ms → IsMessageOf text m → AreMessages (texts ++ text ∷ []) (ms ++ m ∷ [])
messages_more [] [] text m h k = (k, tt)
messages_more [] (x ∷ ms) text m h k = absurd h
messages_more (t ∷ texts) [] text m h k = absurd h
messages_more (t ∷ texts) (x ∷ ms) text m h k = (h.0, messages_more texts ms text m h.1 k)

pub as_many : (texts : List (List ℕ)) (ms : List Message) → AreMessages texts ms → length ms ≡ length texts
as_many [] [] h = refl
as_many [] (m ∷ ms) h = absurd h
as_many (t ∷ texts) [] h = absurd h
as_many (t ∷ texts) (m ∷ ms) h = ap suc (as_many texts ms h.1)

-- the text behind those that are messages
later : (call : ℕ) (xs ys : List (List ℕ)) (ms : List Message) (text : List ℕ) (at : ℕ) (fault : BaplieFault) → AreMessages xs ms → at ≡ call + length xs → HasTextFault text fault → IsFirstFaulty call (xs ++ text ∷ ys) at fault
later call [] ys ms text at fault h e f = inl (omega (arith, e), f)
later call (x ∷ xs) ys [] text at fault h e f = absurd h
later call (x ∷ xs) ys (m ∷ ms) text at fault h e f = inr ((m, h.0), later (suc call) xs ys ms text at fault h.1 (omega (arith, e)) f)

pub faulty_at : (call : ℕ) (xs ys : List (List ℕ)) (ms : List Message) (text : List ℕ) (cause : JudgeNo) → AreMessages xs ms → IsTextNo (call + length xs) text cause → IsTextsNo call (xs ++ text ∷ ys) cause
faulty_at call xs ys ms text (Text at fault) h f = later call xs ys ms text at fault h f.0 f.1
faulty_at call xs ys ms text (Plan cause) h f = absurd f
faulty_at call xs ys ms text (Bound cause) h f = absurd f
faulty_at call xs ys ms text (Numbers cause) h f = absurd f
faulty_at call xs ys ms text NoMemory h f = tt

-- the text behind those that were read
pub split_at : (texts : List (List ℕ)) (i : ℕ) (text : List ℕ) → i < length texts → text ≡ get_or texts i text → texts ≡ take i texts ++ text ∷ drop (i + 1) texts
split_at texts i text l is = sym (take-append-drop i texts) ∙ ap (λ (zs : List (List ℕ)). take i texts ++ zs) (drop_more texts i text l ∙ ap (λ (z : List ℕ). z ∷ drop (i + 1) texts) (sym is))

abbrev IsShort : List ℕ → Type 0
IsShort text = length text ≤ 2 ^ 29

abbrev HasFew : Message → Type 0
HasFew m = length m.groups ≤ 2 ^ 29

pub all_few : ((bytes : List ℕ) (m : Message) → length bytes ≤ 2 ^ 29 → IsMessageOf bytes m → AreRead m.groups) → (texts : List (List ℕ)) (ms : List Message) → AreMessages texts ms → All IsShort texts → All HasFew ms
all_few settles [] [] h short = All-nil HasFew
all_few settles [] (m ∷ ms) h short = absurd h
all_few settles (t ∷ texts) [] h short = absurd h
all_few settles (t ∷ texts) (m ∷ ms) h short = All-cons HasFew m ms (settles t m (All-head IsShort t texts short) h.0).few (all_few settles texts ms h.1 (All-tail IsShort t texts short))

module _ (ship : Ship) (cargo : Cargo) (texts : List (List ℕ)) where
  pub texts_refused : (cause : JudgeNo) → IsTextsNo 1 texts cause → IsTakenNo ship cargo texts cause
  texts_refused (Text at fault) h = h
  texts_refused (Plan cause) h = absurd h
  texts_refused (Bound cause) h = absurd h
  texts_refused (Numbers cause) h = absurd h
  texts_refused NoMemory h = tt

  set_refused : (ms : List Message) (cause : JudgeNo) → AreMessages texts ms → IsSetNo ship cargo ms cause → IsTakenNo ship cargo texts cause
  set_refused ms (Text at fault) h k = absurd k
  set_refused ms (Plan cause) h k = record { messages = ms; read = h; named = k.0; refused = k.1 }
  set_refused ms (Bound cause) h k = absurd k
  set_refused ms (Numbers cause) h k = absurd k
  set_refused ms NoMemory h k = tt

  -- what is said of the messages is said of the texts
  pub taken : (r : Result FileSet JudgeNo) (ms : List Message) → AreMessages texts ms → MatchResult r (λ set. IsSetOf ship cargo (map shown_by ms) set) (λ cause. IsSetNo ship cargo ms cause) → MatchResult r (λ set. AreSetOf ship cargo texts set) (λ cause. IsTakenNo ship cargo texts cause)
  taken (Ok set) ms h k = record { messages = ms; read = h; is_set = k }
  taken (Err cause) ms h k = set_refused ms cause h k

  -- a file set has the cost of its lifts
  pub legal_of : (set : FileSet) → AreSetOf ship cargo texts set → AreLegal ship cargo texts set.lifted.cost
  legal_of set h = record { messages = h.messages; read = h.read; set = record { departures = set.plans; legal = h.is_set.legal; costs = h.is_set.lifts.costs } }
