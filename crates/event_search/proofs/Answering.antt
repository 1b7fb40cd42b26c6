-- What workers over keys answer, as answers of the machine.
use Rattle.std.proofs.Common.{◌≡◌, ℕ, ◌+◌, ◌≤◌, length, Result, Ok, Err, refl, sym, ap, subst, ◌∙◌, arith}
use Rattle.std.specs.Prelude.{OnOk, OnErr, IfErr}
use Rattle.zero_one_rows.specs.declared.program.Row.{Row}
use Rattle.zero_one_rows.specs.Variables.{Voyage}
use Rattle.zero_one_rows.specs.Rows.{whole}
use Rattle.zero_one_rows.specs.Counted.{base_rows}
use Rattle.certificate.specs.declared.tree.Record.{Record}
use Rattle.certificate.specs.Entries.{same_row, entry_of}
use Rattle.search_core.specs.Machine.{StateOver, Event, Push, Pop, Steal, Load, Offer, Draw, Close, Divide, Pushes, Pops, Steals, Loads, Draws, Accepts, lesser}
use Rattle.search_core.specs.Refusals.{Refuses, RefusesPush, RefusesPop, RefusesSteal, RefusesLoad, RefusesDraw}
use Rattle.search_core.specs.declared.refused.Refused.{Refused}
use Rattle.search_core.specs.declared.node_keys.NodeKey.{NodeKey}
use Rattle.search_core.specs.declared.records.Done.{Done}
use Rattle.search_core.specs.Rooms.{Reserved, EndsHand, HalvesHand}
use Rattle.search_core.specs.Told.{told, node_of}
use Rattle.search_core.proofs.Standing
use Rattle.search_core.proofs.Renamed
use Rattle.event_search.specs.Cores.{Course, state_at, IsCore, IsAnswer, IsAnswerTo, ClosesKey, BranchesKey, OffersPrice}
use Rattle.event_search.specs.declared.events.Event.{Event as Happening}
use Rattle.event_search.specs.Events.{event_of}
use Rattle.event_search.specs.Answered.{GivesBack, IsAnswerOf}
use Rattle.event_search.proofs.Keeping
use Rattle.event_search.proofs.JudgedKeys as Judged

abbrev Seated : Type 0
Seated = Reserved (Done Record)

abbrev pub course_of : Voyage → Seated → Course
course_of m s = record { voyage = m; state = state_at m s.state; spare = s.spare }

module _ (m : Voyage) (before after : Seated) where
  answered : (event : Event Row) (P : Type 0) (Q : Refused → Type 0) (r : Result (Unit {0}) Refused)
      → (P → Accepts same_row (whole m) (base_rows m) (state_at m before.state) event (state_at m after.state))
      → ((cause : Refused) → Q cause → Refuses same_row (whole m) (base_rows m) (state_at m before.state) event cause)
      → before.spare ≤ after.spare + 1 → OnOk r P → IfErr r Q → OnErr r (after ≡ before) → IsAnswer (course_of m before) event (course_of m after) r
  answered event P Q (Ok u) f g less ok err same = (f ok, refl, less)
  answered event P Q (Err cause) f g less ok err same = (g cause err, ap (course_of m) same)

  pub push : (i : ℕ) (r : Result (Unit {0}) Refused) → before.spare ≤ after.spare + 1 → OnOk r (Pushes before.state i after.state) → IfErr r (λ cause. RefusesPush before.state i cause) → OnErr r (after ≡ before)
      → IsAnswer (course_of m before) (Push i) (course_of m after) r
  push i r less ok err same =
      answered (Push i) (Pushes before.state i after.state) (λ cause. RefusesPush before.state i cause) r (Standing.pushes (entry_of m) before.state after.state i)
      (λ cause h. Renamed.refused_push (node_of (told (entry_of m) before.state.ended)) (told (entry_of m) before.state.ended) before.state i cause h) less ok err same

  pub pop : (i : ℕ) (r : Result (Unit {0}) Refused) → before.spare ≤ after.spare + 1 → OnOk r (Pops before.state i after.state) → IfErr r (λ cause. RefusesPop before.state i cause) → OnErr r (after ≡ before)
      → IsAnswer (course_of m before) (Pop i) (course_of m after) r
  pop i r less ok err same =
      answered (Pop i) (Pops before.state i after.state) (λ cause. RefusesPop before.state i cause) r (Standing.pops (entry_of m) before.state after.state i)
      (λ cause h. Renamed.refused_pop (node_of (told (entry_of m) before.state.ended)) (told (entry_of m) before.state.ended) before.state i cause h) less ok err same

  pub steal : (i victim : ℕ) (r : Result (Unit {0}) Refused) → before.spare ≤ after.spare + 1 → OnOk r (Steals before.state i victim after.state) → IfErr r (λ cause. RefusesSteal before.state i victim cause) → OnErr r (after ≡ before)
      → IsAnswer (course_of m before) (Steal i victim) (course_of m after) r
  steal i victim r less ok err same =
      answered (Steal i victim) (Steals before.state i victim after.state) (λ cause. RefusesSteal before.state i victim cause) r (Standing.steals (entry_of m) before.state after.state i victim)
      (λ cause h. Renamed.refused_steal (node_of (told (entry_of m) before.state.ended)) (told (entry_of m) before.state.ended) before.state i victim cause h) less ok err same

  pub load : (i : ℕ) (r : Result (Unit {0}) Refused) → before.spare ≤ after.spare + 1 → OnOk r (Loads before.state i after.state) → IfErr r (λ cause. RefusesLoad before.state i cause) → OnErr r (after ≡ before)
      → IsAnswer (course_of m before) (Load i) (course_of m after) r
  load i r less ok err same =
      answered (Load i) (Loads before.state i after.state) (λ cause. RefusesLoad before.state i cause) r (Standing.loads (entry_of m) before.state after.state i)
      (λ cause h. Renamed.refused_load (node_of (told (entry_of m) before.state.ended)) (told (entry_of m) before.state.ended) before.state i cause h) less ok err same

  pub draw : (i : ℕ) (r : Result (Unit {0}) Refused) → before.spare ≤ after.spare + 1 → OnOk r (Draws before.state i after.state) → IfErr r (λ cause. RefusesDraw before.state i cause) → OnErr r (after ≡ before)
      → IsAnswer (course_of m before) (Draw i) (course_of m after) r
  draw i r less ok err same =
      answered (Draw i) (Draws before.state i after.state) (λ cause. RefusesDraw before.state i cause) r (Standing.draws (entry_of m) before.state after.state i)
      (λ cause h. Renamed.refused_draw (node_of (told (entry_of m) before.state.ended)) (told (entry_of m) before.state.ended) before.state i cause h) less ok err same

  -- what is kept where an event is accepted, and where nothing is changed
  pub kept : (places : ℕ) (P : Type 0) (r : Result (Unit {0}) Refused) → (P → IsCore m places after.state after.spare) → IsCore m places before.state before.spare → OnOk r P → OnErr r (after ≡ before) → IsCore m places after.state after.spare
  kept places P (Ok u) f h ok same = f ok
  kept places P (Err cause) f h ok same = subst (λ (s : Seated). IsCore m places s.state s.spare) (sym same) h

-- ## The same voyage and room, told of another judge

pub moved : (m n : Voyage) (places more : ℕ) (c : StateOver NodeKey (Done Record)) (spare : ℕ) → n ≡ m → more ≡ places → IsCore m places c spare → IsCore n more c spare
moved m n places more c spare e k h = subst (λ (v : Voyage). IsCore v more c spare) (sym e) (subst (λ (l : ℕ). IsCore m l c spare) (sym k) h)

module _ (m n : Voyage) (e : n ≡ m) (before after : Seated) where
  accepts : (event : Event Row) → Accepts same_row (whole m) (base_rows m) (state_at m before.state) event (state_at m after.state) → before.spare ≤ after.spare + 1 → IsAnswer (course_of m before) event (course_of n after) (Ok tt)
  accepts event h less = subst (λ (v : Voyage). IsAnswer (course_of m before) event (course_of v after) (Ok tt)) (sym e) (h, refl, less)

  pub offered : (i : ℕ) (r : Record) (cost : ℕ) → OffersPrice m before.state i r cost → after.state ≡ record before.state { word = lesser before.state.word cost } → after.spare ≡ before.spare
      → IsAnswer (course_of m before) (Offer i (entry_of m r)) (course_of n after) (Ok tt)
  offered i r cost h is same = accepts (Offer i (entry_of m r)) (Judged.offers m before.state i after.state r cost h is) (omega (arith, same))

  module _ (places spare : ℕ) (i : ℕ) (done : Done Record) (h : IsCore m places before.state spare) (sum : before.spare ≡ after.spare + 1) where
    pub closed : ClosesKey m before.state i done.entry done.node → EndsHand before.state i done.node done after.state
        → IsAnswerTo done.entry (course_of m before) (Close i (entry_of m done.entry)) (course_of n after) (Ok tt)
    closed k ends = accepts (Close i (entry_of m done.entry)) (Judged.closes m before.state i after.state done h.keys k ends) (omega (arith, sum))

    pub branched : BranchesKey m before.state i done.entry done.node → HalvesHand before.state i done.node done after.state
        → IsAnswerTo done.entry (course_of m before) (Divide i (entry_of m done.entry)) (course_of n after) (Ok tt)
    branched k halves = accepts (Divide i (entry_of m done.entry)) (Judged.branches m before.state i after.state done h.keys k halves) (omega (arith, sum))

-- refused, and nothing is changed
module _ (m n : Voyage) (e : n ≡ m) (before : Seated) (event : Event Row) (cause : Refused) where
  pub refused : Refuses same_row (whole m) (base_rows m) (state_at m before.state) event cause → IsAnswer (course_of m before) event (course_of n before) (Err cause)
  refused h = (h, ap (λ (v : Voyage). course_of v before) e)

-- ## What is kept after a record

module _ (m n : Voyage) (e : n ≡ m) (places more : ℕ) (k : more ≡ places) (before after : Seated) (h : IsCore m places before.state before.spare) where
  pub after_offer : (i : ℕ) (r : Record) (cost : ℕ) → OffersPrice m before.state i r cost → after.state ≡ record before.state { word = lesser before.state.word cost } → after.spare ≡ before.spare
      → IsCore n more after.state after.spare
  after_offer i r cost price is same =
      moved m n places more after.state after.spare e k
      (Keeping.offer m places before.state after.state before.spare after.spare h (Offer i (entry_of m r)) cost (omega (arith, same)) is (Judged.offers m before.state i after.state r cost price is))

  pub after_close : (i : ℕ) (done : Done Record) → before.spare ≡ after.spare + 1 → ClosesKey m before.state i done.entry done.node → EndsHand before.state i done.node done after.state → IsCore n more after.state after.spare
  after_close i done sum closes ends =
      moved m n places more after.state after.spare e k
      (Keeping.ends m places before.state after.state before.spare after.spare h (Close i (entry_of m done.entry)) i done sum ends (Judged.closes m before.state i after.state done h.keys closes ends))

  pub after_branch : (i : ℕ) (done : Done Record) → before.spare ≡ after.spare + 1 → BranchesKey m before.state i done.entry done.node → HalvesHand before.state i done.node done after.state → IsCore n more after.state after.spare
  after_branch i done sum branches halves =
      moved m n places more after.state after.spare e k
      (Keeping.halves m places before.state after.state before.spare after.spare h (Divide i (entry_of m done.entry)) i done sum halves (Judged.branches m before.state i after.state done h.keys branches halves))

-- more room, and less taken of it
pub reserved : (m n : Voyage) (more : ℕ) (before after : Seated) (places : ℕ) → n ≡ m → IsCore m places before.state before.spare → after.state ≡ before.state → length before.state.ended + after.spare ≤ more → IsCore n more after.state after.spare
reserved m n more before after places e h same fits =
    moved m n more more after.state after.spare e refl
    (subst (λ (c : StateOver NodeKey (Done Record)). IsCore m more c after.spare) (sym same) (Keeping.roomier m places more before.state before.spare after.spare h fits))

-- an answer, with its event where it is refused
pub back : (event lit : Happening) (before after : Course) (answer : Result (Unit {0}) Refused) (result : Result (Unit {0}) (Refused × Happening)) → event ≡ lit
    → IsAnswer before (event_of before.voyage lit) after answer → GivesBack answer lit result → IsAnswerOf event before after result
back event lit before after answer (Ok u) is h e = subst (λ (v : Happening). IsAnswer before (event_of before.voyage v) after (Ok tt)) (sym is) (subst (λ (r : Result (Unit {0}) Refused). IsAnswer before (event_of before.voyage lit) after r) e h)
back event lit before after answer (Err (cause, given)) is h (e, same) = (
  subst (λ (v : Happening). IsAnswer before (event_of before.voyage v) after (Err cause)) (sym is) (subst (λ (r : Result (Unit {0}) Refused). IsAnswer before (event_of before.voyage lit) after r) e h),
  same ∙ sym is,
)

-- the same answer, to an equal state
pub as_seen : (before old : Course) (event : Voyage → Event Row) (after : Course) (r : Result (Unit {0}) Refused) → before ≡ old → IsAnswer before (event before.voyage) after r → IsAnswer old (event old.voyage) after r
as_seen before old event after r e h = subst (λ (s : Course). IsAnswer s (event s.voyage) after r) e h

-- ## What an answer says, clause by clause

module _ (event : Happening) (before after : Course) where
  pub accepted : (r : Result (Unit {0}) (Refused × Happening)) → IsAnswerOf event before after r
      → OnOk r (Accepts same_row (whole before.voyage) (base_rows before.voyage) before.state (event_of before.voyage event) after.state)
  accepted (Ok u) h = h.0
  accepted (Err (cause, given)) h = tt

  pub refused_with : (r : Result (Unit {0}) (Refused × Happening)) → IsAnswerOf event before after r
      → IfErr r (λ no. Refuses same_row (whole before.voyage) (base_rows before.voyage) before.state (event_of before.voyage event) no.0)
  refused_with (Ok u) h = tt
  refused_with (Err (cause, given)) h = h.0.0

  pub given_back : (r : Result (Unit {0}) (Refused × Happening)) → IsAnswerOf event before after r → IfErr r (λ no. no.1 ≡ event)
  given_back (Ok u) h = tt
  given_back (Err (cause, given)) h = h.1

  pub unchanged : (r : Result (Unit {0}) (Refused × Happening)) → IsAnswerOf event before after r → OnErr r (after ≡ before)
  unchanged (Ok u) h = tt
  unchanged (Err (cause, given)) h = h.0.1

  pub one_taken : (r : Result (Unit {0}) (Refused × Happening)) → IsAnswerOf event before after r → OnOk r (before.spare ≤ after.spare + 1)
  one_taken (Ok u) h = h.2
  one_taken (Err (cause, given)) h = tt

  pub same_voyage : (r : Result (Unit {0}) (Refused × Happening)) → IsAnswerOf event before after r → after.voyage ≡ before.voyage
  same_voyage (Ok u) h = h.1
  same_voyage (Err (cause, given)) h = ap (λ (s : Course). s.voyage) h.0.1
