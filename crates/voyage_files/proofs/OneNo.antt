-- What a certificate and departure files say holds, or is refused for one cause.
use Rattle.std.proofs.Common.{◌≡◌, ◌≢◌, ℕ, suc, ◌+◌, List, [], ◌∷◌, map, Option, Some, None, refl, sym, ap, subst, ◌∙◌, inl, inr}
use Rattle.std.specs.Prelude.{IsSome}
use Rattle.std.proofs.Math.Nat.{min-le_left}
use Rattle.std.proofs.lemmas.Option.{same_Some}
use Rattle.stow_data.specs.Ship.{Ship}
use Rattle.stow_data.specs.Shipment.{Cargo, IsCargo, most_cost}
use Rattle.stow_data.specs.Profile.{IsShip}
use Rattle.stow_data.specs.Plans as stowed
use Rattle.proof_trees.proofs.Lesser.{proves_lesser}
use Rattle.zero_one_rows.specs.Variables.{Voyage}
use Rattle.zero_one_rows.specs.Rows.{whole}
use Rattle.baplie.specs.declared.parts.Message.{Message}
use Rattle.baplie.specs.declared.faults.BaplieFault.{BaplieFault}
use Rattle.certificate.specs.declared.tree.Head.{Head}
use Rattle.certificate.specs.declared.tree.Record.{Record}
use Rattle.certificate.specs.declared.refusals.BoundNo.{BoundNo}
use Rattle.certificate.specs.Entries.{same_row, entry_of}
use Rattle.bound_checker.specs.Entries.{ProvesBound}
use Rattle.bound_checker.proofs.Bounding.{proves_nowhere}
use Rattle.model_bridge.specs.Laws.{IsProblem}
use Rattle.plan_files.specs.Shown.{IsLegalFileSet, shown_by}
use Rattle.plan_files.specs.declared.plan_faults.PlanNo.{PlanNo}
use Rattle.plan_files.specs.Checked.{FilesCost, IsPlanNo}
use Rattle.plan_files.proofs.Files.{not_refused}
use Rattle.stow_report.specs.declared.numbers.NumbersNo.{NumbersNo}
use Rattle.stow_report.specs.declared.numbers.NumbersNo.TheVariants.{Rehandles, Nodes, Outcome}
use Rattle.voyage_files.proofs.OneMessage.{message_not_fault, one_baplie_fault, one_message}
use Rattle.voyage_files.specs.declared.refusals.JudgeNo.{JudgeNo}
use Rattle.voyage_files.specs.declared.refusals.JudgeNo.TheVariants.{Text, Plan, Bound, Numbers, NoMemory}
use Rattle.voyage_files.specs.Files.{AreIllegal, AreMessages, FilesTake, IsFirstFaulty, IsTakenNo}
use Rattle.voyage_files.specs.Judged.{Fits, Holds, IsNo, IsNumbersNo, RefusesNumbers, RefusesTree, checked, handled}
use Rattle.voyage_files.proofs.OneSet.{one_number, one_refusal}

-- ## Texts

one_messages : (texts : List (List ℕ)) (ms ns : List Message) → AreMessages texts ms → AreMessages texts ns → ms ≡ ns
one_messages [] [] [] h k = refl
one_messages [] (m ∷ ms) ns h k = absurd h
one_messages [] [] (n ∷ ns) h k = absurd k
one_messages (t ∷ texts) [] ns h k = absurd h
one_messages (t ∷ texts) (m ∷ ms) [] h k = absurd k
one_messages (t ∷ texts) (m ∷ ms) (n ∷ ns) h k =
    ap (λ (z : Message). z ∷ ms) (one_message t m n h.0 k.0) ∙ ap (λ (zs : List Message). n ∷ zs) (one_messages texts ms ns h.1 k.1)

none_faulty : (call : ℕ) (texts : List (List ℕ)) (ms : List Message) (at : ℕ) (fault : BaplieFault) → AreMessages texts ms → IsFirstFaulty call texts at fault → ⊥
none_faulty call [] ms at fault h f = f
none_faulty call (t ∷ texts) [] at fault h f = h
none_faulty call (t ∷ texts) (m ∷ ms) at fault h (inl f) = message_not_fault t m fault f.1.0 h.0 f.1.1
none_faulty call (t ∷ texts) (m ∷ ms) at fault h (inr f) = none_faulty (suc call) texts ms at fault h.1 f.1

same_text : (a b : ℕ) (f g : BaplieFault) → a ≡ b → f ≡ g → ◌≡◌ {A = JudgeNo} (Text a f) (Text b g)
same_text a b f g e h = ap (λ (x : ℕ). Text x f) e ∙ ap (λ (x : BaplieFault). Text b x) h

one_faulty : (call : ℕ) (texts : List (List ℕ)) (a b : ℕ) (f g : BaplieFault) → IsFirstFaulty call texts a f → IsFirstFaulty call texts b g → ◌≡◌ {A = JudgeNo} (Text a f) (Text b g)
one_faulty call [] a b f g h k = absurd h
one_faulty call (t ∷ texts) a b f g (inl h) (inl k) = same_text a b f g (h.0 ∙ sym k.0) (one_baplie_fault t f g h.1.0 k.1.0 h.1.1 k.1.1)
one_faulty call (t ∷ texts) a b f g (inl h) (inr k) = absurd (message_not_fault t k.0.0 f h.1.0 k.0.1 h.1.1)
one_faulty call (t ∷ texts) a b f g (inr h) (inl k) = absurd (message_not_fault t h.0.0 g k.1.0 h.0.1 k.1.1)
one_faulty call (t ∷ texts) a b f g (inr h) (inr k) = one_faulty (suc call) texts a b f g h.1 k.1

module _ (ship : Ship) (cargo : Cargo) (rules : IsShip ship) (shipped : IsCargo cargo) (texts : List (List ℕ)) where
  -- ## Departure files

  legal_not_faulty : (said found : Option ℕ) (at : ℕ) (fault : BaplieFault) → FilesTake ship cargo texts said found → IsSome said → IsFirstFaulty 1 texts at fault → ⊥
  legal_not_faulty (Some said) (Some found) at fault h some f = none_faulty 1 texts h.messages at fault h.read f
  legal_not_faulty None None at fault h some f = let bad : ⊥ = cc in bad
  legal_not_faulty None (Some found) at fault h some f = h
  legal_not_faulty (Some said) None at fault h some f = h

  legal_not_illegal : (said found : Option ℕ) (cause : PlanNo) → FilesTake ship cargo texts said found → IsSome said → AreIllegal ship cargo texts cause → ⊥
  legal_not_illegal (Some said) (Some found) cause h some k =
      let same = one_messages texts k.messages h.messages k.read h.read in
      k.named (not_refused ship cargo rules shipped h.messages h.set.departures cause h.set.legal (subst (λ (ms : List Message). IsPlanNo ship cargo ms cause) same k.refused))
  legal_not_illegal None None cause h some k = let bad : ⊥ = cc in bad
  legal_not_illegal None (Some found) cause h some k = h
  legal_not_illegal (Some said) None cause h some k = h

  one_found : (said a b : Option ℕ) → FilesTake ship cargo texts said a → FilesTake ship cargo texts said b → a ≡ b
  one_found None None None h k = refl
  one_found None None (Some b) h k = absurd k
  one_found None (Some a) b h k = absurd h
  one_found (Some said) None b h k = absurd h
  one_found (Some said) (Some a) None h k = absurd k
  one_found (Some said) (Some a) (Some b) h k =
      let same = one_messages texts h.messages k.messages h.read k.read in
      ap (λ (n : ℕ). Some n) (one_number ship cargo rules shipped k.messages a b (subst (λ (ms : List Message). FilesCost ship cargo (map shown_by ms) a) same h.set) k.set)

  one_illegal : (a b : PlanNo) → AreIllegal ship cargo texts a → AreIllegal ship cargo texts b → a ≡ b
  one_illegal a b h k =
      let same = one_messages texts h.messages k.messages h.read k.read in
      one_refusal ship cargo rules shipped k.messages a b h.named k.named (subst (λ (ms : List Message). IsPlanNo ship cargo ms a) same h.refused) k.refused

  -- departure files have one refusal, and a legal file set has none
  pub one_taken : (a b : JudgeNo) → a ≢ NoMemory → b ≢ NoMemory → IsTakenNo ship cargo texts a → IsTakenNo ship cargo texts b → a ≡ b
  one_taken (Text i f) (Text j g) na nb h k = one_faulty 1 texts i j f g h k
  one_taken (Text i f) (Plan q) na nb h k = absurd (none_faulty 1 texts k.messages i f k.read h)
  one_taken (Text i f) (Bound q) na nb h k = absurd k
  one_taken (Text i f) (Numbers q) na nb h k = absurd k
  one_taken (Plan p) (Text j g) na nb h k = absurd (none_faulty 1 texts h.messages j g h.read k)
  one_taken (Plan p) (Plan q) na nb h k = ap (λ (x : PlanNo). Plan x) (one_illegal p q h k)
  one_taken (Plan p) (Bound q) na nb h k = absurd k
  one_taken (Plan p) (Numbers q) na nb h k = absurd k
  one_taken (Bound p) b na nb h k = absurd h
  one_taken (Numbers p) b na nb h k = absurd h
  one_taken NoMemory b na nb h k = absurd (na refl)
  one_taken a NoMemory na nb h k = absurd (nb refl)

  pub taken_not_legal : (messages : List Message) (departures : List stowed.Plan) (cause : JudgeNo) → AreMessages texts messages → IsLegalFileSet ship cargo (map shown_by messages) departures → cause ≢ NoMemory → IsTakenNo ship cargo texts cause → ⊥
  taken_not_legal messages departures (Text at fault) read legal named k = none_faulty 1 texts messages at fault read k
  taken_not_legal messages departures (Plan cause) read legal named k =
      let same = one_messages texts k.messages messages k.read read in
      k.named (not_refused ship cargo rules shipped messages departures cause legal (subst (λ (ms : List Message). IsPlanNo ship cargo ms cause) same k.refused))
  taken_not_legal messages departures (Bound cause) read legal named k = k
  taken_not_legal messages departures (Numbers cause) read legal named k = k
  taken_not_legal messages departures NoMemory read legal named k = named refl

-- ## Numbers

same_two : (make : ℕ → ℕ → NumbersNo) (a b c d : ℕ) → a ≡ b → c ≡ d → make a c ≡ make b d
same_two make a b c d e f = ap (λ (x : ℕ). make x c) e ∙ ap (λ (x : ℕ). make b x) f

module _ (m : Voyage) (head : Head) (tree : List Record) where
  -- where the cost that is said is found, they don't differ
  not_other : (found : Option ℕ) (said n : ℕ) → head.rehandles ≡ Some said → found ≡ Some n → said ≢ n → found ≡ head.rehandles → ⊥
  not_other found said n e f differ same = differ (sym (same_Some n said (sym f ∙ same ∙ e)))

  other_nodes : (said n : ℕ) → said ≡ head.nodes → n ≡ handled tree → said ≢ n → head.nodes ≡ handled tree → ⊥
  other_nodes said n e f differ same = differ (e ∙ same ∙ sym f)

  one_numbers : (found : Option ℕ) (a b : NumbersNo) → IsNumbersNo m head tree found a → IsNumbersNo m head tree found b → a ≡ b
  one_numbers found (Rehandles s n) (Rehandles t o) h k = same_two (λ x y. Rehandles x y) s t n o (same_Some s t (sym h.0 ∙ k.0)) (same_Some n o (sym h.1 ∙ k.1))
  one_numbers found (Rehandles s n) (Nodes t o) h k = absurd (not_other found s n h.0 h.1 h.2 k.0)
  one_numbers found (Rehandles s n) Outcome h k = absurd (not_other found s n h.0 h.1 h.2 k.0)
  one_numbers found (Nodes s n) (Rehandles t o) h k = absurd (not_other found t o k.0 k.1 k.2 h.0)
  one_numbers found (Nodes s n) (Nodes t o) h k = same_two (λ x y. Nodes x y) s t n o (h.1 ∙ sym k.1) (h.2 ∙ sym k.2)
  one_numbers found (Nodes s n) Outcome h k = absurd (other_nodes s n h.1 h.2 h.3 k.1)
  one_numbers found Outcome (Rehandles t o) h k = absurd (not_other found t o k.0 k.1 k.2 h.0)
  one_numbers found Outcome (Nodes t o) h k = absurd (other_nodes t o k.1 k.2 k.3 h.1)
  one_numbers found Outcome Outcome h k = refl

  not_numbers : (found : Option ℕ) (cause : NumbersNo) → found ≡ head.rehandles → head.nodes ≡ handled tree → Fits m head.outcome head.rehandles head.bound → IsNumbersNo m head tree found cause → ⊥
  not_numbers found (Rehandles s n) same nodes fits k = not_other found s n k.0 k.1 k.2 same
  not_numbers found (Nodes s n) same nodes fits k = other_nodes s n k.1 k.2 k.3 nodes
  not_numbers found Outcome same nodes fits k = k.2 fits

-- ## All parts

module _ (m : Voyage) (problem : IsProblem m) (head : Head) (tree : List Record) (texts : List (List ℕ)) where
  proves_checked : ProvesBound m tree head.bound → ProvesBound m tree (checked m head.bound)
  proves_checked h = proves_lesser same_row (whole m) head.bound (checked m head.bound) (min-le_left head.bound (most_cost m.cargo + 1)) (map (entry_of m) tree) h

  pub yes_or_no : (cause : JudgeNo) → cause ≢ NoMemory → Holds m head tree texts → IsNo m head tree texts cause → ⊥
  yes_or_no (Text at fault) named h k = legal_not_faulty m.ship m.cargo problem.ship problem.cargo texts head.rehandles head.rehandles at fault h.files k.0 k.1
  yes_or_no (Plan cause) named h k = legal_not_illegal m.ship m.cargo problem.ship problem.cargo texts head.rehandles head.rehandles cause h.files k.0 k.1
  yes_or_no (Bound cause) named h k = proves_nowhere m tree (checked m head.bound) cause k.first (proves_checked h.proves)
  yes_or_no (Numbers cause) named h k =
      not_numbers m head tree k.found cause (one_found m.ship m.cargo problem.ship problem.cargo texts head.rehandles k.found head.rehandles k.files h.files) h.nodes h.fits k.why
  yes_or_no NoMemory named h k = named refl

  one_bound : (a b : BoundNo) → RefusesTree m head tree texts a → RefusesTree m head tree texts b → a ≡ b
  one_bound a b h k = same_Some a b (sym h.first ∙ k.first)

  one_of_numbers : (a b : NumbersNo) → RefusesNumbers m head tree texts a → RefusesNumbers m head tree texts b → a ≡ b
  one_of_numbers a b h k =
      let same = one_found m.ship m.cargo problem.ship problem.cargo texts head.rehandles h.found k.found h.files k.files in
      one_numbers m head tree k.found a b (subst (λ (o : Option ℕ). IsNumbersNo m head tree o a) same h.why) k.why

  text_or : (at : ℕ) (fault : BaplieFault) (cause : JudgeNo) (found : Option ℕ) → IsNo m head tree texts (Text at fault) → FilesTake m.ship m.cargo texts head.rehandles found → Text at fault ≡ cause
  text_or at fault cause found h k = absurd (legal_not_faulty m.ship m.cargo problem.ship problem.cargo texts head.rehandles found at fault k h.0 h.1)

  plan_or : (p : PlanNo) (cause : JudgeNo) (found : Option ℕ) → IsNo m head tree texts (Plan p) → FilesTake m.ship m.cargo texts head.rehandles found → Plan p ≡ cause
  plan_or p cause found h k = absurd (legal_not_illegal m.ship m.cargo problem.ship problem.cargo texts head.rehandles found p k h.0 h.1)

  pub one_no : (a b : JudgeNo) → a ≢ NoMemory → b ≢ NoMemory → IsNo m head tree texts a → IsNo m head tree texts b → a ≡ b
  one_no (Text i f) (Text j g) na nb h k = one_faulty 1 texts i j f g h.1 k.1
  one_no (Text i f) (Plan q) na nb h k = absurd (none_faulty 1 texts k.1.messages i f k.1.read h.1)
  one_no (Text i f) (Bound q) na nb h k = text_or i f (Bound q) k.found h k.files
  one_no (Text i f) (Numbers q) na nb h k = text_or i f (Numbers q) k.found h k.files
  one_no (Plan p) (Text j g) na nb h k = absurd (none_faulty 1 texts h.1.messages j g h.1.read k.1)
  one_no (Plan p) (Plan q) na nb h k = ap (λ (x : PlanNo). Plan x) (one_illegal m.ship m.cargo problem.ship problem.cargo texts p q h.1 k.1)
  one_no (Plan p) (Bound q) na nb h k = plan_or p (Bound q) k.found h k.files
  one_no (Plan p) (Numbers q) na nb h k = plan_or p (Numbers q) k.found h k.files
  one_no (Bound p) (Text j g) na nb h k = sym (text_or j g (Bound p) h.found k h.files)
  one_no (Bound p) (Plan q) na nb h k = sym (plan_or q (Bound p) h.found k h.files)
  one_no (Bound p) (Bound q) na nb h k = ap (λ (x : BoundNo). Bound x) (one_bound p q h k)
  one_no (Bound p) (Numbers q) na nb h k = absurd (proves_nowhere m tree (checked m head.bound) p h.first k.proves)
  one_no (Numbers p) (Text j g) na nb h k = sym (text_or j g (Numbers p) h.found k h.files)
  one_no (Numbers p) (Plan q) na nb h k = sym (plan_or q (Numbers p) h.found k h.files)
  one_no (Numbers p) (Bound q) na nb h k = absurd (proves_nowhere m tree (checked m head.bound) q k.first h.proves)
  one_no (Numbers p) (Numbers q) na nb h k = ap (λ (x : NumbersNo). Numbers x) (one_of_numbers p q h k)
  one_no NoMemory b na nb h k = absurd (na refl)
  one_no a NoMemory na nb h k = absurd (nb refl)
