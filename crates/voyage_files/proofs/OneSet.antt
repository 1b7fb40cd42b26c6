-- Departure files are legal with one cost, or are refused for one cause.
use Rattle.std.proofs.Common.{◌≡◌, ◌≢◌, ℕ, suc, List, [], ◌∷◌, map, Result, Ok, Err, refl, sym, ap, subst, ◌∙◌, inl, inr, arith}
use Rattle.stow_data.specs.Ship.{Ship}
use Rattle.stow_data.specs.Shipment.{Cargo, IsCargo}
use Rattle.stow_data.specs.Profile.{IsShip}
use Rattle.stow_data.specs.Plans.{Plan}
use Rattle.stowage_rules.specs.declared.faults.RuleBroken.{RuleBroken}
use Rattle.stowage_rules.proofs.InRank.{breaks}
use Rattle.voyage_meaning.specs.Voyage.{HasCost}
use Rattle.plan_lifts.specs.Lifted.{IsFirstIllegal}
use Rattle.baplie.specs.declared.parts.Message.{Message}
use Rattle.plan_files.specs.Shown.{ShowAll, Shows, shown_by}
use Rattle.plan_files.specs.declared.file_faults.FileNo.{FileNo}
use Rattle.plan_files.specs.PlanOf.{plan_of}
use Rattle.plan_files.proofs.Shown.{shows_told}
use Rattle.plan_files.specs.declared.plan_faults.PlanNo.{PlanNo}
use Rattle.plan_files.specs.declared.plan_faults.PlanNo.TheVariants.{File, Rule, NoMemory}
use Rattle.plan_files.specs.Checked.{FilesCost, IsPlanNo, IsUnshown}
use Rattle.voyage_files.proofs.OneRule.{one_rule}

same_ok : {A E : Type 0} (r : Result A E) (a b : A) → r ≡ Ok a → r ≡ Ok b → a ≡ b
same_ok r a b h k = cc

same_err : {A E : Type 0} (r : Result A E) (a b : E) → r ≡ Err a → r ≡ Err b → a ≡ b
same_err r a b h k = cc

ok_or_err : {A E : Type 0} (r : Result A E) (a : A) (b : E) → r ≡ Ok a → r ≡ Err b → ⊥
ok_or_err r a b h k = cc

module _ (ship : Ship) (cargo : Cargo) (rules : IsShip ship) (shipped : IsCargo cargo) where
  tells : (call : ℕ) (m : Message) (plan : Plan) → Shows ship cargo call (shown_by m) plan → plan_of ship cargo call m.groups ≡ Ok plan
  tells call m plan h = shows_told ship cargo call rules shipped m.groups plan h

  one_set : (call : ℕ) (messages : List Message) (ps qs : List Plan) → ShowAll ship cargo call (map shown_by messages) ps → ShowAll ship cargo call (map shown_by messages) qs → ps ≡ qs
  one_set call [] [] [] h k = refl
  one_set call [] (p ∷ ps) qs h k = absurd h
  one_set call [] [] (q ∷ qs) h k = absurd k
  one_set call (m ∷ messages) [] qs h k = absurd h
  one_set call (m ∷ messages) (p ∷ ps) [] h k = absurd k
  one_set call (m ∷ messages) (p ∷ ps) (q ∷ qs) h k =
      ap (λ (z : Plan). z ∷ ps) (same_ok (plan_of ship cargo call m.groups) p q (tells call m p h.0) (tells call m q k.0))
      ∙ ap (λ (zs : List Plan). q ∷ zs) (one_set (suc call) messages ps qs h.1 k.1)

  -- ## The cost

  one_cost : (plans : List Plan) (n k : ℕ) → HasCost ship cargo plans n → HasCost ship cargo plans k → n ≡ k
  one_cost plans n k h g = omega (arith, h.least g.moves g.is_legal, g.is_number, g.least h.moves h.is_legal, h.is_number)

  pub one_number : (messages : List Message) (n k : ℕ) → FilesCost ship cargo (map shown_by messages) n → FilesCost ship cargo (map shown_by messages) k → n ≡ k
  one_number messages n k h g =
      one_cost g.departures n k (subst (λ (ps : List Plan). HasCost ship cargo ps n) (one_set 1 messages h.departures g.departures h.legal.shown g.legal.shown) h.costs) g.costs

  -- ## Refusals

  same_file : (a b : ℕ) (f g : FileNo) → a ≡ b → f ≡ g → ◌≡◌ {A = PlanNo} (File a f) (File b g)
  same_file a b f g e h = ap (λ (x : ℕ). File x f) e ∙ ap (λ (x : FileNo). File b x) h

  one_unshown : (call : ℕ) (messages : List Message) (a b : ℕ) (f g : FileNo) → IsUnshown ship cargo call messages (File a f) → IsUnshown ship cargo call messages (File b g) → ◌≡◌ {A = PlanNo} (File a f) (File b g)
  one_unshown call [] a b f g h k = absurd h
  one_unshown call (m ∷ messages) a b f g (inl h) (inl k) = same_file a b f g (h.0 ∙ sym k.0) (same_err (plan_of ship cargo call m.groups) f g h.1 k.1)
  one_unshown call (m ∷ messages) a b f g (inl h) (inr k) = absurd (ok_or_err (plan_of ship cargo call m.groups) k.0.0 f (tells call m k.0.0 k.0.1) h.1)
  one_unshown call (m ∷ messages) a b f g (inr h) (inl k) = absurd (ok_or_err (plan_of ship cargo call m.groups) h.0.0 g (tells call m h.0.0 h.0.1) k.1)
  one_unshown call (m ∷ messages) a b f g (inr h) (inr k) = one_unshown (suc call) messages a b f g h.1 k.1

  all_shown : (call at : ℕ) (fault : FileNo) (messages : List Message) (plans : List Plan) → ShowAll ship cargo call (map shown_by messages) plans → IsUnshown ship cargo call messages (File at fault) → ⊥
  all_shown call at fault [] plans h f = f
  all_shown call at fault (m ∷ messages) [] h f = h
  all_shown call at fault (m ∷ messages) (p ∷ plans) h (inl f) = ok_or_err (plan_of ship cargo call m.groups) p fault (tells call m p h.0) f.1
  all_shown call at fault (m ∷ messages) (p ∷ plans) h (inr f) = all_shown (suc call) at fault messages plans h.1 f.1

  one_illegal : (call : ℕ) (plans : List Plan) (a b : ℕ) (r s : RuleBroken) → IsFirstIllegal ship cargo call plans a r → IsFirstIllegal ship cargo call plans b s → ◌≡◌ {A = PlanNo} (Rule a r) (Rule b s)
  one_illegal call [] a b r s h k = absurd h
  one_illegal call (p ∷ plans) a b r s (inl h) (inl k) =
      ap (λ (x : ℕ). Rule x r) (h.0 ∙ sym k.0) ∙ ap (λ (x : RuleBroken). Rule b x) (one_rule ship cargo p r s h.1 k.1)
  one_illegal call (p ∷ plans) a b r s (inl h) (inr k) = absurd (breaks ship cargo p r h.1.is_fault k.0)
  one_illegal call (p ∷ plans) a b r s (inr h) (inl k) = absurd (breaks ship cargo p s k.1.is_fault h.0)
  one_illegal call (p ∷ plans) a b r s (inr h) (inr k) = one_illegal (suc call) plans a b r s h.1 k.1

  pub one_refusal : (messages : List Message) (a b : PlanNo) → a ≢ NoMemory → b ≢ NoMemory → IsPlanNo ship cargo messages a → IsPlanNo ship cargo messages b → a ≡ b
  one_refusal messages (File i f) (File j g) na nb h k = one_unshown 1 messages i j f g h k
  one_refusal messages (File i f) (Rule j s) na nb h k = absurd (all_shown 1 i f messages k.departures k.shown h)
  one_refusal messages (Rule i r) (File j g) na nb h k = absurd (all_shown 1 j g messages h.departures h.shown k)
  one_refusal messages (Rule i r) (Rule j s) na nb h k =
      one_illegal 1 k.departures i j r s (subst (λ (ps : List Plan). IsFirstIllegal ship cargo 1 ps i r) (one_set 1 messages h.departures k.departures h.shown k.shown) h.broken) k.broken
  one_refusal messages NoMemory b na nb h k = absurd (na refl)
  one_refusal messages a NoMemory na nb h k = absurd (nb refl)
