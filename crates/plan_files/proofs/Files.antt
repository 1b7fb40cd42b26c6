-- Files that show plans, one after the other.
use Rattle.std.proofs.Common.{◌≡◌, ℕ, suc, ◌+◌, ◌<◌, List, [], ◌∷◌, ◌++◌, length, get_or, take, drop, map, refl, sym, ap, subst, ◌∙◌, arith, inl, inr}
use Rattle.std.proofs.lemmas.List.{drop_more, take-append-drop}
use Rattle.stow_data.specs.Ship.{Ship}
use Rattle.stow_data.specs.Shipment.{Cargo, IsCargo}
use Rattle.stow_data.specs.Profile.{IsShip}
use Rattle.stow_data.specs.Plans.{Plan}
use Rattle.stowage_rules.specs.declared.faults.RuleBroken.{RuleBroken}
use Rattle.stowage_rules.specs.Departure.{AreDepartures, IsDeparture}
use Rattle.stowage_rules.specs.Faults.{MeetsRules}
use Rattle.stowage_rules.proofs.InRank.{breaks}
use Rattle.toml_values.proofs.ValueLaws.{err_is_no_ok, same_Ok}
use Rattle.plan_lifts.specs.Lifted.{ArePlans, IsFirstIllegal, IsLiftsFault}
use Rattle.plan_lifts.specs.declared.lifting.Lifted.{Lifted}
use Rattle.plan_lifts.specs.declared.lifting.LiftsFault.{LiftsFault}
use Rattle.plan_lifts.specs.declared.lifting.LiftsFault.TheVariants as lifting
use Rattle.plan_lifts.specs.declared.lifting.LiftsFault.TheVariants.{Illegal}
use Rattle.baplie.specs.declared.parts.Message.{Message}
use Rattle.plan_files.specs.Shown.{IsLegalFileSet, ShowAll, Shows, shown_by}
use Rattle.plan_files.specs.declared.file_faults.FileNo.{FileNo}
use Rattle.plan_files.proofs.Formed.{shown_aboard, shown_formed}
use Rattle.plan_files.proofs.Shown.{shows_told}
use Rattle.plan_files.specs.declared.plan_faults.PlanNo.{PlanNo}
use Rattle.plan_files.specs.declared.plan_faults.PlanNo.TheVariants.{File, Rule, NoMemory}
use Rattle.plan_files.specs.Checked.{HasLifts, IsFileFault, IsPlanNo, IsRuleFault, IsUnshown, told_by}

module _ (ship : Ship) (cargo : Cargo) where
  pub show_more : (call : ℕ) (xs : List Message) (plans : List Plan) (m : Message) (plan : Plan) → ShowAll ship cargo call (map shown_by xs) plans → Shows ship cargo (call + length xs) (shown_by m) plan → ShowAll ship cargo call (map shown_by (xs ++ m ∷ [])) (plans ++ plan ∷ [])
  show_more call [] [] m plan h s = let e : call + 0 ≡ call = omega arith in (subst (λ (k : ℕ). Shows ship cargo k (shown_by m) plan) e s, tt)
  show_more call [] (p ∷ plans) m plan h s = absurd h
  show_more call (x ∷ xs) [] m plan h s = absurd h
  show_more call (x ∷ xs) (p ∷ plans) m plan h s = let e : call + suc (length xs) ≡ suc call + length xs = omega arith in (h.0, show_more (suc call) xs plans m plan h.1 (subst (λ (k : ℕ). Shows ship cargo k (shown_by m) plan) e s))

  later : (call : ℕ) (xs ys : List Message) (plans : List Plan) (m : Message) (e : PlanNo) → ((c : ℕ) (zs : List Message) → IsFileFault ship cargo c m e → IsUnshown ship cargo c (m ∷ zs) e) → ((c : ℕ) (z : Message) (zs : List Message) → ((plan : Plan) × Shows ship cargo c (shown_by z) plan) → IsUnshown ship cargo (suc c) zs e → IsUnshown ship cargo c (z ∷ zs) e)
      → ShowAll ship cargo call (map shown_by xs) plans → IsFileFault ship cargo (call + length xs) m e → IsUnshown ship cargo call (xs ++ m ∷ ys) e
  later call [] ys plans m e here next h f = let z : call + 0 ≡ call = omega arith in here call ys (subst (λ (k : ℕ). IsFileFault ship cargo k m e) z f)
  later call (x ∷ xs) ys [] m e here next h f = absurd h
  later call (x ∷ xs) ys (p ∷ plans) m e here next h f = let z : call + suc (length xs) ≡ suc call + length xs = omega arith in next call x (xs ++ m ∷ ys) (p, h.0) (later (suc call) xs ys plans m e here next h.1 (subst (λ (k : ℕ). IsFileFault ship cargo k m e) z f))

  pub unshown_at : (call : ℕ) (xs ys : List Message) (plans : List Plan) (m : Message) (e : PlanNo) → ShowAll ship cargo call (map shown_by xs) plans → IsFileFault ship cargo (call + length xs) m e → IsUnshown ship cargo call (xs ++ m ∷ ys) e
  unshown_at call xs ys plans m (File at fault) h f = later call xs ys plans m (File at fault) (λ c zs k. inl k) (λ c z zs s k. inr (s, k)) h f
  unshown_at call xs ys plans m (Rule at rule) h f = absurd f
  unshown_at call xs ys plans m NoMemory h f = tt

  pub as_many : (call : ℕ) (messages : List Message) (plans : List Plan) → ShowAll ship cargo call (map shown_by messages) plans → length plans ≡ length messages
  as_many call [] [] h = refl
  as_many call [] (p ∷ plans) h = absurd h
  as_many call (m ∷ messages) [] h = absurd h
  as_many call (m ∷ messages) (p ∷ plans) h = ap suc (as_many (suc call) messages plans h.1)

  pub turned : (plans : List Plan) (f : LiftsFault) → IsLiftsFault ship cargo plans 1 f → IsRuleFault ship cargo plans (told_by f)
  turned plans (Illegal at rule) h = h
  turned plans lifting.NoMemory h = tt

  module _ (messages : List Message) (plans : List Plan) (shown : ShowAll ship cargo 1 (map shown_by messages) plans) where
    pub legal_set : length messages + 1 ≡ length cargo.rotation → (lifted : Lifted) → HasLifts ship cargo plans lifted → IsLegalFileSet ship cargo (map shown_by messages) plans
    legal_set each lifted h = record { each_call = omega (arith, each, as_many 1 messages plans shown); shown = shown; legal = h.lists.legal }

    pub refusal_of : (e : PlanNo) → IsRuleFault ship cargo plans e → IsPlanNo ship cargo messages e
    refusal_of (Rule at rule) h = record { departures = plans; shown = shown; broken = h }
    refusal_of (File at fault) h = absurd h
    refusal_of NoMemory h = tt

  module _ (rules : IsShip ship) (shipped : IsCargo cargo) where
    pub are_plans : (call : ℕ) (messages : List Message) (plans : List Plan) → ShowAll ship cargo call (map shown_by messages) plans → ArePlans ship cargo call plans
    are_plans call [] [] h = tt
    are_plans call [] (p ∷ plans) h = absurd h
    are_plans call (m ∷ messages) [] h = absurd h
    are_plans call (m ∷ messages) (p ∷ plans) h = (shown_formed ship cargo call rules shipped (shown_by m) p h.0, shown_aboard ship cargo call rules shipped (shown_by m) p h.0, are_plans (suc call) messages plans h.1)

    -- ## A legal file set is not refused

    -- a message shows one plan alone
    one_plan : (call : ℕ) (m : Message) (p q : Plan) → Shows ship cargo call (shown_by m) p → Shows ship cargo call (shown_by m) q → p ≡ q
    one_plan call m p q h k = same_Ok {E = FileNo} p q (sym (shows_told ship cargo call rules shipped m.groups p h) ∙ shows_told ship cargo call rules shipped m.groups q k)

    one_set : (call : ℕ) (messages : List Message) (ps qs : List Plan) → ShowAll ship cargo call (map shown_by messages) ps → ShowAll ship cargo call (map shown_by messages) qs → ps ≡ qs
    one_set call [] [] [] h k = refl
    one_set call [] (p ∷ ps) qs h k = absurd h
    one_set call [] [] (q ∷ qs) h k = absurd k
    one_set call (m ∷ messages) [] qs h k = absurd h
    one_set call (m ∷ messages) (p ∷ ps) [] h k = absurd k
    one_set call (m ∷ messages) (p ∷ ps) (q ∷ qs) h k = ap (λ (z : Plan). z ∷ ps) (one_plan call m p q h.0 k.0) ∙ ap (λ (zs : List Plan). q ∷ zs) (one_set (suc call) messages ps qs h.1 k.1)

    all_shown : (call at : ℕ) (fault : FileNo) (messages : List Message) (plans : List Plan) → ShowAll ship cargo call (map shown_by messages) plans → IsUnshown ship cargo call messages (File at fault) → ⊥
    all_shown call at fault [] plans h f = f
    all_shown call at fault (m ∷ messages) [] h f = h
    all_shown call at fault (m ∷ messages) (p ∷ plans) h (inl f) = err_is_no_ok fault p (sym f.1 ∙ shows_told ship cargo call rules shipped m.groups p h.0)
    all_shown call at fault (m ∷ messages) (p ∷ plans) h (inr f) = all_shown (suc call) at fault messages plans h.1 f.1

    meets : (call : ℕ) (plan : Plan) → IsDeparture ship cargo call plan → MeetsRules ship cargo plan
    meets call plan d = record { supported = d.stowed.supported; twenty = d.stowed.twenty; plugged = d.stowed.plugged; within = d.within; separated = d.separated }

    none_broken : (call at : ℕ) (rule : RuleBroken) (plans : List Plan) → AreDepartures ship cargo call plans → IsFirstIllegal ship cargo call plans at rule → ⊥
    none_broken call at rule [] d f = f
    none_broken call at rule (p ∷ plans) d (inl f) = breaks ship cargo p rule f.1.is_fault (meets call p d.0)
    none_broken call at rule (p ∷ plans) d (inr f) = none_broken (suc call) at rule plans d.1 f.1

    pub not_refused : (messages : List Message) (departures : List Plan) (e : PlanNo) → IsLegalFileSet ship cargo (map shown_by messages) departures → IsPlanNo ship cargo messages e → e ≡ NoMemory
    not_refused messages departures (File at fault) legal f = absurd (all_shown 1 at fault messages departures legal.shown f)
    not_refused messages departures (Rule at rule) legal f = absurd (none_broken 1 at rule departures legal.legal (subst (λ (ps : List Plan). IsFirstIllegal ship cargo 1 ps at rule) (one_set 1 messages f.departures departures f.shown legal.shown) f.broken))
    not_refused messages departures NoMemory legal f = refl

-- the file behind those that were read
pub split_at : (messages : List Message) (i : ℕ) (m : Message) → i < length messages → m ≡ get_or messages i m → messages ≡ take i messages ++ m ∷ drop (i + 1) messages
split_at messages i m l is = sym (take-append-drop i messages) ∙ ap (λ (zs : List Message). take i messages ++ zs) (drop_more messages i m l ∙ ap (λ (z : Message). z ∷ drop (i + 1) messages) (sym is))
