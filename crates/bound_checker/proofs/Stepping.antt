-- Steps one after the other.
use Rattle.std.proofs.Common.{◌≡◌, ℕ, ◌+◌, ◌<◌, Bool, true, false, cond, List, [], ◌∷◌, ◌++◌, length, take, drop, get_or, Option, Some, None, refl, sym, ◌∙◌, ap}
use Rattle.std.specs.Option.{option_or}
use Rattle.std.proofs.lemmas.List.{take-append-drop, take_more}
use Rattle.zero_one_rows.specs.declared.program.Row.{Row}
use Rattle.proof_trees.specs.Program.{Program}
use Rattle.proof_trees.specs.Boxes.{Box, tight, tightened}
use Rattle.certificate.specs.declared.refusals.BoundNo.{BoundNo}
use Rattle.certificate.specs.declared.refusals.BoundNo.TheVariants.{StepRow}
use Rattle.bound_checker.specs.Faults.{step_fault}

module _ (p : Program Row) where
  pub tightened_append : (b : Box) (xs ys : List Row) → tightened p b (xs ++ ys) ≡ tightened p (tightened p b xs) ys
  tightened_append b [] ys = refl
  tightened_append b (x ∷ xs) ys = tightened_append (tight p b x) xs ys

  or_cond : (c : Bool) (node : ℕ) (a b : Option BoundNo) → cond c (option_or a b) (Some (StepRow node)) ≡ option_or (cond c a (Some (StepRow node))) b
  or_cond true node a b = refl
  or_cond false node a b = refl

  fault_append : (node : ℕ) (xs ys : List Row) → step_fault p node (xs ++ ys) ≡ option_or (step_fault p node xs) (step_fault p node ys)
  fault_append node [] ys = refl
  fault_append node (x ∷ xs) ys = ap (λ (o : Option BoundNo). cond (p.has x) o (Some (StepRow node))) (fault_append node xs ys) ∙ or_cond (p.has x) node (step_fault p node xs) (step_fault p node ys)

  module _ (node : ℕ) (xs : List Row) (k : ℕ) (x : Row) (lt : k < length xs) (is : x ≡ get_or xs k x) where
    upto : take (k + 1) xs ≡ take k xs ++ x ∷ []
    upto = take_more xs k x lt ∙ ap (λ (y : Row). take k xs ++ y ∷ []) (sym is)

    pub box_more : (first b c : Box) → b ≡ tightened p first (take k xs) → c ≡ tight p b x → c ≡ tightened p first (take (k + 1) xs)
    box_more first b c e h = h ∙ ap (λ (y : Box). tight p y x) e ∙ sym (tightened_append first (take k xs) (x ∷ [])) ∙ ap (tightened p first) (sym upto)

    pub none_more : step_fault p node (take k xs) ≡ None → p.has x ≡ true → step_fault p node (take (k + 1) xs) ≡ None
    none_more e has = ap (step_fault p node) upto ∙ fault_append node (take k xs) (x ∷ []) ∙ ap (λ (o : Option BoundNo). option_or o (step_fault p node (x ∷ []))) e ∙ ap (λ (c : Bool). cond c None (Some (StepRow node))) has

    pub some_here : step_fault p node (take k xs) ≡ None → p.has x ≡ false → step_fault p node xs ≡ Some (StepRow node)
    some_here e lacks =
        ap (step_fault p node) (sym (take-append-drop (k + 1) xs)) ∙ fault_append node (take (k + 1) xs) (drop (k + 1) xs)
        ∙ ap (λ (o : Option BoundNo). option_or o (step_fault p node (drop (k + 1) xs)))
        (ap (step_fault p node) upto ∙ fault_append node (take k xs) (x ∷ []) ∙ ap (λ (o : Option BoundNo). option_or o (step_fault p node (x ∷ []))) e ∙ ap (λ (c : Bool). cond c None (Some (StepRow node))) lacks)
