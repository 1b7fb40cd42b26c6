-- Boxes that wait, where some let go of the costs that they wait with.
use Rattle.std.proofs.Common.{◌≡◌, ℕ, zero, suc, ◌<◌, ◌⊎◌, inl, inr, List, [], ◌∷◌, ◌++◌, Option, Some, None, length, take, get_or, slice_set, All, arith, refl, sym, ◌∙◌, ap, subst}
use Rattle.std.specs.Prelude.{IfSome, reverse}
use Rattle.std.specs.Option.{option_map}
use Rattle.std.proofs.lemmas.List.{reverse-append, reverse-reverse}
use Rattle.std.proofs.lemmas.List.Elements.{All-append, All-cons, All-nil}
use Rattle.proof_trees.specs.Boxes.{Box}
use Rattle.proof_trees.specs.Multipliers.{Multipliers, amount_of}
use Rattle.proof_trees.specs.Trees.{Pending}
use Rattle.partial_plan.specs.Fixing.{released}
use Rattle.zero_one_rows.specs.declared.program.Row.{Row}
use Rattle.zero_one_rows.specs.Variables.{Voyage}
use Rattle.certificate.specs.Entries.{same_row}
use Rattle.bound_checker.specs.declared.prices.Change.{Change}
use Rattle.bound_checker.specs.declared.walk.Frame.{Frame}
use Rattle.bound_checker.specs.declared.walk.Walk.{Walk}
use Rattle.bound_checker.specs.declared.sums.Aside.{Aside}
use Rattle.bound_checker.specs.Sums.{Carries, IsAside, IsAsideSome}
use Rattle.bound_checker.specs.Waits.{in_hand, Waits, AllWait, without_costs, bare, AreBarer}
use Rattle.bound_checker.specs.Walks.{StandsWith}
use Rattle.bound_checker.proofs.Look.{if_some_other}

-- ## Lists of frames

bare_twice : (f : Frame) → bare (bare f) ≡ bare f
bare_twice f = by f.aside
  where
    by : (o : Option Aside) → bare (bare (record { var = f.var; mark = f.mark; changes = f.changes; aside = o })) ≡ bare (record { var = f.var; mark = f.mark; changes = f.changes; aside = o })
    by None = refl
    by (Some a) = refl

pub barer_same : (fs : List Frame) → AreBarer fs fs
barer_same [] = tt
barer_same (f ∷ fs) = (inl refl, barer_same fs)

barer_one : (f g : Frame) → (g ≡ f) ⊎ (g ≡ bare f) → bare g ≡ bare f
barer_one f g (inl e) = ap bare e
barer_one f g (inr e) = ap bare e ∙ bare_twice f

-- one more frame is bare
pub barer_more : (fs gs : List Frame) (k : ℕ) (x g : Frame) → k < length gs → x ≡ get_or gs k x → g ≡ bare x → AreBarer fs gs → AreBarer fs (slice_set gs k g)
barer_more [] [] k x g lt is e h = absurd (omega arith)
barer_more [] (y ∷ gs) k x g lt is e h = absurd h
barer_more (f ∷ fs) [] k x g lt is e h = absurd h
barer_more (f ∷ fs) (y ∷ gs) zero x g lt is e h = (inr (e ∙ ap bare is ∙ barer_one f y h.0), h.1)
barer_more (f ∷ fs) (y ∷ gs) (suc k) x g lt is e h = (h.0, barer_more fs gs k x g (omega arith) is e h.1)

barer_append : (fs gs fs' gs' : List Frame) → AreBarer fs gs → AreBarer fs' gs' → AreBarer (fs ++ fs') (gs ++ gs')
barer_append [] [] fs' gs' h k = k
barer_append [] (g ∷ gs) fs' gs' h k = absurd h
barer_append (f ∷ fs) [] fs' gs' h k = absurd h
barer_append (f ∷ fs) (g ∷ gs) fs' gs' h k = (h.0, barer_append fs gs fs' gs' h.1 k)

barer_reverse : (fs gs : List Frame) → AreBarer fs gs → AreBarer (reverse fs) (reverse gs)
barer_reverse [] [] h = tt
barer_reverse [] (g ∷ gs) h = absurd h
barer_reverse (f ∷ fs) [] h = absurd h
barer_reverse (f ∷ fs) (g ∷ gs) h =
    subst (λ (xs : List Frame). AreBarer xs (reverse (g ∷ gs))) (sym (reverse-append (f ∷ []) fs))
    (subst (λ (xs : List Frame). AreBarer (reverse fs ++ f ∷ []) xs) (sym (reverse-append (g ∷ []) gs)) (barer_append (reverse fs) (reverse gs) (f ∷ []) (g ∷ []) (barer_reverse fs gs h.1) (h.0, tt)))

all_reversed : {X : Type 0} (P : X → Type 0) (xs : List X) → All P xs → All P (reverse xs)
all_reversed P [] h = h
all_reversed P (x ∷ xs) h =
    subst (All P) (sym (reverse-append (x ∷ []) xs)) (All-append P (reverse xs) (x ∷ []) (all_reversed P xs (λ i d lt. h (suc i) d (omega arith))) (All-cons P x [] (h zero x (omega arith)) (All-nil P)))

-- ## Boxes that wait

in_hand_bare : (o : Option Aside) (ms : Multipliers Row) → in_hand (option_map without_costs o) ms ≡ in_hand o ms
in_hand_bare None ms = refl
in_hand_bare (Some a) ms = refl

aside_bare : (m : Voyage) (b : Box) (ms : Multipliers Row) (o : Option Aside) → IfSome o (IsAside m b ms) → IfSome (option_map without_costs o) (IsAside m b ms)
aside_bare m b ms None h = tt
aside_bare m b ms (Some a) h = record { amounts = h.amounts; priced = tt }

module _ (m : Voyage) where
  waits_bare : (b : Box) (undo : List ℕ) (ms : Multipliers Row) (k : List Change) (f : Frame) (q : Pending Row) → Waits m b undo ms k f q → Waits m b undo ms k (bare f) q
  waits_bare b undo ms k f q h = record {
    mark = h.mark;
    changes = h.changes;
    inside = h.inside;
    free = h.free;
    box = h.box;
    amounts = λ r. h.amounts r ∙ ap (λ (ns : Multipliers Row). amount_of same_row ns r) (sym (in_hand_bare f.aside q.multipliers));
    aside = aside_bare m (released b undo f.mark) q.multipliers f.aside h.aside;
    small = h.small;
  }

  wait_barer : (b : Box) (undo : List ℕ) (ms : Multipliers Row) (k : List Change) (fs gs : List Frame) (qs : List (Pending Row)) → AreBarer fs gs → AllWait m b undo ms k fs qs → AllWait m b undo ms k gs qs
  wait_barer b undo ms k [] [] qs h w = w
  wait_barer b undo ms k [] (g ∷ gs) qs h w = absurd h
  wait_barer b undo ms k (f ∷ fs) [] qs h w = absurd h
  wait_barer b undo ms k (f ∷ fs) (g ∷ gs) [] h w = absurd w
  wait_barer b undo ms k (f ∷ fs) (g ∷ gs) (q ∷ qs) (inl e, h) w =
      subst (λ (x : Frame). AllWait m b undo ms k (x ∷ gs) (q ∷ qs)) (sym e) (w.0, wait_barer (released b undo f.mark) (take f.mark undo) q.multipliers (take f.changes k) fs gs qs h w.1)
  wait_barer b undo ms k (f ∷ fs) (g ∷ gs) (q ∷ qs) (inr e, h) w =
      subst (λ (x : Frame). AllWait m b undo ms k (x ∷ gs) (q ∷ qs)) (sym e) (waits_bare b undo ms k f q w.0, wait_barer (released b undo f.mark) (take f.mark undo) q.multipliers (take f.changes k) fs gs qs h w.1)

  -- what is aside is of some box
  aside_of : (b : Box) (undo : List ℕ) (ms : Multipliers Row) (k : List Change) (fs : List Frame) (qs : List (Pending Row)) → AllWait m b undo ms k fs qs → All (λ f. IfSome f.aside (IsAsideSome m)) fs
  aside_of b undo ms k [] qs w = All-nil (λ f. IfSome f.aside (IsAsideSome m))
  aside_of b undo ms k (f ∷ fs) [] w = absurd w
  aside_of b undo ms k (f ∷ fs) (q ∷ qs) w = All-cons (λ f. IfSome f.aside (IsAsideSome m)) f fs (if_some_other _ _ (λ a h. (released b undo f.mark, q.multipliers, h)) f.aside w.0.aside)
      (aside_of (released b undo f.mark) (take f.mark undo) q.multipliers (take f.changes k) fs qs w.1)

  pub all_aside : (w : Walk) (fs : List Frame) (f : Frame) (q : Pending Row) (qs : List (Pending Row)) → StandsWith m w (fs ++ f ∷ []) q qs → All (λ f. IfSome f.aside (IsAsideSome m)) fs
  all_aside w fs f q qs stands =
      let P : Frame → Type 0 = λ f. IfSome f.aside (IsAsideSome m) in
      let h : All P (f ∷ reverse fs) = subst (All P) (reverse-append fs (f ∷ [])) (aside_of w.b w.undo q.multipliers w.prices.changes.items (reverse (fs ++ f ∷ [])) qs stands.waits) in
      subst (All P) (reverse-reverse fs) (all_reversed P (reverse fs) (λ i d lt. h (suc i) d (omega arith)))

  -- some boxes let go of their costs, and there are more to begin with
  pub stands_barer : (w v : Walk) (fs gs : List Frame) (f : Frame) (q : Pending Row) (qs : List (Pending Row)) → AreBarer fs gs → StandsWith m w (fs ++ f ∷ []) q qs
      → v.b ≡ w.b → v.undo ≡ w.undo → v.priced ≡ w.priced → v.prices.changes ≡ w.prices.changes → v.done ≡ w.done → Carries m w.b q.multipliers v.prices.sums → StandsWith m v (gs ++ f ∷ []) q qs
  stands_barer w v fs gs f q qs barer stands box undo priced changes done carries = record {
    in_hand = done ∙ stands.in_hand;
    box = stands.box ∙ sym box;
    len = ap (λ (x : Box). length x) box ∙ stands.len;
    inside = rw (box, undo) stands.inside;
    priced = priced ∙ stands.priced ∙ sym box;
    carries = rw box carries;
    sound = rw changes stands.sound;
    waits = rw (box, undo, changes) (wait_barer w.b w.undo q.multipliers w.prices.changes.items (reverse (fs ++ f ∷ [])) (reverse (gs ++ f ∷ [])) qs
        (barer_reverse (fs ++ f ∷ []) (gs ++ f ∷ []) (barer_append fs gs (f ∷ []) (f ∷ []) barer (inl refl, tt))) stands.waits);
  }
