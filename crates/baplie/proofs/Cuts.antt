-- How the body of a message is cut into its head and its groups.
use Rattle.std.proofs.Common.{◌≡◌, ℕ, suc, ◌+◌, ◌-◌, ◌≤◌, ◌<◌, arith, refl, sym, ap, subst, cond, not, Bool, true, false, List, [], ◌∷◌, ◌++◌, length, take, drop, map, Some, None, ◌∙◌, append_assoc, length-drop, length-take}
use Rattle.std.proofs.lemmas.List.{append-nil, drop_all, drop-drop}
use Rattle.std.specs.List.{position_or_len}
use Rattle.std.specs.Option.{option_or}
use Rattle.edifact_segments.specs.declared.segments.Segment.{Segment}
use Rattle.baplie.specs.declared.causes.Cause.{Cause}
use Rattle.baplie.specs.declared.parts.CellGroup.{CellGroup}
use Rattle.baplie.specs.Segments.{opens}
use Rattle.baplie.specs.Groups.{cell_group}
use Rattle.baplie.specs.Faults.{head, groups}
use Rattle.baplie.specs.Finding.{scan, group_cause, groups_fault}

pub length-head : (xs : List Segment) → length (head xs) ≡ position_or_len opens xs
length-head [] = refl
length-head (x ∷ xs) = go (opens x) (length-head xs)
  where
    go : (t : Bool) → length (head xs) ≡ position_or_len opens xs → length (cond t [] (x ∷ head xs)) ≡ cond (not t) (1 + position_or_len opens xs) 0
    go true h = refl
    go false h = omega (arith, h)

pub head-within : (xs : List Segment) → length (head xs) ≤ length xs
head-within [] = omega arith
head-within (x ∷ xs) = go (opens x) (head-within xs)
  where
    go : (t : Bool) → length (head xs) ≤ length xs → length (cond t [] (x ∷ head xs)) ≤ suc (length xs)
    go true h = omega arith
    go false h = omega (arith, h)

pub take-head : (xs : List Segment) → take (length (head xs)) xs ≡ head xs
take-head [] = refl
take-head (x ∷ xs) = go (opens x) (take-head xs)
  where
    go : (t : Bool) → take (length (head xs)) xs ≡ head xs → take (length (cond t [] (x ∷ head xs))) (x ∷ xs) ≡ cond t [] (x ∷ head xs)
    go true h = refl
    go false h = ap (λ y. x ∷ y) h

pub head-drop : (xs : List Segment) → head (drop (length (head xs)) xs) ≡ []
head-drop [] = refl
head-drop (x ∷ xs) = go (opens x) refl (head-drop xs)
  where
    go : (t : Bool) → opens x ≡ t → head (drop (length (head xs)) xs) ≡ [] → head (drop (length (cond t [] (x ∷ head xs))) (x ∷ xs)) ≡ []
    go true e h = rw e refl
    go false e h = h

pub groups-drop : (xs : List Segment) → groups (drop (length (head xs)) xs) ≡ groups xs
groups-drop [] = refl
groups-drop (x ∷ xs) = go (opens x) refl (groups-drop xs)
  where
    go : (t : Bool) → opens x ≡ t → groups (drop (length (head xs)) xs) ≡ groups xs → groups (drop (length (cond t [] (x ∷ head xs))) (x ∷ xs)) ≡ cond t ((x ∷ head xs) ∷ groups xs) (groups xs)
    go true e h = rw e refl
    go false e h = h

-- what begins with a group: the group, and what is behind it
pub record IsCut (xs : List Segment) (n : ℕ) : Type 0 where
  pub groups : groups xs ≡ take n xs ∷ groups (drop n xs)
  pub opened : head (drop n xs) ≡ []

cut-front : (x : Segment) (xs : List Segment) → head (x ∷ xs) ≡ [] → IsCut (x ∷ xs) (suc (length (head xs)))
cut-front x xs h = go (opens x) refl h
  where
    go : (t : Bool) → opens x ≡ t → cond t [] (x ∷ head xs) ≡ [] → IsCut (x ∷ xs) (suc (length (head xs)))
    go true e k = record {
      groups = rw e (ap (λ y. (x ∷ y) ∷ groups xs) (sym (take-head xs)) ∙ ap (λ y. (x ∷ take (length (head xs)) xs) ∷ y) (sym (groups-drop xs)));
      opened = head-drop xs;
    }
    go false e k = absurd (cc)

cut : (xs : List Segment) (n : ℕ) → 0 < length xs → head xs ≡ [] → n ≡ 1 + position_or_len opens (drop 1 xs) → IsCut xs n
cut [] n w h e = absurd (omega (arith, w))
cut (x ∷ xs) n w h e =
    let Q : ℕ → Type 0 = λ k. IsCut (x ∷ xs) k in
    let same : suc (length (head xs)) ≡ n = omega (arith, e, length-head xs) in
    subst Q same (cut-front x xs h)

pub drop-more : (n k : ℕ) (xs : List Segment) → drop (n + k) xs ≡ drop k (drop n xs)
drop-more n k xs = sym (drop-drop k n xs)

-- a cut at a place of the body
pub cut-at : (body : List Segment) (at next : ℕ) → at < length body → head (drop at body) ≡ [] → next ≡ (at + 1) + position_or_len opens (drop (at + 1) body)
    → (groups (drop at body) ≡ take (next - at) (drop at body) ∷ groups (drop next body)) × (head (drop next body) ≡ [])
cut-at body at next w h e =
    let long : 0 < length (drop at body) = omega (arith, length-drop at body) in
    let P : List Segment → Type 0 = λ y. next ≡ (at + 1) + position_or_len opens y in
    let e' : next ≡ (at + 1) + position_or_len opens (drop 1 (drop at body)) = subst P (drop-more at 1 body) e in
    let c = cut (drop at body) (next - at) long h (omega (arith, e')) in
    let n : at + (next - at) ≡ next = omega (arith, e') in
    let Q : List Segment → Type 0 = λ y. (groups (drop at body) ≡ take (next - at) (drop at body) ∷ groups y) × (head y ≡ []) in
    let whole : drop (next - at) (drop at body) ≡ drop next body = sym (drop-more at (next - at) body) ∙ ap (λ k. drop k body) n in
    subst Q whole (c.groups, c.opened)

-- ## The faults of the groups

-- the fault of the first group is that of all
pub fault-first : (n : ℕ) (g : List Segment) (gs : List (List Segment)) (x : ℕ × Cause) → scan (group_cause g) n [] g ≡ Some x → groups_fault n (g ∷ gs) ≡ Some x
fault-first n g gs x e = ap (λ r. option_or r (groups_fault (n + length g) gs)) e

pub fault-later : (n : ℕ) (g : List Segment) (gs : List (List Segment)) → scan (group_cause g) n [] g ≡ None → groups_fault n (g ∷ gs) ≡ groups_fault (n + length g) gs
fault-later n g gs e = ap (λ r. option_or r (groups_fault (n + length g) gs)) e

-- what the reader of the groups knows at a place
pub record Knows (body : List Segment) (first at : ℕ) (list : List CellGroup) : Type 0 where
  pub within : at ≤ length body
  pub opened : head (drop at body) ≡ []
  pub read : list ++ map cell_group (groups (drop at body)) ≡ map cell_group (groups body)
  pub faults : groups_fault (3 + at) (groups (drop at body)) ≡ groups_fault (3 + first) (groups body)

pub knows-first : (body : List Segment) (first : ℕ) → first ≡ length (head body) → first ≤ length body → Knows body first first []
knows-first body first e w =
    let whole : groups (drop first body) ≡ groups body = rw e (groups-drop body) in
    record {
      within = w;
      opened = rw e (head-drop body);
      read = ap (λ gs. map cell_group gs) whole;
      faults = ap (λ gs. groups_fault (3 + first) gs) whole;
    }

pub knows-next : (body : List Segment) (first at next : ℕ) (list longer : List CellGroup) (group : List Segment) → Knows body first at list → at < length body → next ≡ (at + 1) + position_or_len opens (drop (at + 1) body) → next ≤ length body
    → group ≡ take (next - at) (drop at body) → scan (group_cause group) (3 + at) [] group ≡ None → longer ≡ list ++ cell_group group ∷ [] → Knows body first next longer
knows-next body first at next list longer group k w e v g none pushed =
    let c = cut-at body at next w k.opened e in
    let parts : groups (drop at body) ≡ group ∷ groups (drop next body) = rw g c.0 in
    let size : length group ≡ next - at = ap length g ∙ length-part body at next v in
    let place : (3 + at) + length group ≡ 3 + next = omega (arith, size, e) in
    record {
      within = v;
      opened = c.1;
      read = ap (λ l. l ++ map cell_group (groups (drop next body))) pushed ∙ append_assoc list (cell_group group ∷ []) (map cell_group (groups (drop next body))) ∙ ap (λ gs. list ++ map cell_group gs) (sym parts) ∙ k.read;
      faults = ap (λ n. groups_fault n (groups (drop next body))) (sym place) ∙ sym (fault-later (3 + at) group (groups (drop next body)) none) ∙ ap (λ gs. groups_fault (3 + at) gs) (sym parts) ∙ k.faults;
    }
  where
    length-part : (ys : List Segment) (n m : ℕ) → m ≤ length ys → length (take (m - n) (drop n ys)) ≡ m - n
    length-part ys n m h = grind (arith, length-take {A = Segment}, length-drop {A = Segment})

pub fault-at : (body : List Segment) (first at next : ℕ) (list : List CellGroup) (group : List Segment) (x : ℕ × Cause) → Knows body first at list → at < length body → next ≡ (at + 1) + position_or_len opens (drop (at + 1) body)
    → group ≡ take (next - at) (drop at body) → scan (group_cause group) (3 + at) [] group ≡ Some x → groups_fault (3 + first) (groups body) ≡ Some x
fault-at body first at next list group x k w e g some =
    let c = cut-at body at next w k.opened e in
    let parts : groups (drop at body) ≡ group ∷ groups (drop next body) = rw g c.0 in
    sym k.faults ∙ ap (λ gs. groups_fault (3 + at) gs) parts ∙ fault-first (3 + at) group (groups (drop next body)) x some

pub knows-all : (body : List Segment) (first at : ℕ) (list : List CellGroup) → Knows body first at list → length body ≤ at → (list ≡ map cell_group (groups body)) × (groups_fault (3 + first) (groups body) ≡ None)
knows-all body first at list k w =
    let none : drop at body ≡ [] = drop_all at body w in
    (sym (append-nil list) ∙ ap (λ ys. list ++ map cell_group (groups ys)) (sym none) ∙ k.read, sym k.faults ∙ ap (λ ys. groups_fault (3 + at) (groups ys)) none)
