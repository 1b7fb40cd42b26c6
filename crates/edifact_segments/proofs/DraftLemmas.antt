-- Elements in canonical form, as components are put behind them.
use Rattle.std.proofs.Common.{◌≡◌, ℕ, suc, ◌+◌, ◌-◌, ◌<◌, ◌≤◌, List, [], ◌∷◌, ◌++◌, map, length, replicate, get_or, Option, refl, sym, ap, ◌∙◌, arith, append_assoc}
use Rattle.std.proofs.lemmas.List.{append-nil, replicate_more, length-map, map_push, get_or_push, length_push}
use Rattle.edifact_segments.specs.Pieces.{on_last}
use Rattle.edifact_segments.specs.Canonical.{in_front, trimmed, canonical}
use Rattle.edifact_segments.specs.Drafts.{padded, placed, AreKept, IsTagKept, IsTagNext}
use Rattle.edifact_segments.proofs.PieceLemmas.{on_last-push}
use Rattle.edifact_segments.proofs.CanonicalLemmas.{push_full, trimmed-push_empty, length-trimmed}

on_last-same : {A : Type 0} (f : A → A) → ((x : A) → f x ≡ x) → (xs : List A) → on_last f xs ≡ xs
on_last-same f h [] = refl
on_last-same f h (x ∷ []) = ap (λ y. y ∷ []) (h x)
on_last-same f h (x ∷ y ∷ ys) = ap (λ zs. x ∷ zs) (on_last-same f h (y ∷ ys))

on_last-on_last : {A : Type 0} (f g h : A → A) → ((x : A) → f (g x) ≡ h x) → (xs : List A) → on_last f (on_last g xs) ≡ on_last h xs
on_last-on_last f g h e [] = refl
on_last-on_last f g h e (x ∷ []) = ap (λ y. y ∷ []) (e x)
on_last-on_last f g h e (x ∷ y ∷ []) = ap (λ z. x ∷ z ∷ []) (e y)
on_last-on_last f g h e (x ∷ y ∷ z ∷ zs) = ap (λ ws. x ∷ ws) (on_last-on_last f g h e (y ∷ z ∷ zs))

pub length-on_last : {A : Type 0} (f : A → A) (xs : List A) → length (on_last f xs) ≡ length xs
length-on_last f [] = refl
length-on_last f (x ∷ []) = refl
length-on_last f (x ∷ y ∷ ys) = ap (λ n. suc n) (length-on_last f (y ∷ ys))

-- no component is added
pub pad_none : (es : List (List (List ℕ))) (n : ℕ) → es ≡ on_last (λ e. e ++ replicate (n - n) []) es
pad_none es n =
    let none : n - n ≡ 0 = omega arith in
    sym (on_last-same (λ e. e ++ replicate (n - n) []) (λ x. ap (λ k. x ++ replicate k []) none ∙ append-nil x) es)

-- one more is
pub pad_more : (es : List (List (List ℕ))) (n m : ℕ) → n ≤ m → on_last (λ e. e ++ [] ∷ []) (on_last (λ e. e ++ replicate (m - n) []) es) ≡ on_last (λ e. e ++ replicate (m + 1 - n) []) es
pad_more es n m h =
    let more : (m - n) + 1 ≡ m + 1 - n = omega arith in
    on_last-on_last (λ e. e ++ [] ∷ []) (λ e. e ++ replicate (m - n) []) (λ e. e ++ replicate (m + 1 - n) []) (λ x. append_assoc x (replicate (m - n) []) ([] ∷ []) ∙ ap (λ r. x ++ r) (replicate_more (m - n) [] ∙ ap (λ k. replicate k []) more)) es

pad_front : {A : Type 0} (x : List A) (ys : List (List A)) (n : ℕ) → length ys ≤ n → in_front x ys ++ replicate (suc n - length (in_front x ys)) [] ≡ x ∷ (ys ++ replicate (n - length ys) [])
pad_front [] [] n h =
    let all : suc n - 0 ≡ suc n = omega arith in
    let rest : n - 0 ≡ n = omega arith in
    rw (all, rest) refl
pad_front [] (y ∷ ys) n h =
    let same : suc n - suc (suc (length ys)) ≡ n - suc (length ys) = omega arith in
    ap (λ k. [] ∷ y ∷ (ys ++ replicate k [])) same
pad_front (b ∷ bs) ys n h =
    let same : suc n - suc (length ys) ≡ n - length ys = omega arith in
    ap (λ k. (b ∷ bs) ∷ (ys ++ replicate k [])) same

-- what was trimmed is padded again
pub pad-trimmed : {A : Type 0} (xs : List (List A)) → trimmed xs ++ replicate (length xs - length (trimmed xs)) [] ≡ xs
pad-trimmed [] = refl
pad-trimmed (x ∷ xs) = pad_front x (trimmed xs) (length xs) (length-trimmed xs) ∙ ap (λ zs. x ∷ zs) (pad-trimmed xs)

-- a text that is put behind canonical elements leaves them canonical
placed-canonical : (closed : List (List (List ℕ))) (now : List (List ℕ)) (text : List ℕ) (n k : ℕ) → n ≡ length closed + 1 → k ≡ length now → 0 < length text → placed (canonical (closed ++ now ∷ [])) n k text ≡ canonical (closed ++ (now ++ text ∷ []) ∷ [])
placed-canonical closed now text n k en ek some =
    let all = map trimmed (closed ++ now ∷ []) in
    let split : all ≡ map trimmed closed ++ trimmed now ∷ [] = map_push trimmed closed now in
    let count : n ≡ length all = en ∙ sym (length_push closed now) ∙ sym (length-map (closed ++ now ∷ []) trimmed) in
    let pad : padded (canonical (closed ++ now ∷ [])) n ≡ map trimmed closed ++ trimmed now ∷ [] = ap (λ m. padded (trimmed all) m) count ∙ pad-trimmed all ∙ split in
    let place : length (map trimmed closed) ≡ n - 1 = omega (arith, length-map closed (trimmed {A = ℕ}), en) in
    let last : get_or (padded (canonical (closed ++ now ∷ [])) n) (n - 1) [] ≡ trimmed now = ap (λ p. get_or p (n - 1) []) pad ∙ get_or_push (map trimmed closed) (trimmed now) [] (n - 1) place in
    let full : trimmed now ++ replicate (k - length (trimmed now)) [] ≡ now = ap (λ m. trimmed now ++ replicate (m - length (trimmed now)) []) ek ∙ pad-trimmed now in
    let open_ : 0 < length (now ++ text ∷ []) = omega (arith, length_push now text) in
    ap (λ p. on_last (λ e. e ++ text ∷ []) (on_last (λ e. e ++ replicate (k - length (get_or (padded (canonical (closed ++ now ∷ [])) n) (n - 1) [])) []) p)) pad ∙ ap (λ p. on_last (λ e. e ++ text ∷ []) (on_last (λ e. e ++ replicate (k - length p) []) (map trimmed closed ++ trimmed now ∷ []))) last ∙ ap (on_last (λ e. e ++ text ∷ [])) (on_last-push (λ e. e ++ replicate (k - length (trimmed now)) []) (map trimmed closed) (trimmed now) ∙ ap (λ p. map trimmed closed ++ p ∷ []) full) ∙ on_last-push (λ e. e ++ text ∷ []) (map trimmed closed) now ∙ sym (ap trimmed (map_push trimmed closed (now ++ text ∷ []) ∙ ap (λ p. map trimmed closed ++ p ∷ []) (push_full now text some)) ∙ push_full (map trimmed closed) (now ++ text ∷ []) open_)

-- an empty component at the end changes nothing
canonical-component : (closed : List (List (List ℕ))) (now : List (List ℕ)) → canonical (closed ++ (now ++ [] ∷ []) ∷ []) ≡ canonical (closed ++ now ∷ [])
canonical-component closed now =
    ap trimmed (map_push trimmed closed (now ++ [] ∷ []) ∙ ap (λ p. map trimmed closed ++ p ∷ []) (trimmed-push_empty now) ∙ sym (map_push trimmed closed now))

-- nor does an empty element
pub canonical-element : (closed : List (List (List ℕ))) → canonical (closed ++ [] ∷ []) ≡ canonical closed
canonical-element closed = ap trimmed (map_push trimmed closed []) ∙ trimmed-push_empty (map trimmed closed)

module _ (old new : List (List (List ℕ))) (element component : ℕ) (now : List (List ℕ)) (text : List ℕ) (kept : 0 < element → 0 < length text → new ≡ placed old element component text) (tag : element ≡ 0 → new ≡ old) (empty : length text ≡ 0 → new ≡ old) (count : component ≡ length now) where
  behind : (closed : List (List (List ℕ))) (text' : List ℕ) → text ≡ text' → element ≡ length closed + 1 → old ≡ canonical (closed ++ now ∷ []) → new ≡ canonical (closed ++ (now ++ text' ∷ []) ∷ [])
  behind closed [] e en eo = empty (ap length e) ∙ eo ∙ sym (canonical-component closed now)
  behind closed (b ∷ bs) e en eo =
      let some : 0 < length text = rw e (omega arith) in
      let some' : 0 < length (b ∷ bs) = omega arith in
      kept (omega arith) some ∙ ap (λ p. placed p element component text) eo ∙ ap (placed (canonical (closed ++ now ∷ [])) element component) e ∙ placed-canonical closed now (b ∷ bs) element component en count some'

  -- a component ends
  pub kept-component : (closed : List (List (List ℕ))) → element ≡ length closed → AreKept old closed now → AreKept new closed (now ++ text ∷ [])
  kept-component [] e k = tag e ∙ k
  kept-component (first ∷ closed) e k = behind closed text refl (omega arith) k

  -- an element ends
  pub kept-element : (closed : List (List (List ℕ))) → element ≡ length closed → AreKept old closed now → AreKept new (closed ++ (now ++ text ∷ []) ∷ []) []
  kept-element [] e k = tag e ∙ k
  kept-element (first ∷ closed) e k = behind closed text refl (omega arith) k ∙ sym (canonical-element (closed ++ (now ++ text ∷ []) ∷ []))

pub kept-tag : (tag : Option (List ℕ)) (closed : List (List (List ℕ))) (now : List (List ℕ)) → IsTagNext tag closed now → IsTagKept tag (closed ++ now ∷ [])
kept-tag tag [] now h = h
kept-tag tag (first ∷ closed) now h = h
