-- Ports that differ have marks that differ.
use Rattle.std.proofs.Common.{◌≡◌, ℕ, zero, suc, ◌+◌, ◌/◌, ◌%◌, ◌<◌, ◌≤◌, ◌==◌, Bool, true, false, cond, ◌&&◌, List, [], ◌∷◌, length, get_or, map, Option, Some, None, refl, sym, subst, ap, ◌∙◌, arith, inl, inr}
use Rattle.std.specs.Prelude.{◌≢◌, ◌⊎◌, not, find, fold, slice_index_or}
use Rattle.std.specs.List.{list_any, position_or_len, range_with_len, IsDistinct}
use Rattle.std.specs.Cmp.Lexicographic.{same_text as equal_texts}
use Rattle.std.specs.Set.{is_member}
use Rattle.std.proofs.lemmas.Cmp.{nat_list_eq_equiv}
use Rattle.std.proofs.lemmas.Bool.{eqb-true, true≢false}
use Rattle.std.proofs.lemmas.Option.{none-some, same_Some}
use Rattle.std.proofs.lemmas.List.{length-map, length_push}
use Rattle.std.proofs.lemmas.List.FromFn.{get_or-map-range_with_len}
use Rattle.std.proofs.lemmas.List.Sums.{passes_at_first}
use Rattle.std.proofs.lemmas.Map.Keys.{IsDistinct-push, IsDistinct-from_apart, apart_from_distinct}
use Rattle.std.proofs.lemmas.Map.Made.{length-le_from_is_member}
use Rattle.bay_views.specs.Ports.{same_text, is_port, number_of}
use Rattle.bay_views.specs.PortMarks.{own_pairs, spare_pair, is_free, spare_mark, spare_number, first_spare, own_mark, mark_or, mark_of, with_mark, marks_of, mark_at, no_mark, mark_for}
use Rattle.bay_views.proofs.Apart.{first_within}
use Rattle.bay_views.proofs.FramesHold.{either}

is_not : (b : Bool) → not b ≡ true → b ≡ false
is_not true e = absurd (true≢false (sym e))
is_not false e = refl

not_is : (b : Bool) → not b ≡ false → b ≡ true
not_is true e = refl
not_is false e = absurd (true≢false e)

-- what is found passes
found_passes : {X : Type 0} (p : X → Bool) (xs : List X) (x : X) → find p xs ≡ Some x → p x ≡ true
found_passes p [] x e = absurd (none-some x e)
found_passes p (y ∷ ys) x e = go (found_passes p ys x) (p y) refl e
  where
    go : (find p ys ≡ Some x → p x ≡ true) → (t : Bool) → p y ≡ t → cond t (Some y) (find p ys) ≡ Some x → p x ≡ true
    go rest true is so = subst (λ z. p z ≡ true) (same_Some y x so) is
    go rest false is so = rest so

-- where none is found, none passes
none_passes : (p : ℕ → Bool) (a n k : ℕ) → find p (range_with_len a n) ≡ None → k < n → p (a + k) ≡ false
none_passes p a zero k e lt = absurd (omega arith)
none_passes p a (suc n) k e lt = go (none_passes p (a + 1) n) (p a) refl e k lt
  where
    go : ((j : ℕ) → find p (range_with_len (a + 1) n) ≡ None → j < n → p (a + 1 + j) ≡ false) → (t : Bool) → p a ≡ t → cond t (Some a) (find p (range_with_len (a + 1) n)) ≡ None → (j : ℕ) → j < suc n → p (a + j) ≡ false
    go rest true is so j l = absurd (none-some a (sym so))
    go rest false is so zero l = let z : a + 0 ≡ a = omega arith in rw z is
    go rest false is so (suc j) l = let z : a + suc j ≡ a + 1 + j = omega arith in rw z (rest j so (omega arith))

-- ## Spare marks

abbrev spares : List (List ℕ)
spares = map spare_pair (range_with_len 0 676)

length_range : (a n : ℕ) → length (range_with_len a n) ≡ n
length_range a zero = refl
length_range a (suc n) = ap suc (length_range (a + 1) n)

spares_many : length spares ≡ 676
spares_many = length-map (range_with_len 0 676) spare_pair ∙ length_range 0 676

spare_at : (i : ℕ) (d : List ℕ) → i < 676 → get_or spares i d ≡ spare_pair i
spare_at i d lt = get_or-map-range_with_len spare_pair 0 676 i i d lt (omega arith)

pairs_differ : (i j : ℕ) → i < j → j < 676 → same_text (spare_pair i) (spare_pair j) ≡ false
pairs_differ i j lt less = go (65 + i / 26 % 26 == 65 + j / 26 % 26) (65 + i % 26 == 65 + j % 26) refl refl
  where
    go : (p q : Bool) → (65 + i / 26 % 26 == 65 + j / 26 % 26) ≡ p → (65 + i % 26 == 65 + j % 26) ≡ q → (p && (q && true)) ≡ false
    go true true e o = let x = eqb-true _ _ e in let y = eqb-true _ _ o in absurd (omega (arith, x, y))
    go true false e o = refl
    go false q e o = refl

spares_distinct : IsDistinct same_text spares
spares_distinct = IsDistinct-from_apart same_text spares (λ i j d lt less. let l : j < 676 = subst (λ n. j < n) spares_many less in rw (spare_at i d (omega (arith, l)), spare_at j d l) (pairs_differ i j lt l))

-- where fewer are taken than there are, one is free
spares_suffice : (taken : List (List ℕ)) → spare_number taken ≡ None → 676 ≤ length taken
unfolding spare_number
spares_suffice taken none = subst (λ n. n ≤ length taken) spares_many (length-le_from_is_member nat_list_eq_equiv spares taken spares_distinct each)
  where
    each : (q : List ℕ) → is_member same_text spares q ≡ true → is_member same_text taken q ≡ true
    each q is =
        let k = position_or_len (same_text q) spares in
        let lt : k < length spares = first_within (same_text q) spares is in
        let l : k < 676 = subst (λ n. k < n) spares_many lt in
        let passes : same_text q (get_or spares k []) ≡ true = passes_at_first (same_text q) spares [] lt in
        let same : q ≡ spare_pair k = equal_texts q (spare_pair k) (sym (subst (λ m. same_text q m ≡ true) (spare_at k [] l) passes)) in
        let sum : 0 + k ≡ k = omega arith in
        let fails = subst (λ m. is_free taken (spare_pair m) ≡ false) sum (none_passes (λ n. is_free taken (spare_pair n)) 0 676 k none l) in
        let taken_is = not_is (is_member same_text taken (spare_pair k)) fails in
        rw same taken_is

-- ## Each mark is free behind those before it

number_is : (taken : List (List ℕ)) (n : ℕ) → spare_number taken ≡ Some n → find (λ k. is_free taken (spare_pair k)) (range_with_len 0 676) ≡ Some n
unfolding spare_number
number_is taken n e = e

first_is : (taken : List (List ℕ)) → is_free taken (spare_mark taken (spare_number taken)) ≡ true → is_free taken (first_spare taken) ≡ true
unfolding first_spare
first_is taken e = e

mark_free : (taken : List (List ℕ)) (name : List ℕ) → length taken < 676 → is_free taken (mark_of taken name) ≡ true
unfolding mark_of own_mark
mark_free taken name less = own (own_mark taken name) refl
  where
    spare : (o : Option ℕ) → spare_number taken ≡ o → is_free taken (spare_mark taken o) ≡ true
    spare None e = let many = spares_suffice taken e in absurd (omega arith)
    spare (Some n) e = found_passes (λ k. is_free taken (spare_pair k)) (range_with_len 0 676) n (number_is taken n e)

    own : (o : Option (List ℕ)) → own_mark taken name ≡ o → is_free taken (mark_or taken o) ≡ true
    own None e = first_is taken (spare (spare_number taken) refl)
    own (Some mark) e = found_passes (is_free taken) (own_pairs name) mark e

marks_distinct : (ports taken : List (List ℕ)) → length taken + length ports ≤ 676 → IsDistinct same_text taken → IsDistinct same_text (fold with_mark taken ports)
marks_distinct [] taken le d = d
marks_distinct (port ∷ ports) taken le d =
    marks_distinct ports (with_mark taken port) (let e = length_push taken (mark_of taken port) in omega (arith, e)) (IsDistinct-push nat_list_eq_equiv taken (mark_of taken port) d (is_not (list_any (same_text (mark_of taken port)) taken) (mark_free taken port (omega arith))))

marks_many : (ports taken : List (List ℕ)) → length (fold with_mark taken ports) ≡ length taken + length ports
marks_many [] taken = omega arith
marks_many (port ∷ ports) taken = marks_many ports (with_mark taken port) ∙ (let e = length_push taken (mark_of taken port) in omega (arith, e))

-- ## Ports

port_is : (ports : List (List ℕ)) (port : List ℕ) → is_port ports port ≡ true → slice_index_or ports (number_of ports port) [] ≡ port
port_is ports port is =
    equal_texts (slice_index_or ports (number_of ports port) []) port (sym (passes_at_first (λ p. same_text p port) ports [] (first_within (λ p. same_text p port) ports is)))

none_distinct : IsDistinct same_text []
unfolding IsDistinct
none_distinct = tt

apart_at : (ports : List (List ℕ)) (i j : ℕ) → length ports ≤ 676 → i < j → j < length ports → mark_at (marks_of ports) i ≢ mark_at (marks_of ports) j
apart_at ports i j few lt less = λ same.
    let many : length (marks_of ports) ≡ length ports = marks_many ports [] ∙ omega arith in
    let l : j < length (marks_of ports) = rw many less in
    let apart = apart_from_distinct same_text (marks_of ports) i j no_mark (marks_distinct ports [] (omega arith) none_distinct) lt l in
    true≢false (sym (nat_list_eq_equiv.refl (mark_at (marks_of ports) j)) ∙ rw same at apart)

pub marks_differ : (ports : List (List ℕ)) (a b : List ℕ) → length ports ≤ 676 → is_port ports a ≡ true → is_port ports b ≡ true → a ≢ b → mark_for ports a ≢ mark_for ports b
marks_differ ports a b few p q ne = go (either (number_of ports a) (number_of ports b) (λ same. ne (sym (port_is ports a p) ∙ ap (λ k. slice_index_or ports k []) same ∙ port_is ports b q)))
  where
    go : (number_of ports a < number_of ports b) ⊎ (number_of ports b < number_of ports a) → mark_for ports a ≢ mark_for ports b
    go (inl lt) = apart_at ports (number_of ports a) (number_of ports b) few lt (first_within (λ r. same_text r b) ports q)
    go (inr lt) = λ same. apart_at ports (number_of ports b) (number_of ports a) few lt (first_within (λ r. same_text r a) ports p) (sym same)
