-- Where stays begin, from one call to the next.
use Rattle.std.proofs.Common.{◌≡◌, ◌↔◌, ℕ, suc, ◌<◌, ◌+◌, ◌-◌, Bool, true, cond, List, [], ◌∷◌, ◌++◌, arith, refl, sym, ◌∙◌, ap, subst, length, Option, Some, None}
use Rattle.std.specs.Prelude.{slice_get, slice_index_or, not, map, replicate, Contains, Result, Ok, Err, IfOk}
use Rattle.std.specs.List.{range_with_len}
use Rattle.std.proofs.lemmas.Option.{get_or_from_slice_get}
use Rattle.stow_data.specs.Ship.{Ship, places}
use Rattle.stow_data.specs.Shipment.{Cargo}
use Rattle.stow_data.specs.Plans.{Plan, held}
use Rattle.plan_lifts.specs.Spread.{has}
use Rattle.model_bridge.specs.Stays.{plan_after, is_left, is_lifted, began, begins, begin_table}
use Rattle.model_bridge.proofs.Tables.{given_at, given_more, same_given, always}
use Rattle.model_bridge.proofs.Sailings.{contains_is}

pub if_ok : {X E : Type 0} (P Q : X → Type 0) (r : Result X E) → ((x : X) → P x → Q x) → IfOk r P → IfOk r Q
if_ok P Q (Ok x) f h = f x h
if_ok P Q (Err e) f h = tt

left_same : (f g : ℕ → Bool) (o : Option ℕ) → ((c : ℕ) → f c ≡ g c) → is_left f o ≡ is_left g o
left_same f g None h = refl
left_same f g (Some c) h = ap not (h c)

module _ (ship : Ship) (cargo : Cargo) (plans : List Plan) (lists : List (List ℕ)) where
  -- what begins after call i + 1
  abbrev pub next_begin : Plan → List Bool → List ℕ → ℕ → ℕ → ℕ
  next_begin before flags start call p = cond (is_left (has flags) (held before p)) (slice_index_or start p 0) call

  next_at : (i : ℕ) (before : Plan) (flags : List Bool) (list start : List ℕ) → before ≡ plan_after cargo plans i → slice_get lists i ≡ Some list → ((c : ℕ) → (has flags c ≡ true) ↔ Contains list c) → start ≡ begins ship cargo plans lists i
      → (p : ℕ) → p < length (places ship) → next_begin before flags start (suc i) p ≡ began cargo plans lists (suc i) p
  next_at i before flags list start same item names begun p low =
      let list_is : slice_index_or lists i [] ≡ list = get_or_from_slice_get lists i list [] item in
      let left : is_left (has flags) (held before p) ≡ is_left (is_lifted lists i) (held (plan_after cargo plans i) p) =
      ap (λ (x : Plan). is_left (has flags) (held x p)) same
      ∙ left_same (has flags) (is_lifted lists i) (held (plan_after cargo plans i) p) (λ c. contains_is (has flags c) (slice_index_or lists i []) c (subst (λ (xs : List ℕ). (has flags c ≡ true) ↔ Contains xs c) (sym list_is) (names c))) in
      let early : slice_index_or start p 0 ≡ began cargo plans lists i p = ap (λ (xs : List ℕ). slice_index_or xs p 0) begun ∙ given_at (began cargo plans lists i) (length (places ship)) p 0 low in
      ap (λ (b : Bool). cond b (slice_index_or start p 0) (suc i)) left ∙ ap (λ (z : ℕ). cond (is_left (is_lifted lists i) (held (plan_after cargo plans i) p)) z (suc i)) early

  pub next_is : (call : ℕ) (before : Plan) (flags : List Bool) (list start : List ℕ) → 0 < call → before ≡ plan_after cargo plans (call - 1) → slice_get lists (call - 1) ≡ Some list → ((c : ℕ) → (has flags c ≡ true) ↔ Contains list c) → start ≡ begins ship cargo plans lists (call - 1)
      → map (next_begin before flags start call) (range_with_len 0 (length (places ship))) ≡ begins ship cargo plans lists call
  next_is call before flags list start first same item names begun =
      let e : suc (call - 1) ≡ call = omega arith in
      same_given (next_begin before flags start call) (began cargo plans lists call) (length (places ship)) (λ p low.
      subst (λ (z : ℕ). next_begin before flags start z p ≡ began cargo plans lists z p) e (next_at (call - 1) before flags list start same item names begun p low))

  pub table_first : (old new : List (List ℕ)) (first : List ℕ) → old ≡ [] → new ≡ old ++ first ∷ [] → first ≡ replicate (length (places ship)) 0 → new ≡ begin_table ship cargo plans lists 1
  table_first old new first none pushed zeros =
      pushed ∙ ap (λ (xs : List (List ℕ)). xs ++ first ∷ []) none ∙ ap (λ (x : List ℕ). x ∷ []) (zeros ∙ always 0 (length (places ship)))

  pub table_more : (call : ℕ) (old new : List (List ℕ)) (next : List ℕ) → old ≡ begin_table ship cargo plans lists call → new ≡ old ++ next ∷ [] → next ≡ begins ship cargo plans lists call → new ≡ begin_table ship cargo plans lists (call + 1)
  table_more call old new next before pushed is =
      pushed ∙ ap (λ (xs : List (List ℕ)). xs ++ next ∷ []) before ∙ ap (λ (x : List ℕ). begin_table ship cargo plans lists call ++ x ∷ []) is ∙ sym (given_more (begins ship cargo plans lists) call)

  pub begins_at : (n call : ℕ) (table : List (List ℕ)) (start : List ℕ) → table ≡ begin_table ship cargo plans lists n → call < n → slice_get table call ≡ Some start → start ≡ begins ship cargo plans lists call
  begins_at n call table start is low item =
      sym (get_or_from_slice_get table call start [] item) ∙ ap (λ (x : List (List ℕ)). slice_index_or x call []) is ∙ given_at (begins ship cargo plans lists) n call [] low
