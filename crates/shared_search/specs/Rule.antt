-- The rule of a board: what its three words and the views of its seats meet at every moment, and what each kind of step does to a view.
use Rattle.std.specs.Prelude.{◌≡◌, ℕ, ◌+◌, ◌-◌, ◌≤◌, ◌^◌, ◌⊎◌, ◌≢◌, ◌==◌, min, nat_lt, if◌then◌else◌, List, [], ◌∷◌, ◌++◌, length}
use mathlib.Core.Option.{some}
use lib.ListN.{get_elem?}
use Rattle.atomic_table.specs.Table.{State, Me, Step}
use Rattle.shared_search.specs.declared.view.Role.{Role}
use Rattle.shared_search.specs.declared.view.Role.TheVariants.{Owner, Worker, Spent}
use Rattle.shared_search.specs.declared.view.View.{View}

-- the greatest number of a word: as a view's offer it says that nothing was offered
abbrev pub none_yet : ℕ
none_yet = 18446744073709551615

-- the owner's view of a new board
abbrev pub fresh : ℕ → ℕ → View
fresh start budget = record { role = Owner; offered = none_yet; seen = start; found = start; tickets = []; over = 0; start = start; budget = budget; made = 0; taken = 0 }

-- after a load of the best value
abbrev pub seen_at : View → ℕ → View
seen_at v found = record v { seen = found; found = found }

-- after an offer of a cost that found a best value
abbrev pub offered_at : View → ℕ → ℕ → View
offered_at v cost found = record v { offered = min v.offered cost; seen = min found cost; found = found }

-- after a draw of a ticket below the budget, of one that isn't, and of any
abbrev pub with_ticket : View → ℕ → View
with_ticket v ticket = record v { tickets = v.tickets ++ ticket ∷ [] }

abbrev pub one_over : View → View
one_over v = record v { over = v.over + 1 }

abbrev pub drawn_at : View → ℕ → View
drawn_at v ticket = record v {
  tickets = if nat_lt ticket v.budget then v.tickets ++ ticket ∷ [] else v.tickets;
  over = if nat_lt ticket v.budget then v.over else v.over + 1;
}

-- the owner's view after it made a seat, and that seat's
abbrev pub after_split : View → View
after_split v = record v { made = v.made + 1 }

abbrev pub new_seat : View → View
new_seat v = record v { role = Worker; offered = none_yet; found = v.seen; tickets = []; over = 0; made = 0; taken = 0 }

-- the owner's view after it took in a seat, and that seat's
abbrev pub joined : View → View → View
joined v w = record v {
  offered = min v.offered w.offered;
  seen = min v.seen w.seen;
  tickets = v.tickets ++ w.tickets;
  over = v.over + w.over;
  taken = v.taken + 1;
}

abbrev pub spent : View
spent = record { role = Spent; offered = none_yet; seen = none_yet; found = none_yet; tickets = []; over = 0; start = 0; budget = 0; made = 0; taken = 0 }

-- what a load of the best value, an offer, a draw and a load of the budget tell
abbrev pub Loaded : Step ℕ → Me ℕ View → ℕ → Me ℕ View → Type 0
Loaded st me found me' = (me' ≡ (seen_at me.0 found, me.1)) × (found ≤ me.0.seen) × (found ≤ me.0.offered) × (found ≤ me.0.start)

abbrev pub Offered : Step ℕ → Me ℕ View → ℕ → Me ℕ View → Type 0
Offered st me found me' = (me' ≡ (offered_at me.0 st.first found, me.1)) × (found ≤ me.0.seen) × (found ≤ me.0.offered) × (found ≤ me.0.start)

abbrev pub Drawn : Step ℕ → Me ℕ View → ℕ → Me ℕ View → Type 0
Drawn st me ticket me' = me' ≡ (drawn_at me.0 ticket, me.1)

abbrev pub BudgetRead : Step ℕ → Me ℕ View → ℕ → Me ℕ View → Type 0
BudgetRead st me found me' = (me' ≡ me) × (found ≡ me.0.budget)

-- the sum over all views
abbrev pub total : (View → ℕ) → List View → ℕ
total f [] = 0
total f (v ∷ vs) = f v + total f vs

-- 1 for an owner's view, and for a spent one
abbrev pub is_owner : Role → ℕ
is_owner Owner = 1
is_owner Worker = 0
is_owner Spent = 0

abbrev pub is_spent : Role → ℕ
is_spent Owner = 0
is_spent Worker = 0
is_spent Spent = 1

abbrev pub owners : List View → ℕ
owners = total (λ v. is_owner v.role)

abbrev pub spent_views : List View → ℕ
spent_views = total (λ v. is_spent v.role)

-- how often x stands in a list
abbrev pub times : ℕ → List ℕ → ℕ
times x [] = 0
times x (y ∷ ys) = (if y == x then 1 else 0) + times x ys

-- how often x stands among the numbers below n
abbrev pub once_below : ℕ → ℕ → ℕ
once_below x n = if nat_lt x n then 1 else 0

-- what a view that isn't spent knows
pub record Knows (start budget : ℕ) (v : View) : Type 0 where
  pub most : v.seen ≤ start
  pub start_is : v.start ≡ start
  pub budget_is : v.budget ≡ budget

-- a worker's view has at most one ticket over, and made and took in no seat
pub record Serves (v : View) : Type 0 where
  pub over : v.over ≤ 1
  pub made : v.made ≡ 0
  pub taken : v.taken ≡ 0

-- the owner made the other seats and took in the spent ones
pub record Owns (seats spent_seats : ℕ) (v : View) : Type 0 where
  pub made : v.made + 1 ≡ seats
  pub taken : v.taken ≡ spent_seats
  pub over : v.over ≤ v.taken

pub record Fits (start budget best : ℕ) (v : View) : Type 0 where
  pub offered : best ≤ v.offered
  pub seen : best ≤ v.seen
  pub knows : v.role ≢ Spent → Knows start budget v
  pub serves : v.role ≡ Worker → Serves v
  pub idle : v.role ≡ Spent → v ≡ spent

-- The key is the start and the budget, the words are the best value, the number of tickets drawn and the budget.
pub record BoardKept (key : ℕ × ℕ) (s : State ℕ View) : Type 0 where
  pub best : ℕ
  pub drawn : ℕ
  pub words : s.words ≡ best ∷ drawn ∷ key.1 ∷ []
  -- the best value is at most the start and at most what each view saw and offered
  pub low : best ≤ key.0
  pub start : key.0 ≤ none_yet
  pub views : (seat : ℕ) (v : View) → get_elem? s.views seat ≡ some v → Fits key.0 key.1 best v
  -- it is the start, or some view offered it
  pub from : (best ≡ key.0) ⊎ ((seat : ℕ) × (v : View) × (get_elem? s.views seat ≡ some v) × (v.offered ≡ best))
  -- all views' tickets together are the numbers below the lesser of drawn and budget, each once, and the rest is over
  pub once : (x : ℕ) → total (λ v. times x v.tickets) s.views ≡ once_below x (min drawn key.1)
  pub count : total (λ v. length v.tickets) s.views ≡ min drawn key.1
  pub overs : total (λ v. v.over) s.views ≡ drawn - key.1
  -- one view is the owner's
  pub one : owners s.views ≡ 1
  pub owner : (seat : ℕ) (v : View) → get_elem? s.views seat ≡ some v → v.role ≡ Owner → Owns (length s.views) (spent_views s.views) v
  pub few : length s.views ≤ 65537
  pub short : key.1 ≤ 2 ^ 32
