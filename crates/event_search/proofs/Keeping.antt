-- What each event keeps of a search.
use Rattle.std.proofs.Common.{◌≡◌, inl, inr, ℕ, zero, suc, ◌+◌, ◌<◌, ◌≤◌, List, [], length, sym, ap, subst, ◌∙◌, arith}
use Rattle.zero_one_rows.specs.declared.program.Row.{Row}
use Rattle.zero_one_rows.specs.Variables.{Voyage}
use Rattle.zero_one_rows.specs.Rows.{whole, CrossingRowsHold}
use Rattle.zero_one_rows.specs.Counted.{base_rows}
use Rattle.certificate.specs.declared.tree.Record.{Record}
use Rattle.certificate.specs.Entries.{same_row, entry_of}
use Rattle.search_core.specs.Machine.{State, StateOver, Event, Push, Pop, Steal, Load, Draw, begin, begin_with, Accepts, ObeysRule, Pushes, Pops, Steals, Loads, Draws, lesser}
use Rattle.search_core.proofs.Rule.{keeps_begin, keeps_event}
use Rattle.search_core.proofs.FullBoxes.{offers_solve}
use Rattle.search_core.specs.declared.node_keys.NodeKey.{NodeKey}
use Rattle.search_core.specs.declared.node_keys.NodeKey.TheVariants.{Root}
use Rattle.search_core.specs.declared.records.Done.{Done}
use Rattle.search_core.specs.Rooms.{EndsHand, HalvesHand}
use Rattle.search_core.specs.Told.{KeysStand, NameEarlier}
use Rattle.search_core.proofs.Standing
use Rattle.search_core.proofs.Named
use Rattle.search_core.proofs.Earlier
use Rattle.search_core.proofs.Grown.{length_end}
use Rattle.event_search.specs.Cores.{state_at, IsCore}
use Rattle.event_search.proofs.Premises.{base_solves, no_cost_negative}

abbrev Keys : Type 0
Keys = StateOver NodeKey (Done Record)

-- ## Which events end no node

module _ (c d : Keys) (i : ℕ) where
  ended_push : Pushes c i d → c.ended ≡ d.ended
  ended_push (lt, (n, rest, made, is)) = ap (λ (s : Keys). s.ended) (sym is)

  ended_pop : Pops c i d → c.ended ≡ d.ended
  ended_pop (lt, free, (n, rest, deque, is)) = ap (λ (s : Keys). s.ended) (sym is)

  ended_steal : (victim : ℕ) → Steals c i victim d → c.ended ≡ d.ended
  ended_steal victim (lt, vlt, free, (n, rest, deque, is)) = ap (λ (s : Keys). s.ended) (sym is)

  ended_load : Loads c i d → c.ended ≡ d.ended
  ended_load (lt, is) = ap (λ (s : Keys). s.ended) (sym is)

  ended_draw : Draws c i d → c.ended ≡ d.ended
  ended_draw (lt, (n, hand, ticket, inl (less, is))) = ap (λ (s : Keys). s.ended) (sym is)
  ended_draw (lt, (n, hand, ticket, inr (most, is))) = ap (λ (s : Keys). s.ended) (sym is)

  ended_ends : (done : Done Record) → EndsHand c i done.node done d → length c.ended + 1 ≡ length d.ended
  ended_ends done (lt, hand, is) = subst (λ (s : Keys). length c.ended + 1 ≡ length s.ended) (sym is) (sym (length_end c.ended done))

  ended_halves : (done : Done Record) → HalvesHand c i done.node done d → length c.ended + 1 ≡ length d.ended
  ended_halves done (lt, hand, is) = subst (λ (s : Keys). length c.ended + 1 ≡ length s.ended) (sym is) (sym (length_end c.ended done))

module _ (m : Voyage) where
  abbrev Takes : Keys → Event Row → Keys → Type 0
  Takes c event d = Accepts same_row (whole m) (base_rows m) (state_at m c) event (state_at m d)

  rule_kept : (c d : Keys) (event : Event Row) → CrossingRowsHold m → ObeysRule same_row (whole m) (state_at m c) → Takes c event d → ObeysRule same_row (whole m) (state_at m d)
  rule_kept c d event crossing rule takes =
      keeps_event same_row (whole m) (base_rows m) (state_at m c) (state_at m d) event (offers_solve same_row (whole m) (base_rows m) (base_solves m crossing) (no_cost_negative m)) rule takes

  -- room is kept where less is taken, or more is had
  pub roomier : (places more : ℕ) (c : Keys) (spare rest : ℕ) → IsCore m places c spare → length c.ended + rest ≤ more → IsCore m more c rest
  roomier places more c spare rest h fits = record { keys = h.keys; earlier = h.earlier; fits = fits; crossing = h.crossing; rule = h.rule }

  module _ (places : ℕ) (c d : Keys) (spare rest : ℕ) (h : IsCore m places c spare) where
    same_ended : (event : Event Row) → rest ≤ spare → c.ended ≡ d.ended → Takes c event d → KeysStand d → IsCore m places d rest
    same_ended event less e takes stand =
        let len : length c.ended ≡ length d.ended = ap (λ (xs : List (Done Record)). length xs) e in
        record {
          keys = stand;
          earlier = subst (λ (xs : List (Done Record)). NameEarlier xs) e h.earlier;
          fits = omega (arith, len, less, h.fits);
          crossing = h.crossing;
          rule = rule_kept c d event h.crossing h.rule takes;
        }

    pub push : (i : ℕ) → rest ≤ spare → Pushes c i d → IsCore m places d rest
    push i less e = same_ended (Push i) less (ended_push c d i e) (Standing.pushes (entry_of m) c d i e) (Named.pushes c d i h.keys e)

    pub pop : (i : ℕ) → rest ≤ spare → Pops c i d → IsCore m places d rest
    pop i less e = same_ended (Pop i) less (ended_pop c d i e) (Standing.pops (entry_of m) c d i e) (Named.pops c d i h.keys e)

    pub steal : (i victim : ℕ) → rest ≤ spare → Steals c i victim d → IsCore m places d rest
    steal i victim less e = same_ended (Steal i victim) less (ended_steal c d i victim e) (Standing.steals (entry_of m) c d i victim e) (Named.steals c d i victim h.keys e)

    pub load : (i : ℕ) → rest ≤ spare → Loads c i d → IsCore m places d rest
    load i less e = same_ended (Load i) less (ended_load c d i e) (Standing.loads (entry_of m) c d i e) (Named.loads c d i h.keys e)

    pub draw : (i : ℕ) → rest ≤ spare → Draws c i d → IsCore m places d rest
    draw i less e = same_ended (Draw i) less (ended_draw c d i e) (Standing.draws (entry_of m) c d i e) (Named.draws c d i h.keys e)

    -- the node in hand is ended, by an event that the machine accepts
    pub ends : (event : Event Row) (i : ℕ) (done : Done Record) → spare ≡ rest + 1 → EndsHand c i done.node done d → Takes c event d → IsCore m places d rest
    ends event i done sum e takes = record {
      keys = Named.ends c d i done.node done h.keys e;
      earlier = Earlier.ends c d i done h.keys h.earlier e;
      fits = omega (arith, ended_ends c d i done e, sum, h.fits);
      crossing = h.crossing;
      rule = rule_kept c d event h.crossing h.rule takes;
    }

    pub halves : (event : Event Row) (i : ℕ) (done : Done Record) → spare ≡ rest + 1 → HalvesHand c i done.node done d → Takes c event d → IsCore m places d rest
    halves event i done sum e takes = record {
      keys = Named.halves c d i done.node done h.keys e;
      earlier = Earlier.halves c d i done h.keys h.earlier e;
      fits = omega (arith, ended_halves c d i done e, sum, h.fits);
      crossing = h.crossing;
      rule = rule_kept c d event h.crossing h.rule takes;
    }

    -- the best value falls
    pub offer : (event : Event Row) (cost : ℕ) → rest ≤ spare → d ≡ record c { word = lesser c.word cost } → Takes c event d → IsCore m places d rest
    offer event cost less is takes =
        same_ended event less (ap (λ (s : Keys). s.ended) (sym is)) takes
        (subst (λ (s : Keys). KeysStand s) (sym is) (record { workers = h.keys.workers; left = h.keys.left }))

-- at the start
pub begun : (m : Voyage) (places : ℕ) (c : Keys) (spare workers start budget : ℕ) → 0 < workers → CrossingRowsHold m → c ≡ begin_with Root workers start budget → spare ≡ 0 → IsCore m places c spare
begun m places c spare zero start budget some crossing is none = absurd (omega arith)
begun m places c spare (suc n) start budget some crossing is none =
    let rule : ObeysRule same_row (whole m) (begin (suc n) start budget) = keeps_begin same_row (whole m) (base_rows m) n start budget in
    let state : state_at m c ≡ begin (suc n) start budget = ap (state_at m) is ∙ Standing.begins (entry_of m) (suc n) start budget in
    let ended : [] ≡ c.ended = ap (λ (s : Keys). s.ended) (sym is) in
    let len : 0 ≡ length c.ended = ap (λ (xs : List (Done Record)). length xs) ended in
    record {
      keys = subst (λ (s : Keys). KeysStand s) (sym is) (Named.begins (suc n) start budget);
      earlier = subst (λ (xs : List (Done Record)). NameEarlier xs) ended tt;
      fits = omega (arith, len, none);
      crossing = crossing;
      rule = subst (λ (s : State Row). ObeysRule same_row (whole m) s) (sym state) rule;
    }
