-- Tasks in another order in which each passes independent ones alone.
use Rattle.std.specs.Prelude.{◌≡◌, ℕ, ◌+◌, List, [], ◌∷◌, ◌++◌}
use Rattle.std.proofs.Common.{refl, sym, ◌∙◌, ap, arith, subst}
use Rattle.stow_data.specs.Ship.{Ship}
use Rattle.stow_data.specs.Shipment.{Cargo}
use Rattle.voyage_meaning.specs.Moves.{State, after}
use Rattle.crane_lists.specs.declared.tasks.Task.{Task}
use Rattle.crane_lists.specs.Tasks.{AreIndependent, CanDo, CanDoAll, state_after}
use Rattle.crane_lists.specs.Rounds.{Every, lift_weight, lifted_weight, IsSameWork}
use Rattle.crane_lists.proofs.Commuting.{commute}

-- each task of the second list is taken from behind independent ones of the first, and the rest from what is left
abbrev pub Rearranges : Ship → List Task → List Task → Type 0
Rearranges ship ts [] = ts ≡ []
Rearranges ship ts (u ∷ us) = (before behind : List Task) × (ts ≡ before ++ u ∷ behind) × Every (λ t. AreIndependent ship t u) before × Rearranges ship (before ++ behind) us

-- what is known once a task is done first
pub record First (ship : Ship) (cargo : Cargo) (call : ℕ) (s : State) (u : Task) (all rest : List Task) : Type 0 where
  pub first : CanDo ship cargo s u
  pub then : CanDoAll ship cargo call (after cargo call s u.step) rest
  pub same : state_after cargo call s all ≡ state_after cargo call (after cargo call s u.step) rest

pub pulled : (ship : Ship) (cargo : Cargo) (call : ℕ) (before : List Task) (u : Task) (behind : List Task) (s : State) → Every (λ t. AreIndependent ship t u) before → CanDoAll ship cargo call s (before ++ u ∷ behind) → First ship cargo call s u (before ++ u ∷ behind) (before ++ behind)
pulled ship cargo call [] u behind s free can = record { first = can.0; then = can.1; same = refl }
pulled ship cargo call (t ∷ ts) u behind s free can =
    let rest = pulled ship cargo call ts u behind (after cargo call s t.step) free.1 can.1 in
    let c = commute ship cargo call s t u free.0 can.0 rest.first in
    record {
      first = c.sooner;
      then = (c.later, subst (λ (x : State). CanDoAll ship cargo call x (ts ++ behind)) c.same rest.then);
      same = rest.same ∙ ap (λ (x : State). state_after cargo call x (ts ++ behind)) c.same;
    }

weight_apart : (h : ℕ → ℕ) (before : List Task) (u : Task) (behind : List Task) → lifted_weight h (before ++ u ∷ behind) ≡ lift_weight h u.step u.container + lifted_weight h (before ++ behind)
weight_apart h [] u behind = refl
weight_apart h (t ∷ ts) u behind = omega (arith, weight_apart h ts u behind)

pub rearranged : (ship : Ship) (cargo : Cargo) (call : ℕ) (us ts : List Task) (s : State) → Rearranges ship ts us → CanDoAll ship cargo call s ts → IsSameWork ship cargo call s ts us
rearranged ship cargo call [] ts s r can = subst (λ (x : List Task). IsSameWork ship cargo call s x []) (sym r) (record { can = tt; ends = refl; lifts = λ h. refl })
rearranged ship cargo call (u ∷ us) ts s (before, behind, e, free, r) can =
    let f = pulled ship cargo call before u behind s free (subst (CanDoAll ship cargo call s) e can) in
    let rest = rearranged ship cargo call us (before ++ behind) (after cargo call s u.step) r f.then in
    subst (λ (x : List Task). IsSameWork ship cargo call s x (u ∷ us)) (sym e) (record {
      can = (f.first, rest.can);
      ends = rest.ends ∙ sym f.same;
      lifts = λ h. omega (arith, rest.lifts h, weight_apart h before u behind);
    })
