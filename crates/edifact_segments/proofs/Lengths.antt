-- An interchange has no more segments than bytes.
use Rattle.std.proofs.Common.{inl, inr, ℕ, ◌+◌, ◌≤◌, ◌<◌, arith, ap, List, [], ◌∷◌, ◌++◌, length, length-append}
use Rattle.edifact_segments.specs.declared.segments.Segment.{Segment}
use Rattle.edifact_segments.specs.declared.service.Service.{Service}
use Rattle.edifact_segments.specs.Characters.{spelling}
use Rattle.edifact_segments.specs.Grammar.{TakesSegment, Begins, Starts, IsInterchange}

takes : (service : Service) (text : List ℕ) (s : Segment) (next : List ℕ) → TakesSegment service text s next → length next < length text
takes service text s next h = omega (arith, ap length h.1.1, length-append h.1.0 (spelling service h.0 ++ service.terminator ∷ next), length-append (spelling service h.0) (service.terminator ∷ next))

begins : (service : Service) (text : List ℕ) (before : List Segment) (rest : List ℕ) → Begins service text before rest → length before + length rest ≤ length text
begins service text [] rest h = omega (arith, ap length h)
begins service text (s ∷ before) rest h = omega (arith, takes service text s h.0 h.1, begins service h.0 before rest h.3)

starts : (bytes : List ℕ) (service : Service) (text : List ℕ) → Starts bytes service text → length text ≤ length bytes
starts bytes service text (inl h) = omega (arith, ap length h.3)
starts bytes service text (inr h) = omega (arith, ap length h.2)

pub few : (bytes : List ℕ) (segments : List Segment) → IsInterchange bytes segments → length segments ≤ length bytes
few bytes segments h =
    let closes = h.4 in
    let reaches = closes.2 in
    omega (arith, ap length h.3, length-append h.0 (h.1 ∷ []), takes closes.0 closes.1 h.1 h.2 closes.3, begins closes.0 reaches.0 h.0 closes.1 reaches.2, starts bytes closes.0 reaches.0 reaches.1)
