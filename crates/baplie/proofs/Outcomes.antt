-- What the reader of a message finds is what the list of its segments gives.
use Rattle.std.proofs.Common.{◌≡◌, ℕ, ◌+◌, sym, ap, subst, cond, true, false, List, [], length, Option, Some, None, slice_get, take, ◌∙◌}
use Rattle.std.specs.Option.{option_or}
use Rattle.edifact_segments.specs.declared.segments.Segment.{Segment}
use Rattle.baplie.specs.declared.causes.Cause.{Cause}
use Rattle.baplie.specs.declared.causes.Cause.TheVariants.{NotBaplie}
use Rattle.baplie.specs.Faults.{rest, body, head, groups, is_titled, HasCause, IsLeastFault}
use Rattle.baplie.specs.Finding.{scan, groups_fault, end_cause, first_behind_title, first_fault}
use Rattle.baplie.specs.declared.faults.BaplieFault.{BaplieFault}
use Rattle.baplie.specs.declared.faults.BaplieFault.TheVariants.{Seg, At, NoMemory}
use Rattle.baplie.specs.Reading.{IsFound, IsFaultOf}
use Rattle.baplie.proofs.Cuts.{take-head}
use Rattle.baplie.proofs.Least.{Outcome, outcome}

least_when : (segments : List Segment) (r : Option (ℕ × Cause)) → first_fault segments ≡ r → Outcome segments r
least_when segments r e =
    let P : Option (ℕ × Cause) → Type 0 = λ x. Outcome segments x in
    subst P e (outcome segments)

pub untitled : (segments : List Segment) → is_titled (slice_get segments 1) ≡ false → IsLeastFault segments 2 NotBaplie
untitled segments e = least_when segments (Some (2, NotBaplie)) (ap (λ t. cond t (first_behind_title segments) (Some (2, NotBaplie))) e)

behind : (segments : List Segment) → is_titled (slice_get segments 1) ≡ true → first_fault segments ≡ first_behind_title segments
behind segments e = ap (λ t. cond t (first_behind_title segments) (Some (2, NotBaplie))) e

abbrev pub group_part : List Segment → Option (ℕ × Cause)
group_part segments = groups_fault (3 + length (head (body segments))) (groups (body segments))

abbrev pub end_part : List Segment → Option (ℕ × Cause)
end_part segments = scan (end_cause segments) 3 [] (rest segments)

pub in_groups : (segments : List Segment) (n : ℕ) (c : Cause) → is_titled (slice_get segments 1) ≡ true → group_part segments ≡ Some (n, c) → IsLeastFault segments n c
in_groups segments n c e g = least_when segments (Some (n, c)) (behind segments e ∙ ap (λ r. option_or r (end_part segments)) g)

pub at_end : (segments : List Segment) (n : ℕ) (c : Cause) → is_titled (slice_get segments 1) ≡ true → group_part segments ≡ None → end_part segments ≡ Some (n, c) → IsLeastFault segments n c
at_end segments n c e g f = least_when segments (Some (n, c)) (behind segments e ∙ ap (λ r. option_or r (end_part segments)) g ∙ f)

pub no_fault : (segments : List Segment) → is_titled (slice_get segments 1) ≡ true → group_part segments ≡ None → end_part segments ≡ None → (n : ℕ) (c : Cause) → HasCause segments n c → ⊥
no_fault segments e g f = least_when segments None (behind segments e ∙ ap (λ r. option_or r (end_part segments)) g ∙ f)

-- the body and the place of its first group, as the reader has them
pub part-is : (segments cut : List Segment) (first : ℕ) → cut ≡ body segments → first ≡ length (head cut) → groups_fault (3 + first) (groups cut) ≡ group_part segments
part-is segments cut first e f = ap (λ k. groups_fault (3 + k) (groups cut)) f ∙ ap (λ y. groups_fault (3 + length (head y)) (groups y)) e

pub fault_of : (segments cut : List Segment) (first : ℕ) (e : BaplieFault) → is_titled (slice_get segments 1) ≡ true → cut ≡ body segments → first ≡ length (head cut) → IsFound (groups_fault (3 + first) (groups cut)) e → IsFaultOf segments e
fault_of segments cut first (Seg e) t b f h = h
fault_of segments cut first (At n c) t b f h = in_groups segments n c t (sym (part-is segments cut first b f) ∙ h)
fault_of segments cut first NoMemory t b f h = tt

pub head-is : (segments cut : List Segment) (first : ℕ) → cut ≡ body segments → first ≡ length (head cut) → take first cut ≡ head (body segments)
head-is segments cut first e f = ap (λ k. take k cut) f ∙ take-head cut ∙ ap (λ y. head y) e
