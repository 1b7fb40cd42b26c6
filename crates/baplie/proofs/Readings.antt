-- The least cause at a segment of a cell group, by what the segment is read as.
use Rattle.std.proofs.Common.{◌≡◌, refl, ap, Bool, true, false, ◌&&◌, ◌||◌, not, cond, codes, find, Option, Some, None, is_none, ◌∙◌}
use Rattle.std.specs.Option.{option_or}
use Rattle.edifact_segments.specs.declared.segments.Segment.{Segment}
use Rattle.baplie.specs.declared.causes.Cause.{Cause}
use Rattle.baplie.specs.declared.causes.Cause.TheVariants.{BadCell, AgencyLeftOut, TwoContainers, BreakbulkLeftOut, NoId, NameTooLong, LengthLeftOut, UnitLeftOut, BadWeight, NoWeightOrPort}
use Rattle.baplie.specs.declared.causes.Prior.{Prior}
use Rattle.baplie.specs.Texts.{weight_of}
use Rattle.baplie.specs.Segments.{component, same_text, is_empty_text, is_container, is_breakbulk, names_port, weighs, is_danger}
use Rattle.baplie.specs.Groups.{shows, is_long, is_odd_type}
use Rattle.baplie.specs.Finding.{group_causes}
use Rattle.baplie.specs.declared.roles.Role.{Role}
use Rattle.baplie.specs.declared.roles.Role.TheVariants.{Opening, Closing, Container, Breakbulk, Port, Verified, Unverified, Weight, Cooled, Danger}
use Rattle.baplie.specs.Causes.{cause_as, cell_cause, lack_cause}
use Rattle.baplie.specs.Roles.{IsReadAs, as_container, as_breakbulk, as_port, as_weight, as_danger}

-- the causes between those of the cell and that of what the group lacks
middle : Bool → Bool → Bool → Bool → Bool → Prior → Segment → Option Cause → Option Cause
middle c b n w d p s last =
    cond (c && p.container) (Some TwoContainers) (cond b (Some BreakbulkLeftOut) (cond (c && is_empty_text (component s 2 1)) (Some NoId) (cond ((c && (is_long (component s 2 1) || is_long (component s 3 1))) || (((n && not p.port) || (d && not p.danger)) && is_long (component s 2 1))) (Some NameTooLong) (cond (c && is_odd_type (component s 3 1)) (Some LengthLeftOut) (cond (w && not (same_text (component s 3 1) (codes "KGM"))) (Some UnitLeftOut) (cond (w && is_none (weight_of (component s 3 2))) (Some BadWeight) last))))))

as_middle : (p : Prior) (s : Segment) → find (shows p s) group_causes ≡ cond (shows p s BadCell) (Some BadCell) (cond (shows p s AgencyLeftOut) (Some AgencyLeftOut) (middle (is_container s) (is_breakbulk s) (names_port s) (weighs s) (is_danger s) p s (cond (p.opens && p.lacks) (Some NoWeightOrPort) None)))
unfolding middle
as_middle p s = refl

-- by what the segment is read as
settled : (role : Option Role) (p : Prior) (s : Segment) (last : Option Cause) → middle (as_container role) (as_breakbulk role) (as_port role) (as_weight role) (as_danger role) p s last ≡ option_or (cause_as role p s) last
unfolding middle
settled (Some Container) p s last = go p.container (is_empty_text (component s 2 1)) (is_long (component s 2 1) || is_long (component s 3 1)) (is_odd_type (component s 3 1))
  where
    go : (a b l d : Bool) → cond a (Some TwoContainers) (cond b (Some NoId) (cond (l || false) (Some NameTooLong) (cond d (Some LengthLeftOut) last))) ≡ option_or (cond a (Some TwoContainers) (cond b (Some NoId) (cond l (Some NameTooLong) (cond d (Some LengthLeftOut) None)))) last
    go true b l d = refl
    go false true l d = refl
    go false false true d = refl
    go false false false true = refl
    go false false false false = refl
settled (Some Port) p s last = go p.port (is_long (component s 2 1))
  where
    go : (a l : Bool) → cond ((not a || false) && l) (Some NameTooLong) last ≡ option_or (cond a None (cond l (Some NameTooLong) None)) last
    go true l = refl
    go false true = refl
    go false false = refl
settled (Some Danger) p s last = go p.danger (is_long (component s 2 1))
  where
    go : (a l : Bool) → cond (not a && l) (Some NameTooLong) last ≡ option_or (cond a None (cond l (Some NameTooLong) None)) last
    go true l = refl
    go false true = refl
    go false false = refl
settled (Some Weight) p s last = go (same_text (component s 3 1) (codes "KGM")) (is_none (weight_of (component s 3 2)))
  where
    go : (a b : Bool) → cond (not a) (Some UnitLeftOut) (cond b (Some BadWeight) last) ≡ option_or (cond (not a) (Some UnitLeftOut) (cond b (Some BadWeight) None)) last
    go false b = refl
    go true true = refl
    go true false = refl
settled (Some Breakbulk) p s last = refl
settled (Some Opening) p s last = refl
settled (Some Closing) p s last = refl
settled (Some Verified) p s last = refl
settled (Some Unverified) p s last = refl
settled (Some Cooled) p s last = refl
settled None p s last = refl

as_read : (p : Prior) (s : Segment) (role : Option Role) (last : Option Cause) → IsReadAs s role → middle (is_container s) (is_breakbulk s) (names_port s) (weighs s) (is_danger s) p s last ≡ option_or (cause_as role p s) last
as_read p s role last h =
    ap (λ x. middle x (is_breakbulk s) (names_port s) (weighs s) (is_danger s) p s last) h.container ∙ ap (λ x. middle (as_container role) x (names_port s) (weighs s) (is_danger s) p s last) h.breakbulk ∙ ap (λ x. middle (as_container role) (as_breakbulk role) x (weighs s) (is_danger s) p s last) h.port ∙ ap (λ x. middle (as_container role) (as_breakbulk role) (as_port role) x (is_danger s) p s last) h.weight ∙ ap (λ x. middle (as_container role) (as_breakbulk role) (as_port role) (as_weight role) x p s last) h.danger ∙ settled role p s last

pub least : (p : Prior) (s : Segment) (role : Option Role) → IsReadAs s role → find (shows p s) group_causes ≡ option_or (option_or (cell_cause p s) (cause_as role p s)) (lack_cause p)
least p s role h =
    as_middle p s ∙ ap (λ x. cond (shows p s BadCell) (Some BadCell) (cond (shows p s AgencyLeftOut) (Some AgencyLeftOut) x)) (as_read p s role (lack_cause p) h) ∙ go (shows p s BadCell) (shows p s AgencyLeftOut) (cause_as role p s) (lack_cause p)
  where
    go : (a b : Bool) (x y : Option Cause) → cond a (Some BadCell) (cond b (Some AgencyLeftOut) (option_or x y)) ≡ option_or (option_or (cond a (Some BadCell) (cond b (Some AgencyLeftOut) None)) x) y
    go true b x y = refl
    go false true x y = refl
    go false false x y = refl
