use Rattle.std.proofs.Common.{◌∙◌, ap, sym, map, inl, inr, ⊎_elim}
use Rattle.clap.specs.Words.{app_of, is_simple, found_of, rows_of}
use Rattle.clap.specs.Faults.{is_simple_and_free}
use Rattle.stow_words.proofs.Simple.{free, simple}
use Rattle.stow_words.proofs.Read.{both_of, is_faulty, refused, refused_not_taken, taken_order, never_not_taken, has_verb}
use Rattle.stow_words.proofs.Forms.{not_refused}
use Rattle.stow_words.proofs.reading.parse_words.Goals as goal

pub returns-in-Err-clause-order : goal.returns-in-Err-clause-order
returns-in-Err-clause-order c =
    let same = c.in-Ok.ensures in
    let words = ap (map (λ s. s.now)) c.as_slice.ensures.value ∙ c.in_ok-texts.ensures in
    let k = c.in-Err.ensures.kinds (ap is_simple_and_free same ∙ free) in
    rw (← words) (refused _ _ c.no_of.result (⊎_elim (λ m. inl m) (λ h. inr (h.0, is_faulty _ (app_of c.in-Ok.command) c.in-Err.error same k h.1)) c.no_of.ensures))

pub returns-in-Err-clause-not_taken : goal.returns-in-Err-clause-not_taken
returns-in-Err-clause-not_taken c =
    let same = c.in-Ok.ensures in
    let words = ap (map (λ s. s.now)) c.as_slice.ensures.value ∙ c.in_ok-texts.ensures in
    let k = c.in-Err.ensures.kinds (ap is_simple_and_free same ∙ free) in
    rw (← words) (refused_not_taken _ c.no_of.result (⊎_elim (λ m. inl m) (λ h. inr (h.0, is_faulty _ (app_of c.in-Ok.command) c.in-Err.error same k h.1)) c.no_of.ensures))

pub returns-in-Some-verb_of-clause-order : goal.returns-in-Some-verb_of-clause-order
returns-in-Some-verb_of-clause-order c =
    let same = c.in-Ok.ensures in
    let words = ap (map (λ s. s.now)) c.as_slice.ensures.value ∙ c.in_ok-texts.ensures in
    let k = c.in-Ok-try_get_matches_from.ensures in
    let none = k.kinds (ap is_simple_and_free same ∙ free) in
    let entered = sym (k.matches (ap is_simple same ∙ simple)).1 ∙ both_of _ _ _ _ _ c.in-Some.ensures.name c.in-Some.ensures.rows in
    taken_order _ _ (app_of c.in-Ok.command) c.in-Some.name.now (rows_of (found_of c.in-Some.found.now)) c.in-Some-verb_of.verb c.order_of.result same words none entered (sym c.verb_of.ensures ∙ c.in-Some-verb_of.is) c.order_of.ensures

pub returns-in-Some-verb_of-clause-not_taken : goal.returns-in-Some-verb_of-clause-not_taken
returns-in-Some-verb_of-clause-not_taken c e = absurd (never_not_taken c.in-Some-verb_of.verb (rows_of (found_of c.in-Some.found.now)) c.order_of.result c.order_of.ensures e)

pub returns-clause-order : goal.returns-clause-order
returns-clause-order c =
    let same = c.in-Ok.ensures in
    let k = c.in-Ok-try_get_matches_from.ensures in
    let entered = sym (k.matches (ap is_simple same ∙ simple)).1 ∙ both_of _ _ _ _ _ c.in-Some.ensures.name c.in-Some.ensures.rows in
    absurd (has_verb (map (λ s. s.now) c.as_slice.result.now) (app_of c.in-Ok.command) c.in-Some.name.now (rows_of (found_of c.in-Some.found.now)) same entered (sym c.verb_of.ensures ∙ c.in-None.is))

pub returns-clause-not_taken : goal.returns-clause-not_taken
returns-clause-not_taken c =
    let same = c.in-Ok.ensures in
    let k = c.in-Ok-try_get_matches_from.ensures in
    let entered = sym (k.matches (ap is_simple same ∙ simple)).1 ∙ both_of _ _ _ _ _ c.in-Some.ensures.name c.in-Some.ensures.rows in
    absurd (has_verb (map (λ s. s.now) c.as_slice.result.now) (app_of c.in-Ok.command) c.in-Some.name.now (rows_of (found_of c.in-Some.found.now)) same entered (sym c.verb_of.ensures ∙ c.in-None.is))

pub returns-in-Err-clause-plain : goal.returns-in-Err-clause-plain
returns-in-Err-clause-plain c form =
    let same = c.in-Ok.ensures in
    let words = ap (map (λ s. s.now)) c.as_slice.ensures.value ∙ c.in_ok-texts.ensures in
    not_refused _ _ (app_of c.in-Ok.command) c.in-Err.error c.no_of.result same words c.in-Err.ensures.passes c.no_of.ensures form

pub returns-in-Some-verb_of-clause-plain : goal.returns-in-Some-verb_of-clause-plain
returns-in-Some-verb_of-clause-plain c form = never_not_taken c.in-Some-verb_of.verb (rows_of (found_of c.in-Some.found.now)) c.order_of.result c.order_of.ensures

pub returns-clause-plain : goal.returns-clause-plain
returns-clause-plain c =
    let same = c.in-Ok.ensures in
    let k = c.in-Ok-try_get_matches_from.ensures in
    let entered = sym (k.matches (ap is_simple same ∙ simple)).1 ∙ both_of _ _ _ _ _ c.in-Some.ensures.name c.in-Some.ensures.rows in
    absurd (has_verb (map (λ s. s.now) c.as_slice.result.now) (app_of c.in-Ok.command) c.in-Some.name.now (rows_of (found_of c.in-Some.found.now)) same entered (sym c.verb_of.ensures ∙ c.in-None.is))
