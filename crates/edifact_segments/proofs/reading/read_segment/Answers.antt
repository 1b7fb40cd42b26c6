use Rattle.std.proofs.Common.{◌≡◌, ◌+◌, ◌<◌, ◌≤◌, false, [], ◌∷◌, ◌++◌, map, length, get_or, drop, slice_range, refl, sym, ap, ◌∙◌, arith}
use Rattle.std.proofs.lemmas.Bool.{eq-eqb}
use Rattle.std.proofs.lemmas.List.{drop_more, drop_all}
use Rattle.edifact_segments.specs.Characters.{Plain, Released}
use Rattle.edifact_segments.specs.Scanning.{front}
use Rattle.edifact_segments.proofs.RunLemmas.{elements_of-run, front-range}
use Rattle.edifact_segments.proofs.ScanLemmas.{opened, not_eqb, with_characters, step_control, step_unended, step_released_control, step_released, step_terminator, step_plain, push_released, with_characters-unended}
use Rattle.edifact_segments.proofs.reading.read_segment.Goals as goal

pub returns-then-end-bytes : goal.returns-then-end-bytes
returns-then-end-bytes c =
    let i = c.loop-at.invariant.read in
    let end = c.run_end-end.result in
    let bytes = c.args.bytes.now in
    let service = c.args.scanner.now.service in
    let run = slice_range bytes c.loop-at.at end in
    let cs = i.0 ++ map Plain run in
    let so = front-range service i.0 bytes c.loop-at.at end c.run_end-end.ensures.least c.run_end-end.ensures.run ∙ i.2 in
    let all : length bytes ≤ end = omega (arith, c.if-end-bytes.true) in
    (sym so ∙ ap (λ x. with_characters cs (front service false x)) (drop_all end bytes all) ∙ with_characters-unended cs, refl)

pub returns-then-is_control_byte : goal.returns-then-is_control_byte
returns-then-is_control_byte c =
    let i = c.loop-at.invariant.read in
    let end = c.run_end-end.result in
    let bytes = c.args.bytes.now in
    let service = c.args.scanner.now.service in
    let run = slice_range bytes c.loop-at.at end in
    let cs = i.0 ++ map Plain run in
    let so = front-range service i.0 bytes c.loop-at.at end c.run_end-end.ensures.least c.run_end-end.ensures.run ∙ i.2 in
    let within : end < length bytes = omega (arith, c.run_end-end.ensures.within, c.if-end-bytes.false) in
    let here = drop_more bytes end 0 within in
    (step_control service cs (drop (end + 1) bytes) (drop end bytes) _ so (get_or bytes end 0) here (sym c.if-is_control_byte.ensures), within)

pub returns-then-end-bytes-2 : goal.returns-then-end-bytes-2
returns-then-end-bytes-2 c =
    let i = c.loop-at.invariant.read in
    let end = c.run_end-end.result in
    let bytes = c.args.bytes.now in
    let service = c.args.scanner.now.service in
    let run = slice_range bytes c.loop-at.at end in
    let cs = i.0 ++ map Plain run in
    let so = front-range service i.0 bytes c.loop-at.at end c.run_end-end.ensures.least c.run_end-end.ensures.run ∙ i.2 in
    let within : end < length bytes = omega (arith, c.run_end-end.ensures.within, c.if-end-bytes.false) in
    let here = drop_more bytes end 0 within in
    let all : length bytes ≤ end + 1 = omega (arith, c.if-end-bytes-2.true) in
    (step_unended service cs (drop (end + 1) bytes) (drop end bytes) _ so (get_or bytes end 0) here (sym c.if-is_control_byte.ensures) (sym c.if-releases.ensures) (drop_all (end + 1) bytes all), refl)

pub returns-then-is_control_byte-2 : goal.returns-then-is_control_byte-2
returns-then-is_control_byte-2 c =
    let i = c.loop-at.invariant.read in
    let end = c.run_end-end.result in
    let bytes = c.args.bytes.now in
    let service = c.args.scanner.now.service in
    let run = slice_range bytes c.loop-at.at end in
    let cs = i.0 ++ map Plain run in
    let so = front-range service i.0 bytes c.loop-at.at end c.run_end-end.ensures.least c.run_end-end.ensures.run ∙ i.2 in
    let within : end < length bytes = omega (arith, c.run_end-end.ensures.within, c.if-end-bytes.false) in
    let here = drop_more bytes end 0 within in
    let lt : end + 1 < length bytes = omega (arith, within, c.if-end-bytes-2.false) in
    (step_released_control service cs (drop (end + 1) bytes) (drop end bytes) _ so (get_or bytes end 0) here (sym c.if-is_control_byte.ensures) (sym c.if-releases.ensures) (get_or bytes (end + 1) 0) (drop (end + 1 + 1) bytes) (drop_more bytes (end + 1) 0 lt) (sym c.if-is_control_byte-2.ensures), lt)

pub loop-at-preserved-then-releases : goal.loop-at-preserved-then-releases
loop-at-preserved-then-releases c =
    let i = c.loop-at.invariant.read in
    let end = c.run_end-end.result in
    let bytes = c.args.bytes.now in
    let service = c.args.scanner.now.service in
    let run = slice_range bytes c.loop-at.at end in
    let cs = i.0 ++ map Plain run in
    let so = front-range service i.0 bytes c.loop-at.at end c.run_end-end.ensures.least c.run_end-end.ensures.run ∙ i.2 in
    let within : end < length bytes = omega (arith, c.run_end-end.ensures.within, c.if-end-bytes.false) in
    let here = drop_more bytes end 0 within in
    let lt : end + 1 < length bytes = omega (arith, within, c.if-end-bytes-2.false) in
    let d = i.1 in
    let text = c.loop-at.draft.text.items ++ run in
    let elements = elements_of-run service i.0 run d.0 d.1 c.loop-at.draft.text.items c.run_end-end.ensures.run d.3 in
    let next = get_or bytes (end + 1) 0 in
    let two : end + 1 + 1 ≡ end + 2 = omega arith in
    let rest = drop_more bytes (end + 1) 0 lt ∙ ap (λ k. next ∷ drop k bytes) two in
    record {
      least = omega (arith, c.loop-at.invariant.least, c.run_end-end.ensures.least);
      within = omega (arith, lt);
      element = omega (arith, c.loop-at.invariant.element, c.run_end-end.ensures.least, c.in_ok-release.ensures.element);
      component = omega (arith, c.loop-at.invariant.component, c.run_end-end.ensures.least, c.in_ok-release.ensures.component);
      read = (cs ++ Released next ∷ [], (d.0, d.1, c.in_ok-release.ensures.draft d.0 d.1 d.2, push_released service cs next d.0 d.1 text _ elements c.in_ok-release.ensures.text), step_released service cs (drop (end + 1) bytes) (drop end bytes) _ so (get_or bytes end 0) here (sym c.if-is_control_byte.ensures) (sym c.if-releases.ensures) next (drop (end + 2) bytes) rest (sym c.if-is_control_byte-2.ensures));
    }

pub returns-then-byte-service : goal.returns-then-byte-service
returns-then-byte-service c =
    let i = c.loop-at.invariant.read in
    let end = c.run_end-end.result in
    let bytes = c.args.bytes.now in
    let service = c.args.scanner.now.service in
    let run = slice_range bytes c.loop-at.at end in
    let cs = i.0 ++ map Plain run in
    let so = front-range service i.0 bytes c.loop-at.at end c.run_end-end.ensures.least c.run_end-end.ensures.run ∙ i.2 in
    let within : end < length bytes = omega (arith, c.run_end-end.ensures.within, c.if-end-bytes.false) in
    let here = drop_more bytes end 0 within in
    let d = i.1 in
    let text = c.loop-at.draft.text.items ++ run in
    let elements = elements_of-run service i.0 run d.0 d.1 c.loop-at.draft.text.items c.run_end-end.ensures.run d.3 in
    (cs, step_terminator service cs (drop (end + 1) bytes) (drop end bytes) _ so (get_or bytes end 0) here (sym c.if-is_control_byte.ensures) (sym c.if-releases.ensures) (eq-eqb (get_or bytes end 0) service.terminator c.if-byte-service.true), (opened d.0 d.1 text, c.in_ok-end_element.ensures.draft d.0 d.1 d.2, elements), omega (arith, c.loop-at.invariant.least, c.run_end-end.ensures.least), omega (arith, within))

pub loop-at-preserved : goal.loop-at-preserved
loop-at-preserved c =
    let i = c.loop-at.invariant.read in
    let end = c.run_end-end.result in
    let bytes = c.args.bytes.now in
    let service = c.args.scanner.now.service in
    let run = slice_range bytes c.loop-at.at end in
    let cs = i.0 ++ map Plain run in
    let so = front-range service i.0 bytes c.loop-at.at end c.run_end-end.ensures.least c.run_end-end.ensures.run ∙ i.2 in
    let within : end < length bytes = omega (arith, c.run_end-end.ensures.within, c.if-end-bytes.false) in
    let here = drop_more bytes end 0 within in
    let d = i.1 in
    let text = c.loop-at.draft.text.items ++ run in
    let elements = elements_of-run service i.0 run d.0 d.1 c.loop-at.draft.text.items c.run_end-end.ensures.run d.3 in
    record {
      least = omega (arith, c.loop-at.invariant.least, c.run_end-end.ensures.least);
      within = omega (arith, within);
      element = omega (arith, c.loop-at.invariant.element, c.run_end-end.ensures.least, c.in_ok-separate.ensures.element);
      component = omega (arith, c.loop-at.invariant.component, c.run_end-end.ensures.least, c.in_ok-separate.ensures.component);
      read = (cs ++ Plain (get_or bytes end 0) ∷ [], c.in_ok-separate.ensures.draft cs (d.0, d.1, d.2, elements), step_plain service cs (drop (end + 1) bytes) (drop end bytes) _ so (get_or bytes end 0) here (sym c.if-is_control_byte.ensures) (sym c.if-releases.ensures) (not_eqb (get_or bytes end 0) service.terminator c.if-byte-service.false));
    }

pub returns : goal.returns
returns c =
    let i = c.loop-at.invariant.read in
    let at = c.loop-at.at in
    let bytes = c.args.bytes.now in
    (sym i.2 ∙ ap (λ x. with_characters i.0 (front c.args.scanner.now.service false x)) (drop_all at bytes c.loop-at-test.false) ∙ with_characters-unended i.0, refl)
