use Rattle.std.proofs.Common.{◌≡◌, ◌<◌, ◌+◌, ◌∷◌, [], ◌++◌, ℕ, List, length, take, drop, sym, subst, ap, ◌∙◌, arith}
use Rattle.std.proofs.lemmas.List.{length-take-le, take_more}
use Rattle.std.proofs.lemmas.Result.{err_from_is_err_and}
use Rattle.baplie.specs.declared.parts.Message.{Message}
use Rattle.voyage_files.specs.Files.{AreMessages, IsTextNo, IsTextsNo}
use Rattle.voyage_files.proofs.ReadTexts.{faulty_at, messages_more, split_at}
use Rattle.voyage_files.proofs.texts.messages_of.Goals as goal

pub returns-in_err-message_of : goal.returns-in_err-message_of
returns-in_err-message_of c =
    let ts = c.args.texts.now in
    let i = c.loop-index.index in
    let t = c.index-texts-index.result in
    let lt : i < length ts = omega (arith, c.loop-index-test.true) in
    let k : i + 1 ≡ 1 + length (take i ts) = omega (arith, length-take-le i ts (omega (arith, lt))) in
    let p = err_from_is_err_and c.from_residual.result c.from_residual.ensures.1 in
    let e = c.in_err-message_of.field-0.0 in
    let here : IsTextNo (1 + length (take i ts)) t e = subst (λ n. IsTextNo n t e) k (rw c.as_slice.ensures at c.in_err-message_of.ensures) in
    rw (p.1, p.2) (subst (λ (xs : List (List ℕ)). IsTextsNo 1 xs e) (sym (split_at ts i t lt c.index-texts-index.is)) (faulty_at 1 (take i ts) (drop (i + 1) ts) c.loop-index.messages t e c.loop-index.invariant here))

pub loop-index-preserved : goal.loop-index-preserved
loop-index-preserved c =
    let ts = c.args.texts.now in
    let i = c.loop-index.index in
    let t = c.index-texts-index.result in
    let lt : i < length ts = omega (arith, c.loop-index-test.true) in
    let m = c.in_ok-message_of.field-0 in
    let more : take (i + 1) ts ≡ take i ts ++ t ∷ [] = take_more ts i t lt ∙ ap (λ (z : List ℕ). take i ts ++ z ∷ []) (sym c.index-texts-index.is) in
    subst (λ (ms : List Message). AreMessages (take (i + 1) ts) ms) (sym c.in_ok-push.ensures)
    (subst (λ (xs : List (List ℕ)). AreMessages xs (c.loop-index.messages ++ m ∷ [])) (sym more) (messages_more (take i ts) c.loop-index.messages t m c.loop-index.invariant (rw c.as_slice.ensures at c.in_ok-message_of.ensures)))
