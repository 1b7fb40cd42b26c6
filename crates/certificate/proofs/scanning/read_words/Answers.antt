use Rattle.std.proofs.Common.{◌≡◌, ◌+◌, ◌++◌, ◌∷◌, [], List, drop, length, get_or, refl, arith, subst, sym, ap, ◌∙◌}
use Rattle.std.specs.Prelude.{All}
use Rattle.std.proofs.lemmas.Bool.{eqb-true}
use Rattle.std.proofs.lemmas.List.Elements.{All-append}
use Rattle.certificate.specs.declared.words.Token.{Token}
use Rattle.certificate.specs.Reading.{closed, IsToken}
use Rattle.certificate.proofs.Lists.{one_all}
use Rattle.certificate.proofs.Scanned.{spelled, is_feed, no_line_end, no_line_word, no_line_full, line_read, word_read}
use Rattle.certificate.proofs.scanning.read_words.Goals as goal

pub returns-in_err-end-clause-none : goal.returns-in_err-end-clause-none
returns-in_err-end-clause-none c = λ none. no_line_end c.args.bytes.now c.args.from c.loop-end.at c.loop-end.words.items c.loop-end.invariant.text c.loop-end.invariant.are_tokens c.loop-end.invariant.within (c.in_err-end.ensures.none refl)

pub returns-in_err-word-clause-none : goal.returns-in_err-word-clause-none
returns-in_err-word-clause-none c = λ none. no_line_word c.args.bytes.now c.args.from c.loop-end.at c.loop-end.words.items c.loop-end.invariant.text c.loop-end.invariant.are_tokens c.in_ok-end.end
    c.in_ok-end.ensures.within.0 c.in_ok-end.ensures.within.1 c.in_ok-end.ensures.word c.in_ok-end.ensures.separator c.in_err-word.ensures

pub returns-then-is_full-clause-none : goal.returns-then-is_full-clause-none
returns-then-is_full-clause-none c = λ none. no_line_full c.args.bytes.now c.args.from c.loop-end.at c.loop-end.words.items c.loop-end.invariant.text c.loop-end.invariant.are_tokens (let e : length c.loop-end.words.items ≡ 18 = eqb-true (length c.loop-end.words.items) 18 (sym c.if-is_full.ensures.value) in omega arith)

pub returns-then-bytes-end-eq10-clause-text : goal.returns-then-bytes-end-eq10-clause-text
returns-then-bytes-end-eq10-clause-text c =
    line_read c.args.bytes.now c.args.from c.loop-end.at c.loop-end.words.items c.loop-end.invariant.text c.loop-end.invariant.are_tokens c.in_ok-end.end c.in_ok-end.ensures.within.0 c.in_ok-end.ensures.within.1 c.in_ok-word.word c.in_ok-word.ensures.1 c.if-bytes-end-eq10.true
    ∙ ap (λ (ts : List Token). closed ts ++ drop (c.in_ok-end.end + 1) c.args.bytes.now) (sym c.push.ensures.items)

pub returns-then-bytes-end-eq10-clause-words : goal.returns-then-bytes-end-eq10-clause-words
returns-then-bytes-end-eq10-clause-words c = subst (All IsToken) (sym c.push.ensures.items) (All-append IsToken c.loop-end.words.items (c.in_ok-word.word ∷ []) c.loop-end.invariant.are_tokens (one_all IsToken c.in_ok-word.word c.in_ok-word.ensures.0))

pub loop-end-preserved : goal.loop-end-preserved
loop-end-preserved c = record {
  after = omega (arith, c.in_ok-end.ensures.within);
  within = omega (arith, c.in_ok-end.ensures.within);
  text = word_read c.args.bytes.now c.args.from c.loop-end.at c.loop-end.words.items c.loop-end.invariant.text c.loop-end.invariant.are_tokens c.in_ok-end.end c.in_ok-end.ensures.within.0 c.in_ok-end.ensures.within.1 c.in_ok-word.word c.in_ok-word.ensures.1
      (is_feed (get_or c.args.bytes.now c.in_ok-end.end 0) c.in_ok-end.ensures.separator c.if-bytes-end-eq10.false)
      ∙ ap (λ (ts : List Token). spelled ts ++ drop (c.in_ok-end.end + 1) c.args.bytes.now) (sym c.push.ensures.items);
  are_tokens = subst (All IsToken) (sym c.push.ensures.items) (All-append IsToken c.loop-end.words.items (c.in_ok-word.word ∷ []) c.loop-end.invariant.are_tokens (one_all IsToken c.in_ok-word.word c.in_ok-word.ensures.0));
}
