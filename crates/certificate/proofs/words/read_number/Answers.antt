use Rattle.std.proofs.Common.{◌+◌, ◌*◌, ℕ, length, arith, inl, inr, ap, ◌∙◌, take_all}
use Rattle.std.specs.Str.Parse.{digits_value}
use Rattle.certificate.proofs.Digits.{is_zero, is_positive, no_empty, no_long, no_leading, no_other, no_great, more_digits, more_value, few_digits, whole_number}
use Rattle.certificate.proofs.words.read_number.Goals as goal
use Rattle.certificate.proofs.words.read_number.Goals.{else-word-eq48-via-then-word-eq48+else-word-gt1, else-word-eq48-via-else-word-eq48, then-digit-lt48-via-then-digit-lt48, then-digit-lt48-via-else-digit-lt48+then-digit-gt57}

pub returns-then-is_empty : goal.returns-then-is_empty
returns-then-is_empty c = λ n small same. no_empty c.args.word.now n small (is_zero (length c.args.word.now) c.if-is_empty.ensures) same

pub returns-then-word-gt19 : goal.returns-then-word-gt19
returns-then-word-gt19 c = λ n small same. no_long c.args.word.now n small c.if-word-gt19.true same

pub returns-then-word-gt1 : goal.returns-then-word-gt1
returns-then-word-gt1 c = λ n small same. no_leading c.args.word.now n small c.if-word-eq48.true c.if-word-gt1.true same

pub returns-then-digit-lt48 : goal.returns-then-digit-lt48
returns-then-digit-lt48 c = λ n small same. no_other c.args.word.now n c.loop-digit.digit-index small c.loop-digit-test.true
    (elim c.then-digit-lt48.branch [
      | then-digit-lt48-via-then-digit-lt48 w ↦ inl w.if-digit-lt48.true
      | then-digit-lt48-via-else-digit-lt48+then-digit-gt57 w ↦ inr w.if-digit-gt57.true
    ]) same

pub overflow_mul-value : goal.overflow_mul-value
overflow_mul-value c = omega (arith, few_digits c.args.word.now c.loop-digit.digit-index c.loop-digit.value c.loop-digit-test.true (omega arith) c.loop-digit.invariant.digits c.loop-digit.invariant.value_is)

pub overflow_add-value : goal.overflow_add-value
overflow_add-value c = omega (arith, few_digits c.args.word.now c.loop-digit.digit-index c.loop-digit.value c.loop-digit-test.true (omega arith) c.loop-digit.invariant.digits c.loop-digit.invariant.value_is, c.from.ensures)

pub loop-digit-preserved : goal.loop-digit-preserved
loop-digit-preserved c = record {
  digits = more_digits c.args.word.now c.loop-digit.digit-index c.loop-digit-test.true c.loop-digit.invariant.digits c.if-digit-lt48.false c.if-digit-gt57.false;
  value_is = ap (λ (x : ℕ). c.loop-digit.value * 10 + x) c.from.ensures ∙ more_value c.args.word.now c.loop-digit.digit-index c.loop-digit.value c.loop-digit-test.true c.loop-digit.invariant.value_is c.if-digit-lt48.false c.if-digit-gt57.false;
}

pub returns-then-value : goal.returns-then-value
returns-then-value c = (
  c.if-value.true,
  whole_number c.args.word.now c.loop-digit.digit-index c.loop-digit.value c.loop-digit-test.false c.loop-digit.invariant.digits c.loop-digit.invariant.value_is (is_positive (length c.args.word.now) c.if-is_empty.ensures)
      (elim c.else-word-eq48.branch [
        | else-word-eq48-via-then-word-eq48+else-word-gt1 w ↦ λ z. w.if-word-gt1.false
        | else-word-eq48-via-else-word-eq48 w ↦ λ z. absurd (w.if-word-eq48.false z)
      ]) c.if-value.true,
)

pub returns-else-value : goal.returns-else-value
returns-else-value c = λ n small same. no_great c.args.word.now n c.loop-digit.value small (c.loop-digit.invariant.value_is ∙ ap (digits_value 10) (take_all c.loop-digit.digit-index c.args.word.now c.loop-digit-test.false)) c.if-value.false same
