use Rattle.std.proofs.Common.{◌≡◌, false, arith}
use Rattle.std.specs.Prelude.{is_ok}
use Rattle.stow_io.specs.Causes.{Rose}
use Rattle.stow_io.proofs.Texts.{says_front, says_rest, on_err, on_ok}
use Rattle.stow_io.proofs.ending.say_name.Goals as goal

pub returns-then-is_err-clause-printed : goal.returns-then-is_err-clause-printed
returns-then-is_err-clause-printed g c =
    let e : is_ok c.put.result ≡ false = c.if-is_err.ensures.negation in
    says_front c.args.front.now _ _ _ _ _ e (on_err _ c.put.result e c.put.ensures.cause.failed) c.put.ensures.appends

pub returns-then-is_err-2-clause-printed : goal.returns-then-is_err-2-clause-printed
returns-then-is_err-2-clause-printed g c =
    let e : is_ok c.put-2.result ≡ false = c.if-is_err-2.ensures.negation in
    let second = rw c.as_bytes.ensures.value at c.put-2.ensures.appends in
    says_rest c.args.front.now _ _ (g.K.Sink.written c.put.new.self) _ _ _ (λ (r : Rose (g.K.Sink.faults c.put.new.self) (g.K.Sink.faults c.put-2.new.self)). omega (arith, c.put.ensures.cause.later))
    (on_ok _ _ _ _ c.if-is_err.ensures.negation c.put.ensures.appends)
    (says_front c.args.name.now _ _ _ _ _ e (on_err _ c.put-2.result e c.put-2.ensures.cause.failed) second)

pub returns-clause-printed : goal.returns-clause-printed
returns-clause-printed g c =
    let second = rw c.as_bytes.ensures.value at c.put-2.ensures.appends in
    says_rest c.args.front.now _ _ (g.K.Sink.written c.put.new.self) _ _ _ (λ (r : Rose (g.K.Sink.faults c.put.new.self) (g.K.Sink.faults c.say.new.out)). omega (arith, c.put.ensures.cause.later))
    (on_ok _ _ _ _ c.if-is_err.ensures.negation c.put.ensures.appends)
    (says_rest c.args.name.now _ _ (g.K.Sink.written c.put-2.new.self) _ _ _ (λ (r : Rose (g.K.Sink.faults c.put-2.new.self) (g.K.Sink.faults c.say.new.out)). omega (arith, c.put-2.ensures.cause.later))
    (on_ok _ _ _ _ c.if-is_err-2.ensures.negation second) c.say.ensures.printed)
