use Rattle.std.proofs.Common.{length, arith}
use Rattle.std.proofs.lemmas.Iterator.{YieldsList-from_chars}
use Rattle.std.proofs.lemmas.Iterator.Consumers.{YieldsList-turn, YieldsList-end}
use Rattle.std.specs.Str.{chars}
use Rattle.py_builtins.proofs.Characters.{plain_on, plain_end}
use Rattle.py_builtins.proofs.marks.is_plain.Goals as goal

pub loop-c-preserved : goal.loop-c-preserved
loop-c-preserved c =
    let t = YieldsList-turn (YieldsList-from_chars c.args.text.now c.utf8.text cc) c.loop-c.yielded _ c.loop-c.yielded_by _ _ c.in-Some.c c.in-Some.is c.next.ensures.steps in
    plain_on c.args.mark (chars c.args.text.now) c.loop-c.yielded c.in-Some.c _ t c.if-c-eq92.false c.if-c-mark.false c.if-c-lt32.false c.if-c-eq127.false c.loop-c.invariant

pub returns : goal.returns
returns c = λ plain.
    let t = YieldsList-end (YieldsList-from_chars c.args.text.now c.utf8.text cc) c.loop-c.yielded _ c.loop-c.yielded_by _ _ c.in-None.is c.next.ensures.steps in
    plain_end c.args.mark (chars c.args.text.now) (length c.loop-c.yielded) _ (omega (arith, t.1)) c.loop-c.invariant
