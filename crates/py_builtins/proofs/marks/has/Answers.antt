use Rattle.std.proofs.Common.{length, arith}
use Rattle.std.proofs.lemmas.Iterator.{YieldsList-from_chars}
use Rattle.std.proofs.lemmas.Iterator.Consumers.{YieldsList-turn, YieldsList-end}
use Rattle.std.specs.Str.{chars}
use Rattle.py_builtins.proofs.Characters.{found, passed, not_found}
use Rattle.py_builtins.proofs.marks.has.Goals as goal

pub returns-then-wanted-c : goal.returns-then-wanted-c
returns-then-wanted-c c =
    let t = YieldsList-turn (YieldsList-from_chars c.args.text.now c.utf8.text cc) c.loop-c.yielded _ c.loop-c.yielded_by _ _ c.in-Some.c c.in-Some.is c.next.ensures.steps in
    found c.args.wanted c.in-Some.c (chars c.args.text.now) c.loop-c.yielded _ t c.if-wanted-c.true c.loop-c.invariant

pub loop-c-preserved : goal.loop-c-preserved
loop-c-preserved c =
    let t = YieldsList-turn (YieldsList-from_chars c.args.text.now c.utf8.text cc) c.loop-c.yielded _ c.loop-c.yielded_by _ _ c.in-Some.c c.in-Some.is c.next.ensures.steps in
    passed c.args.wanted c.in-Some.c (chars c.args.text.now) c.loop-c.yielded _ t c.if-wanted-c.false c.loop-c.invariant

pub returns : goal.returns
returns c =
    let t = YieldsList-end (YieldsList-from_chars c.args.text.now c.utf8.text cc) c.loop-c.yielded _ c.loop-c.yielded_by _ _ c.in-None.is c.next.ensures.steps in
    not_found c.args.wanted (chars c.args.text.now) (length c.loop-c.yielded) _ (omega (arith, t.1)) c.loop-c.invariant
