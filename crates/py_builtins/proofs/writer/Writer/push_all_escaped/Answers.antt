use Rattle.std.proofs.Common.{◌∷◌, ◌++◌, [], length, drop, arith}
use Rattle.std.proofs.lemmas.Iterator.{YieldsList-from_chars}
use Rattle.std.proofs.lemmas.Iterator.Consumers.{YieldsList-turn, YieldsList-end}
use Rattle.std.specs.Str.{chars}
use Rattle.py_builtins.specs.Displays.{escaped, all_escaped}
use Rattle.py_builtins.specs.Writing.{whole}
use Rattle.py_builtins.proofs.Characters.{rest_escaped, no_rest_escaped}
use Rattle.py_builtins.proofs.Pieces.{turn, turn_stops, turns_end, stopped}
use Rattle.py_builtins.proofs.writer.Writer.push_all_escaped.Goals as goal

pub loop-c-preserved : goal.loop-c-preserved
loop-c-preserved c =
    let t = YieldsList-turn (YieldsList-from_chars c.args.text.now c.utf8.text cc) c.loop-c.yielded _ c.loop-c.yielded_by _ _ c.in-Some.c c.in-Some.is c.next.ensures.steps in
    turn c.loop-c.self.text c.push_escaped.new.self.text (whole (escaped c.args.mark c.in-Some.c)) (whole (all_escaped c.args.mark (drop (length (c.loop-c.yielded ++ c.in-Some.c ∷ [])) (chars c.args.text.now)))) _ _
    (rest_escaped c.args.mark (chars c.args.text.now) c.loop-c.yielded c.in-Some.c t) c.in_ok-push_escaped.ensures c.loop-c.invariant

pub returns-in_err-push_escaped : goal.returns-in_err-push_escaped
returns-in_err-push_escaped c =
    let t = YieldsList-turn (YieldsList-from_chars c.args.text.now c.utf8.text cc) c.loop-c.yielded _ c.loop-c.yielded_by _ _ c.in-Some.c c.in-Some.is c.next.ensures.steps in
    stopped c.from_residual.result c.in_err-push_escaped.field-0.0 c.args.self.now.text _ _ c.from_residual.ensures.1
    (turn_stops c.in_err-push_escaped.field-0.0 c.loop-c.self.text (whole (escaped c.args.mark c.in-Some.c)) (whole (all_escaped c.args.mark (drop (length (c.loop-c.yielded ++ c.in-Some.c ∷ [])) (chars c.args.text.now)))) _ _
    (rest_escaped c.args.mark (chars c.args.text.now) c.loop-c.yielded c.in-Some.c t) c.in_err-push_escaped.ensures c.loop-c.invariant)

pub returns : goal.returns
returns c =
    let t = YieldsList-end (YieldsList-from_chars c.args.text.now c.utf8.text cc) c.loop-c.yielded _ c.loop-c.yielded_by _ _ c.in-None.is c.next.ensures.steps in
    turns_end c.loop-c.self.text _ _ (no_rest_escaped c.args.mark (chars c.args.text.now) (length c.loop-c.yielded) (omega (arith, t.1))) c.loop-c.invariant
