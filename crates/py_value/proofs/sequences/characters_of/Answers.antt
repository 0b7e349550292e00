use Rattle.std.proofs.Common.{◌∷◌, [], ap, sym, ◌∙◌}
use Rattle.std.proofs.lemmas.Iterator.{YieldsList-from_chars}
use Rattle.std.proofs.lemmas.Iterator.Consumers.{YieldsList-end}
use Rattle.py_value.specs.Operators.{characters}
use Rattle.py_value.specs.Plain.{str_value}
use Rattle.py_value.specs.View.{plain}
use Rattle.py_text.proofs.Lists.{map_same}
use Rattle.py_value.proofs.Lists.{one_more}
use Rattle.py_value.proofs.sequences.characters_of.Goals as goal

pub returns : goal.returns
returns c =
    let t = YieldsList-end (YieldsList-from_chars c.args.text.now c.utf8.text cc) c.loop-c.yielded _ c.loop-c.yielded_by _ _ c.in-None.is c.next.ensures.steps in
    c.loop-c.invariant ∙ ap characters (sym (map_same c.loop-c.yielded) ∙ t.0)

pub loop-c-preserved : goal.loop-c-preserved
loop-c-preserved c =
    one_more plain (λ d. str_value (d ∷ [])) c.loop-c.values.items c.push.new.self.items _ c.loop-c.yielded c.in-Some.c c.in_ok-push.ensures.items (ap str_value c.in_ok-of_char.ensures) c.loop-c.invariant
