use Rattle.std.proofs.Common.{◌∷◌, [], ap, sym, ◌∙◌}
use Rattle.std.proofs.lemmas.Iterator.{YieldsList-from_chars}
use Rattle.std.proofs.lemmas.Iterator.Consumers.{YieldsList-end}
use Rattle.py_text.specs.Hashes.{mixed, mixed_all}
use Rattle.py_text.proofs.Mixing.{mixed-append}
use Rattle.py_text.proofs.Lists.{map_same}
use Rattle.py_text.proofs.hash.mixed_all.Goals as goal

pub loop-c-preserved : goal.loop-c-preserved
loop-c-preserved c =
    c.mixed-hash.ensures ∙ ap (λ h. mixed h c.in-Some.c) c.loop-c.invariant ∙ sym (mixed-append c.args.start c.loop-c.yielded (c.in-Some.c ∷ []))

pub returns : goal.returns
returns c =
    let t = YieldsList-end (YieldsList-from_chars c.args.s.now c.utf8.s cc) c.loop-c.yielded _ c.loop-c.yielded_by _ _ c.in-None.is c.next.ensures.steps in
    c.loop-c.invariant ∙ ap (mixed_all c.args.start) (sym (map_same c.loop-c.yielded) ∙ t.0)
