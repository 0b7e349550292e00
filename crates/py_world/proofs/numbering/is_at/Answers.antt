use Rattle.std.proofs.Common.{Some, ap, sym, ◌∙◌}
use Rattle.py_text.proofs.SameTexts.{same_text}
use Rattle.py_world.proofs.SetAt.{name_here}
use Rattle.py_world.proofs.numbering.is_at.Goals as goal

pub returns-in-Some : goal.returns-in-Some
returns-in-Some c =
    λ t.
    let g = c.in-Some.global.now in
    name_here c.args.globals.now c.args.number g c.in-Some.ensures.lookup.3.0 c.in-Some.ensures.lookup.1
    ∙ ap (λ x. Some x) (sym (same_text c.args.name.now g.name (sym c.is_same.ensures ∙ t)))
