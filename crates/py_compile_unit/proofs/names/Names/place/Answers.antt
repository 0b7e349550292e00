use Rattle.std.proofs.Common.{ap, sym, ◌∙◌}
use Rattle.py_text.specs.Comparison.{is_same_text}
use Rattle.py_compile_expr.specs.Cells.{place_in, add_new}
use Rattle.py_compile_expr.proofs.NumberLaws.{of_answer}
use Rattle.py_compile_expr.proofs.Turns.{the_number}
use Rattle.py_compile_unit.proofs.OwnNames.{new_is, placed}
use Rattle.py_compile_unit.proofs.names.Names.place.Goals as goal

pub returns-clause-place : goal.returns-clause-place
returns-clause-place c =
    the_number c.number.result _ _ c.number.ensures
    (placed c.self.inside.all.keys c.insert_full.new.self.keys c.in_ok-copy.field-0 _ c.in_ok-place.ensures.index c.in_ok-place.ensures.keys
    ∙ ap (place_in is_same_text c.insert_full.new.self.keys) c.in_ok-copy.ensures)

pub returns-clause-added : goal.returns-clause-added
returns-clause-added c =
    of_answer c.number.result _
    (c.in_ok-place.ensures.keys ∙ sym (new_is c.self.inside.all.keys c.in_ok-copy.field-0)
    ∙ ap (λ s. add_new is_same_text s c.in_ok-copy.field-0) c.self.view_is ∙ ap (add_new is_same_text c.args.self.now) c.in_ok-copy.ensures)
