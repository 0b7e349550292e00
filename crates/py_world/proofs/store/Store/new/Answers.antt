use Rattle.std.proofs.Common.{[], ◌∷◌, length, map, ap, ◌∙◌}
use Rattle.py_value.specs.Heaps.{with_object}
use Rattle.py_value.specs.HeapView.{plain_heap}
use Rattle.py_value.specs.Plain.{str_value, list_object}
use Rattle.py_value.specs.View.{plains}
use Rattle.py_builtins.specs.World.{World}
use Rattle.py_code.specs.Loaded.{module_of, modules_of}
use Rattle.py_code.specs.Programs.{no_names}
use Rattle.py_world.specs.Stores.{words_of}
use Rattle.py_world.proofs.store.Store.new.Goals as goal

pub returns : goal.returns
returns c =
    let gs = map no_names (modules_of c.args.programs.now) in
    ap (λ g. let w : World = record { globals = g; begun = c.new-2.result.items; heap = plain_heap c.make_list.new.self; words = c.in_ok-words.words.place } in w)
    (c.in_ok-globals.ensures ∙ ap (λ ms. map no_names (map module_of ms)) c.deref.ensures.value)
    ∙ ap (λ b. let w : World = record { globals = gs; begun = b; heap = plain_heap c.make_list.new.self; words = c.in_ok-words.words.place } in w) c.new-2.ensures.items
    ∙ ap (λ h. let w : World = record { globals = gs; begun = []; heap = h; words = c.in_ok-words.words.place } in w)
    (c.in_ok-words.ensures.ok ∙ ap (λ h. with_object h (list_object (plains c.in_ok-word_values.field-0.items))) c.new-heap.ensures ∙ ap (λ vs. list_object vs ∷ []) c.in_ok-word_values.ensures)
    ∙ ap (λ n. let w : World = record { globals = gs; begun = []; heap = list_object (map str_value (words_of c.args.words.now)) ∷ []; words = n } in w) (c.in_ok-words.ensures.address ∙ ap length c.new-heap.ensures)
