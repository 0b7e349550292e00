-- What has to unfold.
--     cuts    for a text to be cut into segments
--     lays    for segments to be laid out as tokens
--     runs    for a run to compute
use Rattle.std.specs.Fmt as format
use Rattle.std.specs.Str as str
use Rattle.py_value.specs.Comparison as comparison
use Rattle.py_token.specs.Fields as fields
use Rattle.py_token.specs.Layout as layouts
use Rattle.py_token.specs.Marks as marks
use Rattle.py_token.specs.Numbers as numbers
use Rattle.py_token.specs.Rules as rules
use Rattle.py_token.specs.Segments as segments
use Rattle.py_token.specs.Words as words
use Rattle.py_builtins.specs.Builtins as builtins
use Rattle.py_builtins.specs.Texts as texts
use Rattle.py_builtins.specs.World as world
use Rattle.py_syntax.specs.Functions as functions
use Rattle.py_meaning.specs.Activations as activations
use Rattle.py_meaning.specs.Assignments as assignments
use Rattle.py_meaning.specs.Calls as calls
use Rattle.py_meaning.specs.Computations as computations
use Rattle.py_meaning.specs.Crossings as crossings
use Rattle.py_meaning.specs.Events as events
use Rattle.py_meaning.specs.Expressions as expressions
use Rattle.py_meaning.specs.Frames as frames
use Rattle.py_meaning.specs.Imports as imports
use Rattle.py_meaning.specs.Loading as loading
use Rattle.py_meaning.specs.Modules as modules
use Rattle.py_meaning.specs.Patterns as patterns
use Rattle.py_meaning.specs.Program as program
use Rattle.py_meaning.specs.Statements as statements

unfoldable pub cuts : Unit {0}
unfolding segments.segments segments.segment_at fields.token_at rules.plain_token marks.mark_at
    words.keyword_of numbers.are_digits numbers.digits_value
cuts = tt

unfoldable pub lays : Unit {0}
unfolding layouts.put layouts.layout
lays = tt

unfoldable pub runs : Unit {0}
unfolding format.digits str.chars str.is_utf8 lib.Utf8.encode comparison.equal_within
    comparison.order_within builtins.numbers_before texts.str_text texts.repr_text
    texts.text_within texts.display_within world.value_of world.with_name world.without_name
    world.names_at world.with_names_at world.is_among world.without_number
    functions.functions functions.functions_in functions.opt_functions functions.arms_functions
    functions.clauses_functions functions.cases_functions activations.arcs_so_far
    activations.arcs_of assignments.assign_to assignments.assign_each assignments.assign_all
    assignments.augment calls.enter calls.use_builtin calls.call_value calls.call_of
    computations.give computations.chain computations.step computations.tick computations.note
    computations.read computations.write computations.say computations.within computations.stop
    computations.value computations.ask computations.work computations.branch
    crossings.activations crossings.activations_from crossings.crossings_of crossings.ordered
    events.told events.told_of expressions.eval expressions.eval_each expressions.eval_pairs
    expressions.eval_links expressions.eval_opt expressions.eval_fragments
    expressions.eval_parts frames.framed frames.in_unit frames.calls imports.begin
    imports.module_of imports.import_each imports.take_each loading.file_at loading.imported
    loading.imported_in loading.opt_imported loading.arms_imported loading.clauses_imported
    loading.cases_imported loading.folder_of loading.with_imports loading.load_from
    modules.unit_at modules.number_from patterns.matched patterns.matched_each
    patterns.matched_one program.run_modules program.meaning program.called statements.using
    statements.turns statements.loop statements.exec statements.exec_kind statements.exec_opt
    statements.exec_arms statements.exec_clauses statements.exec_finally statements.exec_cases
runs = tt
