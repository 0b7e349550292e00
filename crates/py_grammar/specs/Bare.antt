-- A state of the machine of expressions with the least trees in place of those that it holds.
use Rattle.std.specs.Prelude.{[]}
use Rattle.py_syntax.specs.Tree.{no_exprs, no_pairs, no_links, absent, no_fragments, plain}
use Rattle.py_grammar.specs.Machine.{Goal, any, one, targets, Opener, a_call, a_list, Frame, exprs_rest, cond_test, cond_else, right, compare_rest, in_items, index_first, in_index, slice_to, in_key, in_value, Ctx, Outside, on, State, Want, Have, Strings, AfterOpen, AfterComma, AfterTarget, ItemsOpen, ItemsComma, DictOpen, DictComma, IndexOpen, SliceColon, AfterDot, AfterNot, AfterIs, AfterIsNot, Linked, Out, Next, Stuck, Left}
use Rattle.py_grammar.specs.Least.{least_name}

-- what the whole is to be
abbrev pub bare_goal : Goal → Goal
bare_goal (targets f es) = targets least_name no_exprs
bare_goal g = g

-- what opened a bracket that holds items
abbrev pub bare_opener : Opener → Opener
bare_opener (a_call f) = a_call least_name
bare_opener a_list = a_list

-- one frame
abbrev pub bare_frame : Frame → Frame
bare_frame (exprs_rest f es) = exprs_rest least_name no_exprs
bare_frame (cond_test b) = cond_test least_name
bare_frame (cond_else b c) = cond_else least_name least_name
bare_frame (right j a) = right j least_name
bare_frame (compare_rest a ls op) = compare_rest least_name no_links op
bare_frame (in_items o es) = in_items (bare_opener o) no_exprs
bare_frame (index_first f) = index_first least_name
bare_frame (in_index f) = in_index least_name
bare_frame (slice_to f from) = slice_to least_name absent
bare_frame (in_key ps) = in_key no_pairs
bare_frame (in_value ps key) = in_value no_pairs least_name
bare_frame f = f

-- what is open round a place
abbrev pub bare_ctx : Ctx → Ctx
bare_ctx (Outside g) = Outside (bare_goal g)
bare_ctx (on f k) = on (bare_frame f) (bare_ctx k)

-- a place in an expression
abbrev pub bare : State → State
bare (Want lev k) = Want lev (bare_ctx k)
bare (Have e k) = Have least_name (bare_ctx k)
bare (Strings fs k) = Strings (plain [] no_fragments) (bare_ctx k)
bare (AfterOpen k) = AfterOpen (bare_ctx k)
bare (AfterComma f es k) = AfterComma least_name no_exprs (bare_ctx k)
bare (AfterTarget f es) = AfterTarget least_name no_exprs
bare (ItemsOpen o k) = ItemsOpen (bare_opener o) (bare_ctx k)
bare (ItemsComma o es k) = ItemsComma (bare_opener o) no_exprs (bare_ctx k)
bare (DictOpen k) = DictOpen (bare_ctx k)
bare (DictComma ps k) = DictComma no_pairs (bare_ctx k)
bare (IndexOpen f k) = IndexOpen least_name (bare_ctx k)
bare (SliceColon f from k) = SliceColon least_name absent (bare_ctx k)
bare (AfterDot f k) = AfterDot least_name (bare_ctx k)
bare (AfterNot a ls k) = AfterNot least_name no_links (bare_ctx k)
bare (AfterIs a ls k) = AfterIs least_name no_links (bare_ctx k)
bare (AfterIsNot a ls k) = AfterIsNot least_name no_links (bare_ctx k)
bare (Linked a ls k) = Linked least_name no_links (bare_ctx k)

-- what a token makes of a place
abbrev pub bare_out : Out → Out
bare_out (Next s) = Next (bare s)
bare_out Stuck = Stuck
bare_out (Left e) = Left least_name

-- no target is asked for
abbrev pub Free : Ctx → Type 0
Free (Outside any) = Unit {0}
Free (Outside one) = Unit {0}
Free (Outside g) = ⊥
Free (on f k) = Free k
