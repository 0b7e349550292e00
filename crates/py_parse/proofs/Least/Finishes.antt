-- Every valid state has a completion that the machine reads to its least tree.
use Rattle.std.proofs.Common.{◌≡◌, ℕ, false, [], ◌∷◌, ◌++◌, Some, None, refl, ◌∙◌}
use Rattle.py_syntax.specs.Tree.{no_exprs, exprs}
use Rattle.py_grammar.specs.Least.{least_name}
use Rattle.py_grammar.specs.Machine.{snoc}
use Rattle.py_statements.specs.Open.{newline_end, both_end, a_clause, a_def, SuiteStack}
use Rattle.py_statements.specs.Machine.{Place, Reading, Matching, Simple, Semicolon, Leaving, NameWanted, NameRead, BoundWanted, BoundRead, ModuleWanted, ImportWanted, FunctionWanted, ParamsWanted, ParamWanted, ParamRead, Except, ClauseBound, ColonWanted, SuiteWanted, IndentWanted, MatchLine, MatchBlock, Span, State, Line, at, After, Choosing, Over, left}
use Rattle.py_statements.specs.Listed.{froms, listed, with_name, is_some}
use Rattle.py_parse.specs.Least.{form, complete, finished}
use Rattle.py_parse.specs.Places.{run}
use Rattle.py_parse.proofs.Sound.Valid.{ValidPlace, Valid}
use Rattle.py_parse.proofs.Least.Finish.{finish_place, finish, last_line}
use Rattle.py_parse.proofs.Least.GrowthEnding.{apt}
use Rattle.py_parse.proofs.Least.FinishSuites.{still, Ends, run_steady, simple_ends, suite_ends, indent_ends, choosing_ends, block_ends, line_ends, after_ends}
use Rattle.py_parse.proofs.Least.FinishParts.{reading_ends, matching_ends}

place_ends : (p : Place) (n : Span) (b : SuiteStack) → ValidPlace p b → Ends n.last (at p n b) (finish_place p b) (complete (form p n.last) n b)
place_ends (Reading r s) n b h = reading_ends r s n b h.0 h.1
place_ends (Matching e last cs s) n b h = matching_ends e last cs s n b h.3
place_ends (Simple k) n b h = simple_ends b n.last n.begun n.last k newline_end h.2
place_ends (Semicolon k) n b h = simple_ends b n.last n.begun n.last k both_end h.2
place_ends (Leaving raises) n b h = simple_ends b n.last n.begun n.last (left raises None) newline_end h
place_ends (NameWanted l) n b h = simple_ends b n.last n.begun n.last (listed (with_name l [] None)) newline_end h
place_ends (NameRead l x) n b h = simple_ends b n.last n.begun n.last (listed (with_name l x None)) newline_end h
place_ends (BoundWanted l x) n b h = simple_ends b n.last n.begun n.last (listed (with_name l x (Some []))) newline_end h.1
place_ends (BoundRead l) n b h = simple_ends b n.last n.begun n.last (listed l) newline_end h.1
place_ends ModuleWanted n b h = simple_ends b n.last n.begun n.last (listed (with_name (froms [] []) [] None)) newline_end h
place_ends (ImportWanted m) n b h = simple_ends b n.last n.begun n.last (listed (with_name (froms m []) [] None)) newline_end h
place_ends FunctionWanted n b h = suite_ends (a_def [] [] no_exprs false) n b tt h
place_ends (ParamsWanted x) n b h = suite_ends (a_def x [] no_exprs false) n b tt h
place_ends (ParamWanted x ps ds) n b h = suite_ends (a_def x ps ds (is_some ps)) n b tt h.1
place_ends (ParamRead x ps no_exprs y) n b h = suite_ends (a_def x (ps ++ y ∷ []) no_exprs false) n b tt h.1
place_ends (ParamRead x ps (exprs d ds) y) n b h = suite_ends (a_def x (ps ++ y ∷ []) (snoc (exprs d ds) least_name) false) n b tt h.1
place_ends (Except s cs) n b h = suite_ends (a_clause s cs None None) n b tt h.2
place_ends (ClauseBound s cs e) n b h = suite_ends (a_clause s cs (Some e) (Some [])) n b tt h.3
place_ends (ColonWanted o) n b h = suite_ends o n b (apt o h.0) h.1
place_ends (SuiteWanted o) n b h = suite_ends o n b (apt o h.0) h.1
place_ends (IndentWanted o) n b h = indent_ends o n b (apt o h.0) h.1
place_ends (MatchLine e last) n b h = block_ends e last n b h.1
place_ends (MatchBlock e last) n b h = block_ends e last n b h.1

pub state_ends : (s : State) → Valid s → Ends (last_line s) s (finish s) (finished s)
state_ends (Line b) h = line_ends b h
state_ends (at p n b) h = place_ends p n b h
state_ends (After k first last b) h = after_ends k first last b h.2
state_ends (Choosing e last cs first b) h = choosing_ends e last cs first b 0 h.2
state_ends (Over ss) h = refl

-- What finishes a valid state makes it its least tree.
pub finishes : (s : State) (p : ℕ) → Valid s → run (still (last_line s)) s (finish s) p ≡ Some (Over (finished s))
finishes s p h = run_steady (last_line s) s (finish s) p ∙ state_ends s h
