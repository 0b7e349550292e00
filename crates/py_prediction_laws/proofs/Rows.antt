-- Runs beside the predictions of their text, computed.
use Rattle.std.proofs.Common.{◌≡◌, ℕ, Bool, true, false, ◌&&◌, ◌||◌, List, [], ◌∷◌, ℤ, pos, int_eq, refl}
use Rattle.py_syntax.specs.Prediction.{predicted, possible}
use Rattle.py_syntax.specs.Tree.{Stmts}
use Rattle.py_syntax.proofs.Sources.{computes}
use Rattle.py_meaning.specs.Crossings.{Crossing, crossings, ends}
use Rattle.py_meaning.specs.Loading.{loaded}
use Rattle.py_meaning.proofs.ExceptionRows.{two_returns_source, handlers_source, two_try_in_a_loop_source, raise_again_source, no_clause_matches_source}
use Rattle.py_meaning.proofs.LoopRows.{loop_else_source, continue_through_finally_source, break_in_finally_source}
use Rattle.py_meaning.proofs.MatchRows.{match_statement_source}
use Rattle.py_meaning.proofs.RunRows.{docstring_alone_source, one_line_loop_source, endless_loop_source}
use Rattle.py_meaning.proofs.Sources.{runs, program, alone, run_in}

abbrev is_among : List (ℤ × ℤ) → ℤ × ℤ → Bool
is_among [] a = false
is_among (b ∷ rest) a = (int_eq a.0 b.0 && int_eq a.1 b.1) || is_among rest a

-- the promise, as a test of one arc
abbrev is_foreseen : Stmts → Crossing → Bool
is_foreseen body c = is_among (possible body) (ends c) && (is_among (predicted body) (ends c) || c.thrown)

abbrev each_foreseen : Stmts → List Crossing → Bool
each_foreseen body [] = true
each_foreseen body (c ∷ rest) = is_foreseen body c && each_foreseen body rest

-- all arcs of the run of a source within a budget
abbrev row : Stmts → ℕ → Bool
row source budget = each_foreseen source (crossings (loaded (program (alone source))) 0 (run_in (alone source) budget).items)

two_returns : row two_returns_source 100 ≡ true
unfolding runs computes
two_returns = refl

handlers : row handlers_source 100 ≡ true
unfolding runs computes
handlers = refl

handlers_cut : row handlers_source 4 ≡ true
unfolding runs computes
handlers_cut = refl

two_try_in_a_loop : row two_try_in_a_loop_source 100 ≡ true
unfolding runs computes
two_try_in_a_loop = refl

raise_again : row raise_again_source 100 ≡ true
unfolding runs computes
raise_again = refl

no_clause_matches : row no_clause_matches_source 100 ≡ true
unfolding runs computes
no_clause_matches = refl

loop_else : row loop_else_source 100 ≡ true
unfolding runs computes
loop_else = refl

continue_through_finally : row continue_through_finally_source 100 ≡ true
unfolding runs computes
continue_through_finally = refl

break_in_finally : row break_in_finally_source 100 ≡ true
unfolding runs computes
break_in_finally = refl

match_statement : row match_statement_source 200 ≡ true
unfolding runs computes
match_statement = refl

docstring_alone : row docstring_alone_source 100 ≡ true
unfolding runs computes
docstring_alone = refl

one_line_loop : row one_line_loop_source 100 ≡ true
unfolding runs computes
one_line_loop = refl

endless_loop : row endless_loop_source 100 ≡ true
unfolding runs computes
endless_loop = refl

-- of the source with two handlers: a throw that isn't told, a line that no run can go on with, and the same as they should be
untold_throw : is_foreseen handlers_source (record { from = pos 2; to = pos 3; thrown = false }) ≡ false
unfolding computes
untold_throw = refl

told_throw : is_foreseen handlers_source (record { from = pos 2; to = pos 3; thrown = true }) ≡ true
unfolding computes
told_throw = refl

past_the_first_clause : is_foreseen handlers_source (record { from = pos 2; to = pos 5; thrown = true }) ≡ false
unfolding computes
past_the_first_clause = refl

without_a_throw : is_foreseen handlers_source (record { from = pos 2; to = pos 7; thrown = false }) ≡ true
unfolding computes
without_a_throw = refl
