-- Small sources, computed.
use Rattle.std.proofs.Common.{◌≡◌, ℕ, ◌%◌, [], refl}
use Rattle.std.specs.Prelude.{codes}
use Rattle.cov_make.specs.Source.{number_after, drawn, blocks, source}
use Rattle.py_token.specs.Source.{line_count}
use Rattle.py_builtins.specs.Outcomes.{finished}
use Rattle.py_meaning.specs.Program.{Run, run_modules}
use Rattle.cov_make_laws.specs.Loadings.{module_alone}
use Rattle.cov_make_laws.specs.Trees.{number_drawn, statements}
use Rattle.cov_make_laws.proofs.Unfolds.{runs}

abbrev the_run : ℕ → ℕ → Run
the_run seed size =
    run_modules (module_alone (codes "__main__") (codes "a.py") seed size) [] [] 1000000

-- with seed 0 the first draw is 167951807: a `while` with the digit 5
first_draw : drawn (number_after 0) ≡ 167951807
first_draw = refl

first_form : (167951807 % 4 ≡ 3) × (number_drawn 167951807 ≡ 5)
first_form = (refl, refl)

-- a run took so many steps, wrote `0` and finished
abbrev WritesZero : Run → ℕ → Type 0
WritesZero run steps = (run.steps ≡ steps) × (run.out ≡ codes "0\n") × (run.outcome ≡ finished)

-- without blocks: the call of the body and two lines
no_block : WritesZero (the_run 0 0) 3
unfolding runs statements
no_block = (refl, refl, refl)

no_block_lines : line_count (source 0 0) ≡ 2
unfolding line_count blocks
no_block_lines = refl

one_block : WritesZero (the_run 0 1) 4
unfolding runs statements
one_block = (refl, refl, refl)

one_block_lines : line_count (source 0 1) ≡ 4
unfolding line_count blocks
one_block_lines = refl

-- twenty blocks of all forms
twenty : (the_run 7 20).outcome ≡ finished
unfolding runs statements
twenty = refl
