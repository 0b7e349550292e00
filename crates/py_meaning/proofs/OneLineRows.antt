-- Many statements in one line, by induction over their number.
use Rattle.std.proofs.Common.{◌≡◌, ℕ, zero, suc, ◌+◌, Bool, true, false, if◌then◌else◌, List, [], ◌∷◌, ◌++◌, pos, negsuc, refl, ap, ◌∙◌, subst, arith}
use Rattle.std.specs.Prelude.{codes, ◌==◌, ◌-◌}
use Rattle.py_value.specs.Plain.{int_value, str_value, list_object}
use Rattle.py_syntax.specs.Functions.{without_docstring}
use Rattle.py_syntax.specs.Tree as T
use Rattle.py_syntax.specs.Tree.{Stmts}
use Rattle.py_meaning.specs.Activations.{Items, no_items, more, mark, sub, activation, kept_line, is_thrown, Arc, arc_to, arcs_so_far, arcs_of}
use Rattle.py_meaning.specs.Calls.{Calls, enter}
use Rattle.py_meaning.specs.Computations.{State, Res, done, Ans, bind, put, give, chain, read, write, tick}
use Rattle.py_meaning.specs.Crossings.{Crossing, crossing, activations, activations_from, crossings_of, crossings, lines_crossed, lines_thrown, ordered}
use Rattle.py_meaning.specs.Frames.{left_by, framed, begun, ended, in_unit, calls, in_frame}
use Rattle.py_meaning.specs.Laws.{script_code}
use Rattle.py_meaning.specs.Loading.{loaded, file_at, imported, imported_in, load_from, with_imports, folder_of}
use Rattle.py_meaning.specs.Modules.{LoadedModule}
use Rattle.py_meaning.specs.Places.{Place}
use Rattle.py_builtins.specs.Outcomes.{status_of, err_of}
use Rattle.py_meaning.specs.Program.{run_of, first_world, at_rest, script_body, run_modules, meaning}
use Rattle.py_meaning.specs.Statements.{Out, normal, exec}
use Rattle.py_value.specs.Plain.{PlainValue}
use Rattle.py_meaning.proofs.Sources.{runs, var, num, items, program, alone, Shown, row}

-- `x=1`, and `;x=1` so many times after it
abbrev assigned : Bool → Stmts → Stmts
assigned joined rest = T.stmt 1 1 (T.assign (items ((var "x") ∷ [])) (num 1)) (record { semicolon = joined; newline = Rattle.std.specs.Prelude.not joined }) rest

unfoldable many : ℕ → Stmts
many zero = assigned false T.no_stmts
many (suc n) = assigned true (many n)

-- items after so many marks more
unfoldable marks : ℕ → Items → Items
marks zero is = is
marks (suc n) is = marks n (more is (mark 1))

-- so many steps more
unfoldable more_steps : ℕ → ℕ → ℕ
more_steps zero k = k
more_steps (suc n) k = suc (more_steps n k)

-- the state after the first assignment
abbrev set : Items → State
set is = record {
  now = record {
    world = record { globals = ((codes "__name__", str_value (codes "__main__")) ∷ (codes "x", int_value (pos 1)) ∷ []) ∷ []; begun = 0 ∷ []; heap = list_object (str_value (codes "a.py") ∷ []) ∷ []; words = 0 };
    locals = [];
    frames = 1;
    input = [];
  };
  out = [];
  items = is;
}

abbrev in_script : List LoadedModule → Place
in_script ms = record { modules = ms; scope = record { number = 0; own = [] }; handled = Rattle.std.specs.Prelude.None }

-- each assignment takes a step and a mark
runs_on : (c : Calls) (ms : List LoadedModule) (n k : ℕ) (is : Items) → exec c (in_script ms) (many n) (set is) (more_steps (suc n) k) ≡ done normal (set (marks (suc n) is)) k
unfolding runs many marks more_steps
runs_on c ms zero k is = refl
runs_on c ms (suc n) k is = runs_on c ms n k (more is (mark 1))

kept-marks : (n : ℕ) (is : Items) → kept_line is ≡ 1 → kept_line (marks n is) ≡ 1
unfolding marks
kept-marks zero is h = h
kept-marks (suc n) is h = kept-marks n (more is (mark 1)) refl

abbrev one : ℕ → Bool
one k = 1 == k

thrown-marks : (n : ℕ) (is : Items) → kept_line is ≡ 1 → is_thrown is ≡ false → is_thrown (marks n is) ≡ false
unfolding marks
thrown-marks zero is h t = t
thrown-marks (suc n) is h t = thrown-marks n (more is (mark 1)) refl (ap (λ k. if one k then is_thrown is else false) h ∙ t)

arcs-marks : (n : ℕ) (is : Items) → kept_line is ≡ 1 → arcs_so_far (marks n is) ≡ arcs_so_far is
unfolding arcs_so_far marks
arcs-marks zero is h = refl
arcs-marks (suc n) is h = arcs-marks n (more is (mark 1)) refl ∙ ap (λ k. if one k then arcs_so_far is else (arcs_so_far is ++ arc_to is 1 ∷ [])) h

activations-marks : (n : ℕ) (is : Items) → activations (marks n is) ≡ activations is
unfolding activations marks
activations-marks zero is = refl
activations-marks (suc n) is = activations-marks n (more is (mark 1))

-- ---- the whole program

abbrev module_of : ℕ → List LoadedModule
module_of n = record { name = codes "__main__"; path = codes "a.py"; body = many n } ∷ []

no-import : (n : ℕ) → imported (many n) ≡ []
unfolding many imported imported_in
no-import zero = refl
no-import (suc n) = no-import n

loaded-many : (n : ℕ) → loaded (program (alone (many n))) ≡ module_of n
unfolding file_at load_from with_imports folder_of
loaded-many n = ap (λ xs. load_from 1 (alone (many n)) [] 1 (with_imports (alone (many n)) [] (module_of n) xs)) (no-import n)

no-docstring : (n : ℕ) → without_docstring (many n) ≡ many n
unfolding many
no-docstring zero = refl
no-docstring (suc n) = refl

abbrev first : List LoadedModule → State
first ms = at_rest (first_world ms (codes "a.py" ∷ [])) []

abbrev inside : ℕ → State
inside n = record { now = in_frame [] (begun (module_of n) 0 (first (module_of n)).now); out = []; items = no_items }

begins : (c : Calls) (m n k : ℕ) → exec c (in_script (module_of m)) (many n) (inside m) (more_steps (suc n) k) ≡ done normal (set (marks n (more no_items (mark 1)))) k
unfolding runs many marks more_steps
begins c m zero k = refl
begins c m (suc n) k = runs_on c (module_of m) n k (more no_items (mark 1))

abbrev all_items : ℕ → Items
all_items n = marks n (more no_items (mark 1))

-- after the body, which ended normally
abbrev at_end : ℕ → Res Out → Res (Ans PlainValue)
at_end n r = bind (left_by script_code (put (begun (module_of n) 0) (first (module_of n))) r) (ended 0)

body-runs : (n k : ℕ) → script_body (module_of n) (suc (more_steps (suc n) k)) (first (module_of n)) (suc (more_steps (suc n) k)) ≡ left_by script_code (first (module_of n)) (done normal (set (all_items n)) k)
unfolding enter read write chain give calls tick in_unit framed
body-runs n k =
    ap (λ b. at_end n (exec (calls (module_of n) (suc (more_steps (suc n) k))) (in_script (module_of n)) b (inside n) (more_steps (suc n) k))) (no-docstring n)
    ∙ ap (at_end n) (begins (calls (module_of n) (suc (more_steps (suc n) k))) n n k)

abbrev shown_of : ℕ → List LoadedModule → Res (Ans PlainValue) → Shown
shown_of budget ms r =
    let run = run_of budget r in
    record { out = run.out; err = err_of run.outcome; status = status_of run.outcome; steps = run.steps; arcs = lines_crossed (crossings ms 0 run.items); thrown = lines_thrown (crossings ms 0 run.items) }

abbrev two : List Crossing
two = record { from = negsuc 0; to = pos 1; thrown = false } ∷ record { from = pos 1; to = negsuc 0; thrown = false } ∷ []

abbrev from_arcs : List Arc → ℕ → Bool → List Crossing
from_arcs as' l t = Rattle.std.specs.Prelude.map (crossing 1) (as' ++ record { from = l; to = 0; thrown = t } ∷ []) ++ []

crossings-two : (n : ℕ) → crossings (module_of n) 0 (more no_items (sub (activation script_code (all_items n) true))) ≡ two
unfolding activations activations_from crossings_of arcs_of arcs_so_far
crossings-two n =
    let is : Items = more no_items (mark 1) in
    ap (λ rest. crossings_of (module_of n) 0 (activation script_code (all_items n) true ∷ rest)) (activations-marks n is)
    ∙ ap (λ as'. from_arcs as' (kept_line (all_items n)) (is_thrown (all_items n))) (arcs-marks n is refl)
    ∙ ap (λ l. from_arcs (arcs_so_far is) l (is_thrown (all_items n))) (kept-marks n is refl)
    ∙ ap (λ t. from_arcs (arcs_so_far is) 1 t) (thrown-marks n is refl refl)

in_one_line : (n k : ℕ) → row (many n) (suc (more_steps (suc n) k)) ≡ record { out = []; err = []; status = 0; steps = suc (more_steps (suc n) k) - k; arcs = (negsuc 0, pos 1) ∷ (pos 1, negsuc 0) ∷ []; thrown = [] }
unfolding meaning run_modules ordered
in_one_line n k =
    let budget : ℕ = suc (more_steps (suc n) k) in
    ap (λ ms. shown_of budget ms (script_body ms budget (first ms) budget)) (loaded-many n)
    ∙ ap (shown_of budget (module_of n)) (body-runs n k)
    ∙ ap (λ cs. Shown_with cs) (crossings-two n)
  where
    Shown_with : List Crossing → Shown
    Shown_with cs = record { out = []; err = []; status = 0; steps = suc (more_steps (suc n) k) - k; arcs = lines_crossed cs; thrown = lines_thrown cs }

steps-sum : (n k : ℕ) → more_steps n k ≡ n + k
unfolding more_steps
steps-sum zero k = omega arith
steps-sum (suc n) k = ap suc (steps-sum n k) ∙ omega arith

-- Many statements in one line, with the default budget: 262,144 assignments
many_statements : row (many 262143) 1000000 ≡ record { out = []; err = []; status = 0; steps = 262145; arcs = (negsuc 0, pos 1) ∷ (pos 1, negsuc 0) ∷ []; thrown = [] }
many_statements =
    subst (λ b. row (many 262143) b ≡ record { out = []; err = []; status = 0; steps = b - 737855; arcs = (negsuc 0, pos 1) ∷ (pos 1, negsuc 0) ∷ []; thrown = [] })
    (ap suc (steps-sum 262144 737855)) (in_one_line 262143 737855)
