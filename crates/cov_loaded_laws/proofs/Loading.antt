-- Loaded programs have the units of their trees, in lines of texts.
use Rattle.std.proofs.Common.{◌≡◌, ℕ, suc, ◌≤◌, List, [], ◌∷◌, map, length, All, Some, Result, refl, sym, ap, ◌∙◌, subst, string_bytes, encode_utf8_all, arith}
use Rattle.std.specs.Prelude.{slice_get}
use Rattle.std.proofs.lemmas.List.Elements.{All-nil, All-cons}
use Rattle.cov_outside.specs.declared.shelf.ShelfError.{ShelfError}
use Rattle.py_code.specs.declared.code.Program.{Program}
use Rattle.py_code.specs.Loaded.{modules_of, most_numbered}
use Rattle.py_line_laws.specs.Lines.{LinesLaw}
use Rattle.py_meaning.specs.Modules.{LoadedModule}
use Rattle.cov_recorder.specs.Plan.{HaveFirsts}
use Rattle.cov_recorder_laws.specs.Laws.{HasTextLines}
use Rattle.cov_run.specs.Loads.{HavePaths, loaded_modules}
use Rattle.cov_run_laws.proofs.Readings.{reading}
use Rattle.cov_measure_laws.specs.Units.{HaveSamePaths, UnitsLaw}
use Rattle.cov_loaded_laws.specs.Loaded.{LoadedHaveTextLines, LoadedLaw}

all_texts : (ms : List LoadedModule) → ((i : ℕ) (m : LoadedModule) → slice_get ms i ≡ Some m → HasTextLines m) → All HasTextLines ms
all_texts [] each = All-nil HasTextLines
all_texts (m ∷ ms) each = All-cons HasTextLines m ms (each 0 m refl) (all_texts ms (λ i n is. each (suc i) n is))

pub loaded_lines : {H : Type 0} → LinesLaw → (moves : H → List ℕ → ℕ → Result (List ℕ) ShelfError → H → Type 0) → LoadedHaveTextLines moves
loaded_lines lines moves old new script name ms loads =
    all_texts ms
    (λ i m is.
    let file = reading moves old new script name ms loads i m is in
    let tree = file.read.0 in
    lines m.body tree.tokens tree.read.on_lines tree.spelled)

have-paths : (ps : List Program) (ms : List LoadedModule) → HavePaths ps ms → HaveSamePaths ps ms
have-paths [] [] h = refl
have-paths [] (m ∷ ms) h = absurd h
have-paths (p ∷ ps) [] h = absurd h
have-paths (p ∷ ps) (m ∷ ms) h = ap (λ x. x ∷ map (λ (p : Program). string_bytes p.path) ps) h.0 ∙ ap (λ xs. encode_utf8_all m.path ∷ xs) (have-paths ps ms h.1)

pub loaded_law : UnitsLaw → LoadedLaw
loaded_law units l is lines =
    let paths = have-paths l.programs.modules.items (loaded_modules l) is.paths in
    let few : length (modules_of l.programs) ≤ most_numbered = omega (arith, is.few) in
    record {
      some = is.some;
      few = few;
      begin = subst HaveFirsts (sym (units.same l.programs (loaded_modules l) is.faithful paths)) (units.begin (loaded_modules l) lines);
      trees = λ sets whole. record { faithful = is.faithful; paths = paths; well_formed = is.well_formed; lines = lines; whole = whole };
    }
