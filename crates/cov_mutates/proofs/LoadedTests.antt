-- A loaded program is one whose mutants are judged, and its verdicts are those of a call.
use Rattle.std.proofs.Common.{◌≡◌, ℕ, zero, suc, List, [], ◌∷◌, map, length, slice_get, Result, Ok, Err, Vec, refl, sym, ap, subst, ◌∙◌, arith}
use Rattle.std.specs.Global.{Global}
use Rattle.std.specs.List.{Contains}
use Rattle.py_changes.specs.Paths.{path_of}
use Rattle.py_code.specs.declared.code.Program.{Program}
use Rattle.py_syntax.specs.View.{plain_module}
use Rattle.py_syntax.specs.declared.stmt.Module.{Module}
use Rattle.cov_loaded_laws.specs.Loaded.{IsMeasurable}
use Rattle.cov_mutate.specs.Meant.{AreMutable, MutateOf, answer_view, view_of}
use Rattle.cov_mutate.specs.declared.Judged.{Judged as RawJudged}
use Rattle.cov_run.specs.Loads.{IsCompiled, loaded_modules, loaded_pairs}
use Rattle.cov_run.specs.declared.programs.Loaded.{Loaded}
use Rattle.cov_runs.proofs.PossibleSets.{hold, possible_in}
use Rattle.cov_streams.specs.Retests.{JudgeRun, JudgedAs, judged_of}
use Rattle.cov_suite.specs.declared.results.SuiteError.{SuiteError}
use Rattle.cov_suite.specs.declared.results.SuiteError.TheVariants.{NotImported, NoMemory}
use Rattle.cov_verdicts.specs.Regular.{AreRegular}
use Rattle.cov_mutates.specs.Views.{came_by, judged_views, on_path, program_path}

-- ---- trees beside their programs

bodies-are : (ps : List Program) (trees : List Module) → length trees ≡ length ps → map plain_module trees ≡ map (λ m. m.body) (loaded_pairs ps trees)
bodies-are [] [] e = refl
bodies-are [] (t ∷ ts) e = absurd (omega (arith, e))
bodies-are (p ∷ ps) [] e = absurd (omega (arith, e))
bodies-are (p ∷ ps) (t ∷ ts) e = ap (λ rest. plain_module t ∷ rest) (bodies-are ps ts (omega (arith, e)))

path-is : (ps : List Program) (trees : List Module) (n : ℕ) → length trees ≡ length ps → program_path (slice_get ps n) ≡ path_of (loaded_pairs ps trees) n
path-is [] trees n e = refl
path-is (p ∷ ps) [] n e = absurd (omega (arith, e))
path-is (p ∷ ps) (t ∷ ts) zero e = refl
path-is (p ∷ ps) (t ∷ ts) (suc n) e = path-is ps ts n (omega (arith, e))

-- ---- what is asked of them

-- the mutants of a loaded program are judged
pub mutable : (l : Loaded) (trees : List Module) → trees ≡ l.modules.items → IsCompiled l → IsMeasurable l → AreMutable l.programs trees (loaded_modules l)
mutable l trees is compiled measurable =
    let ps = l.programs.modules.items in
    let own = l.modules.items in
    let t = measurable.trees (map possible_in own) (λ m low a h. subst (λ s. Contains s a) (sym (hold ps own m low)) h) in
    subst (λ ts. AreMutable l.programs ts (loaded_modules l)) (sym is) (record {
      faithful = t.faithful;
      paths = t.paths;
      well_formed = t.well_formed;
      lines = t.lines;
      bodies = bodies-are ps own compiled.beside;
    })

-- ---- the call

views-are : (l : Loaded) → IsCompiled l → (js : List RawJudged) → judged_views l.programs js ≡ map (judged_of (loaded_modules l)) (map view_of js)
views-are l compiled [] = refl
views-are l compiled (j ∷ js) =
    ap (λ p. on_path p j ∷ judged_views l.programs js) (path-is l.programs.modules.items l.modules.items j.«module» compiled.beside)
    ∙ ap (λ rest. judged_of (loaded_modules l) (view_of j) ∷ rest) (views-are l compiled js)

told : (l : Loaded) → IsCompiled l → AreRegular (loaded_modules l) → (budget : ℕ) (answer : Result (Vec RawJudged Global) SuiteError) → MutateOf budget (loaded_modules l) (answer_view answer) → JudgedAs budget (loaded_modules l) (came_by l.programs answer)
told l compiled regular budget (Ok js) meant = (map view_of js.items, meant.1 regular, views-are l compiled js.items)
told l compiled regular budget (Err NotImported) meant = meant
told l compiled regular budget (Err NoMemory) meant = tt

-- the answer to the call
pub judged-so : (l : Loaded) → IsCompiled l → AreRegular (loaded_modules l) → (budget : ℕ) (answer : Result (Vec RawJudged Global) SuiteError) → MutateOf budget (loaded_modules l) (answer_view answer) → JudgeRun {W = Unit {0}} tt budget (loaded_modules l) (came_by l.programs answer) tt
judged-so l compiled regular budget answer meant = record { judged = told l compiled regular budget answer meant; same = refl }
