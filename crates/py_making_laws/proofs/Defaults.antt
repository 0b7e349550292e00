-- The number that a `def` names is that of a unit with as many defaults as the `def` has, where no
-- two `def`s begin on one line.
--     Answered, AllAnswered      a `def`, and those of statements
--     answered_first and the like  of parts of statements
--     numbered                   all `def`s of a module
use Rattle.std.proofs.Common.{◌≡◌, ◌≢◌, ℕ, suc, Bool, true, false, List, [], ◌∷◌, ◌++◌, map, ap, ◌∙◌}
use Rattle.std.specs.Prelude.{slice_get, if◌then◌else◌}
use Rattle.py_syntax.specs.Functions.{Function, is_docstring, without_docstring}
use Rattle.py_syntax.specs.Tree.{Stmts, no_stmts, stmt}
use Rattle.py_meaning.specs.Modules.{unit_at}
use Rattle.py_code.specs.Units.{Code}
use Rattle.py_compile.specs.Definitions.{Definition, function_of, definitions, definitions_in}
use Rattle.py_compile.specs.ProgramRuns.{HasFunctions}
use Rattle.py_world_laws.specs.Making.{defaults_in}
use Rattle.py_line_laws.specs.OwnLines.{NoneAt, HaveOwnLines}
use Rattle.py_making_laws.proofs.Leaves.{own_number, other_number}

abbrev pub Answered : List Code → List Function → Definition → Type 0
Answered us fs d = defaults_in (slice_get us (unit_at d.function.line fs)) ≡ d.defaults

abbrev pub AllAnswered : List Code → List Function → List Definition → Type 0
AllAnswered us fs [] = Unit {0}
AllAnswered us fs (d ∷ ds) = Answered us fs d × AllAnswered us fs ds

pub answered_first : (us : List Code) (fs : List Function) (ds es : List Definition) → AllAnswered us fs (ds ++ es) → AllAnswered us fs ds
answered_first us fs [] es h = tt
answered_first us fs (d ∷ ds) es h = (h.0, answered_first us fs ds es h.1)

pub answered_last : (us : List Code) (fs : List Function) (ds es : List Definition) → AllAnswered us fs (ds ++ es) → AllAnswered us fs es
answered_last us fs [] es h = h
answered_last us fs (d ∷ ds) es h = answered_last us fs ds es h.1

pub answered_without : (us : List Code) (fs : List Function) (b : Stmts) → AllAnswered us fs (definitions b) → AllAnswered us fs (definitions (without_docstring b))
answered_without us fs no_stmts h = h
answered_without us fs (stmt first last k end rest) h = by_case (is_docstring k)
  where
    by_case : (d : Bool) → AllAnswered us fs (definitions (if d then rest else stmt first last k end rest))
    by_case true = answered_last us fs (definitions_in first k) (definitions rest) h
    by_case false = h

-- ---- all `def`s of a module

unit_here : (f : Function) (fs : List Function) → unit_at f.line (f ∷ fs) ≡ 1
unfolding unit_at
unit_here f fs = ap (λ b. if b then 1 else suc (unit_at f.line fs)) (own_number f.line)

unit_later : (l : ℕ) (f : Function) (fs : List Function) → l ≢ f.line → unit_at l (f ∷ fs) ≡ suc (unit_at l fs)
unfolding unit_at
unit_later l f fs ne = ap (λ b. if b then 1 else suc (unit_at l fs)) (other_number f.line l ne)

-- after one more function, and its unit
later : (us : List Code) (fs : List Function) (first : Code) (f : Function) (ds : List Definition) → NoneAt f.line (map function_of ds) → AllAnswered us fs ds → AllAnswered (first ∷ us) (f ∷ fs) ds
later us fs first f [] none h = tt
later us fs first f (d ∷ ds) none h = (
  ap (λ n. defaults_in (slice_get (first ∷ us) n)) (unit_later d.function.line f fs none.0) ∙ h.0,
  later us fs first f ds none.1 h.1,
)

pub numbered : (all : List Function) (ds : List Definition) (us : List Code) (first : Code) → HasFunctions all ds us → HaveOwnLines (map function_of ds) → AllAnswered (first ∷ us) (map function_of ds) ds
numbered all [] us first has own = tt
numbered all (d ∷ ds) [] first has own = absurd has
numbered all (d ∷ ds) (u ∷ us) first has own = (
  ap (λ n. defaults_in (slice_get (first ∷ u ∷ us) n)) (unit_here d.function (map function_of ds)) ∙ has.0.defaults,
  later (u ∷ us) (map function_of ds) first d.function ds own.0 (numbered all ds us u has.1 own.1),
)
