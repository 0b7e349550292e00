-- The modules of a loaded program have no fault of scope, and their statement lines are from 1 on.
use Rattle.std.proofs.Common.{◌≡◌, ◌<◌, ℕ, suc, List, [], ◌∷◌, All, Some, Result, refl, arith}
use Rattle.std.specs.Prelude.{slice_get}
use Rattle.std.proofs.lemmas.List.Elements.{All-nil, All-cons, All-head, All-tail}
use Rattle.cov_outside.specs.declared.shelf.ShelfError.{ShelfError}
use Rattle.py_syntax.specs.Marks.{statement_lines}
use Rattle.py_line_laws.specs.Lines.{IsLine, LinesLaw}
use Rattle.py_meaning.specs.Modules.{LoadedModule}
use Rattle.py_prediction_laws.specs.Sound.{IsProper}
use Rattle.cov_run_laws.specs.LoadedPrograms.{LoadedAreProper}
use Rattle.cov_run_laws.proofs.Readings.{reading}

numbered : (ls : List ℕ) → All IsLine ls → All (λ l. 0 < l) ls
numbered [] h = All-nil (λ l. 0 < l)
numbered (l ∷ ls) h = let on = (All-head IsLine l ls h).0 in All-cons (λ l. 0 < l) l ls (omega arith) (numbered ls (All-tail IsLine l ls h))

all_proper : (ms : List LoadedModule) → ((i : ℕ) (m : LoadedModule) → slice_get ms i ≡ Some m → IsProper m) → All IsProper ms
all_proper [] each = All-nil IsProper
all_proper (m ∷ ms) each = All-cons IsProper m ms (each 0 m refl) (all_proper ms (λ i n is. each (suc i) n is))

pub proper_law : {H : Type 0} → LinesLaw → (moves : H → List ℕ → ℕ → Result (List ℕ) ShelfError → H → Type 0) → LoadedAreProper moves
proper_law lines moves old new script name ms loads =
    all_proper ms
    (λ i m is.
    let file = reading moves old new script name ms loads i m is in
    let tree = file.read.0 in
    record { well_formed = file.read.1; numbered = numbered (statement_lines m.body) (lines m.body tree.tokens tree.read.on_lines tree.spelled) })
