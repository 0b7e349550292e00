-- The modules of a loaded program are trees of texts, without a fault of scope.
use Rattle.std.proofs.Common.{◌≡◌, ◌<◌, ℕ, zero, suc, List, [], ◌∷◌, All, Option, Some, Result, Ok, refl, arith}
use Rattle.std.specs.Prelude.{slice_get}
use Rattle.std.proofs.lemmas.List.Elements.{All-nil, All-cons, All-head, All-tail}
use Rattle.cov_outside.specs.declared.shelf.ShelfError.{ShelfError}
use Rattle.py_changes.specs.Texts.{IsText, RegularTexts}
use Rattle.py_line_laws.specs.Lines.{IsLine, LinesLaw}
use Rattle.py_meaning.specs.Modules.{LoadedModule, body_of}
use Rattle.py_syntax.specs.Marks.{statement_lines}
use Rattle.py_syntax.specs.Tree.{Text}
use Rattle.cov_changes_laws.specs.LoadedChanges.{LoadedAreRegular}
use Rattle.cov_run.specs.Loading.{IsRead, content_at}
use Rattle.cov_run.specs.Loads.{Loads}

numbered : (ls : List ℕ) → All IsLine ls → All (λ l. 0 < l) ls
numbered [] h = All-nil (λ l. 0 < l)
numbered (l ∷ ls) h =
    let on = (All-head IsLine l ls h).0 in
    All-cons (λ l. 0 < l) l ls (omega arith) (numbered ls (All-tail IsLine l ls h))

-- what holds of each module in a place holds of all
all-modules : (P : LoadedModule → Type 0) (ms : List LoadedModule)
    → ((i : ℕ) (m : LoadedModule) → slice_get ms i ≡ Some m → P m) → All P ms
all-modules P [] each = All-nil P
all-modules P (m ∷ ms) each =
    All-cons P m ms (each 0 m refl) (all-modules P ms (λ i n is. each (suc i) n is))

-- the lines of a module, as the laws ask
abbrev HasLines : LoadedModule → Type 0
HasLines m = All (λ l. 0 < l) (statement_lines m.body)

lines-at : (ms : List LoadedModule) → All HasLines ms → (m : ℕ)
    → All (λ l. 0 < l) (statement_lines (body_of ms m))
lines-at [] h m = All-nil (λ l. 0 < l)
lines-at (x ∷ ms) h zero = All-head HasLines x ms h
lines-at (x ∷ ms) h (suc m) = lines-at ms (All-tail HasLines x ms h) m

-- each module was read from a file
module _ {H : Type 0} (moves : H → List ℕ → ℕ → Result (List ℕ) ShelfError → H → Type 0)
    (old new : H) (script name : Text) (ms : List LoadedModule)
    (loads : Loads moves old script name (Ok ms) new) where
  reading : (i : ℕ) (m : LoadedModule) → slice_get ms i ≡ Some m
      → IsRead (content_at loads.some.0 i m.path) m
  reading i m is = (loads.comes loads.some.0 loads.some.1).0.loaded.read i m is

-- which has its tree
is-text : (content : Option (List ℕ)) (m : LoadedModule) → IsRead content m → IsText m
is-text content m file =
    let tree = file.read.0 in
    record { normal = tree.spelled.0; well_formed = file.read.1 }

has-lines : LinesLaw → (content : Option (List ℕ)) (m : LoadedModule) → IsRead content m
    → HasLines m
has-lines lines content m file =
    let tree = file.read.0 in
    numbered (statement_lines m.body) (lines m.body tree.tokens tree.read.on_lines tree.spelled)

pub loaded_law : {H : Type 0} → RegularTexts → LinesLaw
    → (moves : H → List ℕ → ℕ → Result (List ℕ) ShelfError → H → Type 0) → LoadedAreRegular moves
loaded_law texts lines moves old new script name ms loads marks = (
  texts ms
      (all-modules IsText ms
      (λ i m is. is-text _ m (reading moves old new script name ms loads i m is)))
      marks,
  lines-at ms
      (all-modules HasLines ms (λ i m is.
      has-lines lines _ m (reading moves old new script name ms loads i m is))),
)
