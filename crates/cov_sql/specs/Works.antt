-- What the steps of writing a data file do, in one transaction.
--     Step, RanAll, Reaches    a text that ran; texts of writing ran one after the other; a state
--                              is reached so
--     NamesAbsent              after such texts the database named a table or a column of the next
--                              one as not there
--     WorkEnds, Works          what a step leaves; so it is where the store is clean, in a
--                              transaction
use Rattle.std.specs.Prelude.{◌≡◌, ℕ, List, [], ◌∷◌, Result, OnOk, IsErrOf, IsTrue}
use Rattle.sqlite_value.specs.Order.{Row}
use Rattle.sqlite_trees.specs.declared.store.Store.{Ghosts}
use Rattle.sqlite.specs.Held.{Held, state}
use Rattle.sqlite.specs.State.{HasCleanDisk, KeepsCommit}
use Rattle.cov_sql.specs.declared.statements.StatementError.{StatementError}
use Rattle.cov_sql.specs.declared.statements.StatementError.TheVariants.{Missing}
use Rattle.cov_sql.specs.SqlTexts.{IsWritten}
use Rattle.cov_sql.specs.Written.{Ran, WasAbsent}

-- a text with its parameters, and what it left
pub record Step (S : Type 0) : Type 0 where
  pub text : List ℕ
  pub params : Row
  pub next : Held S

-- the texts of writing ran one after the other, each as its step says
abbrev pub RanAll : {S : Type 0} → Ghosts S → Held S → List (Step S) → Held S → Type 0
RanAll g old [] new = old ≡ new
RanAll g old (s ∷ ss) new = IsWritten s.text × Ran s.text s.params (state g old) (state g s.next)
    × RanAll g s.next ss new

-- texts of writing lead from one state to another
abbrev pub Reaches : {S : Type 0} → Ghosts S → Held S → Held S → Type 0
Reaches {S} g old new = (steps : List (Step S)) × RanAll g old steps new

-- after texts of writing the next one named a table or a column as not there
pub record NamesAbsent {S : Type 0} (g : Ghosts S) (old : Held S) : Type 0 where
  pub last : Held S
  pub reached : Reaches g old last
  pub text : List ℕ
  pub is : IsWritten text
  pub params : Row
  pub new : Held S
  pub clean : HasCleanDisk (state g new)
  pub absent : WasAbsent text params (state g last) (state g new)

-- what a step of writing leaves, and why it stops
pub record WorkEnds {S : Type 0} (g : Ghosts S) (old new : Held S)
    (r : Result (Unit {0}) StatementError) : Type 0 where
  pub goes_on : OnOk r (IsTrue (state g new).in_transaction)
  pub reached : OnOk r (Reaches g old new)
  pub missing : IsErrOf r Missing → NamesAbsent g old
  pub kept : KeepsCommit (state g old) (state g new)

-- so a step of writing ends
abbrev pub Works : {S : Type 0} → Ghosts S → Held S → Held S → Result (Unit {0}) StatementError
    → Type 0
Works g old new r = HasCleanDisk (state g new) → IsTrue (state g old).in_transaction
    → WorkEnds g old new r
