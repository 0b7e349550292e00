-- What a save finds and what it leaves.
--     IsReadyFor               a base that data may be written to: where no foreign key acts on
--                              tables to come, or with those of a data file, whose rows may go
--     HasTable                 a base has one of the tables
--     ShowsSame                two states show the same tables
--     IsJudged, Judges         what a base has, where data may be saved over what it holds
--     begun                    a base as a transaction begins in it
--     IsSaved, EndsSaved       a base that one transaction made of another, with the rows of data;
--                              so a save leaves its base
--     LeavesSaved              a crash may leave what it could leave before, or the saved base
use Rattle.std.specs.Prelude.{◌≡◌, ◌≢◌, ◌⊎◌, ℕ, Bool, true, false, Some, Result, Ok, IfOk, OnOk, IsErrOf, IsTrue}
use Rattle.sqlite_trees.specs.declared.store.Store.{Ghosts}
use Rattle.sqlite_schema.specs.Names.{table_named}
use Rattle.sqlite.specs.Effect.{Database}
use Rattle.sqlite.specs.Held.{Held, state}
use Rattle.sqlite.specs.State.{State, HasCleanDisk, Survives, KeepsCommit}
use Rattle.cov_data.specs.DataSet.{DataSet}
use Rattle.cov_vault.specs.declared.vault.Content.TheVariants.{NotSchema7}
use Rattle.cov_sql.specs.declared.errors.SqlError.{SqlError}
use Rattle.cov_sql.specs.declared.errors.SqlError.TheVariants as sql
use Rattle.cov_sql.specs.declared.tables.Table.{Table as Name}
use Rattle.cov_sql.specs.declared.preparing.Start.{Start}
use Rattle.cov_sql.specs.declared.preparing.Start.TheVariants as start
use Rattle.cov_sql.specs.ByName.{shape_of}
use Rattle.cov_sql.specs.Content.{content_in}
use Rattle.cov_sql.specs.Works.{Reaches}
use Rattle.cov_sql.specs.Holding.{IsReplaceable}
use Rattle.cov_sql.specs.Making.{SparesAll, LacksCounts, IsReady, Fits}
use Rattle.cov_sql.specs.SavedData.{HoldsSaved}

-- data may be saved in a base: no foreign key acts on the tables that a fresh one gets, and the rows
-- of any other may be replaced, or it lacks the counts alone
abbrev pub IsReadyFor : Bool → Database → Type 0
IsReadyFor true db = SparesAll db.schema
IsReadyFor false db = IsReplaceable db ⊎ LacksCounts db

-- a base has a table of a data file
abbrev pub HasTable : Database → Type 0
HasTable db = (n : Name) × (at : ℕ) × (table_named db.schema (shape_of n).name ≡ Some at)

-- two states show and have committed the same base
abbrev pub ShowsSame : State → State → Type 0
ShowsSame old new = (new.now ≡ old.now) × (new.committed ≡ old.committed)

-- what the base was found to be before a save
pub record IsJudged (fresh : Bool) (old new : State) (r : Result Start SqlError) : Type 0 where
  pub missing : IsErrOf r sql.NotSchema7 → (fresh ≡ false) × (content_in old.now ≡ NotSchema7)
  pub there : OnOk r (fresh ≡ false → content_in old.now ≢ NotSchema7)
  pub fits : IfOk r (λ s. Fits s old.now.schema)
  pub ready : IfOk r (λ s. IsReadyFor fresh old.now → IsReady s old.now)
  pub begins : fresh ≡ true → r ≡ Ok start.Nothing
  pub same : OnOk r (ShowsSame old new)
  pub kept : KeepsCommit old new

-- where the store is clean after the call
abbrev pub Judges : Bool → State → State → Result Start SqlError → Type 0
Judges fresh old new r = HasCleanDisk new → IsJudged fresh old new r

-- a base in which a transaction is open
abbrev pub begun : {S : Type 0} → Held S → Held S
begun h = record h { in_transaction = true }

-- the texts of writing ran in a transaction, of which nothing was committed yet
pub record IsSaved {S : Type 0} (g : Ghosts S) (d : DataSet) (fresh : Bool) (old : Held S)
    (db : Database) : Type 0 where
  -- the base once it was read
  pub read : Held S
  pub same : ShowsSame (state g old) (state g read)
  pub last : Held S
  pub reached : Reaches g (begun read) last
  pub is : db ≡ (state g last).now
  pub clean : HasCleanDisk (state g last)
  pub inside : IsTrue (state g last).in_transaction
  pub kept : (state g last).committed ≡ (state g old).committed
  pub before : Survives (state g old) (state g last) (λ _. ⊥)
  -- the tables hold the rows of the data, and no other
  pub holds : IsReadyFor fresh (state g old).now → HoldsSaved d db

-- a save left its base with the data, committed
abbrev pub EndsSaved : {S : Type 0} → Ghosts S → DataSet → Bool → Held S → Held S → Type 0
EndsSaved g d fresh old new = IsSaved g d fresh old (state g new).committed
    × ((state g new).now ≡ (state g new).committed)

-- a crash leaves the base as it could before, or with the data saved
abbrev pub LeavesSaved : {S : Type 0} → Ghosts S → DataSet → Bool → Held S → Held S → Type 0
LeavesSaved g d fresh old new = Survives (state g old) (state g new)
    (λ trees. (db : Database) × (trees ≡ db.trees) × IsSaved g d fresh old db)
