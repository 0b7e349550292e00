-- Data that are saved are read again.
--     SavedAreRead, SavedIsSchema7, SavedIsReady    the laws over bases
--     IsReadAgain, SavesAreRead                     the law over what `write_data` leaves
use Rattle.std.specs.Prelude.{◌≡◌, ◌≢◌, Bool, false}
use Rattle.sqlite_trees.specs.declared.store.Store.{Ghosts}
use Rattle.sqlite.specs.Effect.{Database}
use Rattle.sqlite.specs.Held.{Held, state}
use Rattle.cov_data.specs.DataSet.{DataSet, IsSound}
use Rattle.cov_vault.specs.declared.vault.Content.TheVariants.{Good, NotSchema7}
use Rattle.cov_sql.specs.Content.{content_in}
use Rattle.cov_sql.specs.Committed.{IsReadyFor, EndsSaved}
use Rattle.cov_sql.specs.SavedData.{HoldsSaved}

-- A base that holds data as saved holds exactly them as a data file.
abbrev pub SavedAreRead : Type 0
SavedAreRead =
    (d : DataSet) (db : Database) → IsSound d → HoldsSaved d db → content_in db ≡ Good d

-- So it is a data file of schema 7, be the data sound or not.
abbrev pub SavedIsSchema7 : Type 0
SavedIsSchema7 = (d : DataSet) (db : Database) → HoldsSaved d db → content_in db ≢ NotSchema7

-- It may be saved over again.
abbrev pub SavedIsReady : Type 0
SavedIsReady = (d : DataSet) (db : Database) → HoldsSaved d db → IsReadyFor false db

-- a base that is read as these data, and may be saved over
pub record IsReadAgain (d : DataSet) (db : Database) : Type 0 where
  pub reads : content_in db ≡ Good d
  pub ready : IsReadyFor false db

-- So is a base once `write_data` has saved data in it, where it was ready for them.
abbrev pub SavesAreRead : {S : Type 0} → Ghosts S → Type 0
SavesAreRead {S} g =
    (d : DataSet) (fresh : Bool) (old new : Held S)
    → IsSound d → IsReadyFor fresh (state g old).now
    → EndsSaved g d fresh old new → IsReadAgain d (state g new).now
