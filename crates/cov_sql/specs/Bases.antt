-- Bases in memory by name.
--     Base, IsIdle                  a base with its name; one of no open transaction
--     kept_in                       what a base has as it was committed
--     IsAsDeclared, AreAsDeclared   a base may be saved over if it is of schema 7; all bases are so
--     with_content                  a name with what its base holds
--     bases_contents                the contents by name; of two bases with one name the first
--                                   counts
--     Loads                         so a base is loaded
--     IsSavable, SavesIn            data may be saved in a base; so they are
use Rattle.std.specs.Prelude.{◌≡◌, ◌≢◌, ℕ, Bool, true, false, List, map, Result, IfOk, OnOk, OnErr, IsErrOf, String}
use Rattle.std.specs.List.{AllByRecursion}
use Rattle.std.specs.declared.alloc.Global.{Global}
use Rattle.sqlite_trees.specs.declared.memory.MemStore.{MemStore}
use Rattle.sqlite.specs.Effect.{Database}
use Rattle.sqlite.specs.Held.{Held, state}
use Rattle.sqlite.specs.Steps.{over_memory}
use Rattle.cov_data.specs.DataSet.{DataSet}
use Rattle.cov_vault.specs.Contents.{Contents, contents_of}
use Rattle.cov_vault.specs.declared.vault.Content.{Content}
use Rattle.cov_vault.specs.declared.vault.Content.TheVariants.{Good, NotSchema7, BadRow}
use Rattle.cov_vault.specs.declared.vault.VaultError.{VaultError}
use Rattle.cov_vault.specs.declared.vault.VaultError.TheVariants as vault
use Rattle.cov_sql.specs.Content.{content_in}
use Rattle.cov_sql.specs.Making.{SparesAll}
use Rattle.cov_sql.specs.Committed.{IsReadyFor}

-- a base in memory with its name
abbrev pub Base : Type 0
Base = String Global × Held MemStore

-- no transaction is open in a base
abbrev pub IsIdle : Base → Type 0
IsIdle b = b.1.in_transaction ≡ false

-- what a base has as it was last committed
abbrev pub kept_in : Held MemStore → Database
kept_in h = (state over_memory h).committed

-- a base that is none of schema 7 may have any tables, and nothing is saved in it
pub record IsAsDeclared (db : Database) : Type 0 where
  pub ready : content_in db ≢ NotSchema7 → IsReadyFor false db

-- each of these bases may be saved over, if it is of schema 7
abbrev pub AreAsDeclared : List Base → Type 0
AreAsDeclared = AllByRecursion (λ b. IsAsDeclared (kept_in b.1))

-- the name of a base with what it holds as a data file
abbrev pub with_content : Base → String Global × Content
with_content b = (b.0, content_in (kept_in b.1))

-- the contents by name of several bases: of two with one name the first counts
abbrev pub bases_contents : List Base → Contents
bases_contents bases = contents_of (map with_content bases)

-- what a load gives of a base, which stays as it was
pub record Loads (old new : Database) (r : Result DataSet VaultError) : Type 0 where
  pub found : IfOk r (λ loaded. content_in old ≡ Good loaded)
  pub not_schema : IsErrOf r vault.NotSchema7 → content_in old ≡ NotSchema7
  pub bad_row : (row : ℕ) → IsErrOf r (vault.BadRow row) → content_in old ≡ BadRow row
  pub kept : new ≡ old

-- no foreign key acts on the tables that a fresh base gets
abbrev pub IsSavable : Bool → Database → Type 0
IsSavable true db = SparesAll db.schema
IsSavable false db = IsAsDeclared db

-- what a save of data makes of a base, and why it may be refused
pub record SavesIn (fresh : Bool) (d : DataSet) (old new : Database)
    (r : Result (Unit {0}) VaultError) : Type 0 where
  pub saved : OnOk r (content_in new ≡ Good d)
  pub declared : OnOk r (IsAsDeclared new)
  pub replaces : fresh ≡ false → OnOk r (content_in old ≢ NotSchema7)
  pub not_schema : IsErrOf r vault.NotSchema7 → (fresh ≡ false) × (content_in old ≡ NotSchema7)
  pub kept : OnErr r (new ≡ old)
