-- What `combine` leaves in a vault that tells its contents, however it ends.
--     is_input            the names of its inputs
--     IsGone, IsLeft      the data file and the inputs may have changed, and nothing else
--     CombineLeavesLaw    the law
use Rattle.std.specs.Prelude.{◌≡◌, ◌≢◌, ◌⊎◌, Bool, true, false, List, [], ◌∷◌, map, Option, Some, None, Result}
use Rattle.std.specs.FinMap.{get}
use Rattle.cov_config.specs.Settings.{Settings}
use Rattle.cov_data.specs.DataSet.{DataSet}
use Rattle.cov_file_names.specs.Forms.{Text}
use Rattle.cov_outside.specs.declared.shelf.Shelf.{Ghosts as ShelfOf}
use Rattle.cov_programs.specs.Ends.{Follows}
use Rattle.cov_programs.specs.Objects.{beside}
use Rattle.cov_step.specs.Calls.{Answered, IsNoMemory}
use Rattle.cov_step.specs.Commands.{combine}
use Rattle.cov_step.specs.Names.{data_name, is_named}
use Rattle.cov_step.specs.Objects.{on_shelf, on_vault}
use Rattle.cov_step.specs.Phases.{is_part_of, own_name}
use Rattle.cov_vault.specs.Contents.{Contents}
use Rattle.cov_vault.specs.declared.vault.Content.TheVariants.{Good}
use Rattle.cov_vault.specs.declared.vault.Vault.{Ghosts as VaultOf}
use Rattle.cov_why.specs.Answers.{PlainWhy}

-- a name is an input: it is named, or else it is a part of the data file
abbrev pub is_input : Text → List Text → Text → Bool
is_input own [] name = is_part_of own name
is_input own (n ∷ ns) name = is_named (map data_name (n ∷ ns)) name

-- an input that isn't kept is gone
pub record IsGone (keep : Bool) (own : Text) (named : List Text) (name : Text) (new : Contents)
    : Type 0 where
  pub not_kept : keep ≡ false
  pub input : is_input own named name ≡ true
  pub gone : get new name ≡ None

-- The data file holds what it held, or data that were saved. Each other name holds what it held,
-- unless it is an input that is gone.
pub record IsLeft (keep : Bool) (own : Text) (named : List Text) (old new : Contents)
    : Type 0 where
  pub data_file : (get new own ≡ get old own) ⊎ ((d : DataSet) × (get new own ≡ Some (Good d)))
  pub others :
      (name : Text) → name ≢ own
      → (get new name ≡ get old name) ⊎ IsGone keep own named name new

-- so it is of a data file whose name is that of the words, or else of some settings
abbrev pub CombineLeavesLaw : {H V : Type 0} → ShelfOf H → VaultOf V → Type 0
CombineLeavesLaw {H} {V} shelf vault =
    (append keep : Bool) (data_file rcfile : Option Text) (named : List Text) (old new : H × V)
    (ending : Result Answered PlainWhy)
    → Follows (beside (on_shelf shelf) (on_vault vault)) IsNoMemory
    (combine append keep data_file rcfile named) old ending new
    → vault.tells old.1
    → (s : Settings)
    × IsLeft keep (own_name data_file s) named (vault.contents old.1) (vault.contents new.1)
