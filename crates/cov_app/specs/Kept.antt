-- What a refusal leaves.
--     ChangesLast      words of a command that changes files or data by its last call alone
--     AreLeft          files and data that are as before, where they are told
use Rattle.std.specs.Prelude.{◌≡◌, true, List}
use Rattle.cov_outside.specs.declared.shelf.Shelf.{Ghosts as ShelfOf}
use Rattle.cov_step.specs.Promises.{changes_last}
use Rattle.cov_vault.specs.declared.vault.Vault.{Ghosts as VaultOf}
use Rattle.cov_words.specs.Commands.{PlainCommand, IsCommand}
use Rattle.cov_words.specs.Values.{Word}

-- a command that the words are changes files or data by its last call alone: any but `combine`
-- and `script`
abbrev pub ChangesLast : List Word → Type 0
ChangesLast words = (c : PlainCommand) → IsCommand c words → changes_last c ≡ true

-- the files and the data are as before, where they are told
pub record AreLeft {H V : Type 0} (shelf : ShelfOf H) (vault : VaultOf V) (old_files new_files : H)
    (old_data new_data : V) : Type 0 where
  pub files : shelf.tells → shelf.files new_files ≡ shelf.files old_files
  pub contents : vault.tells old_data → vault.contents new_data ≡ vault.contents old_data
