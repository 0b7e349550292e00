-- Which files loading reads, one after another, and what their contents may be.
--     asked_for, asked             the files that are read for modules
--     names_read, AreUpTo          the files that reads are of
--     AreTold, Agrees              contents that agree with the answers to reads
use Rattle.std.specs.Prelude.{◌≡◌, ℕ, Bool, not, List, [], ◌∷◌, ◌++◌, map, filter, codes, encode_utf8_all}
use Rattle.cov_outside.specs.Files.{Files}
use Rattle.cov_outside.specs.Prefixes.{IsPrefix}
use Rattle.cov_outside.specs.Reads.{IsTold, Read}
use Rattle.py_text.specs.Comparison.{is_same_text}
use Rattle.py_syntax.specs.Names.{distinct}
use Rattle.py_syntax.specs.Tree.{Text}
use Rattle.py_meaning.specs.Loading.{folder_of, file_of}
use Rattle.py_meaning.specs.Modules.{LoadedModule}
use Rattle.cov_run.specs.Loading.{Told, all_imported}

-- ---- files

-- a module that is looked for in a file: any but `sys`
abbrev pub has_own_file : Text → Bool
has_own_file x = not (is_same_text x (codes "sys"))

-- the name of a module's file
abbrev pub file_name : Text → Text → List ℕ
file_name script x = encode_utf8_all (file_of (folder_of script) x)

-- the files that are read for imported names: the script's, and the one of each name in order
abbrev pub asked_for : Text → List Text → List (List ℕ)
asked_for script xs = encode_utf8_all script ∷ map (file_name script) (filter has_own_file xs)

-- those that are read for modules, whose imports name each file once
abbrev pub asked : Text → List LoadedModule → List (List ℕ)
asked script ms = asked_for script (distinct (all_imported ms))

-- the files that reads are of
abbrev pub names_read : List Read → List (List ℕ)
names_read = map (λ r. r.name)

-- the first names of a list, up to this one
pub record AreUpTo (name : List ℕ) (names all : List (List ℕ)) : Type 0 where
  pub before : List (List ℕ)
  pub is : names ≡ before ++ name ∷ []
  pub front : IsPrefix names all

-- ---- answers

-- files of these contents may have been answered so
abbrev pub AreTold : Files → List Read → Type 0
AreTold files [] = Unit {0}
AreTold files (r ∷ rs) = IsTold (files r.name) r.most r.answer × AreTold files rs

-- these contents agree with the answers: the first read is that of the script
abbrev pub Agrees : Told → List Read → Type 0
Agrees told [] = Unit {0}
Agrees told (r ∷ rs) = IsTold told.script r.most r.answer × AreTold told.modules rs
