-- Where data come from, and what was taken in the runs that they come from.
--     PlainRun, meant, items_of     a run of modules or a test after it, and what happened in it
--     module_path, path_at          the path of a module by its number
--     Crosses, ComesTo              the arcs and the lines of a path that a run took
--     Origin, Origins               where data come from
--     data_of, datas_of             the data of an origin
--     Takes, Executes               the arcs and the lines that its runs took
--     IsRecorded                    data that have what a run took
--     IsOf                          an origin of such data, all of arcs or all of lines
--     HasTaken, OriginLaw           the data of an origin have what its runs took, and no more
use Rattle.std.specs.Prelude.{◌≡◌, ◌↔◌, ◌⊎◌, ℕ, ◌<◌, Bool, true, List, [], ◌∷◌, Contains, ℤ, pos, Option, Some, None, slice_get, encode_utf8_all}
use Rattle.py_meaning.specs.Activations.{Items}
use Rattle.py_meaning.specs.Crossings.{crossings, lines_crossed}
use Rattle.py_meaning.specs.Modules.{LoadedModule}
use Rattle.py_meaning.specs.Program.{Run, run_modules, called}
use Rattle.py_syntax.specs.Tree.{Text}
use Rattle.cov_combine.specs.Aliases.{Rules, alias_of}
use Rattle.cov_combine.specs.Combined.{combined}
use Rattle.cov_data.specs.DataSet.{Text as Bytes, DataSet, union}
use Rattle.cov_data.specs.Rows.{arcs_of, lines_of}

-- ---- a run

-- A run of these modules with these words and this input, within a budget of steps. Where a test is
-- named, it is the call of that test on the world that the run leaves, within the budget again.
pub record PlainRun : Type 0 where
  pub modules : List LoadedModule
  pub words : List Text
  pub input : List ℕ
  pub budget : ℕ
  pub test : Option Text

-- what the run means
abbrev pub meant : PlainRun → Run
meant r = run_modules r.modules r.words r.input r.budget

-- what happened in the run, or in a test after it
abbrev pub items_in : PlainRun → Option Text → Items
items_in r None = (meant r).items
items_in r (Some name) =
    (called r.modules (meant r).world [] (record { number = 0; name = name; values = [] })
    r.budget).items

-- what happened
abbrev pub items_of : PlainRun → Items
items_of r = items_in r r.test

-- the path of a module, where there is one
abbrev pub module_path : Option LoadedModule → Bytes
module_path None = []
module_path (Some m) = encode_utf8_all m.path

-- that of a module by its number
abbrev pub path_at : List LoadedModule → ℕ → Bytes
path_at ms m = module_path (slice_get ms m)

-- a module of this path crossed this arc
abbrev pub Crosses : PlainRun → Bytes → ℤ × ℤ → Type 0
Crosses r path arc =
    (m : ℕ) × (path_at r.modules m ≡ path)
    × Contains (lines_crossed (crossings r.modules m (items_of r))) arc

-- a module of this path came to this line
abbrev pub ComesTo : PlainRun → Bytes → ℕ → Type 0
ComesTo r path line = (from : ℤ) × Crosses r path (from, pos line)

-- ---- where data come from

mutual
  -- Data that were found, the rows of a run, data joined to others, and data that were combined,
  -- each path under its alias.
  pub data Origin : Type 0 where
    found : (d : DataSet) → Origin
    ran : (r : PlainRun) (rows : DataSet) → Origin
    joined : (old new : Origin) → Origin
    united : (rules : Rules) (first : Origin) (others : Origins) → Origin

  -- any number of them
  pub data Origins : Type 0 where
    no_more : Origins
    and_of : Origin → Origins → Origins

abbrev mutual
  -- the data of an origin
  pub data_of : Origin → DataSet
  data_of (found d) = d
  data_of (ran r rows) = rows
  data_of (joined old new) = union (data_of old) (data_of new)
  data_of (united rules first others) =
      combined (alias_of rules) (data_of first ∷ datas_of others)

  -- those of several
  pub datas_of : Origins → List DataSet
  datas_of no_more = []
  datas_of (and_of o rest) = data_of o ∷ datas_of rest

-- ---- what its runs took

abbrev mutual
  -- some run took this arc under this path, or the data that were found have it
  pub Takes : Origin → Bytes → ℤ × ℤ → Type 0
  Takes (found d) path arc = Contains (arcs_of d path) arc
  Takes (ran r rows) path arc = Crosses r path arc
  Takes (joined old new) path arc = Takes old path arc ⊎ Takes new path arc
  Takes (united rules first others) path arc =
      (name : Bytes) × (alias_of rules name ≡ path)
      × (Takes first name arc ⊎ SomeTakes others name arc)

  -- some of several
  pub SomeTakes : Origins → Bytes → ℤ × ℤ → Type 0
  SomeTakes no_more path arc = ⊥
  SomeTakes (and_of o rest) path arc = Takes o path arc ⊎ SomeTakes rest path arc

abbrev mutual
  -- some run came to this line under this path, or the data that were found have it
  pub Executes : Origin → Bytes → ℕ → Type 0
  Executes (found d) path line = Contains (lines_of d path) line
  Executes (ran r rows) path line = ComesTo r path line
  Executes (joined old new) path line = Executes old path line ⊎ Executes new path line
  Executes (united rules first others) path line =
      (name : Bytes) × (alias_of rules name ≡ path)
      × (Executes first name line ⊎ SomeExecutes others name line)

  -- some of several
  pub SomeExecutes : Origins → Bytes → ℕ → Type 0
  SomeExecutes no_more path line = ⊥
  SomeExecutes (and_of o rest) path line = Executes o path line ⊎ SomeExecutes rest path line

-- ---- the law

-- Under each path the rows have, in whatever context, exactly the lines of the run; data of arcs
-- have exactly its arcs.
pub record IsRecorded (r : PlainRun) (rows : DataSet) : Type 0 where
  pub arcs : rows.arcs ≡ true → (path : Bytes) (arc : ℤ × ℤ)
      → Contains (arcs_of rows path) arc ↔ Crosses r path arc
  pub lines : (path : Bytes) (line : ℕ) → 0 < line
      → Contains (lines_of rows path) line ↔ ComesTo r path line

abbrev mutual
  -- its data are of arcs, or of lines, and each run of it is recorded
  pub IsOf : (arcs : Bool) → Origin → Type 0
  IsOf arcs (found d) = d.arcs ≡ arcs
  IsOf arcs (ran r rows) = (rows.arcs ≡ arcs) × IsRecorded r rows
  IsOf arcs (joined old new) = IsOf arcs old × IsOf arcs new
  IsOf arcs (united rules first others) = IsOf arcs first × AreOf arcs others

  -- so it is of several
  pub AreOf : (arcs : Bool) → Origins → Type 0
  AreOf arcs no_more = Unit {0}
  AreOf arcs (and_of o rest) = IsOf arcs o × AreOf arcs rest

-- Under each path its data have the lines that its runs took, and no others; data of arcs have its
-- arcs, and no others.
pub record HasTaken (arcs : Bool) (o : Origin) : Type 0 where
  pub kind : (data_of o).arcs ≡ arcs
  pub taken : arcs ≡ true → (path : Bytes) (arc : ℤ × ℤ)
      → Contains (arcs_of (data_of o) path) arc ↔ Takes o path arc
  pub executed : (path : Bytes) (line : ℕ) → 0 < line
      → Contains (lines_of (data_of o) path) line ↔ Executes o path line

-- so it is of each origin
abbrev pub OriginLaw : Type 0
OriginLaw = (arcs : Bool) (o : Origin) → IsOf arcs o → HasTaken arcs o
