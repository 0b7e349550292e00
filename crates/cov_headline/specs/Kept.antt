-- Where the data come from that are kept.
--     Recorded              runs, with the rows that they recorded
--     IsFrom, AreFrom       origins of these runs, and of data that were there at first
--     AreKept               all data that are kept come from there
use Rattle.std.specs.Prelude.{◌≡◌, List, Contains, Some}
use Rattle.std.specs.FinMap as finite
use Rattle.cov_data.specs.DataSet.{DataSet}
use Rattle.cov_vault.specs.Contents.{Contents}
use Rattle.cov_vault.specs.declared.vault.Content.TheVariants.{Good}
use Rattle.cov_words.specs.Values.{Word}
use Rattle.cov_headline.specs.Origins.{PlainRun, Origin, found, ran, joined, united, Origins, no_more, and_of, data_of, IsOf}

-- runs, each with the rows that it recorded
abbrev pub Recorded : Type 0
Recorded = List (PlainRun × DataSet)

abbrev mutual
  -- each of its runs is one of these, and all other data were there at first
  pub IsFrom : Contents → Recorded → Origin → Type 0
  IsFrom first runs (found d) = (name : Word) × (finite.get first name ≡ Some (Good d))
  IsFrom first runs (ran r rows) = Contains runs (r, rows)
  IsFrom first runs (joined old new) = IsFrom first runs old × IsFrom first runs new
  IsFrom first runs (united rules one others) = IsFrom first runs one × AreFrom first runs others

  -- so it is of several
  pub AreFrom : Contents → Recorded → Origins → Type 0
  AreFrom first runs no_more = Unit {0}
  AreFrom first runs (and_of o rest) = IsFrom first runs o × AreFrom first runs rest

-- All data that are kept come from these runs, and from data that were there at first.
abbrev pub AreKept : Contents → Recorded → Contents → Type 0
AreKept first runs now =
    (name : Word) (d : DataSet) → finite.get now name ≡ Some (Good d)
    → (o : Origin) × (data_of o ≡ d) × IsOf d.arcs o × IsFrom first runs o
