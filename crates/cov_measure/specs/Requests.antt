-- What a run is asked, and what it came to, in words.
--     words_in                        the characters of words
--     Asked, asked_in                 what a request asks
--     Ended, plain_measured           what a run came to
--     plain_answer                    the same, or the fault that it was given up for
use Rattle.std.specs.Prelude.{ℕ, Bool, List, ◌∷◌, map, Result, Ok, Err, String, string_bytes}
use Rattle.std.specs.Str.{chars}
use Rattle.std.specs.declared.alloc.Global.{Global}
use Rattle.py_builtins.specs.declared.fault.RunFault.{RunFault}
use Rattle.py_builtins.specs.Outcomes.{Outcome}
use Rattle.py_machine.specs.Outcomes.{plain_outcome}
use Rattle.py_syntax.specs.Tree.{Text}
use Rattle.cov_data.specs.DataSet.{Text as Bytes, DataSet}
use Rattle.cov_measure.specs.declared.request.RunRequest.{RunRequest}
use Rattle.cov_measure.specs.declared.request.Measured.{Measured}

-- the characters of words
abbrev pub words_in : List (String Global) → List Text
words_in words = map (λ w. chars (string_bytes w)) words

-- what a run is asked: whether it records arcs or lines, its static context, whether names give
-- labels, its words and its steps
pub record Asked : Type 0 where
  pub arcs : Bool
  pub context : Bytes
  pub by_name : Bool
  pub words : List Text
  pub budget : ℕ

-- what a request asks: the first of the words is the script
abbrev pub asked_in : RunRequest → Asked
asked_in r = record {
  arcs = r.arcs;
  context = string_bytes r.fixed;
  by_name = r.by_name;
  words = words_in (r.script ∷ r.args.items);
  budget = r.budget;
}

-- how a run ended, after how many steps, and with which data
pub record Ended : Type 0 where
  pub outcome : Outcome
  pub steps : ℕ
  pub rows : DataSet

-- what was measured, as that
abbrev pub plain_measured : Measured → Ended
plain_measured m = record { outcome = plain_outcome m.outcome; steps = m.steps; rows = m.rows }

-- an answer, as that or a fault
abbrev pub plain_answer : Result Measured RunFault → Result Ended RunFault
plain_answer (Ok m) = Ok (plain_measured m)
plain_answer (Err fault) = Err fault
