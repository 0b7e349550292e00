-- The tokens of a short text keep lines from 1 to the last one, so its tree is read.
use Rattle.std.proofs.Common.{ℕ, ◌≤◌, List, arith}
use Rattle.std.specs.Str.{IsUtf8, chars}
use Rattle.py_token.specs.OnLines.{AreOnLines}
use Rattle.py_token.specs.Plain.{PToken}
use Rattle.py_token.specs.Source.{line_count, most_lines, source_text}
use Rattle.py_token.specs.Spelling as text
use Rattle.py_token.proofs.Lines.{source_lines}
use Rattle.py_token.proofs.LayoutKept.{spelling_on_lines}
use Rattle.py_syntax.specs.Tree.{Stmts}
use Rattle.py_syntax.specs.Spelling.{Spells, IsWithin}
use Rattle.py_scope.specs.Faults.{IsWellFormed}
use Rattle.cov_run.specs.Reading.{tree, Reads}

on-lines :
    (cs : List ℕ) (ts : List PToken) → line_count cs ≤ most_lines → text.Spells cs ts
    → AreOnLines ts
unfolding text.Spells
on-lines cs ts few h =
    let l = source_lines cs in spelling_on_lines (source_text cs) ts (omega (arith, l, few)) h

pub reads-tree :
    (bytes : List ℕ) (tokens : List PToken) (m : Stmts) → IsUtf8 bytes
    → line_count (chars bytes) ≤ most_lines → text.Spells (chars bytes) tokens
    → Spells m tokens → IsWithin m → IsWellFormed m → Reads bytes (tree m)
reads-tree bytes ts m utf8 few spelled spells within well = (
  record {
    tokens = ts;
    read = record {
      short = record { utf8 = utf8; few = few };
      spelled = spelled;
      on_lines = on-lines (chars bytes) ts few spelled;
    };
    spelled = spells;
    low = within.0;
    few = within.1;
  },
  well,
)
