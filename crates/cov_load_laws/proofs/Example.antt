-- An empty text is the end of a text, and the module without statements.
use Rattle.std.proofs.Common.{◌≡◌, ◌≤◌, [], ◌∷◌, refl, ap, arith}
use Rattle.std.specs.List.{find}
use Rattle.std.specs.Str as str_
use Rattle.std.specs.Str.{IsUtf8, chars}
use Rattle.py_token.specs.Layout as layout_
use Rattle.py_token.specs.Plain.{token, end}
use Rattle.py_token.specs.Segments as segments_
use Rattle.py_token.specs.Source as source_
use Rattle.py_token.specs.Source.{line_count, most_lines}
use Rattle.py_token.specs.Spelling as text
use Rattle.py_syntax.specs.Spelling.{Spells}
use Rattle.py_syntax.specs.Tree.{Text, no_stmts}
use Rattle.py_scope.specs.Faults.{IsWellFormed}
use Rattle.py_meaning.specs.Loading as meaning_
use Rattle.py_meaning.specs.Loading.{folder_of}
use Rattle.py_meaning.specs.Modules.{LoadedModule}
use Rattle.cov_run.specs.Reading.{tree, Reads}
use Rattle.cov_run.specs.Loading.{IsLoaded, IsRead, all_imported, is_wanted}
use Rattle.cov_run.proofs.Modules.{bytes-script}
use Rattle.cov_load_laws.specs.Example.{empty_script}
use Rattle.cov_load_laws.proofs.Chains.{chain-script}
use Rattle.cov_load_laws.proofs.Sources.{reads-tree}

no-characters : IsUtf8 []
no-characters = ([], (refl, refl))

no-lines : line_count (chars []) ≤ most_lines
unfolding str_.chars source_.line_count
no-lines = omega arith

end-alone : text.Spells (chars []) (token end 1 1 ∷ [])
unfolding text.Spells text.spelling source_.joined_ends source_.line_count segments_.segments layout_.layout str_.chars
end-alone = refl

no-statements : Spells no_stmts (token end 1 1 ∷ [])
no-statements = ((tt, tt, refl), refl, tt)

no-faults : IsWellFormed no_stmts
no-faults = refl

empty-read : Reads [] (tree no_stmts)
empty-read =
    reads-tree [] (token end 1 1 ∷ []) no_stmts no-characters no-lines end-alone no-statements
    (omega arith, omega arith) no-faults

no-imports : (m : LoadedModule) → m.body ≡ no_stmts → all_imported (m ∷ []) ≡ []
unfolding meaning_.imported
no-imports m e =
    ap (λ b. all_imported (record { name = []; path = []; body = b } ∷ [])) e

pub empty-loads :
    (script name : Text)
    → IsLoaded empty_script script name
    (record { name = name; path = script; body = no_stmts } ∷ [])
empty-loads script name =
    let m : LoadedModule = record { name = name; path = script; body = no_stmts } in
    let read : IsRead empty_script.script m =
    record { bytes = []; there = refl; small = omega arith; read = empty-read } in
    let c = chain-script empty_script script name m refl refl read in
    let total = bytes-script empty_script m [] refl in
    record {
      loaded = record {
        read = c.read;
        first = c.first;
        next = c.next;
        few = omega arith;
        light = omega (arith, total);
      };
      some = omega arith;
      all =
          ap (find (is_wanted empty_script.modules (folder_of script) (m ∷ [])))
          (no-imports m refl);
    }
