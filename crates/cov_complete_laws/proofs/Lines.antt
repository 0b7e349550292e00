-- The parts of a script are refused for want of memory where an object answers it, and aren't refused
-- where they are ready.
use Rattle.std.proofs.Common.{◌≡◌, inl, inr, ◌≤◌, nat_le, ℕ, Bool, true, false, if◌then◌else◌, refl, sym, subst, List, [], ◌∷◌, Some, None, Ok, Err}
use Rattle.std.specs.Str.{chars, is_utf8}
use Rattle.std.proofs.lemmas.Bool.{le-leb}
use Rattle.cov_load_laws.specs.Completeness.{Completes}
use Rattle.cov_load_laws.specs.Readings.{OneReading}
use Rattle.cov_make_laws.specs.Readings.{MadeAreRead}
use Rattle.cov_outside.specs.declared.shelf.ShelfError.TheVariants as shelf_error
use Rattle.cov_outside.specs.declared.sink.SinkError.TheVariants as sink_error
use Rattle.cov_programs.specs.Programs.{give, ask, bind}
use Rattle.cov_programs.specs.Laws.{Yields}
use Rattle.cov_programs.proofs.Parts.{then-yields}
use Rattle.cov_run.specs.Reading.{fault_line}
use Rattle.cov_step.specs.Answers.{sink_refusal, on}
use Rattle.cov_step.specs.Calls.{Answered, Step, refuse, writes, IsNoMemory}
use Rattle.cov_step.specs.Phases.{file}
use Rattle.cov_step.specs.Promises.{is_hungry}
use Rattle.cov_step.specs.Scripts.{inside, words_in, status_line, ended_in, line_done, is_comment, words_done, line_step, is_text, is_short, is_script, script_text}
use Rattle.cov_step.specs.Step.{doing}
use Rattle.cov_step.proofs.Yielding.{law_of_want}
use Rattle.cov_why.specs.Answers.{Refusal, no_such_file, syntax, limit}
use Rattle.cov_why.specs.declared.why.LimitKind.TheVariants as limits
use Rattle.cov_why.specs.declared.why.SyntaxKind.TheVariants as kinds
use Rattle.cov_words.specs.Commands.{PlainCommand, IsCommand, IsOneCommand}
use Rattle.cov_words.specs.Commands as plain
use Rattle.cov_words.specs.Values.{Word}
use Rattle.py_token.specs.Source.{line_count, most_lines}
use Rattle.cov_complete_laws.specs.Premises.{IsFile}
use Rattle.cov_complete_laws.specs.Ready.{Ready}
use Rattle.cov_complete_laws.specs.Scripts.{IsReadyLine}
use Rattle.cov_complete_laws.proofs.Sure.{then-sure, sure-all}
use Rattle.cov_complete_laws.proofs.Holding.{Holding, told, some-none, true-false}
use Rattle.cov_complete_laws.proofs.Phases.{Goes, by-test, either-way, file-sure}
use Rattle.cov_complete_laws.proofs.Commands.{any, doing-sure}

-- ---- want of memory is answered so

abbrev pub Yielding : {A : Type 0} → Step A → Type 0
Yielding p = Yields IsNoMemory is_hungry p

never : {A : Type 0} → false ≡ true → A
never h = absurd (true-false (sym h))

of-either : {A : Type 0} (b : Bool) (p q : Step A) → Yielding p → Yielding q → Yielding (if b then p else q)
of-either true p q h g = h
of-either false p q h g = g

file-yields : (absent : Refusal) (name : Word) → Yielding (file absent name)
file-yields absent name (Ok bytes) = (λ h. never h, tt)
file-yields absent name (Err shelf_error.Absent) = (λ h. never h, tt)
file-yields absent name (Err shelf_error.TooLarge) = (λ h. never h, tt)
file-yields absent name (Err shelf_error.Failed) = (λ h. never h, tt)
file-yields absent name (Err shelf_error.NoMemory) = (λ h. refl, tt)

checked-yields : (name : Word) (bytes : List ℕ) → Yielding (is_script name bytes)
checked-yields name bytes =
    then-yields IsNoMemory is_hungry (is_text name bytes) (λ a. bind (is_short (line_count (chars bytes))) (λ b. give bytes))
    (of-either (is_utf8 bytes) (give tt) (refuse (syntax name (fault_line bytes) kinds.BadCharacter)) tt tt)
    (λ a. then-yields IsNoMemory is_hungry (is_short (line_count (chars bytes))) (λ b. give bytes)
    (of-either (nat_le (line_count (chars bytes)) most_lines) (give tt) (refuse (limit limits.Lines (line_count (chars bytes)))) tt tt) (λ b. tt))

pub text-yields : (name : Word) → Yielding (script_text name)
text-yields name = then-yields IsNoMemory is_hungry (file (no_such_file name) name) (is_script name) (file-yields (no_such_file name) name) (checked-yields name)

doing-yields : (c : PlainCommand) → Yielding (doing c)
doing-yields c = (law_of_want [] (Ok c)).1

inside-yields : (c : PlainCommand) → Yielding (inside c)
inside-yields (plain.arcs budget script args) = doing-yields (plain.arcs budget script args)
inside-yields (plain.run branch append context budget hook data_file rcfile script args) = doing-yields (plain.run branch append context budget hook data_file rcfile script args)
inside-yields (plain.combine append keep data_file rcfile names) = doing-yields (plain.combine append keep data_file rcfile names)
inside-yields (plain.report show_missing fail_under data_file rcfile) = doing-yields (plain.report show_missing fail_under data_file rcfile)
inside-yields (plain.json name fail_under data_file rcfile) = doing-yields (plain.json name fail_under data_file rcfile)
inside-yields (plain.lcov name fail_under data_file rcfile) = doing-yields (plain.lcov name fail_under data_file rcfile)
inside-yields (plain.annotate data_file rcfile file) = doing-yields (plain.annotate data_file rcfile file)
inside-yields (plain.erase data_file rcfile) = doing-yields (plain.erase data_file rcfile)
inside-yields (plain.script file) = tt
inside-yields (plain.make seed size) = doing-yields (plain.make seed size)
inside-yields (plain.suite branch budget data_file rcfile file) = doing-yields (plain.suite branch budget data_file rcfile file)
inside-yields (plain.select budget old new) = doing-yields (plain.select budget old new)
inside-yields (plain.mutate budget file) = doing-yields (plain.mutate budget file)

noted-yields : (bytes : List ℕ) → Yielding (ask (writes bytes) (on sink_refusal))
noted-yields bytes None = (λ h. never h, tt)
noted-yields bytes (Some sink_error.Failed) = (λ h. never h, tt)
noted-yields bytes (Some sink_error.NoMemory) = (λ h. refl, tt)

ended-yields : (a : Answered) → Yielding (ended_in a)
ended-yields a x = (λ h. never h, noted-yields (status_line a))

done-yields : (words : List Word) → Yielding (line_done words)
done-yields words (Ok c) = (λ h. never h, then-yields IsNoMemory is_hungry (inside c) ended_in (inside-yields c) ended-yields)
done-yields words (Err i) = (λ h. never h, tt)

words-yield : (words : List Word) → Yielding (words_done words)
words-yield [] = tt
words-yield (w ∷ ws) = done-yields (w ∷ ws)

pub line-yields : (line : List ℕ) → Yielding (line_step line)
line-yields line = of-either (is_comment line) (give tt) (words_done (words_in line)) tt (words-yield (words_in line))

-- ---- the file of commands

pub text-sure : (t : Holding) (name : Word) (bytes : List ℕ) → IsFile t.0 name bytes → is_utf8 bytes ≡ true → line_count (chars bytes) ≤ most_lines → Goes (λ b u. b ≡ bytes) (script_text name) t
text-sure t name bytes h utf8 short =
    then-sure told (λ b u. b ≡ bytes) (file (no_such_file name) name) (is_script name) t
    (file-sure t (no_such_file name) name bytes h (λ b u. Goes (λ c v. c ≡ bytes) (is_script name b) u)
    (then-sure told (λ b u. b ≡ bytes) (is_text name bytes) (λ a. bind (is_short (line_count (chars bytes))) (λ b. give bytes)) t
    (by-test (λ a u. Goes (λ c v. c ≡ bytes) (bind (is_short (line_count (chars bytes))) (λ b. give bytes)) u) (is_utf8 bytes) (give tt) (refuse (syntax name (fault_line bytes) kinds.BadCharacter)) t utf8
    (then-sure told (λ b u. b ≡ bytes) (is_short (line_count (chars bytes))) (λ b. give bytes) t
    (by-test (λ a u. bytes ≡ bytes) (nat_le (line_count (chars bytes)) most_lines) (give tt) (refuse (limit limits.Lines (line_count (chars bytes)))) t (le-leb (line_count (chars bytes)) most_lines short) refl)))))

-- ---- a line

noted-sure : (bytes : List ℕ) (t : Holding) → Goes (λ a u. Unit {0}) (ask (writes bytes) (on sink_refusal)) t
noted-sure bytes t None u m = tt
noted-sure bytes t (Some sink_error.Failed) u m = absurd (some-none m.0.fair)
noted-sure bytes t (Some sink_error.NoMemory) u m = absurd (true-false m.0.fed)

ended-sure : (a : Answered) (t : Holding) → Goes (λ b u. Unit {0}) (ended_in a) t
ended-sure a t = λ x u m. noted-sure (status_line a) u

-- in a script a command that is ready does what it does elsewhere
same-inside : (t : Holding) (c : PlainCommand) → Ready t.0 t.1 c → Goes any (doing c) t → Goes any (inside c) t
same-inside t (plain.arcs budget script args) h g = g
same-inside t (plain.run branch append context budget hook data_file rcfile script args) h g = g
same-inside t (plain.combine append keep data_file rcfile names) h g = g
same-inside t (plain.report show_missing fail_under data_file rcfile) h g = g
same-inside t (plain.json name fail_under data_file rcfile) h g = g
same-inside t (plain.lcov name fail_under data_file rcfile) h g = g
same-inside t (plain.annotate data_file rcfile file) h g = g
same-inside t (plain.erase data_file rcfile) h g = g
same-inside t (plain.script file) h g = absurd h
same-inside t (plain.make seed size) h g = g
same-inside t (plain.suite branch budget data_file rcfile file) h g = g
same-inside t (plain.select budget old new) h g = g
same-inside t (plain.mutate budget file) h g = g

module _ (completes : Completes) (one : OneReading) (law : MadeAreRead) (once : IsOneCommand)
    (small : (words : List Word) (seed size : ℕ) → IsCommand (plain.make seed size) words → size ≤ 16000) where
  abbrev over : Unit {0} → Holding → Type 0
  over a u = Unit {0}

  done-sure : (words : List Word) (c : PlainCommand) (t : Holding) → IsCommand c words → Ready t.0 t.1 c → Goes over (line_done words) t
  done-sure words c t is h (Ok d) u m =
      subst (λ b. Goes over (bind (inside b) ended_in) u) (sym (once words d c m.0.says_so is))
      (subst (λ v. Goes over (bind (inside c) ended_in) v) (sym (m.1 refl))
      (then-sure told over (inside c) ended_in t
      (sure-all told any (λ a v. Goes over (ended_in a) v) (inside c) t ended-sure
      (same-inside t c h (doing-sure t completes one law c (λ seed size e. small words seed size (subst (λ b. IsCommand b words) e is)) h)))))
  done-sure words c t is h (Err i) u m = absurd (m.0.says_so.0 c is)

  words-sure : (words : List Word) (c : PlainCommand) (t : Holding) → IsCommand c words → Ready t.0 t.1 c → Goes over (words_done words) t
  words-sure [] c t is h = tt
  words-sure (w ∷ ws) c t is h = done-sure (w ∷ ws) c t is h

  pub line-sure : (line : List ℕ) (t : Holding) → IsReadyLine t.0 t.1 line → Goes over (line_step line) t
  line-sure line t (inl e) = by-test over (is_comment line) (give tt) (words_done (words_in line)) t e tt
  line-sure line t (inr (inl e)) = either-way over (is_comment line) (give tt) (words_done (words_in line)) t tt (subst (λ ws. Goes over (words_done ws) t) (sym e) tt)
  line-sure line t (inr (inr (c, is, h))) = either-way over (is_comment line) (give tt) (words_done (words_in line)) t tt (words-sure (words_in line) c t is h)
