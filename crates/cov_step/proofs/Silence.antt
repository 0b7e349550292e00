-- Commands but a script say nothing on the way.
use Rattle.std.proofs.Common.{true≢false, refl, sym}
use Rattle.cov_programs.specs.Programs.{give, settle}
use Rattle.cov_programs.specs.Laws.{OnlyKeeps}
use Rattle.cov_programs.proofs.Parts.{then-keeps, each-keeps}
use Rattle.cov_words.specs.Commands.{PlainCommand}
use Rattle.cov_words.specs.Commands as plain
use Rattle.cov_step.specs.Calls.{Step}
use Rattle.cov_step.specs.Answers.{load_refusal, vault_refusal, run_refusal, shelf_refusal, sink_refusal, pattern_refusal}
use Rattle.cov_step.specs.Promises.{is_silent, QuietLaw}
use Rattle.cov_step.specs.Scripts.{inside}
use Rattle.cov_step.proofs.Answering.{given-so, last-so, on-so, bytes-so, any-so, before-so, removed-so, tree-so, inputs-so, came-so, ran-so}
use Rattle.cov_step.proofs.Whole.{inside-is}

abbrev Silent : (A : Type 0) → Step A → Type 0
Silent A p = OnlyKeeps is_silent p

pub inside-silent : (c : PlainCommand) → OnlyKeeps is_silent (inside c)
inside-silent c = inside-is Silent (λ A a. tt) (λ A r e. tt) (λ A B p next. then-keeps is_silent p next) (λ A B p h xs. each-keeps is_silent p h xs)
    (λ absent n name x. (refl, bytes-so is_silent absent x)) (λ x. (refl, any-so is_silent x)) (λ name script x. (refl, given-so is_silent (λ refusal. refusal) x))
    (λ path bytes x. (refl, tree-so is_silent path bytes x)) (λ n texts x. (refl, on-so is_silent (pattern_refusal n) x))
    (λ name x. (refl, given-so is_silent (load_refusal name) x)) (λ name x. (refl, before-so is_silent name x)) (inputs-so is_silent (λ x. refl))
    (λ ms ws n x. (refl, given-so is_silent run_refusal x)) (λ asked ms hook x. (refl, given-so is_silent run_refusal x))
    (λ bytes a x. (refl, last-so is_silent sink_refusal a x)) (λ name bytes a x. (refl, last-so is_silent shelf_refusal a x))
    (λ name content a x. (refl, last-so is_silent (vault_refusal name) a x)) (λ name content x. (refl, on-so is_silent (vault_refusal name) x))
    (λ name a x. (refl, removed-so is_silent (settle a) tt x)) (λ name x. (refl, removed-so is_silent (give tt) tt x))
    (λ ms ws n x. (refl, ran-so is_silent x)) (λ asked ms file x. (refl, came-so is_silent file x)) (λ n old new file x. (refl, came-so is_silent file x)) (λ n ms file x. (refl, came-so is_silent file x)) (λ bytes x. (refl, on-so is_silent sink_refusal x)) c

pub law_of_quiet : QuietLaw
law_of_quiet (plain.arcs steps script args) e = inside-silent (plain.arcs steps script args)
law_of_quiet (plain.run branch append context steps hook data_file rcfile script args) e = inside-silent (plain.run branch append context steps hook data_file rcfile script args)
law_of_quiet (plain.combine append keep data_file rcfile named) e = inside-silent (plain.combine append keep data_file rcfile named)
law_of_quiet (plain.report show fail_under data_file rcfile) e = inside-silent (plain.report show fail_under data_file rcfile)
law_of_quiet (plain.json name fail_under data_file rcfile) e = inside-silent (plain.json name fail_under data_file rcfile)
law_of_quiet (plain.lcov name fail_under data_file rcfile) e = inside-silent (plain.lcov name fail_under data_file rcfile)
law_of_quiet (plain.annotate data_file rcfile path) e = inside-silent (plain.annotate data_file rcfile path)
law_of_quiet (plain.erase data_file rcfile) e = inside-silent (plain.erase data_file rcfile)
law_of_quiet (plain.script file) e = absurd (true≢false (sym e))
law_of_quiet (plain.make seed size) e = inside-silent (plain.make seed size)
law_of_quiet (plain.suite branch steps data_file rcfile file) e = inside-silent (plain.suite branch steps data_file rcfile file)
law_of_quiet (plain.select steps old new) e = inside-silent (plain.select steps old new)
law_of_quiet (plain.mutate steps file) e = inside-silent (plain.mutate steps file)
