-- Commands by what they need.
--     of_report      reports
--     of_data        those on data and reports, which run no program
use Rattle.cov_why.specs.Answers.{usage}
use Rattle.cov_words.specs.Commands.{PlainCommand}
use Rattle.cov_words.specs.Commands as plain
use Rattle.cov_step.specs.Calls.{Answered, Step, refuse}
use Rattle.cov_step.specs.Commands.{combine, report, json, lcov, annotate, erase}

-- what a report does; no other command is one
abbrev pub of_report : PlainCommand → Step Answered
of_report (plain.arcs budget script args) = refuse (usage 0)
of_report (plain.run branch append context budget hook data_file rcfile script args) =
    refuse (usage 0)
of_report (plain.combine append keep data_file rcfile names) = refuse (usage 0)
of_report (plain.report show_missing fail_under data_file rcfile) =
    report show_missing fail_under data_file rcfile
of_report (plain.json name fail_under data_file rcfile) = json name fail_under data_file rcfile
of_report (plain.lcov name fail_under data_file rcfile) = lcov name fail_under data_file rcfile
of_report (plain.annotate data_file rcfile file) = annotate data_file rcfile file
of_report (plain.erase data_file rcfile) = refuse (usage 0)
of_report (plain.script file) = refuse (usage 0)
of_report (plain.make seed size) = refuse (usage 0)
of_report (plain.suite branch budget data_file rcfile file) = refuse (usage 0)
of_report (plain.select budget old new) = refuse (usage 0)
of_report (plain.mutate budget file) = refuse (usage 0)

-- what a command on data does, or a report
abbrev pub of_data : PlainCommand → Step Answered
of_data (plain.arcs budget script args) = refuse (usage 0)
of_data (plain.run branch append context budget hook data_file rcfile script args) =
    refuse (usage 0)
of_data (plain.combine append keep data_file rcfile names) =
    combine append keep data_file rcfile names
of_data (plain.report show_missing fail_under data_file rcfile) =
    report show_missing fail_under data_file rcfile
of_data (plain.json name fail_under data_file rcfile) = json name fail_under data_file rcfile
of_data (plain.lcov name fail_under data_file rcfile) = lcov name fail_under data_file rcfile
of_data (plain.annotate data_file rcfile file) = annotate data_file rcfile file
of_data (plain.erase data_file rcfile) = erase data_file rcfile
of_data (plain.script file) = refuse (usage 0)
of_data (plain.make seed size) = refuse (usage 0)
of_data (plain.suite branch budget data_file rcfile file) = refuse (usage 0)
of_data (plain.select budget old new) = refuse (usage 0)
of_data (plain.mutate budget file) = refuse (usage 0)
