use Rattle.std.proofs.Common.{◌<◌, length, map, string_bytes, option_map, sym, ap, subst, ◌∙◌, arith}
use Rattle.std.proofs.lemmas.List.{length-map}
use Rattle.cov_words.specs.Reading.{begun}
use Rattle.cov_words.specs.Plain.{reading_view, command_view}
use Rattle.cov_words.proofs.Usage.{refuses_none, refuses_name, refuses_at, refuses_all, takes, Refuses, no_words}
use Rattle.cov_words.proofs.command.read_words.Goals as goal

pub returns-in_default : goal.returns-in_default
returns-in_default c = refuses_none (map string_bytes c.args.words.now) (ap (map string_bytes) (no_words c.args.words.now c.in_default.ensures.cases))

pub returns-in_default-begin : goal.returns-in_default-begin
returns-in_default-begin c =
    let name = ap begun (sym c.as_str.ensures.value) in
    refuses_name (map string_bytes c.args.words.now) (map string_bytes c.in-Some.rest.now) (string_bytes c.in-Some.name.now) (ap (map string_bytes) c.in-Some.ensures.cases.0) (name ∙ sym c.in_default-begin.ensures)

pub returns-then-passed-rest : goal.returns-then-passed-rest
returns-then-passed-rest c =
    let name = ap begun (sym c.as_str.ensures.value) in
    let less : c.in_ok-passed.passed < length (map string_bytes c.in-Some.rest.now) = omega (arith, length-map c.in-Some.rest.now string_bytes, c.if-passed-rest.true) in
    refuses_at (map string_bytes c.args.words.now) (map string_bytes c.in-Some.rest.now) (string_bytes c.in-Some.name.now) (reading_view c.in-Some-begin.reading) c.in_ok-passed.passed
    (ap (map string_bytes) c.in-Some.ensures.cases.0) (name ∙ sym c.in-Some-begin.ensures) c.in_ok-passed.ensures.0 less

pub returns-in-Some-2 : goal.returns-in-Some-2
returns-in-Some-2 c =
    let name = ap begun (sym c.as_str.ensures.value) in
    let all : c.in_ok-passed.passed < length (map string_bytes c.in-Some.rest.now) → ⊥ = λ less. omega (arith, length-map c.in-Some.rest.now string_bytes, c.if-passed-rest.false, less) in
    takes (map string_bytes c.args.words.now) (map string_bytes c.in-Some.rest.now) (string_bytes c.in-Some.name.now) (reading_view c.in-Some-begin.reading) (reading_view c.read_on.new.reading) c.in_ok-passed.passed (command_view c.in-Some-2.command)
    (ap (map string_bytes) c.in-Some.ensures.cases.0) (name ∙ sym c.in-Some-begin.ensures) c.in_ok-passed.ensures.0 c.in_ok-passed.ensures.1 all (sym c.in_ok-command.ensures ∙ ap (option_map command_view) c.in-Some-2.is)

pub returns : goal.returns
returns c =
    let name = ap begun (sym c.as_str.ensures.value) in
    let all : c.in_ok-passed.passed < length (map string_bytes c.in-Some.rest.now) → ⊥ = λ less. omega (arith, length-map c.in-Some.rest.now string_bytes, c.if-passed-rest.false, less) in
    let whole = refuses_all (map string_bytes c.args.words.now) (map string_bytes c.in-Some.rest.now) (string_bytes c.in-Some.name.now) (reading_view c.in-Some-begin.reading) (reading_view c.read_on.new.reading) c.in_ok-passed.passed
    (ap (map string_bytes) c.in-Some.ensures.cases.0) (name ∙ sym c.in-Some-begin.ensures) c.in_ok-passed.ensures.0 c.in_ok-passed.ensures.1 all (sym c.in_ok-command.ensures ∙ ap (option_map command_view) c.in-None.is) in
    subst (λ n. Refuses (map string_bytes c.args.words.now) n) (length-map c.args.words.now string_bytes) whole
