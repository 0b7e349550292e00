use Rattle.std.proofs.Common.{◌+◌, Bool, not, ◌&&◌, false, drop, sym, ap, ◌∙◌, arith}
use Rattle.py_syntax.specs.Headers.{ends_in_colon}
use Rattle.py_token.specs.declared.token.Token.{Token}
use Rattle.py_statements.specs.ViewMarks.{kinds_of, is_newline}
use Rattle.py_statements.specs.ViewStates.{kind_at}
use Rattle.py_statements.proofs.View.HeaderPlaces.{no_more, whole_line}
use Rattle.py_statements.proofs.match_headers.heads_line.Goals as goal

pub returns-then-at-tokens : goal.returns-then-at-tokens
returns-then-at-tokens c = no_more c.args.tokens.now c.args.at c.requires.inside c.if-at-tokens.true

pub returns-then-not-is_a : goal.returns-then-not-is_a
returns-then-not-is_a c =
    let d = c.index-tokens-at.result in
    let is_other = ap (λ (u : Token). is_newline (kind_at u)) (sym c.index-tokens-at.is) ∙ sym c.is_a.ensures ∙ c.if-not-is_a.true in
    whole_line c.args.tokens.now c.args.at d d c.ends_in_colon.result c.requires.inside (omega arith) c.requires.begins (c.requires.named d) (c.ends_in_colon.ensures ∙ sym (ap (λ (b : Bool). not b && ends_in_colon false (drop (c.args.at + 2) (kinds_of c.args.tokens.now))) is_other))

pub returns-else-not-is_a : goal.returns-else-not-is_a
returns-else-not-is_a c =
    let d = c.index-tokens-at.result in
    let is_it = ap (λ (u : Token). is_newline (kind_at u)) (sym c.index-tokens-at.is) ∙ sym c.is_a.ensures ∙ c.if-not-is_a.false in
    whole_line c.args.tokens.now c.args.at d d (not c.is_a.result) c.requires.inside (omega arith) c.requires.begins (c.requires.named d) (ap not c.if-not-is_a.false ∙ sym (ap (λ (b : Bool). not b && ends_in_colon false (drop (c.args.at + 2) (kinds_of c.args.tokens.now))) is_it))
