use Rattle.std.proofs.Common.{◌≤◌, ℕ, List, Result, Ok, Err, arith, ap}
use Rattle.std.specs.Prelude.{IfOk}
use Rattle.std.specs.Global.{Vec}
use Rattle.std.specs.Str.{chars}
use Rattle.py_token.specs.declared.token.Token.{Token}
use Rattle.py_token.specs.declared.error.TokenError.{TokenError}
use Rattle.py_token.specs.View.{view_tokens}
use Rattle.py_token.specs.OnLines.{AreOnLines}
use Rattle.py_token.specs.Spelling.{spelling}
use Rattle.py_token.specs.Answers.{Gives}
use Rattle.py_token.specs.Source.{line_count, most_lines}
use Rattle.py_token.proofs.LayoutKept.{spelling_on_lines}
use Rattle.py_token.proofs.Lines.{source_lines}
use Rattle.py_token.proofs.tokenizer.tokens.Goals as goal

pub spelling-requires-clause-lines : goal.spelling-requires-clause-lines
spelling-requires-clause-lines c = let h = source_lines (chars c.args.source.now) in let e = ap line_count c.in_ok-text.ensures in let d = ap line_count c.deref.ensures.value in let r = c.requires in omega (arith, h, e, d, r)

told_on_lines : (cs : List ℕ) (r : Result (Vec Token) TokenError) → line_count cs ≤ most_lines → Gives (λ v. view_tokens v.items) r (spelling cs) → IfOk r (λ v. AreOnLines (view_tokens v.items))
told_on_lines cs (Ok v) few told = spelling_on_lines cs (view_tokens v.items) few told
told_on_lines cs (Err e) few told = tt

pub returns-clause-on_lines : goal.returns-clause-on_lines
returns-clause-on_lines c =
    let h = source_lines (chars c.args.source.now) in
    let e = ap line_count c.in_ok-text.ensures in
    let d = ap line_count c.deref.ensures.value in
    let r = c.requires in
    told_on_lines c.deref.result.now c.spelling.result (omega (arith, h, e, d, r)) c.spelling.ensures
