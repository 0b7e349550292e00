use Rattle.std.proofs.Common.{sym, ap, ◌∙◌}
use Rattle.std.specs.Prelude.{Ok, Some, None}
use Rattle.py_token.specs.Plain.{PKind}
use Rattle.py_token.proofs.Keywords.{kind_found}
use Rattle.py_token.proofs.Views.{plain-name, plain-keyword}
use Rattle.py_token.proofs.words.word_kind.Goals as goal

pub returns-in-Some : goal.returns-in-Some
returns-in-Some c = ap (λ (k : PKind). Ok k) (kind_found c.args.word.now _ c.as_str.result.now (Some c.in-Some.keyword) c.in_ok-text.ensures c.as_str.ensures.bytes c.in-Some.ensures ∙ sym (plain-keyword c.in-Some.keyword))

pub returns-in-None : goal.returns-in-None
returns-in-None c = ap (λ (k : PKind). Ok k) (kind_found c.args.word.now _ c.as_str.result.now None c.in_ok-text.ensures c.as_str.ensures.bytes c.in-None.ensures ∙ sym (plain-name c.in_ok-text.text))
