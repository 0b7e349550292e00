use Rattle.std.proofs.Common.{arith, ap, ◌∙◌}
use Rattle.py_token.specs.Words.{in_name}
use Rattle.py_token.proofs.PlainTokens.{front_len, word_found, with_kind}
use Rattle.py_token.proofs.plain.word_at.Goals as goal

pub overflow_add-len : goal.overflow_add-len
overflow_add-len c = let h = front_len in_name c.args.chars.now c.after.result.now c.name_len-len.result c.requires c.after.ensures c.name_len-len.ensures in omega (arith, h)

pub front-requires : goal.front-requires
front-requires c = front_len in_name c.args.chars.now c.after.result.now c.name_len-len.result c.requires c.after.ensures c.name_len-len.ensures

pub returns : goal.returns
returns c = word_found c.args.line c.name_len-len.result c.args.chars.now c.after.result.now c.front.result.now c.requires c.after.ensures c.name_len-len.ensures c.front.ensures ∙ ap (with_kind c.args.line c.name_len-len.result) c.in_ok-kind.ensures
