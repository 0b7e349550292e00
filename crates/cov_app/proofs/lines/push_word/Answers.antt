use Rattle.std.proofs.Common.{◌∙◌, [], ◌++◌, ap, sym, append-nil, map, string_bytes}
use Rattle.cov_app.proofs.LineWords.{filled-none, pushed}
use Rattle.cov_app.proofs.lines.push_word.Goals as goal

pub returns-then-is_empty : goal.returns-then-is_empty
returns-then-is_empty c =
    let before = map string_bytes c.args.words.now.items in
    sym (append-nil before) ∙ ap (λ ws. before ++ ws) (sym (filled-none c.args.word.now [] (sym c.is_empty.ensures ∙ c.if-is_empty.true)))

pub returns : goal.returns
returns c = pushed c.args.words.now.items c.push.new.self.items c.in_ok-owned.owned c.args.word.now c.in_ok-push.ensures.items c.in_ok-owned.ensures.ok (sym c.is_empty.ensures ∙ c.if-is_empty.false)
