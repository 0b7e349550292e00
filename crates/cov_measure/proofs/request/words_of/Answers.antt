use Rattle.std.proofs.Common.{rules, ◌≡◌, ◌∙◌, [], ◌∷◌, ap, string_bytes}
use Rattle.std.specs.Str.{chars}
use Rattle.cov_measure.specs.Requests.{words_in}
use Rattle.cov_measure.proofs.Lists.{words-copied}
use Rattle.cov_measure.proofs.request.words_of.Goals as goal

pub returns : goal.returns
returns c =
    let first : c.push.new.self.items ≡ c.in_ok-clone.field-0 ∷ [] = search (rules, c.in_ok-push.ensures.items, c.new-words.ensures.items) in
    words-copied c.push.new.self.items c.extend_from_slice.new.self.items c.deref.result.now c.in_ok-clone.field-0 c.args.request.now.script first c.in_ok-clone.ensures.cases c.in_ok-extend_from_slice.ensures.items
    ∙ ap (λ ws. chars (string_bytes c.args.request.now.script) ∷ words_in ws) c.deref.ensures.value
