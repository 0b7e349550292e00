use Rattle.std.proofs.Common.{◌&&◌, not, sym, ap, ◌∙◌}
use Rattle.std.specs.List.{list_any}
use Rattle.cov_words.specs.Options.{is_same, is_given}
use Rattle.cov_words.specs.Plain.{given_of}
use Rattle.cov_words.proofs.Cutting.{given_any}
use Rattle.cov_words.proofs.reading.Reading.may_take.Goals as goal

pub returns-then-has : goal.returns-then-has
returns-then-has c =
    ap not (c.is_given.ensures ∙ ap (λ g. list_any (λ x. is_same c.args.option x.0) g) c.as_slice.ensures.value ∙ given_any c.args.option c.args.self.now.given.items)
    ∙ ap (λ b. b && not (is_given c.args.option (given_of c.args.self.now.given.items))) (sym c.if-has.true ∙ c.has.ensures)
