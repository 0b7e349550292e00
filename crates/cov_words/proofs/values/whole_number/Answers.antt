use Rattle.cov_words.proofs.Numbers.{whole_number_is}
use Rattle.cov_words.proofs.values.whole_number.Goals as goal

pub returns : goal.returns
returns c =
    whole_number_is c.args.word.now c.is_empty.result c.are_digits.result c.parse.result c.ok.result
    c.is_empty.ensures c.if-is_empty.false c.if-word-gt10.false c.are_digits.ensures c.if-not-are_digits.false c.parse.ensures.value.0 c.ok.ensures.value
