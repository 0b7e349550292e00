use Rattle.std.proofs.Common.{ap, sym, ◌∙◌, length}
use Rattle.std.specs.Str.{chars}
use Rattle.std.proofs.lemmas.Str.{chars-nil}
use Rattle.py_text.specs.Hashes.{hash_of_text}
use Rattle.py_text.proofs.body.Body.with_capacity.Goals as goal

pub invariant_of-result : goal.invariant_of-result
invariant_of-result c =
    let none = ap chars c.in_ok-utf8.ensures.bytes ∙ chars-nil in
    (sym (ap length none), sym (ap hash_of_text none))

pub returns : goal.returns
returns c = ap chars c.in_ok-utf8.ensures.bytes ∙ chars-nil
