use Rattle.std.proofs.Common.{ap, sym, ◌∙◌, length, arith}
use Rattle.std.specs.Str.{encode_utf8_all}
use Rattle.std.specs.String.{string_bytes}
use Rattle.std.proofs.lemmas.Bool.{eqb-true}
use Rattle.std.proofs.lemmas.Str.{IsUtf8-string_bytes, encodes-chars}
use Rattle.py_text.proofs.TextLaws.{ascii_by_length}
use Rattle.py_text.proofs.body.Body.is_ascii.Goals as goal

pub returns : goal.returns
returns c = λ same.
    let bytes = ap length (sym (ap encode_utf8_all c.self.view_is) ∙ encodes-chars (string_bytes c.self.inside.utf8) (IsUtf8-string_bytes c.self.inside.utf8)) in
    let read = ap length c.as_str.ensures.value in
    let seen = ap length c.self.view_is in
    let equal = eqb-true c.self.inside.count (length c.as_str.result.now) same in
    ascii_by_length c.args.self.now (omega (arith, bytes, read, seen, equal, c.self.invariant.0))
