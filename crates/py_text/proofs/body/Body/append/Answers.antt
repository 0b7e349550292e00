use Rattle.std.proofs.Common.{◌+◌, ◌++◌, ap, sym, ◌∙◌, length, length-append}
use Rattle.std.specs.Str.{chars}
use Rattle.std.specs.String.{string_bytes}
use Rattle.std.proofs.lemmas.Str.{IsUtf8-string_bytes, chars-append}
use Rattle.py_text.specs.Hashes.{mixed_all, hash_of_text}
use Rattle.py_text.proofs.Mixing.{mixed-append}
use Rattle.py_text.proofs.body.Body.append.Goals as goal

pub returns-clause-ok : goal.returns-clause-ok
returns-clause-ok c =
    ap chars c.in_ok-push_str.ensures.bytes
    ∙ chars-append (string_bytes c.self.inside.utf8) c.args.s.now (IsUtf8-string_bytes c.self.inside.utf8)
    ∙ ap (λ cs. cs ++ chars c.args.s.now) c.self.view_is

pub invariant_of-self-2 : goal.invariant_of-self-2
invariant_of-self-2 c =
    let was = chars (string_bytes c.self.inside.utf8) in
    let more = chars c.args.s.now in
    let both = ap chars c.in_ok-push_str.ensures.bytes ∙ chars-append (string_bytes c.self.inside.utf8) c.args.s.now (IsUtf8-string_bytes c.self.inside.utf8) in (
      c.in_ok-count.ensures ∙ ap (λ n. n + c.args.count) c.self.invariant.0 ∙ ap (λ n. length was + n) c.requires ∙ sym (length-append was more) ∙ sym (ap length both),
      c.mixed_all-self-inside.ensures ∙ ap (λ h. mixed_all h more) c.self.invariant.1 ∙ sym (mixed-append 7 was more) ∙ sym (ap hash_of_text both),
    )
