use Rattle.std.proofs.Common.{◌+◌, ◌++◌, ◌∷◌, [], ap, sym, ◌∙◌, length}
use Rattle.std.specs.Str.{chars}
use Rattle.std.specs.String.{string_bytes}
use Rattle.std.proofs.lemmas.Str.{IsUtf8-string_bytes}
use Rattle.std.proofs.lemmas.List.{length_push}
use Rattle.py_text.proofs.TextLaws.{chars-push}
use Rattle.py_text.specs.Hashes.{mixed, hash_of_text}
use Rattle.py_text.proofs.Mixing.{mixed-append}
use Rattle.py_text.proofs.body.Body.push.Goals as goal

pub returns-clause-ok : goal.returns-clause-ok
returns-clause-ok c =
    ap chars c.in_ok-push.ensures.bytes
    ∙ chars-push (string_bytes c.self.inside.utf8) c.args.c (IsUtf8-string_bytes c.self.inside.utf8) c.ranges.c.0
    ∙ ap (λ cs. cs ++ c.args.c ∷ []) c.self.view_is

pub invariant_of-self-2 : goal.invariant_of-self-2
invariant_of-self-2 c =
    let was = chars (string_bytes c.self.inside.utf8) in
    let both = ap chars c.in_ok-push.ensures.bytes ∙ chars-push (string_bytes c.self.inside.utf8) c.args.c (IsUtf8-string_bytes c.self.inside.utf8) c.ranges.c.0 in (
      c.in_ok-count.ensures ∙ ap (λ n. n + 1) c.self.invariant.0 ∙ sym (length_push was c.args.c) ∙ sym (ap length both),
      c.mixed-self-inside.ensures ∙ ap (λ h. mixed h c.args.c) c.self.invariant.1 ∙ sym (mixed-append 7 was (c.args.c ∷ [])) ∙ sym (ap hash_of_text both),
    )
