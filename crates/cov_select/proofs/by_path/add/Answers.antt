use Rattle.std.proofs.Common.{◌≡◌, ◌++◌, ◌∷◌, [], List, ℕ, map, string_bytes, sym, ap, ◌∙◌}
use Rattle.std.proofs.lemmas.List.{map-append}
use Rattle.std.proofs.lemmas.Str.{IsUtf8-string_bytes, encodes-chars}
use Rattle.cov_select.specs.Paths.{path_bytes, plain_change}
use Rattle.cov_select.proofs.by_path.add.Goals as goal

pub returns : goal.returns
returns c =
    let own : string_bytes c.in_ok-path.path ≡ path_bytes c.args.program.now = c.in_ok-path.ensures.ok ∙ c.as_str.ensures.value ∙ sym (encodes-chars (string_bytes c.args.program.now.path) (IsUtf8-string_bytes c.args.program.now.path)) in
    ap (map plain_change) c.in_ok-push.ensures.items ∙ map-append plain_change c.args.found.now.items ((c.in_ok-path.path, c.args.lines) ∷ [])
    ∙ ap (λ (bytes : List ℕ). map plain_change c.args.found.now.items ++ (bytes, c.args.lines.items) ∷ []) own
