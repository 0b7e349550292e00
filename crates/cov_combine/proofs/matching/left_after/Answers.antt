use Rattle.std.proofs.Common.{◌≡◌, ℕ, ◌-◌, List, map, drop, length, Some, Bor, ap, sym, ◌∙◌, arith, string_bytes, length-drop}
use Rattle.std.proofs.lemmas.List.{drop-map, length-map, take_all}
use Rattle.cov_combine.proofs.Matches.{left_after-fits}
use Rattle.cov_combine.proofs.matching.left_after.Goals as goal

pub returns-then-pattern-parts : goal.returns-then-pattern-parts
returns-then-pattern-parts c =
    let now : Bor (List ℕ) → List ℕ = λ p. p.now in
    let pattern = c.args.pattern.now in
    let parts = c.args.parts.now in
    let k = length pattern in
    let same : length (map string_bytes pattern) ≡ k = length-map pattern string_bytes in
    let all : length (map now parts) ≡ length parts = length-map parts now in
    ap (λ xs. Some (map now xs)) (take_all (length parts - k) (drop k parts) (omega (arith, length-drop k parts)))
    ∙ ap Some (sym (drop-map now k parts))
    ∙ ap (λ m. Some (drop m (map now parts))) (sym same)
    ∙ sym (left_after-fits (map string_bytes pattern) (map now parts) (sym c.fits.ensures ∙ c.if-fits.true) (omega (arith, same, all, c.if-pattern-parts.true)))
