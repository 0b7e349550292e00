use Rattle.std.proofs.Common.{ℕ, ◌+◌, List, [], ◌∷◌, ◌++◌, map, drop, get_or, ap, sym, ◌∙◌, append_assoc, Bor, string_bytes, arith}
use Rattle.cov_combine.specs.Aliases.{after}
use Rattle.cov_combine.proofs.Parts.{drop_at}
use Rattle.cov_combine.proofs.components.push_after.Goals as goal

pub loop-part-preserved : goal.loop-part-preserved
loop-part-preserved c =
    let i = c.loop-part.part-index in
    let parts = c.args.parts.now in
    let part = (get_or parts i (record { ref_ptr = (0, 0); now = [] })).now in
    let left = after (map (λ p. p.now) (drop (i + 1) parts)) in
    let text = string_bytes c.loop-part.text in
    ap (λ t. t ++ left) (c.in_ok-push_str.ensures.bytes ∙ ap (λ t. t ++ part) (c.in_ok-push.ensures.bytes ∙ ap (λ e. text ++ e) (c.in_ok-push.ensures.ascii (omega arith))))
    ∙ append_assoc (text ++ 47 ∷ []) part left
    ∙ append_assoc text (47 ∷ []) (part ++ left)
    ∙ ap (λ xs. text ++ after (map (λ (p : Bor (List ℕ)). p.now) xs)) (sym (drop_at parts i _ c.loop-part-test.true))
    ∙ c.loop-part.invariant
