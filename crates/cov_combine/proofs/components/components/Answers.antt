use Rattle.std.proofs.Common.{ℕ, ◌+◌, List, [], ◌++◌, map, drop, get_or, ap, sym, ◌∙◌, append_assoc, append-nil, Bor}
use Rattle.std.proofs.lemmas.List.{map-append, drop_all}
use Rattle.cov_combine.proofs.Parts.{cut_twice, components-twice, drop_at}
use Rattle.cov_combine.proofs.components.components.Goals as goal

pub loop-piece-preserved : goal.loop-piece-preserved
loop-piece-preserved c =
    let i = c.loop-piece.piece-index in
    let items = c.deref-piece-items.result.now in
    let piece = get_or items i (record { ref_ptr = (0, 0); now = [] }) in
    let left = cut_twice (map (λ p. p.now) (drop (i + 1) items)) in
    let before = map (λ (p : Bor (List ℕ)). p.now) c.loop-piece.parts.items in
    ap (λ xs. map (λ p. p.now) xs ++ left) c.in_ok-extend_from_slice.ensures.items
    ∙ ap (λ xs. xs ++ left) (map-append (λ (p : Bor (List ℕ)). p.now) c.loop-piece.parts.items c.as_slice.result.now)
    ∙ append_assoc before _ left
    ∙ ap (λ xs. before ++ (xs ++ left)) (ap (map (λ (p : Bor (List ℕ)). p.now)) c.as_slice.ensures.value ∙ c.in_ok-backslashed.ensures)
    ∙ ap (λ xs. before ++ cut_twice (map (λ (p : Bor (List ℕ)). p.now) xs)) (sym (drop_at items i _ c.loop-piece-test.true))
    ∙ c.loop-piece.invariant

pub returns : goal.returns
returns c =
    let items = c.deref-piece-items.result.now in
    let before = map (λ (p : Bor (List ℕ)). p.now) c.loop-piece.parts.items in
    sym (append-nil before) ∙ ap (λ xs. before ++ cut_twice (map (λ (p : Bor (List ℕ)). p.now) xs)) (sym (drop_all c.loop-piece.piece-index items c.loop-piece-test.false)) ∙ c.loop-piece.invariant
    ∙ ap cut_twice (ap (map (λ (p : Bor (List ℕ)). p.now)) c.deref-piece-items.ensures.value ∙ c.in_ok-slashed.ensures)
    ∙ sym (components-twice c.args.text.now)
