use Rattle.std.proofs.Common.{ℕ, ◌+◌, List, ◌++◌, map, drop, ap, sym, ◌∙◌, append_assoc, append-nil, Bor, string_bytes}
use Rattle.std.proofs.lemmas.List.{drop_all}
use Rattle.cov_app.proofs.LineWords.{words_of, words-in, drop_at}
use Rattle.cov_app.proofs.lines.words_in.Goals as goal

pub loop-part-preserved : goal.loop-part-preserved
loop-part-preserved c =
    let i = c.loop-part.part-index in
    let items = c.deref-part-items.result.now in
    let left = words_of (map (λ p. p.now) (drop (i + 1) items)) in
    let before = map string_bytes c.loop-part.words.items in
    ap (λ ws. ws ++ left) c.in_ok-push_words.ensures
    ∙ append_assoc before _ left
    ∙ ap (λ xs. before ++ words_of (map (λ (p : Bor (List ℕ)). p.now) xs)) (sym (drop_at items i _ c.loop-part-test.true))
    ∙ c.loop-part.invariant

pub returns : goal.returns
returns c =
    let items = c.deref-part-items.result.now in
    let before = map string_bytes c.loop-part.words.items in
    sym (append-nil before) ∙ ap (λ xs. before ++ words_of (map (λ (p : Bor (List ℕ)). p.now) xs)) (sym (drop_all c.loop-part.part-index items c.loop-part-test.false)) ∙ c.loop-part.invariant
    ∙ ap words_of (ap (map (λ (p : Bor (List ℕ)). p.now)) c.deref-part-items.ensures.value ∙ c.in_ok-without_blanks.ensures)
    ∙ words-in c.args.line.now
