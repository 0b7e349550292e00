use Rattle.std.proofs.Common.{ℕ, ◌+◌, List, [], ◌∷◌, ◌++◌, map, drop, get_or, ap, sym, ◌∙◌, append_assoc, append-nil, Bor, string_bytes}
use Rattle.std.proofs.lemmas.List.{drop_all}
use Rattle.cov_app.specs.Words.{filled}
use Rattle.cov_app.proofs.LineWords.{filled-append, drop_at}
use Rattle.cov_app.proofs.lines.push_words.Goals as goal

pub loop-word-preserved : goal.loop-word-preserved
loop-word-preserved c =
    let i = c.loop-word.word-index in
    let items = c.deref-word-items.result.now in
    let word = (get_or items i (record { ref_ptr = (0, 0); now = [] })).now in
    let rest = map (λ (w : Bor (List ℕ)). w.now) (drop (i + 1) items) in
    let before = map string_bytes c.loop-word.words.items in
    ap (λ ws. ws ++ filled rest) c.in_ok-push_word.ensures
    ∙ append_assoc before (filled (word ∷ [])) (filled rest)
    ∙ ap (λ ws. before ++ ws) (sym (filled-append (word ∷ []) rest))
    ∙ ap (λ xs. before ++ filled (map (λ (w : Bor (List ℕ)). w.now) xs)) (sym (drop_at items i _ c.loop-word-test.true))
    ∙ c.loop-word.invariant

pub returns : goal.returns
returns c =
    let items = c.deref-word-items.result.now in
    let before = map string_bytes c.loop-word.words.items in
    sym (append-nil before) ∙ ap (λ xs. before ++ filled (map (λ (w : Bor (List ℕ)). w.now) xs)) (sym (drop_all c.loop-word.word-index items c.loop-word-test.false)) ∙ c.loop-word.invariant
    ∙ ap (λ ws. map string_bytes c.args.words.now.items ++ filled ws) (ap (map (λ (w : Bor (List ℕ)). w.now)) c.deref-word-items.ensures.value ∙ c.in_ok-without_tabs.ensures)
