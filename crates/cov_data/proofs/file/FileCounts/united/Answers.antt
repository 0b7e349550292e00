use Rattle.std.proofs.Common.{◌≡◌, ◌∷◌, [], ◌++◌, map, ap, sym, ◌∙◌, rules, tests, String, string_bytes}
use Rattle.std.proofs.lemmas.List.{map-append}
use Rattle.std.specs.BTreeMap.{IsFromIterResult}
use Rattle.std.specs.String.{string_cmp}
use Rattle.cov_data.specs.DataSet.{rekeyed, Text, text_cmp, merged}
use Rattle.cov_data.specs.Stored.{Counts, both_counts}
use Rattle.cov_data.proofs.SideBySide.{entry_of, key_cmp}
use Rattle.cov_data.proofs.Unions.{entry_by, walked, file_from-united}
use Rattle.cov_data.proofs.file.FileCounts.united.Goals as goal
use Rattle.cov_data.proofs.file.FileCounts.united.Goals.{in-Left+in_ok-copied-in-Left, in-Right+in_ok-copied-in-Right, in-Both+in_ok-united-in-Both}

abbrev seen : {Y : Type 0} → String Y × Counts → Text × Counts
seen e = (string_bytes e.0, e.1)

pub loop-side-preserved : goal.loop-side-preserved
loop-side-preserved c =
    let entry = entry_of (entry_by string_bytes) both_counts in
    let given : (string_bytes c.match-side.tally.0.now, c.match-side.tally.1) ≡ entry c.in-Some.side =
    elim c.match-side.branch [
      | in-Left+in_ok-copied-in-Left w ↦ ap (λ p. (string_bytes p.0.now, p.1)) w.tally-is ∙ ap (λ f. (string_bytes w.in-Left.context.now, f)) w.in_ok-copied-in-Left.ensures ∙ ap entry (sym w.in-Left.is)
      | in-Right+in_ok-copied-in-Right w ↦ ap (λ p. (string_bytes p.0.now, p.1)) w.tally-is ∙ ap (λ f. (string_bytes w.in-Right.context.now, f)) w.in_ok-copied-in-Right.ensures ∙ ap entry (sym w.in-Right.is)
      | in-Both+in_ok-united-in-Both w ↦ ap (λ p. (string_bytes p.0.now, p.1)) w.tally-is ∙ ap (λ f. (string_bytes w.in-Both.context.now, f)) w.in_ok-united-in-Both.ensures ∙ ap entry (sym w.in-Both.is)
    ] in
    let before = rekeyed string_bytes c.loop-side.contexts.items in
    let alike : string_bytes c.in_ok-clone.field-0 ≡ string_bytes c.match-side.tally.0.now = search (rules, c.in_ok-clone.ensures) in
    ap (rekeyed string_bytes) c.in_ok-push.ensures.items
    ∙ map-append seen c.loop-side.contexts.items ((c.in_ok-clone.field-0, c.match-side.tally.1) ∷ [])
    ∙ ap (λ k. before ++ ((k, c.match-side.tally.1) ∷ [])) alike
    ∙ ap (λ e. before ++ (e ∷ [])) given
    ∙ ap (λ es. es ++ (entry c.in-Some.side ∷ [])) c.loop-side.invariant
    ∙ sym (map-append entry c.loop-side.yielded (c.in-Some.side ∷ []))

pub returns : goal.returns
returns c =
    let mine = c.self.inside.contexts.entries in
    let other = c.other.inside.contexts.entries in
    let second = c.merge_join_by-sides.ensures.second.0 in
    let made : IsFromIterResult string_cmp c.loop-side.contexts.items c.in_ok-collect.field-0 = search rules in
    let walk = walked c.into_iter-side-iterator.result c.merge_join_by-sides.result c.loop-side.side-iterator c.next.new.self c.loop-side.yielded c.into_iter-side-iterator.ensures.into_iter_gives
    c.loop-side.yielded_by c.in-None.ensures.steps _ _ c.iter.ensures.runs c.merge_join_by-sides.ensures.runs (key_cmp (entry_by string_bytes) text_cmp) (λ x y r f k. search (rules, tests)) in
    file_from-united walk.0 walk.1 mine other c.loop-side.contexts.items c.in_ok-collect.field-0 (walk.2 ∙ c.iter.ensures.rest) (walk.3 ∙ second.0) c.iter.ensures.ordered second.5
    (c.loop-side.invariant ∙ ap (map (entry_of (entry_by string_bytes) both_counts)) walk.4) made
    ∙ (λ i. merged (c.self.view_is i) (c.other.view_is i))
