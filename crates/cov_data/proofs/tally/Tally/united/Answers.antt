use Rattle.std.proofs.Common.{◌≡◌, ℤ, ◌∷◌, [], ◌++◌, map, ap, sym, ◌∙◌, rules, tests}
use Prim.Native.Nat.{ℕ}
use Rattle.std.proofs.lemmas.List.{map-append}
use Rattle.cov_data.specs.DataSet.{rekeyed, add_counts}
use Rattle.cov_data.specs.Stored.{both_counts}
use Rattle.cov_data.proofs.SideBySide.{entry_of, key_cmp}
use Rattle.cov_data.proofs.Unions.{entry_by, walked, counts_from-united}
use Rattle.std.specs.BTreeMap.{IsFromIterResult}
use Rattle.std.proofs.lemmas.Result.{IfOk-at_ok}
use Rattle.std.proofs.lemmas.Iterator.Adapters.{YieldsList-from_vec, fact_from_collect}
use Rattle.cov_data.specs.Rows.{arc_cmp}
use Rattle.cov_data.proofs.tally.Tally.united.Goals as goal
use Rattle.cov_data.proofs.tally.Tally.united.Goals.{in-Both, in-Left, in-Right}

abbrev seen : (ℤ × ℤ) × ℕ → (ℤ × ℤ) × ℕ
seen e = (e.0, e.1)

pub loop-side-preserved : goal.loop-side-preserved
loop-side-preserved c =
    let given : (c.match-side.count.0.now, c.match-side.count.1) ≡ entry_of (entry_by (λ k. k)) add_counts c.in-Some.side =
    elim c.match-side.branch [
      | in-Both w ↦ ap (λ p. (p.0.now, p.1)) w.count-is ∙ ap (λ n. (w.in-Both.numbers.now, n)) w.saturating_add.ensures ∙ ap (entry_of (entry_by (λ k. k)) add_counts) (sym w.in-Both.is)
      | in-Left w ↦ ap (λ p. (p.0.now, p.1)) w.count-is ∙ ap (entry_of (entry_by (λ k. k)) add_counts) (sym w.in-Left.is)
      | in-Right w ↦ ap (λ p. (p.0.now, p.1)) w.count-is ∙ ap (entry_of (entry_by (λ k. k)) add_counts) (sym w.in-Right.is)
    ] in
    let before = rekeyed (λ k. k) c.loop-side.counts.items in
    ap (rekeyed (λ k. k)) c.in_ok-push.ensures.items
    ∙ map-append seen c.loop-side.counts.items ((c.match-side.count.0.now, c.match-side.count.1) ∷ [])
    ∙ ap (λ e. before ++ (e ∷ [])) given
    ∙ ap (λ es. es ++ (entry_of (entry_by (λ k. k)) add_counts c.in-Some.side ∷ [])) c.loop-side.invariant
    ∙ sym (map-append (entry_of (entry_by (λ k. k)) add_counts) c.loop-side.yielded (c.in-Some.side ∷ []))

pub returns : goal.returns
returns c =
    let mine = c.self.inside.counts.entries in
    let other = c.other.inside.counts.entries in
    let second = c.merge_join_by-sides.ensures.second.0 in
    let made : IsFromIterResult arc_cmp c.loop-side.counts.items c.in_ok-collect.field-0 = IfOk-at_ok (IsFromIterResult arc_cmp c.loop-side.counts.items) c.in_ok-collect.was
    (fact_from_collect (IsFromIterResult arc_cmp) c.collect.result c.collect.ensures.ran (YieldsList-from_vec {s = c.into_iter.result} c.loop-side.counts.items (search rules) (search rules))) in
    let walk = walked c.into_iter-side-iterator.result c.merge_join_by-sides.result c.loop-side.side-iterator c.next.new.self c.loop-side.yielded c.into_iter-side-iterator.ensures.into_iter_gives
    c.loop-side.yielded_by c.in-None.ensures.steps _ _ c.iter.ensures.runs c.merge_join_by-sides.ensures.runs (key_cmp (entry_by (λ k. k)) arc_cmp) (λ x y r f k. search (rules, tests)) in
    counts_from-united walk.0 walk.1 mine other c.loop-side.counts.items c.in_ok-collect.field-0 (walk.2 ∙ c.iter.ensures.rest) (walk.3 ∙ second.0) c.iter.ensures.ordered second.5
    (c.loop-side.invariant ∙ ap (map (entry_of (entry_by (λ k. k)) add_counts)) walk.4) made
    ∙ (λ i. both_counts (c.self.view_is i) (c.other.view_is i))
