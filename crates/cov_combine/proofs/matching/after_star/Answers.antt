use Rattle.std.proofs.Common.{◌≡◌, ℕ, ◌-◌, ◌+◌, List, map, drop, take, length, Bor, ap, sym, ◌∙◌, arith, string_bytes, length-drop}
use Rattle.std.specs.Option.{is_some}
use Rattle.std.proofs.lemmas.List.{drop-map, length-map, take_all}
use Rattle.cov_combine.specs.Aliases.{left_after, after_star}
use Rattle.cov_combine.proofs.Matches.{option_or-some, option_or-none, is_some-option_map, after_star-at, after_star-short}
use Rattle.cov_combine.proofs.matching.after_star.Goals as goal

-- what was found after the `*` and the component at `start`
abbrev now : Bor (List ℕ) → List ℕ
now p = p.now

pub returns-then-is_some : goal.returns-then-is_some
returns-then-is_some c =
    let ps = map string_bytes c.args.rest.now in
    let parts = c.args.parts.now in
    let i = c.loop-start.start in
    let rest : take (length parts - i) (drop i parts) ≡ drop i parts = take_all (length parts - i) (drop i parts) (omega (arith, length-drop i parts)) in
    let found = c.left_after-found.ensures ∙ ap (λ xs. left_after ps (map now xs)) rest ∙ ap (left_after ps) (sym (drop-map now i parts)) in
    let there = sym (ap is_some found) ∙ is_some-option_map _ c.left_after-found.result ∙ sym c.is_some.ensures ∙ c.if-is_some.true in
    found ∙ sym (option_or-some (left_after ps (drop i (map now parts))) (after_star ps (drop i (map now parts))) there)
    ∙ sym (after_star-at ps (map now parts) i c.loop-start.auto.start (omega (arith, length-map parts now, c.loop-start-test.true)))
    ∙ ap (after_star ps) (drop-map now (i - 1) parts) ∙ sym c.loop-start.invariant

pub loop-start-preserved : goal.loop-start-preserved
loop-start-preserved c =
    let ps = map string_bytes c.args.rest.now in
    let parts = c.args.parts.now in
    let i = c.loop-start.start in
    let rest : take (length parts - i) (drop i parts) ≡ drop i parts = take_all (length parts - i) (drop i parts) (omega (arith, length-drop i parts)) in
    let found = c.left_after-found.ensures ∙ ap (λ xs. left_after ps (map now xs)) rest ∙ ap (left_after ps) (sym (drop-map now i parts)) in
    let none = sym (ap is_some found) ∙ is_some-option_map _ c.left_after-found.result ∙ sym c.is_some.ensures ∙ c.if-is_some.false in
    let next : i + 1 - 1 ≡ i = omega arith in
    c.loop-start.invariant ∙ ap (after_star ps) (sym (drop-map now (i - 1) parts))
    ∙ after_star-at ps (map now parts) i c.loop-start.auto.start (omega (arith, length-map parts now, c.loop-start-test.true))
    ∙ option_or-none (left_after ps (drop i (map now parts))) (after_star ps (drop i (map now parts))) none
    ∙ ap (after_star ps) (drop-map now i parts) ∙ ap (λ k. after_star ps (map now (drop k parts))) (sym next)

pub returns : goal.returns
returns c =
    let ps = map string_bytes c.args.rest.now in
    let left = drop (c.loop-start.start - 1) c.args.parts.now in
    sym (c.loop-start.invariant ∙ after_star-short ps (map now left) (omega (arith, length-map left now, length-drop (c.loop-start.start - 1) c.args.parts.now, c.loop-start-test.false)))
