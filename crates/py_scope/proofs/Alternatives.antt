-- A turn of the loop over alternatives.
use Rattle.std.proofs.Common.{◌≡◌, Bool, true, false, not, ◌&&◌, ◌||◌, refl, sym, ap, ◌∙◌}
use Rattle.py_syntax.specs.Tree.{Pattern, Patterns, patterns}
use Rattle.py_scope.specs.declared.patterns.PatternFacts.{PatternFacts}
use Rattle.py_scope.specs.Patterns.{is_last, is_early, has_early, some_early, binds, some_binds}
use Rattle.py_syntax.specs.Patterns.{is_irrefutable, has_irrefutable}
use Rattle.py_scope.specs.PatternFacts.{facts_of, either}
use Rattle.py_scope.proofs.Gathering.{or_next}

-- what is told of the alternatives so far, and of those that are left, is told of all of them
abbrev pub Tells : PatternFacts → Patterns → Patterns → Type 0
Tells all rest whole = record {
  irrefutable : (all.irrefutable || has_irrefutable rest) ≡ has_irrefutable whole;
  binds : (all.binds || some_binds rest) ≡ some_binds whole;
  early : (all.early || ((all.irrefutable && not (is_last rest)) || (is_early rest || some_early rest))) ≡ (is_early whole || some_early whole);
}

or_true : (b : Bool) → true ≡ (b || true)
or_true true = refl
or_true false = refl

-- e: some is early so far; i: one is irrefutable; h, q: the next one has an early one, and is irrefutable; n: more follow;
-- m, s: there is an early one among those, and in one of them
early-next : (e i h q n m s : Bool) → (((e || i) || h) || (((i || q) && n) || (m || s))) ≡ (e || ((i && true) || (((q && n) || m) || (h || s))))
early-next true i h q n m s = refl
early-next false true h q n m s = refl
early-next false false true q n m s = or_true ((q && n) || m)
early-next false false false q n m s = or_next (q && n) m s

abbrev told_with : PatternFacts → Pattern → PatternFacts
told_with all p = either (record all { early = all.early || all.irrefutable }) (facts_of p)

pub tells_turn : (all before facts next : PatternFacts) (p : Pattern) (left rest whole : Patterns)
    → left ≡ patterns p rest → before ≡ record all { early = all.early || all.irrefutable } → facts ≡ facts_of p → next ≡ either before facts
    → Tells all left whole → Tells next rest whole
tells_turn all before facts next p left rest whole is b f n told =
    let e : next ≡ told_with all p = n ∙ ap (λ x. either x facts) b ∙ ap (either (record all { early = all.early || all.irrefutable })) f in
    record {
      irrefutable = ap (λ x. x.irrefutable || has_irrefutable rest) e ∙ sym (or_next all.irrefutable (is_irrefutable p) (has_irrefutable rest)) ∙ sym (ap (λ ps. all.irrefutable || has_irrefutable ps) is) ∙ told.irrefutable;
      binds = ap (λ x. x.binds || some_binds rest) e ∙ sym (or_next all.binds (binds p) (some_binds rest)) ∙ sym (ap (λ ps. all.binds || some_binds ps) is) ∙ told.binds;
      early =
          ap (λ x. x.early || ((x.irrefutable && not (is_last rest)) || (is_early rest || some_early rest))) e
          ∙ early-next all.early all.irrefutable (has_early p) (is_irrefutable p) (not (is_last rest)) (is_early rest) (some_early rest)
          ∙ sym (ap (λ ps. all.early || ((all.irrefutable && not (is_last ps)) || (is_early ps || some_early ps))) is)
          ∙ told.early;
    }
