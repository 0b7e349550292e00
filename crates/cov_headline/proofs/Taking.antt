-- The data of an origin have what its runs took.
use Rattle.std.proofs.Common.{◌≡◌, inl, inr, ℕ, ◌<◌, ℤ, Bool, true, ◌∷◌, Contains, refl, subst, ◌∙◌}
use Rattle.cov_combine.specs.Aliases.{alias_of}
use Rattle.cov_combine.specs.Combined.{combined}
use Rattle.cov_data.specs.DataSet.{Text}
use Rattle.cov_data.specs.Rows.{lines_of}
use Rattle.cov_data.proofs.ArcLists.{Has, arcs_of-has}
use Rattle.cov_headline.specs.Origins.{Origin, found, ran, joined, united, Origins, no_more, and_of, data_of, datas_of, SomeTakes, SomeExecutes, IsOf, AreOf, HasTaken}
use Rattle.cov_headline.proofs.Joining.{Any, union-arcs, union-lines, has-combined, combined-lines, combined-kind}

-- what is said of each of several
abbrev AllTaken : Bool → Origins → Type 0
AllTaken arcs no_more = Unit {0}
AllTaken arcs (and_of o rest) = HasTaken arcs o × AllTaken arcs rest

module _ (alias : Text → Text) (path : Text) where
  some-takes : (os : Origins) → AllTaken true os → (a : ℤ × ℤ) → Any alias path (λ d q. Has d q a) (datas_of os) → (name : Text) × (alias name ≡ path) × SomeTakes os name a
  some-takes no_more all a h = absurd h
  some-takes (and_of o rest) all a (inl h) = (h.0, h.1, inl ((all.0.taken refl h.0 a).0 ((arcs_of-has (data_of o) all.0.kind h.0 a).1 h.2)))
  some-takes (and_of o rest) all a (inr h) = let s = some-takes rest all.1 a h in (s.0, s.1, inr s.2)

  takes-some : (os : Origins) → AllTaken true os → (a : ℤ × ℤ) (name : Text) → alias name ≡ path → SomeTakes os name a → Any alias path (λ d q. Has d q a) (datas_of os)
  takes-some no_more all a name is h = h
  takes-some (and_of o rest) all a name is (inl h) = inl (name, is, (arcs_of-has (data_of o) all.0.kind name a).0 ((all.0.taken refl name a).1 h))
  takes-some (and_of o rest) all a name is (inr h) = inr (takes-some rest all.1 a name is h)

  module _ (arcs : Bool) (line : ℕ) (low : 0 < line) where
    some-executes : (os : Origins) → AllTaken arcs os → Any alias path (λ d q. Contains (lines_of d q) line) (datas_of os) → (name : Text) × (alias name ≡ path) × SomeExecutes os name line
    some-executes no_more all h = absurd h
    some-executes (and_of o rest) all (inl h) = (h.0, h.1, inl ((all.0.executed h.0 line low).0 h.2))
    some-executes (and_of o rest) all (inr h) = let s = some-executes rest all.1 h in (s.0, s.1, inr s.2)

    executes-some : (os : Origins) → AllTaken arcs os → (name : Text) → alias name ≡ path → SomeExecutes os name line → Any alias path (λ d q. Contains (lines_of d q) line) (datas_of os)
    executes-some no_more all name is h = h
    executes-some (and_of o rest) all name is (inl h) = inl (name, is, (all.0.executed name line low).1 h)
    executes-some (and_of o rest) all name is (inr h) = inr (executes-some rest all.1 name is h)

-- data that were joined
of-joined : (arcs : Bool) (old new : Origin) → HasTaken arcs old → HasTaken arcs new → HasTaken arcs (joined old new)
of-joined arcs old new a b = record {
  kind = a.kind;
  taken = λ t path arc.
      let s = union-arcs (data_of old) (data_of new) (a.kind ∙ t) (b.kind ∙ t) path arc in (
        λ h. elim (s.0 h) [ inl x ↦ inl ((a.taken t path arc).0 x) | inr x ↦ inr ((b.taken t path arc).0 x) ],
        λ h. s.1 (elim h [ inl x ↦ inl ((a.taken t path arc).1 x) | inr x ↦ inr ((b.taken t path arc).1 x) ]),
      );
  executed = λ path line low.
      let s = union-lines (data_of old) (data_of new) path line in (
        λ h. elim (s.0 h) [ inl x ↦ inl ((a.executed path line low).0 x) | inr x ↦ inr ((b.executed path line low).0 x) ],
        λ h. s.1 (elim h [ inl x ↦ inl ((a.executed path line low).1 x) | inr x ↦ inr ((b.executed path line low).1 x) ]),
      );
}

-- data that were combined
of-united : (arcs : Bool) (rules : _) (first : Origin) (others : Origins) → HasTaken arcs first → AllTaken arcs others → HasTaken arcs (united rules first others)
of-united arcs rules first others a all =
    let alias = alias_of rules in
    let ds = data_of first ∷ datas_of others in
    let kind : (combined alias ds).arcs ≡ arcs = combined-kind alias ds ∙ a.kind in record {
      kind = kind;
      taken = λ t path arc.
          let one : HasTaken true first = subst (λ k. HasTaken k first) t a in
          let rest : AllTaken true others = subst (λ k. AllTaken k others) t all in
          let every : AllTaken true (and_of first others) = (one, rest) in
          let s = arcs_of-has (combined alias ds) (kind ∙ t) path arc in
          let c = has-combined alias path arc ds in (
            λ h. some-takes alias path (and_of first others) every arc (c.0 (s.0 h)),
            λ h. s.1 (c.1 (takes-some alias path (and_of first others) every arc h.0 h.1 h.2)),
          );
      executed = λ path line low.
          let s = combined-lines alias path ds line in (
            λ h. some-executes alias path arcs line low (and_of first others) (a, all) (s.0 h),
            λ h. s.1 (executes-some alias path arcs line low (and_of first others) (a, all) h.0 h.1 h.2),
          );
    }

mutual
  pub law_of_origins : (arcs : Bool) (o : Origin) → IsOf arcs o → HasTaken arcs o
  law_of_origins arcs (found d) is = record { kind = is; taken = λ t path arc. (λ h. h, λ h. h); executed = λ path line low. (λ h. h, λ h. h) }
  law_of_origins arcs (ran r rows) is = record { kind = is.0; taken = λ t path arc. is.1.arcs (is.0 ∙ t) path arc; executed = λ path line low. is.1.lines path line low }
  law_of_origins arcs (joined old new) is = of-joined arcs old new (law_of_origins arcs old is.0) (law_of_origins arcs new is.1)
  law_of_origins arcs (united rules first others) is = of-united arcs rules first others (law_of_origins arcs first is.0) (laws_of_origins arcs others is.1)

  laws_of_origins : (arcs : Bool) (os : Origins) → AreOf arcs os → AllTaken arcs os
  laws_of_origins arcs no_more is = tt
  laws_of_origins arcs (and_of o rest) is = (law_of_origins arcs o is.0, laws_of_origins arcs rest is.1)
