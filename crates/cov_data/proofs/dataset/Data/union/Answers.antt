use Rattle.std.proofs.Common.{◌≡◌, true, false, ap, sym, subst, refl, ◌∙◌, Bool, not}
use Rattle.cov_data.specs.DataSet.{Text, IsSoundFile, IsSound, file_in, union, has_path, count_at}
use Rattle.cov_data.proofs.Soundness.{all_files-sound, has_path-union, count_at-union}
use Rattle.cov_data.proofs.dataset.Data.union.Goals as goal
use Rattle.std.specs.Bool.{beq}

same_flags : (a b : Bool) → not (beq a b) ≡ false → b ≡ a
same_flags true true h = refl
same_flags true false h = cc
same_flags false true h = cc
same_flags false false h = refl

pub invariant_of-self : goal.invariant_of-self
invariant_of-self c =
    let arcs = c.self.inside.arcs in
    let same : c.other.inside.arcs ≡ c.self.inside.arcs = same_flags _ _ c.if-self-other.false in
    let other : (p : Text) → IsSoundFile arcs (file_in c.other.inside.files p) = subst (λ b. (p : Text) → IsSoundFile b (file_in c.other.inside.files p)) same c.other.invariant in
    subst (λ m. (p : Text) → IsSoundFile arcs (file_in m p)) (sym c.in_ok-self-inside.ensures) (all_files-sound arcs c.self.inside.files c.other.inside.files c.self.invariant other)

united : (c : goal.After-drop-self-inside) → record { arcs = c.self.inside.arcs; files = c.in_ok-self-inside.field-0 } ≡ union c.args.self.now c.args.other.now
united c = (λ i. record { arcs = c.self.inside.arcs; files = c.in_ok-self-inside.ensures i }) ∙ (λ i. union (c.self.view_is i) (c.other.view_is i))

pub returns-clause-ok : goal.returns-clause-ok
returns-clause-ok c = united c

pub returns-clause-paths : goal.returns-clause-paths
returns-clause-paths c = λ p. ap (λ d. has_path d p) (united c) ∙ has_path-union c.args.self.now c.args.other.now p

pub returns-clause-counts : goal.returns-clause-counts
returns-clause-counts c = λ p context from to. ap (λ d. count_at d p context from to) (united c)
    ∙ count_at-union c.args.self.now c.args.other.now (subst IsSound c.self.view_is c.self.invariant) (subst IsSound c.other.view_is c.other.invariant) p context from to
