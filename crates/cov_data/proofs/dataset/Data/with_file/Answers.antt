use Rattle.std.proofs.Common.{◌≡◌, ap, sym, subst, ◌∙◌}
use Rattle.std.specs.Option.{unwrap_or, option_copied}
use Rattle.cov_data.specs.DataSet.{Text, Files, DataSet, IsSoundFile, file_in, file_of, no_rows, with_file, with_path, merged}
use Rattle.cov_data.proofs.Soundness.{insert-sound, merged-sound, with_file-none}
use Rattle.cov_data.proofs.dataset.Data.with_file.Goals as goal

pub invariant_of-self : goal.invariant_of-self
invariant_of-self c =
    let arcs = c.self.inside.arcs in
    let m = c.self.inside.files in
    let p = c.args.path.now in
    let file = c.in-Some.file.now in
    let same : c.other.inside.arcs ≡ arcs = ap (λ (d : DataSet). d.arcs) c.other.view_is ∙ sym c.requires ∙ sym (ap (λ (d : DataSet). d.arcs) c.self.view_is) in
    let found : file_in c.other.inside.files c.args.from.now ≡ file = ap (λ o. unwrap_or o no_rows) (sym c.get.ensures ∙ ap option_copied c.in-Some.is) in
    let sound : IsSoundFile arcs file = subst (λ b. IsSoundFile b file) same (subst (IsSoundFile c.other.inside.arcs) found (c.other.invariant c.args.from.now)) in
    subst (λ (x : Files). (q : Text) → IsSoundFile arcs (file_in x q)) (sym c.in_ok-add_file-in-Some.ensures.ok)
    (insert-sound arcs m c.self.invariant p (merged (file_in m p) file) (merged-sound arcs (file_in m p) file (c.self.invariant p) sound))

pub invariant_of-self-in-None : goal.invariant_of-self-in-None
invariant_of-self-in-None c =
    let arcs = c.self-in-None.inside.arcs in
    let m = c.self-in-None.inside.files in
    let p = c.args.path.now in
    subst (λ (x : Files). (q : Text) → IsSoundFile arcs (file_in x q)) (sym c.in_ok-add_path-in-None.ensures.ok) (insert-sound arcs m c.self-in-None.invariant p (file_in m p) (c.self-in-None.invariant p))

pub returns-in_ok-add_path-in-None : goal.returns-in_ok-add_path-in-None
returns-in_ok-add_path-in-None c =
    let absent : file_of c.args.other.now c.args.from.now ≡ no_rows = ap (λ d. file_of d c.args.from.now) (sym c.other.view_is) ∙ ap (λ o. unwrap_or o no_rows) (sym c.get.ensures ∙ ap option_copied c.in-None.is) in
    (λ i. record { arcs = c.self-in-None.inside.arcs; files = c.in_ok-add_path-in-None.ensures.ok i })
    ∙ ap (λ d. with_path d c.args.path.now) c.self-in-None.view_is
    ∙ sym (with_file-none c.args.self c.args.path.now) ∙ ap (with_file c.args.self c.args.path.now) (sym absent)
