use Rattle.std.proofs.Common.{[], map, if◌then◌else◌, refl, sym, ap, ap₂, subst, ◌∙◌}
use Rattle.std.specs.Prelude.{length}
use Rattle.std.specs.List.{count_by}
use Rattle.cov_exclude.specs.Touched.{IsRising}
use Rattle.cov_analysis.specs.Lines.{is_among, without}
use Rattle.cov_analysis.specs.Branches.{branches_of, missing_branches_of}
use Rattle.cov_analysis.specs.Hits.{line_hits, branch_hits}
use Rattle.cov_analysis.specs.Lookups.{count_in, is_counted, branch_count_in}
use Rattle.cov_analysis.specs.Views.{source_view, taken_view}
use Rattle.cov_analysis.proofs.Telling.{whole}
use Rattle.cov_analysis.proofs.analysing.analysis.Goals as goal

pub without-requires : goal.without-requires
without-requires c = subst IsRising (sym c.deref-2.ensures.value) c.requires.excluded

pub without-requires-2 : goal.without-requires-2
without-requires-2 c = subst IsRising (sym c.deref-4.ensures.value) c.requires.executed

pub branches_if-requires : goal.branches_if-requires
branches_if-requires c = subst IsRising (sym c.deref-5.ensures.value) c.requires.excluded

pub missing_branches-requires : goal.missing_branches-requires
missing_branches-requires c = subst IsRising (sym c.deref-7.ensures.value) c.requires.no_branch

pub hits-requires : goal.hits-requires
hits-requires c = subst IsRising (sym c.deref-9.ensures.value) c.requires.executed

pub branch_hits-requires : goal.branch_hits-requires
branch_hits-requires c = subst IsRising (sym c.deref-11.ensures.value) c.requires.no_branch

pub counted-numbers-requires : goal.counted-numbers-requires
counted-numbers-requires c = subst IsRising (sym c.deref-17.ensures.value) c.requires.executed

pub returns : goal.returns
returns c =
    let source = c.args.source in
    let taken = c.args.taken.now in
    whole (source_view source) (taken_view taken) c.args.path.now _ _ _ _ _ _ _ _ _
    c.in_ok-path.ensures.ok
    (c.in_ok-statements.ensures ∙ ap₂ without c.deref.ensures.value c.deref-2.ensures.value)
    refl
    (c.in_ok-missing.ensures ∙ ap₂ without c.deref-3.ensures.value c.deref-4.ensures.value)
    (c.in_ok-branches.ensures ∙ ap (λ excluded. if taken.arcs then branches_of excluded source.arcs else []) c.deref-5.ensures.value)
    (c.in_ok-untaken.ensures ∙ ap₂ (λ branches free. missing_branches_of free (is_counted taken.branches) branches) c.deref-6.ensures.value c.deref-7.ensures.value)
    (c.in_ok-hits.ensures ∙ ap₂ (λ lines executed. map (line_hits executed (count_in taken.lines)) lines) c.deref-8.ensures.value c.deref-9.ensures.value)
    (c.in_ok-branch_hits.ensures
    ∙ ap₂ (λ branches free. map (branch_hits free (is_counted taken.branches) (branch_count_in taken.branches)) branches) c.deref-10.ensures.value c.deref-11.ensures.value)
    (record {
      statements_is = c.counted-numbers.ensures.statements ∙ ap length c.deref-12.ensures.value;
      missing_is = c.counted-numbers.ensures.missing ∙ ap length c.deref-13.ensures.value;
      excluded_is = c.counted-numbers.ensures.excluded ∙ ap length c.deref-14.ensures.value;
      branches_is = c.counted-numbers.ensures.branches ∙ ap length c.deref-15.ensures.value;
      untaken_is = c.counted-numbers.ensures.missing_branches ∙ ap length c.deref-16.ensures.value;
      partial_is = c.counted-numbers.ensures.partial ∙ ap₂ (λ branches executed. count_by (λ branch. is_among executed branch.0) branches) c.deref-16.ensures.value c.deref-17.ensures.value;
    })
