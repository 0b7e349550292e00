use Rattle.std.proofs.Common.{ap, sym, subst, ◌<◌, ◌∙◌}
use Rattle.py_syntax.specs.View.{plain_module}
use Rattle.cov_made.proofs.Modules.{first-tree, some-tree}
use Rattle.cov_made.proofs.sources.MadeSource.module.Goals as goal

pub index-requires : goal.index-requires
index-requires c =
    subst (λ n. 0 < n) (sym c.args.self.now.loaded.modules.ok.0)
    (some-tree c.args.self.now.loaded.programs.modules.items _ _ c.requires)

pub returns : goal.returns
returns c =
    ap plain_module c.index.ensures
    ∙ first-tree c.args.self.now.loaded.programs.modules.items _ _ c.index.result.now c.requires
