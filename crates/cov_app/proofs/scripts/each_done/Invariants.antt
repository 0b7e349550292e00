use Rattle.std.proofs.Common.{ℕ, List, Bor, drop}
use Rattle.cov_measure.specs.Measures.{streams}
use Rattle.cov_programs.proofs.Each.{IsDone}
use Rattle.cov_step.specs.Calls.{IsNoMemory}
use Rattle.cov_step.specs.Scripts.{line_step}
use Rattle.cov_app.specs.Objects.{all_of, on_command, saying}
use Rattle.cov_app.proofs.scripts.each_done.Given as goal

abbrev pub invariant-loop-line : goal.invariant-loop-line
invariant-loop-line g l = (ys : List (Unit {0})) × IsDone (on_command g.H.Shelf g.V.Vault g.M.Maker g.I.Source g.O.Sink g.P.Plugin g.G.Engine g.E.Sink) IsNoMemory (λ (line : Bor (List ℕ)). line_step line.now) l.fn.lines (drop l.line-index l.fn.lines) ys (all_of l.fn.shelf l.fn.vault l.fn.maker (streams l.fn.input l.fn.out l.fn.plugins.items l.fn.engine), saying l.fn.err l.fn.told) (all_of l.shelf l.vault l.maker (streams l.input l.out l.plugins.items l.engine), saying l.err l.told)
