use Rattle.std.proofs.Common.{arith, ap}
use Rattle.py_code.specs.Loaded.{modules_of}
use Rattle.cov_mutate.specs.Code.{Tried}
use Rattle.cov_mutate.proofs.Sources.{put-back-so, length-so}
use Rattle.cov_mutate.proofs.trial.Trial.passes.Goals as goal

pub all_pass-requires-clause-some : goal.all_pass-requires-clause-some
all_pass-requires-clause-some c =
    omega (arith, c.requires.there, length-so (modules_of c.args.self.now.programs) (modules_of c.swap_code-own.new.programs) c.args.m c.args.code c.swap_code-own.ensures.has)

pub all_pass-requires-clause-few : goal.all_pass-requires-clause-few
all_pass-requires-clause-few c =
    omega (arith, c.requires.few, length-so (modules_of c.args.self.now.programs) (modules_of c.swap_code-own.new.programs) c.args.m c.args.code c.swap_code-own.ensures.has)

pub swap_code-tried-requires : goal.swap_code-tried-requires
swap_code-tried-requires c =
    omega (arith, c.requires.there, length-so (modules_of c.args.self.now.programs) (modules_of c.swap_code-own.new.programs) c.args.m c.args.code c.swap_code-own.ensures.has)

pub returns-clause-kept : goal.returns-clause-kept
returns-clause-kept c =
    ap (λ cs. let t : Tried = record { code = cs; names = c.args.self.now.names.items; budget = c.args.self.now.budget } in t)
    (put-back-so (modules_of c.args.self.now.programs) (modules_of c.swap_code-own.new.programs) (modules_of c.swap_code-tried.new.programs) c.args.m c.args.code _ c.swap_code-own.ensures.has c.swap_code-tried.ensures.has c.swap_code-own.ensures.had)
