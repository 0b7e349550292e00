-- A line that an arc of a run leaves is one that an arc of it came to.
use Rattle.std.proofs.Common.{◌≡◌, ℕ, zero, suc, ◌<◌, ℤ, pos, List, [], Contains, Option, Some, None, arith}
use Rattle.py_meaning.specs.Activations.{Items}
use Rattle.py_meaning.specs.Crossings.{crossings, lines_crossed}
use Rattle.py_meaning.specs.Events.{events_in}
use Rattle.py_meaning.specs.Modules.{LoadedModule}
use Rattle.py_syntax.specs.Tree.{Text}
use Rattle.cov_arcs.specs.Laws.{firsts_of, ArcsAgree, ModulesArcsLaw, CallArcsLaw}
use Rattle.cov_arcs.specs.Told.{arcs_told}
use Rattle.cov_recorder_laws.proofs.Law.{in_order}
use Rattle.cov_measure_laws.proofs.RunLines.{comes}
use Rattle.cov_headline.specs.Origins.{PlainRun, meant, items_in, items_of}
use Rattle.cov_headline.proofs.Recorded.{CameLaw}

came-in : (ms : List LoadedModule) (items : Items) → ArcsAgree ms items → (m line : ℕ) → 0 < line → (a : ℤ × ℤ) → Contains (lines_crossed (crossings ms m items)) a → a.0 ≡ pos line
    → (from : ℤ) × Contains (lines_crossed (crossings ms m items)) (from, pos line)
came-in ms items agree m zero some a at e = absurd (omega (arith, some))
came-in ms items agree m (suc l) some a at e =
    let s = in_order (arcs_told (firsts_of ms) m [] (events_in items)) (lines_crossed (crossings ms m items)) (agree.told m) in
    let c = comes (firsts_of ms) m l (events_in items) a ((s a).1 at) e in
    (c.0, (s (c.0, pos (suc l))).0 c.1)

-- what happened in a run, or in a test after it
agrees : ModulesArcsLaw → CallArcsLaw → (r : PlainRun) (test : Option Text) → ArcsAgree r.modules (items_in r test)
agrees modules calls r None = modules r.modules r.words r.input r.budget
agrees modules calls r (Some name) = calls r.modules (meant r).world [] (record { number = 0; name = name; values = [] }) r.budget

pub came : ModulesArcsLaw → CallArcsLaw → CameLaw
came modules calls r m line some a at e = came-in r.modules (items_of r) (agrees modules calls r r.test) m line some a at e
