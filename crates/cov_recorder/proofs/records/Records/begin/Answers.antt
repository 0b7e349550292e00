use Rattle.std.proofs.Common.{length, List, ap, ◌∙◌, subst, refl}
use Rattle.std.specs.Global.{Vec}
use Rattle.std.specs.List.{fold}
use Rattle.cov_event.specs.declared.event.Event.TheVariants.{Call}
use Rattle.cov_data.specs.DataSet.{with_path}
use Rattle.py_syntax.specs.Prediction.{Arc}
use Rattle.cov_recorder.specs.declared.names.UnitName.{UnitName}
use Rattle.cov_recorder.specs.Names.{names_of}
use Rattle.cov_recorder.specs.Plan.{set_at, unit_at}
use Rattle.cov_recorder.specs.Recording.{next, begun, utf8_of}
use Rattle.cov_recorder.specs.Counters.{MakesRow}
use Rattle.cov_recorder.specs.Frames.{HasSeat}
use Rattle.cov_recorder.proofs.Moving.{on_err_always, refused_recorded, refused_view, unchanged_recorded, unchanged_view, begin_recorded, begin_view, popped}
use Rattle.cov_recorder.proofs.records.Records.begin.Goals as goal

pub invariant_of-self : goal.invariant_of-self
invariant_of-self c =
    let a = c.self.inside in
    let made = subst (λ (sets : List (List Arc)). MakesRow a.rows c.args.code.module (utf8_of c.args.label) (length (set_at sets c.args.code.module)) c.seat_of.new.rows) c.deref-2.ensures.value c.seat_of.ensures.row in
    refused_recorded a c.args.code c.args.label c.seat_of.new.rows c.self.invariant made

pub returns-in_err-seat-clause-err : goal.returns-in_err-seat-clause-err
returns-in_err-seat-clause-err c =
    let a = c.self.inside in
    let made = subst (λ (sets : List (List Arc)). MakesRow a.rows c.args.code.module (utf8_of c.args.label) (length (set_at sets c.args.code.module)) c.seat_of.new.rows) c.deref-2.ensures.value c.seat_of.ensures.row in
    on_err_always c.from_residual.result (refused_view a c.args.code c.args.label c.seat_of.new.rows c.self.invariant made ∙ c.self.view_is)

pub invariant_of-self-in_err-push : goal.invariant_of-self-in_err-push
invariant_of-self-in_err-push c =
    let a = c.self.inside in
    let made = subst (λ (sets : List (List Arc)). MakesRow a.rows c.args.code.module (utf8_of c.args.label) (length (set_at sets c.args.code.module)) c.seat_of.new.rows) c.deref-2.ensures.value c.seat_of.ensures.row in
    unchanged_recorded a c.args.code c.args.label c.seat_of.new.rows c.self.invariant made c.push.new.self a.data c.in_err-push.ensures.err refl

pub returns-in_err-push-clause-err : goal.returns-in_err-push-clause-err
returns-in_err-push-clause-err c =
    let a = c.self.inside in
    let made = subst (λ (sets : List (List Arc)). MakesRow a.rows c.args.code.module (utf8_of c.args.label) (length (set_at sets c.args.code.module)) c.seat_of.new.rows) c.deref-2.ensures.value c.seat_of.ensures.row in
    on_err_always c.from_residual-in_err-push.result (unchanged_view a c.args.code c.args.label c.seat_of.new.rows c.self.invariant made c.push.new.self a.data c.in_err-push.ensures.err refl ∙ c.self.view_is)

pub invariant_of-self-in-Err : goal.invariant_of-self-in-Err
invariant_of-self-in-Err c =
    let a = c.self.inside in
    let made = subst (λ (sets : List (List Arc)). MakesRow a.rows c.args.code.module (utf8_of c.args.label) (length (set_at sets c.args.code.module)) c.seat_of.new.rows) c.deref-2.ensures.value c.seat_of.ensures.row in
    let left = popped c.pop.result c.push.new.self c.pop.new.self c.pop.ensures (record { code = c.args.code; line = 0; label = c.args.label; seat = c.in_ok-seat.seat }) a.frames c.in_ok-push.ensures.ok in
    unchanged_recorded a c.args.code c.args.label c.seat_of.new.rows c.self.invariant made c.pop.new.self c.tell_path.new.data left c.in-Err.ensures.err

pub returns-in-Err-clause-err : goal.returns-in-Err-clause-err
returns-in-Err-clause-err c =
    let a = c.self.inside in
    let made = subst (λ (sets : List (List Arc)). MakesRow a.rows c.args.code.module (utf8_of c.args.label) (length (set_at sets c.args.code.module)) c.seat_of.new.rows) c.deref-2.ensures.value c.seat_of.ensures.row in
    let left = popped c.pop.result c.push.new.self c.pop.new.self c.pop.ensures (record { code = c.args.code; line = 0; label = c.args.label; seat = c.in_ok-seat.seat }) a.frames c.in_ok-push.ensures.ok in
    unchanged_view a c.args.code c.args.label c.seat_of.new.rows c.self.invariant made c.pop.new.self c.tell_path.new.data left c.in-Err.ensures.err ∙ c.self.view_is

pub invariant_of-self-in_default : goal.invariant_of-self-in_default
invariant_of-self-in_default c =
    let a = c.self.inside in
    let made = subst (λ (sets : List (List Arc)). MakesRow a.rows c.args.code.module (utf8_of c.args.label) (length (set_at sets c.args.code.module)) c.seat_of.new.rows) c.deref-2.ensures.value c.seat_of.ensures.row in
    let has = subst (λ (units : List (Vec UnitName)). HasSeat (names_of units) c.seat_of.new.rows c.args.code c.args.label c.in_ok-seat.seat) c.deref.ensures.value c.in_ok-seat.ensures.seat in
    let told = c.in_default.ensures.ok ∙ ap (λ (units : List (Vec UnitName)). fold with_path a.data (begun c.args.code.unit (unit_at (names_of units) c.args.code))) c.deref-3.ensures.value in
    begin_recorded a c.args.code c.args.label c.seat_of.new.rows c.self.invariant made c.in_ok-seat.seat has c.push.new.self c.tell_path.new.data c.in_ok-push.ensures.ok told

pub returns-clause-ok : goal.returns-clause-ok
returns-clause-ok c =
    let a = c.self.inside in
    let made = subst (λ (sets : List (List Arc)). MakesRow a.rows c.args.code.module (utf8_of c.args.label) (length (set_at sets c.args.code.module)) c.seat_of.new.rows) c.deref-2.ensures.value c.seat_of.ensures.row in
    let has = subst (λ (units : List (Vec UnitName)). HasSeat (names_of units) c.seat_of.new.rows c.args.code c.args.label c.in_ok-seat.seat) c.deref.ensures.value c.in_ok-seat.ensures.seat in
    let told = c.in_default.ensures.ok ∙ ap (λ (units : List (Vec UnitName)). fold with_path a.data (begun c.args.code.unit (unit_at (names_of units) c.args.code))) c.deref-3.ensures.value in
    begin_view a c.args.code c.args.label c.seat_of.new.rows c.self.invariant made c.in_ok-seat.seat has c.push.new.self c.tell_path.new.data c.in_ok-push.ensures.ok told
    ∙ ap (λ r. next c.args.label r (Call c.args.code)) c.self.view_is
