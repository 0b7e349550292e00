-- From the ways out in memory to ways out.
use Rattle.py_compile_expr.specs.CellView.{plain_guard}
use Rattle.py_compile_body.specs.declared.ways.Route.{Route as RouteNode}
use Rattle.py_compile_body.specs.declared.ways.Route.TheVariants as route_
use Rattle.py_compile_body.specs.declared.ways.Ways.{Ways as WaysNode}
use Rattle.py_compile.specs.Ways.{Route, out, straight, through, Ways}

-- where one way out leads
abbrev pub plain_route : RouteNode → Route
plain_route route_.Out = out
plain_route (route_.Straight drops to) = straight drops to
plain_route (route_.Through drops to) = through drops to

-- all the ways out of a suite
abbrev pub plain_ways : WaysNode → Ways
plain_ways w = record {
  on_break = plain_route w.on_break;
  on_continue = plain_route w.on_continue;
  on_return = plain_route w.on_return;
  guard = plain_guard w.guard;
  depth = w.depth;
  handled = w.handled;
}
