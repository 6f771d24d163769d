-- `put_stop_line` meets its contract: stop=, the number, a blank, the name and the line feed, one after the other.
-- Assumes nothing.
use native.Mathlib.Omega.{arith}
use Rattle.trace.proofs.StopLine.{number_room, blank_below, name_start, name_room, feed_below, line_put}
use Rattle.trace.proofs.inner.put_stop_line.Goals as goal

pub put_number-b-requires : goal.put_number-b-requires
put_number-b-requires c =
    number_room c.args.n c.args.out.now c.requires c.put-a.ensures

pub bounds-out-c : goal.bounds-out-c
bounds-out-c c =
    blank_below c.args.n c.args.out.now c.requires c.put-a.ensures c.put_number-b.ensures

pub slice_bounds-put_name-count : goal.slice_bounds-put_name-count
slice_bounds-put_name-count c =
    let k = name_start c.args.n c.args.out.now c.requires c.put-a.ensures c.put_number-b.ensures in omega arith

pub slice_bounds-put_name-start : goal.slice_bounds-put_name-start
slice_bounds-put_name-start c =
    name_start c.args.n c.args.out.now c.requires c.put-a.ensures c.put_number-b.ensures

pub put_name-e-requires : goal.put_name-e-requires
put_name-e-requires c =
    name_room c.args.n c.args.out.now c.requires c.put-a.ensures c.put_number-b.ensures

pub bounds-out-f : goal.bounds-out-f
bounds-out-f c =
    feed_below c.args.n c.args.out.now c.requires c.put-a.ensures c.put_number-b.ensures c.put_name-e.ensures

pub returns : goal.returns
returns c =
    line_put c.args.n c.args.out.now c.requires c.put-a.ensures c.put_number-b.ensures c.put_name-e.ensures
