-- The heaviest load is read, the loads lose the job, and the path is looked for on the board without it.
use mathlib.Core.Path.{◌∙◌}
use mathlib.Core.List.{[]}
use Rattle.spec_table.specs.Board.{put}
use Rattle.spec_table.specs.Table.{decode}
use Rattle.sharing_closing.proofs.Closing.{closing_bench, closing_without, closing_some, closing_loads, closing_loads_in, closing_top, closing_found}
use Rattle.sharing_closing.proofs.find_closing.Goals as goal

pub overflow_sub-loads : goal.overflow_sub-loads
overflow_sub-loads c = closing_some c.requires.in_order.sound c.requires.t c.holder-x.ensures c.requires.loaded

pub find_to-requires : goal.find_to-requires
find_to-requires c =
    let z = c.requires.in_order.sound in
    let p = c.requires.t in
    let e = c.holder-x.ensures in
    let l = c.requires.loaded in
    record {
      in_order = c.requires.in_order;
      bench_in = closing_bench z p e;
      loads_in = closing_loads_in z p e l;
      loads_bound = closing_top z p e l (c.from-top.ensures ∙ c.greatest.ensures);
      without_job = (put (decode c.args.t.now) c.args.j [] 0, closing_without z p e, closing_loads z p e l);
    }

pub returns : goal.returns
returns c =
    closing_found c.requires.in_order.sound c.requires.t c.holder-x.ensures c.requires.loaded c.find_to.ensures
