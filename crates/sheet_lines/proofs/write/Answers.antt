use native.Mathlib.Omega.{arith}
use Rattle.sheet_lines.proofs.AllLines.{benches_few, load_few, sheet_start, bench_room, bench_turn, sheet_end}
use Rattle.sheet_lines.proofs.write.Goals as goal

pub loop-x-init : goal.loop-x-init
loop-x-init c = λ b z. sheet_start b c.args.page.now

pub write_bench-at-requires : goal.write_bench-at-requires
write_bench-at-requires c =
    let left = c.loop-x.invariant c.requires.0 c.requires.1 in
    record { x_bound = omega (arith, benches_few c.requires.1.board); load_bound = omega (arith, c.from.ensures, load_few c.requires.1.board c.loop-x.x (omega arith) (omega arith)); page_room = rw c.from-in-loop-x.ensures (bench_room c.requires.1 c.loop-x.x (omega arith) (omega arith) left (omega (arith, c.requires.2))) }

pub loop-x-preserved : goal.loop-x-preserved
loop-x-preserved c =
    let own = c.loop-x.invariant c.requires.0 c.requires.1 in
    let written = rw (c.from.ensures, c.from-in-loop-x.ensures) at c.write_bench-at.ensures in
    λ b z. bench_turn z c.loop-x.x (omega arith) (omega arith) (c.loop-x.invariant b z) (omega (arith, own.ends, c.requires.2)) written

pub returns : goal.returns
returns c = sheet_end (omega arith) c.loop-x.invariant
