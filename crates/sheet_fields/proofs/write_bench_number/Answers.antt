-- Three stores are the text: the number's columns.
use Prim.Native.Nat.{◌+◌, ◌/◌, ◌%◌}
use Rattle.sheet_fields.specs.Page.{digit_of}
use Rattle.sheet_fields.proofs.Page.{text_three}
use Rattle.sheet_fields.proofs.Columns.{field_3}
use Rattle.sheet_fields.proofs.write_bench_number.Goals as goal

pub returns : goal.returns
returns c =
    rw (c.last_digit.ensures, c.last_digit-2.ensures, field_3 c.args.x c.requires.x_bound)
    (text_three c.args.page.now c.args.at (digit_of (c.args.x / 10 / 10)) (digit_of (c.args.x / 10)) (48 + c.args.x % 10) c.requires.at_in_bounds)
