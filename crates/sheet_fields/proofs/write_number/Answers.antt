-- Five stores are the text: the number's columns.
use Prim.Native.Nat.{◌+◌, ◌/◌, ◌%◌}
use Rattle.sheet_fields.specs.Page.{digit_of}
use Rattle.sheet_fields.proofs.Page.{text_five}
use Rattle.sheet_fields.proofs.Columns.{field_5}
use Rattle.sheet_fields.proofs.write_number.Goals as goal

pub returns : goal.returns
returns c =
    rw (c.last_digit.ensures, c.last_digit-2.ensures, c.last_digit-3.ensures, field_5 c.args.n c.requires.n_bound)
    (text_five c.args.page.now c.args.at 32 (digit_of (c.args.n / 10 / 10 / 10)) (digit_of (c.args.n / 10 / 10)) (digit_of (c.args.n / 10)) (48 + c.args.n % 10) c.requires.at_in_bounds)
