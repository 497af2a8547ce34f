-- The limits of a table, in the words of 01.
use mathlib.Core.Path.{◌≡◌, refl}
use mathlib.Core.Bool.{true, false}
use Rattle.spec_table.specs.Table.{length_for, sizes_fit}

-- "Benches are numbered 1 to 500, jobs 1 to 4,000"
pub greatest_fits : sizes_fit (length_for 500 4000) 500 4000 ≡ true
unfolding sizes_fit
greatest_fits = refl

pub no_more_benches : sizes_fit (length_for 501 4000) 501 4000 ≡ false
unfolding sizes_fit
no_more_benches = refl

pub no_more_jobs : sizes_fit (length_for 500 4001) 500 4001 ≡ false
unfolding sizes_fit
no_more_jobs = refl
