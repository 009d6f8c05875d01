use Rattle.std.proofs.{Common.arith, lemmas.{Cmp.{nat_list_cmp_total, tied_itself}, Grind.common_steps, Slice.Eq.slice_eq-Decides}}
use Rattle.decimal_unsigned.proofs.decimal.compare.compare_slices.Goals as goal

pub returns-then-eq : goal.returns-then-eq
returns-then-eq c = grind (arith, slice_eq-Decides, tied_itself, nat_list_cmp_total, common_steps)
