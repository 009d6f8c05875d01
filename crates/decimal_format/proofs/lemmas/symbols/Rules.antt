-- Lists of lemmas for tactics.
use Rattle.std.proofs.{Common.arith, lemmas.{Bool.Decides.nat_tests, Grind.common_steps, Int.{ints, clamps}}}

-- arithmetic of naturals and integers, tests, and lists
pub ruleset steps = (arith, ints, clamps, nat_tests, common_steps)
