use Rattle.std.proofs.Common.{inl, inr}
use Rattle.plural_rules.proofs.rules.category.operand_up_to.Goals as goal

pub returns-in-N : goal.returns-in-N
returns-in-N g c = elim c.in-N.is [ inl is ↦ rw is c.i_up_to.ensures | inr is ↦ rw is c.i_up_to.ensures ]

pub returns-in-V : goal.returns-in-V
returns-in-V g c = rw c.in-V.is c.v.ensures.value

pub returns-in-W : goal.returns-in-W
returns-in-W g c = rw c.in-W.is c.w.ensures.value

pub returns-in-F : goal.returns-in-F
returns-in-F g c = rw c.in-F.is c.f_up_to.ensures

pub returns-in-T : goal.returns-in-T
returns-in-T g c = rw c.in-T.is c.t_up_to.ensures

pub returns-in-C : goal.returns-in-C
returns-in-C g c = rw c.in-C.is c.c.ensures
