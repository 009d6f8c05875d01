use Rattle.fixed_decimal_c.proofs.lemmas.parts.PartLists.{no_failure}
use Rattle.fixed_decimal_c.proofs.parts.PartList.take_segment.Goals as goal

pub returns : goal.returns
returns c = no_failure c.parts.result c.parts.ensures.pieces c.parts.ensures.failed
