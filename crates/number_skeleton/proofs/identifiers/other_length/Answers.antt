use Rattle.std.proofs.Common.{◌∙◌, ℕ, ap}
use Rattle.std.specs.Prelude.{codes}
use Rattle.number_skeleton.specs.Identifiers.{longer, other_length}
use Rattle.number_skeleton.proofs.identifiers.other_length.Goals as goal

pub returns : goal.returns
unfolding other_length
returns c =
    c.longer.ensures ∙ ap (λ (n : ℕ). longer c.args.text.now n (codes "100-kilometer")) c.longest_word.ensures
