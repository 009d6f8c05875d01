use Rattle.locale_names.specs.Texts.{short_bytes}
use Rattle.locale_names.proofs.texts.short_bytes.Goals as goal

pub returns : goal.returns
unfolding short_bytes
returns c = c.bytes_in.ensures.value
