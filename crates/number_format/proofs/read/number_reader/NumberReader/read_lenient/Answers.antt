use Rattle.std.proofs.Common.{◌≡◌, rules, length, map, take, ◌∙◌, ap}
use Rattle.number_format.specs.NumberReading.{NumberReader, form_of}
use Rattle.number_format.proofs.read.number_reader.NumberReader.read_lenient.Goals as goal

pub returns : goal.returns
returns g c =
    let all = c.alternatives-alternatives.result in
    let long : c.len-count.result ≡ length c.self.inside.forms.items = search rules in
    let count : c.len-count.result ≡ length c.args.self.now.forms =
    long ∙ ap (λ (r : NumberReader). length r.forms) c.self.view_is in (
      take c.len-count.result all,
      ap (λ n. map form_of (take n all)) count ∙ c.alternatives-alternatives.ensures,
      c.read_typed.ensures,
    )
