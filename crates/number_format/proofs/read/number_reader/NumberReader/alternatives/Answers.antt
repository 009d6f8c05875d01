use Rattle.std.proofs.{Common.{◌≡◌, ◌≤◌, [], ◌∷◌, ◌++◌, length, map, take, sym, ◌∙◌, ap, arith}, lemmas.List.{length-set, map-append, take_more, take_more_set}, Math.Seq.take-length}
use Rattle.number_format.specs.NumberReading.{NumberReader, form_of}
use Rattle.number_format.proofs.read.number_reader.NumberReader.alternatives.Goals as goal

pub loop-index-preserved : goal.loop-index-preserved
loop-index-preserved c =
    let xs = c.loop-index.alternatives in
    let forms = c.as_slice-forms.result.now in
    let i = c.loop-index.index in
    let a = c.alternative.result in
    let form = c.index-forms-index.result in
    let long : length xs ≡ 44 = c.loop-index.invariant.0 in
    let few : length forms ≤ 44 = omega (arith, c.self.invariant.0, ap length c.as_slice-forms.ensures.value) in (
      length-set xs i a ∙ long,
      ap (map form_of) (take_more_set xs i a (omega (arith, long, few))) ∙ map-append form_of (take i xs) (a ∷ [])
          ∙ (λ j. c.loop-index.invariant.1 j ++ (c.alternative.ensures ∙ c.index-forms-index.is) j ∷ [])
          ∙ sym (take_more forms i form (omega arith)),
    )

pub returns : goal.returns
returns c =
    let xs = c.loop-index.alternatives in
    let forms = c.as_slice-forms.result.now in
    let same : forms ≡ c.args.self.now.forms =
    c.as_slice-forms.ensures.value ∙ ap (λ (r : NumberReader). r.forms) c.self.view_is in
    let end : c.loop-index.index ≡ length forms = omega arith in
    ap (λ k. map form_of (take k xs)) (ap length (sym same) ∙ sym end) ∙ c.loop-index.invariant.1
    ∙ ap (λ k. take k forms) end ∙ take-length forms ∙ same
