use Rattle.std.proofs.{Common.{◌≡◌, ◌∷◌, [], List, String, Global, length, refl, rules, arith}, lemmas.Result.{IfErr-weaker, on_ok_weaker}}
use Rattle.cli.specs.{declared.program.{error.WordsError.TheVariants.NoText, help.Program.TheVariants.Fixdec}, Error.setup_error, Fixdec.HasError}
use Rattle.cli.proofs.lemmas.program.Programs.{text_run, text_error, range_run, range_run_error}
use Rattle.cli.proofs.fixdec.print_run.Goals as goal

no_text : (words : List (String Global)) → length words ≡ 0 → HasError words (setup_error Fixdec NoText)
no_text [] none = (refl, refl)
no_text (w ∷ ws) none = absurd (omega (arith, none))

pub returns-in_default-clause-fails_with : goal.returns-in_default-clause-fails_with
returns-in_default-clause-fails_with g c =
    rw c.setup.ensures (no_text c.args.words.now c.in_default.ensures.cases)

pub returns-in-None-clause-printed : goal.returns-in-None-clause-printed
returns-in-None-clause-printed g c =
    on_ok_weaker c.print_text.result
    (text_run c.args.words.now c.in-Some.text.now c.in-Some.others.now (search rules) (search rules) _)
    (rw c.as_bytes.ensures.value at c.print_text.ensures.printed)

pub returns-in-None-clause-fails_with : goal.returns-in-None-clause-fails_with
returns-in-None-clause-fails_with g c =
    IfErr-weaker c.print_text.result _ _
    (text_error c.args.words.now c.in-Some.text.now c.in-Some.others.now (search rules) (search rules))
    (rw c.as_bytes.ensures.value at c.print_text.ensures.fails_with)

pub returns-in-None-clause-prefix : goal.returns-in-None-clause-prefix
returns-in-None-clause-prefix g c = λ failed.
    text_run c.args.words.now c.in-Some.text.now c.in-Some.others.now (search rules) (search rules) _
    (rw c.as_bytes.ensures.value at (c.print_text.ensures.prefix failed))

pub returns-in-Some-range_words-clause-printed : goal.returns-in-Some-range_words-clause-printed
returns-in-Some-range_words-clause-printed g c =
    on_ok_weaker c.print_range.result
    (range_run c.args.words.now c.in-Some.text.now c.in-Some.others.now (search rules) c.in-Some-range_words.range
    (search rules) _) (rw c.as_bytes-in-Some-range_words.ensures.value at c.print_range.ensures.printed)

pub returns-in-Some-range_words-clause-fails_with : goal.returns-in-Some-range_words-clause-fails_with
returns-in-Some-range_words-clause-fails_with g c =
    IfErr-weaker c.print_range.result _ _
    (range_run_error c.args.words.now c.in-Some.text.now c.in-Some.others.now (search rules)
    c.in-Some-range_words.range (search rules))
    (rw c.as_bytes-in-Some-range_words.ensures.value at c.print_range.ensures.fails_with)

pub returns-in-Some-range_words-clause-prefix : goal.returns-in-Some-range_words-clause-prefix
returns-in-Some-range_words-clause-prefix g c = λ failed.
    range_run c.args.words.now c.in-Some.text.now c.in-Some.others.now (search rules) c.in-Some-range_words.range
    (search rules) _ (rw c.as_bytes-in-Some-range_words.ensures.value at (c.print_range.ensures.prefix failed))
