use Rattle.std.proofs.Common.{sym, ◌∙◌, ap}
use Rattle.number_format.specs.CompactReading.{has_number_at, word_pattern}
use Rattle.number_format.proofs.lemmas.read.CompactPatterns.{pattern_again, pattern_more, pattern_other}
use Rattle.number_format.proofs.format.formatter.NumberFormatter.push_word.Goals as goal

pub returns-then-repeats_in_row : goal.returns-then-repeats_in_row
returns-then-repeats_in_row c =
    pattern_again c.args.self.now c.args.style c.args.has_number c.args.index c.args.patterns.now.items
    c.requires.before (c.repeats_in_row.ensures c.if-repeats_in_row.true)

pub returns-then-not-is_of_kind : goal.returns-then-not-is_of_kind
returns-then-not-is_of_kind c =
    let f = c.args.self.now in
    let style = c.args.style in
    pattern_other f style c.args.has_number c.args.index c.args.patterns.now.items c.requires.before
    (λ e. let t = c.is_of_kind.ensures.1 (ap (has_number_at f style) c.key_at.ensures ∙ e) in
    absurd (cc (t, c.if-not-is_of_kind.true)))

pub returns : goal.returns
returns c =
    let f = c.args.self.now in
    let style = c.args.style in
    rw c.in_ok-push.ensures.items
    (pattern_more f style c.args.has_number c.args.index c.args.patterns.now.items _ c.requires.before
    (sym (ap (has_number_at f style) c.key_at.ensures) ∙ c.is_of_kind.ensures.0 c.if-not-is_of_kind.false)
    (c.in_ok-word_pattern.ensures ∙ ap (word_pattern f style) c.key_at-2.ensures))
