use Rattle.std.proofs.{Common.{◌≡◌, ℕ, ◌+◌, ◌<◌, List, [], ◌∷◌, ◌++◌, length, take, get_or, Option, sym, ap, ◌∙◌, add-one, append_assoc}, KnownBytes.Appends-trans, Math.Seq.take-suc, lemmas.List.append-nil}
use Rattle.std.specs.Io.KnownBytes.{Appends}
use Rattle.locale_data.specs.declared.tables.rows.symbols.LocaleSymbols.{LocaleSymbols}
use Rattle.cli.specs.LocaleList.{tag_line, tag_lines}
use Rattle.cli.proofs.program.locale_list.print_tags.Goals as goal

-- one more locale has one more line
lines_more :
    (locales : List LocaleSymbols) (locale : LocaleSymbols)
    → tag_lines (locales ++ (locale ∷ [])) ≡ tag_lines locales ++ tag_line locale
lines_more [] locale = append-nil (tag_line locale)
lines_more (first ∷ locales) locale =
    ap (λ lines. tag_line first ++ lines) (lines_more locales locale)
    ∙ sym (append_assoc (tag_line first) (tag_lines locales) (tag_line locale))

-- the line of the next locale is written
next_line :
    (locales : List LocaleSymbols) (i : ℕ) (d : LocaleSymbols) (old mid new : Option (List ℕ)) → i < length locales
    → Appends old mid (tag_lines (take i locales)) → Appends mid new (tag_line (get_or locales i d))
    → Appends old new (tag_lines (take (i + 1) locales))
next_line locales i d old mid new l before line =
    let more : tag_lines (take (i + 1) locales) ≡ tag_lines (take i locales) ++ tag_line (get_or locales i d) =
    rw add-one (ap tag_lines (take-suc locales i d l) ∙ lines_more (take i locales) (get_or locales i d)) in
    rw more
    (Appends-trans old mid new (tag_lines (take i locales)) (tag_line (get_or locales i d)) before line)

pub loop-locale-preserved : goal.loop-locale-preserved
loop-locale-preserved g c =
    let contents = g.W.Write.contents in
    next_line c.args.locales.now c.loop-locale.locale-index _ (contents c.args.out.now) (contents c.loop-locale.out)
    (contents c.print_tag.new.out) c.loop-locale-test.true c.loop-locale.invariant c.in_ok-print_tag.ensures
