use mir.Syntax.{w8}
use mir.Val.{Fits}
use Rattle.std.proofs.{Common.{◌≡◌, ℕ, ◌+◌, ◌<◌, Bool, true, false, not, List, set, take, refl, length, get_or, ap, subst, sym, ◌∙◌, arith}, lemmas.Bool.Decides.nat_tests}
use Rattle.std.specs.Prelude.{IfSome}
use Rattle.locale_data.specs.{Rows.{row_at, IsRowOf}, SortedRows.{IsPadded, ends_at}, Tag.{tag_byte, compared}}
use Rattle.locale_data.proofs.lemmas.search.{PrefixKeys.padded_more, LongestRow.{IsLongestBelow, passed_below, none_beyond_tag, longest}, Searches.{more_found, inside-or}}
use Rattle.locale_data.proofs.search.row_index.Goals as goal

are_bytes_of : (tag : List ℕ) → ((i : ℕ) → Fits w8 (get_or tag i 0)) → (i : ℕ) → get_or tag i 0 < 256
are_bytes_of tag fit i = let h = fit i in omega arith

padded_next : (tag : List ℕ) → ((i : ℕ) → get_or tag i 0 < 256) → (padded : List ℕ) (end : ℕ) → end < length tag
    → IsPadded padded (compared (take end tag)) → (more : List ℕ) (byte : ℕ) → more ≡ set padded end byte
    → byte ≡ tag_byte (get_or tag end 0) → IsPadded more (compared (take (end + 1) tag))
padded_next tag bytes padded end inside is more byte e f =
    subst (λ p. IsPadded p (compared (take (end + 1) tag))) (sym (e ∙ ap (set padded end) f))
    (padded_more tag bytes padded end inside is)

is_false : (b : Bool) → not b ≡ true → b ≡ false
is_false true h = absurd (cc)
is_false false h = refl

pub loop-end-preserved-then-byte-ne45 : goal.loop-end-preserved-then-byte-ne45
loop-end-preserved-then-byte-ne45 g c =
    let none : ends_at c.args.tag.now c.loop-end.end ≡ false =
    grind (arith, nat_tests, c.tag_byte-byte.ensures, c.if-byte-ne45.true) in
    record {
      longest = passed_below g.R.Row.name c.args.rows.now c.args.tag.now c.loop-end.end (omega arith) _ none
          c.loop-end.invariant.longest;
      padded = padded_next c.args.tag.now (are_bytes_of c.args.tag.now c.type_inv.tag) c.loop-end.padded c.loop-end.end
          c.loop-end-test.true c.loop-end.invariant.padded c.set_byte.new.padded c.tag_byte-byte.result
          c.set_byte.ensures c.tag_byte-byte.ensures;
      inside = c.loop-end.invariant.inside;
    }

pub loop-end-preserved : goal.loop-end-preserved
loop-end-preserved g c =
    let ends : ends_at c.args.tag.now c.loop-end.end ≡ true =
    grind (arith, nat_tests, c.tag_byte-byte.ensures, c.if-byte-ne45.false) in
    let rows = c.args.rows.now in
    let more = more_found g.R.Row.name rows c.args.tag.now c.loop-end.end c.search-part.result.row c.loop-end.found
    (omega arith) ends c.search-part.ensures.row c.search-part.ensures.inside c.loop-end.invariant.longest in
    let inside = inside-or c.search-part.result.row c.loop-end.found (length rows) c.search-part.ensures.inside
    c.loop-end.invariant.inside in
    record {
      longest = subst (λ o. IsLongestBelow g.R.Row.name rows c.args.tag.now (c.loop-end.end + 1) (row_at rows o))
          (sym c.or-found.ensures) more;
      padded = padded_next c.args.tag.now (are_bytes_of c.args.tag.now c.type_inv.tag) c.loop-end.padded c.loop-end.end
          c.loop-end-test.true c.loop-end.invariant.padded c.set_byte-in-loop-end.new.padded c.tag_byte-byte.result
          c.set_byte-in-loop-end.ensures c.tag_byte-byte.ensures;
      inside = subst (λ o. IfSome o (λ i. i < length rows)) (sym c.or-found.ensures) inside;
    }

pub returns-then-not-part-clause-value : goal.returns-then-not-part-clause-value
returns-then-not-part-clause-value g c =
    let ends : ends_at c.args.tag.now c.loop-end.end ≡ true =
    grind (arith, nat_tests, c.tag_byte-byte.ensures, c.if-byte-ne45.false) in
    let rows = c.args.rows.now in
    let more = more_found g.R.Row.name rows c.args.tag.now c.loop-end.end c.search-part.result.row c.loop-end.found
    (omega arith) ends c.search-part.ensures.row c.search-part.ensures.inside c.loop-end.invariant.longest in
    subst (λ o. IsRowOf g.R.Row.name rows c.args.tag.now (row_at rows o)) (sym c.or-found.ensures)
    (longest g.R.Row.name rows c.args.tag.now c.loop-end.end _ more
    (c.search-part.ensures.longer (is_false _ c.if-not-part.true)))

pub returns-clause-value : goal.returns-clause-value
returns-clause-value g c =
    let rows = c.args.rows.now in
    let tag = c.args.tag.now in
    let all : c.loop-end.end ≡ length tag = omega arith in
    let ends : ends_at tag (length tag) ≡ true = grind (arith, nat_tests) in
    let below = subst (λ n. IsLongestBelow g.R.Row.name rows tag n (row_at rows c.loop-end.found)) all
    c.loop-end.invariant.longest in
    let more = more_found g.R.Row.name rows tag (length tag) c.search.result.row c.loop-end.found
    (omega arith) ends c.search.ensures.row c.search.ensures.inside below in
    subst (λ o. IsRowOf g.R.Row.name rows tag (row_at rows o)) (sym c.or.ensures)
    (longest g.R.Row.name rows tag (length tag) _ more (none_beyond_tag g.R.Row.name rows tag))
